-- Which states a machine comes to by calls of it. Own definitions.
use Rattle.std.specs.Prelude.{◌≡◌, ℕ, ◌+◌, List, [], ◌∷◌, Option, Some, None}

-- A call of a machine: one that found memory, with its connection, its record, its reply and the state after it; or one that found none.
pub data Call (K : Type 0) : Type 0 where
  Made : (conn : ℕ) (message reply : List ℕ) (after : K) → Call K
  Refused : (after : K) → Call K

abbrev pub made_in : {K : Type 0} → List (Call K) → ℕ
made_in [] = 0
made_in (Made conn message reply after ∷ calls) = 1 + made_in calls
made_in (Refused after ∷ calls) = made_in calls

module _ {K : Type 0} (calls_of : K → ℕ) (step : ℕ → List ℕ → K → List ℕ → K → Type 0) (kept : K → K → Type 0) where
  -- Each call begins in the state that the one before it left.
  abbrev pub Follows : K → List (Call K) → K → Type 0
  Follows first [] now = now ≡ first
  Follows first (Made conn message reply after ∷ calls) now = step conn message first reply after × Follows after calls now
  Follows first (Refused after ∷ calls) now = kept first after × Follows after calls now

  -- A machine comes to this state by calls from a first one on, of which those that found memory are counted.
  pub record Reaches (first now : K) : Type 0 where
    pub calls : List (Call K)
    pub follows : Follows first calls now
    pub counted : calls_of now ≡ calls_of first + made_in calls

  -- The same from the state in which a server began, where it is known.
  abbrev pub ReachedFrom : (origin : Option K) → K → Type 0
  ReachedFrom (Some first) now = Reaches first now
  ReachedFrom None now = ⊥
