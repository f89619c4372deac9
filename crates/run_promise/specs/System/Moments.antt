-- The small steps of a run at their moments: the step from each moment is one of the machines', and leads to the next moment; past the
-- last one the run rests.
use Rattle.std.specs.Prelude.{◌≡◌, ℕ, zero, suc, ◌∷◌, [], List, slice_get, Option, Some, None}
use Rattle.std.proofs.Common.{ap, refl, subst, sym}
use Rattle.wire_machine.specs.Ends.{Machines}
use Rattle.wire_machine.specs.History.{At, Telling, at_moment, next}
use Rattle.wire_machine.specs.Steps.{AreSteps, IsStep, Step}
use Rattle.wire_machine.specs.World.{World}
use Rattle.wire_model.specs.Meaning.{Meaning}
use Rattle.wire_model.specs.Spelling.{Spelling}

same_step : {X : Type 0} (a b : X) → Some a ≡ Some b → a ≡ b
same_step a b same = cc

module _ {S T C W : Type 0} (m : Machines S T C W) (tell : Telling S T) (spell : Spelling) (meaning : Meaning) where
  abbrev pub world_at : World S T C W → List (Step S T C W) → ℕ → World S T C W
  world_at first steps k = (at_moment m tell spell meaning first steps k).world

  -- the small step from moment k is this one
  pub record IsMade (first : World S T C W) (steps : List (Step S T C W)) (k : ℕ) (s : Step S T C W) : Type 0 where
    pub is : slice_get steps k ≡ Some s
    pub step : IsStep m (world_at first steps k) s
    pub after : world_at first steps (suc k) ≡ s.after

  pub next_same : (a b : At m tell spell meaning) (o : Option (Step S T C W)) → a.world ≡ b.world
      → (next m tell spell meaning a o).world ≡ (next m tell spell meaning b o).world
  next_same a b None same = same
  next_same a b (Some s) same = refl

  pub later : (first : World S T C W) (s : Step S T C W) (steps : List (Step S T C W)) (k : ℕ) → world_at first (s ∷ steps) (suc k) ≡ world_at s.after steps k
  later first s steps zero = refl
  later first s steps (suc k) =
      next_same (at_moment m tell spell meaning first (s ∷ steps) (suc k)) (at_moment m tell spell meaning s.after steps k) (slice_get steps k) (later first s steps k)

  step_at : (first : World S T C W) (steps : List (Step S T C W)) (k : ℕ) (s : Step S T C W) → AreSteps m first steps → slice_get steps k ≡ Some s
      → IsStep m (world_at first steps k) s
  step_at first [] k s are is = absurd (cc)
  step_at first (x ∷ steps) zero s are is = subst (λ (y : Step S T C W). IsStep m first y) (same_step x s is) are.0
  step_at first (x ∷ steps) (suc k) s are is =
      subst (λ (w : World S T C W). IsStep m w s) (sym (later first x steps k)) (step_at x.after steps k s are.1 is)

  pub made_at : (first : World S T C W) (steps : List (Step S T C W)) (k : ℕ) (s : Step S T C W) → AreSteps m first steps → slice_get steps k ≡ Some s
      → IsMade first steps k s
  made_at first steps k s are is = record {
    is = is;
    step = step_at first steps k s are is;
    after = ap (λ (o : Option (Step S T C W)). (next m tell spell meaning (at_moment m tell spell meaning first steps k) o).world) is;
  }

  pub rests_at : (first : World S T C W) (steps : List (Step S T C W)) (k : ℕ) → slice_get steps k ≡ None
      → world_at first steps (suc k) ≡ world_at first steps k
  rests_at first steps k is = ap (λ (o : Option (Step S T C W)). (next m tell spell meaning (at_moment m tell spell meaning first steps k) o).world) is
