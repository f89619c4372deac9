-- The calls that an object in memory was given, and those of them that are to fail. Own definitions.
use Rattle.std.specs.Prelude.{ℕ, ◌+◌, ◌==◌, Bool, min, nat_lt, nat_le, List, [], ◌∷◌, ◌&&◌, if◌then◌else◌}
use Rattle.std.specs.List.{list_any}

-- How many calls were made, and the numbers of those that are to fail. The first call is number 1.
pub record Plan : Type 0 where
  pub calls : ℕ
  pub failing : List ℕ

-- Whether the next call is to fail. The counter is a u64: once it stands at that type's end it
-- can't tell the calls apart, and none fails.
abbrev pub is_due : Plan → Bool
is_due plan = nat_lt plan.calls 18446744073709551615 && list_any (λ n. n == plan.calls + 1) plan.failing

-- One more, in a count of a u64, which stops at that type's end.
abbrev pub counted : ℕ → ℕ
counted n = min (n + 1) 18446744073709551615

-- The plan after one more call.
abbrev pub after_call : Plan → Plan
after_call plan = record plan { calls = counted plan.calls }

-- Whether call number n is one of the first `calls` calls.
abbrev pub is_made : ℕ → ℕ → Bool
is_made calls n = nat_lt 0 n && nat_le n calls

-- How many of the listed calls were made.
abbrev pub made_of : ℕ → List ℕ → ℕ
made_of calls [] = 0
made_of calls (n ∷ others) = (if is_made calls n then 1 else 0) + made_of calls others

-- How many calls failed as planned: none, for ever, where the list is empty.
abbrev pub planned_faults : Plan → ℕ
planned_faults plan = made_of plan.calls plan.failing
