-- Draws of 32 bytes: why one fails, and what the two sources of draws that tell theirs answer. Own
-- definitions.
use Rattle.std.specs.Prelude.{ℕ, ◌+◌, ◌%◌, ◌^◌, ◌≤◌, List, drop, replicate, slice_get, unwrap_or, if◌then◌else◌}
use Rattle.std.specs.Int.{w64, to_be_bytes}
use Rattle.sha2.specs.Sha256.{sha256}
use Rattle.outcome.specs.Causes.{Rose}
use Rattle.outcome.specs.Plan.{Plan, is_due, after_call}
use Rattle.streams.specs.declared.draws.Drawn.{Drawn}
use Rattle.streams.specs.declared.draws.Drawn.TheVariants.{Got, Failed}

-- The count of faults never falls, and `Failed` comes only where it rose.
abbrev pub DrawHasCause : ℕ → ℕ → Drawn → Type 0
DrawHasCause before now (Got bytes) = before ≤ now
DrawHasCause before now Failed = (before ≤ now) × Rose before now

-- Draws in memory: those that are left, and the calls.
pub record DrawState : Type 0 where
  pub left : List (List ℕ)
  pub plan : Plan

-- The first draw that is left, and 32 zeros where none is.
abbrev pub first_draw : List (List ℕ) → List ℕ
first_draw draws = unwrap_or (slice_get draws 0) (replicate 32 0)

-- What they answer to a call, and what the call leaves: a call that fails uses no draw up.
abbrev pub drawn_of : DrawState → Drawn
drawn_of state = if is_due state.plan then Failed else Got (first_draw state.left)

abbrev pub after_draw : DrawState → DrawState
after_draw state = record {
  left = (if is_due state.plan then state.left else drop 1 state.left);
  plan = after_call state.plan;
}

-- Draws by a counter: draw number n is the digest of n in eight bytes, high first.
abbrev pub counted_draw : ℕ → List ℕ
counted_draw count = sha256 (to_be_bytes w64 count)

-- The counter after one more draw. It begins anew at its type's end.
abbrev pub next_count : ℕ → ℕ
next_count count = (count + 1) % 2 ^ 64
