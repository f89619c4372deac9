-- A run by the openings of its destination. One begins at the first moment, or behind a step in which the destination stopped, and goes
-- on up to the next such step. Own definitions.
use Rattle.std.specs.Prelude.{◌≡◌, ℕ, zero, suc, ◌+◌, ◌-◌, ◌<◌, ◌≤◌, List, [], ◌∷◌, drop, slice_get, Option, Some, None}
use Rattle.nfs_base.specs.declared.side.Side.TheVariants as sides
use Rattle.run_promise.specs.System.Moments.{world_at}
use Rattle.volume_stops.specs.declared.kept.Kept.{Kept}
use Rattle.wire_machine.specs.Ends.{Machines}
use Rattle.wire_machine.specs.History.{Seen, Telling, at_moment}
use Rattle.wire_machine.specs.Steps.{AreSteps, NeverStops, Step, cut_of}
use Rattle.wire_machine.specs.World.{World}
use Rattle.wire_model.specs.Meaning.{Meaning}
use Rattle.wire_model.specs.Spelling.{Spelling}

module _ {S T C W : Type 0} where
  -- what was kept of a commit where the destination stops in this step; past the last step it doesn't
  abbrev pub cut_in : World S T C W → Option (Step S T C W) → Option Kept
  cut_in before None = None
  cut_in before (Some s) = cut_of sides.Dest before s

  -- a step and those behind it, unless the destination stops in it
  abbrev pub unless_cut : Option Kept → Step S T C W → List (Step S T C W) → List (Step S T C W)
  unless_cut None s more = s ∷ more
  unless_cut (Some kept) s more = []

  -- steps up to the first in which it stops
  abbrev pub up_to_stop : World S T C W → List (Step S T C W) → List (Step S T C W)
  up_to_stop before [] = []
  up_to_stop before (s ∷ steps) = unless_cut (cut_of sides.Dest before s) s (up_to_stop s.after steps)

-- behind a stop an opening begins, and else the one before goes on
abbrev pub begun_by : Option Kept → (now before : ℕ) → ℕ
begun_by None now before = before
begun_by (Some kept) now before = now

module _ {S T C W : Type 0} (m : Machines S T C W) (tell : Telling S T) (spell : Spelling) (meaning : Meaning) (first : World S T C W)
    (steps : List (Step S T C W)) where
  abbrev pub seen_by : ℕ → Seen
  seen_by k = (at_moment m tell spell meaning first steps k).seen

  -- what was kept where the destination stops in the step from a moment
  abbrev pub cut_at : ℕ → Option Kept
  cut_at k = cut_in (world_at m tell spell meaning first steps k) (slice_get steps k)

  -- the moment at which its opening at a moment began
  abbrev pub began : ℕ → ℕ
  began zero = zero
  began (suc k) = begun_by (cut_at k) (suc k) (began k)

  -- the world then
  abbrev pub opened_at : ℕ → World S T C W
  opened_at k = world_at m tell spell meaning first steps (began k)

  -- and the steps of that opening
  abbrev pub segment : ℕ → List (Step S T C W)
  segment k = up_to_stop (opened_at k) (drop (began k) steps)

  -- the destination doesn't stop in so many steps from a moment
  abbrev pub StaysFor : (from many : ℕ) → Type 0
  StaysFor from many = (l : ℕ) → l < many → cut_at (from + l) ≡ None

  -- The opening at a moment is a run of its own, in which the destination never stops. Up to the step in which it ends, the world is that
  -- of the whole run at each of its moments, the copies that are seen of it are those of the present opening, and no copy ends.
  pub record IsOpening (k : ℕ) : Type 0 where
    pub before : began k ≤ k
    pub stays : StaysFor (began k) (k - began k)
    pub are : AreSteps m (opened_at k) (segment k)
    pub never : NeverStops sides.Dest (opened_at k) (segment k)
    pub step : (i : ℕ) → StaysFor (began k) (suc i) → slice_get (segment k) i ≡ slice_get steps (began k + i)
    pub world : (i : ℕ) → StaysFor (began k) i
        → world_at m tell spell meaning (opened_at k) (segment k) i ≡ world_at m tell spell meaning first steps (began k + i)
    pub jobs : (i : ℕ) → StaysFor (began k) i
        → (at_moment m tell spell meaning (opened_at k) (segment k) i).seen.jobs ≡ (seen_by (began k + i)).jobs
    pub past : (i : ℕ) → StaysFor (began k) i → (seen_by (began k + i)).past ≡ (seen_by (began k)).past
