-- How long a worker rests, by how its turns went. Own definitions.
use Rattle.std.specs.Prelude.{ℕ, ◌+◌, ◌*◌, min, max, nat_le, Bool, true, false, if◌then◌else◌}
use Rattle.copy_workers.specs.declared.pace.Pace.{Pace}
use Rattle.copy_workers.specs.declared.turn.Turn.{Turn}
use Rattle.copy_workers.specs.declared.turn.Turn.TheVariants as turn
use Rattle.copy_workers.specs.declared.pace.TheConstants.{EMPTY_TURNS, FIRST_REST, LEAST_REST, LONGEST_REST}

-- After a turn that did something a worker goes on at once. Where it found nothing, it rests as long as its rests have grown; where it
-- wants memory or drawn bytes, of which nobody tells it, as long as at first.
abbrev pub paced : Turn → Pace → Pace
paced turn.Worked pace = record { empty = 0; most = 0 }
paced turn.Empty pace = record { empty = min (pace.empty + 1) EMPTY_TURNS; most = max pace.most FIRST_REST }
paced turn.Wanting pace = record { empty = min (pace.empty + 1) EMPTY_TURNS; most = FIRST_REST }

-- no wake ends a rest sooner, once so many turns in a row did nothing
abbrev pub least_of : Pace → ℕ
least_of pace = if nat_le EMPTY_TURNS pace.empty then LEAST_REST else 0

-- a rest that no wake ended makes the next one twice as long, up to the longest
abbrev pub rested : (woken : Bool) → Pace → Pace
rested true pace = pace
rested false pace = record pace { most = min (pace.most * 2) LONGEST_REST }
