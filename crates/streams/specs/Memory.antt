-- The source and the sink in memory: what they hold, and what exactly each call answers.
-- Own definitions.
use Rattle.std.specs.Prelude.{◌≡◌, ℕ, ◌+◌, ◌==◌, ◌&&◌, false, min, nat_lt, List, ◌++◌, length, if◌then◌else◌}
use Rattle.outcome.specs.Plan.{Plan, is_due, after_call}
use Rattle.streams.specs.declared.source.Take.{Take}
use Rattle.streams.specs.declared.source.Take.TheVariants.{Took, End, Failed}
use Rattle.streams.specs.declared.sink.Put.{Put}
use Rattle.streams.specs.declared.sink.Put.TheVariants as puts

-- A source in memory: the bytes that it has left, all that it was made of, and its calls.
pub record SourceState : Type 0 where
  pub left : List ℕ
  pub whole : List ℕ
  pub plan : Plan

-- What it answers where the buffer has this much room: as many bytes as there are, up to the room.
abbrev pub take_of : SourceState → ℕ → Take
take_of source room =
    if is_due source.plan then Failed
    else (if nat_lt 0 room && (length source.left == 0) then End else Took (min room (length source.left)))

-- A sink in memory: the bytes that it took, its calls, and how often it was refused memory.
pub record SinkState : Type 0 where
  pub taken : List ℕ
  pub plan : Plan
  pub starved : ℕ

-- It takes the whole piece, or nothing of it: where the call is one that is to fail, and else only
-- where memory is refused, which it counts.
abbrev pub PutIs : SinkState → SinkState → Put → List ℕ → Type 0
PutIs old new (puts.Put n) piece = (n ≡ length piece) × (is_due old.plan ≡ false)
    × (new ≡ record old { taken = old.taken ++ piece; plan = after_call old.plan })
PutIs old new puts.Failed piece = new ≡ record old {
  plan = after_call old.plan;
  starved = (if is_due old.plan then old.starved else min (old.starved + 1) 18446744073709551615);
}
