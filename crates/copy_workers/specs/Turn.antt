-- How a worker's turn went, by what it gave. Own definitions.
use Rattle.std.specs.Prelude.{Bool, true, false, List, [], ◌∷◌}
use Rattle.outbox.specs.declared.note.Note.{Note}
use Rattle.outbox.specs.declared.note.Note.TheVariants as note
use Rattle.outbox.specs.declared.outgoing.Outbox.{Outbox}
use Rattle.outbox.specs.declared.outgoing.Outgoing.{Outgoing}
use Rattle.copy_workers.specs.declared.turn.Turn.{Turn}
use Rattle.copy_workers.specs.declared.turn.Turn.TheVariants as turn

-- A turn may have given others work where it took a record or told anything, but not where it told of a chunk that has to wait, and of
-- nothing else.
abbrev pub may_give_work : (reply : Bool) → List Note → Bool
may_give_work reply [] = reply
may_give_work reply (note.Held job off ∷ []) = false
may_give_work reply _ = true

-- what it sent, whether it may have given others work, and whether a draw failed
abbrev pub turn_by : List Outgoing → (may_give undrawn : Bool) → Turn
turn_by [] false false = turn.Empty
turn_by [] false true = turn.Wanting
turn_by _ _ _ = turn.Worked

abbrev pub turn_of : (reply : Bool) → Outbox → Turn
turn_of reply out = turn_by out.sent (may_give_work reply out.notes) out.undrawn
