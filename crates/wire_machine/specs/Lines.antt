-- The lines of a small step: first the notes of each end, then a line for each record that it sends; of one in which a server stops,
-- the line that says so. Own definitions.
use Rattle.std.specs.Prelude.{ℕ, ◌+◌, Bool, false, List, [], ◌∷◌, ◌++◌, length, map, Option, Some, None}
use Rattle.copy_model.specs.Volume.{Volume, bytes_at, file_at}
use Rattle.nfs_base.specs.declared.seal.End.{End}
use Rattle.nfs_base.specs.declared.seal.End.TheVariants as ends
use Rattle.nfs_base.specs.declared.side.Side.{Side}
use Rattle.nfs_base.specs.declared.side.Side.TheVariants as sides
use Rattle.outbox.specs.declared.outgoing.Outgoing.{Outgoing}
use Rattle.wire_lines.specs.declared.line.Line.{Line}
use Rattle.wire_lines.specs.declared.line.Line.TheVariants as lines
use Rattle.wire_schedule.specs.declared.event.Event.{Event}
use Rattle.wire_schedule.specs.declared.event.Event.TheVariants as events
use Rattle.wire_machine.specs.declared.choice.Choice.{Choice}
use Rattle.wire_machine.specs.declared.choice.Choice.TheVariants.{Went, Failed, Stopped}
use Rattle.wire_machine.specs.declared.port.Port.{Port}
use Rattle.wire_machine.specs.Ends.{Machines, end_at, port_of}
use Rattle.wire_machine.specs.Steps.{Step, stops_at}
use Rattle.wire_machine.specs.World.{Part, Parts, Posted, World, posted_at}

-- ---- notes

abbrev pub part_notes : Part → List Line
part_notes part = map (lines.Note part.speaker) part.out.notes

abbrev pub notes_of : Parts → List Line
notes_of parts = part_notes parts.source ++ (part_notes parts.dest ++ part_notes parts.client)

-- ---- records. One that goes nowhere is told as going to its sender.

abbrev pub goes_to : End → Option Port → End
goes_to from None = from
goes_to from (Some port) = end_at port

-- the records that an end sends, counted on from a number
abbrev pub sent_lines : End → (number : ℕ) → List Outgoing → List Line
sent_lines from number [] = []
sent_lines from number (out ∷ outs) = lines.Sent number from (goes_to from (port_of from out.to)) out.label ∷ sent_lines from (number + 1) outs

-- those of the source, of the destination and of the client, behind so many records
abbrev pub records_of : (sent : ℕ) → Parts → List Line
records_of sent parts =
    sent_lines ends.Source (sent + 1) parts.source.out.sent
    ++ (sent_lines ends.Dest (sent + 1 + length parts.source.out.sent) parts.dest.out.sent
    ++ sent_lines ends.Client (sent + 1 + length parts.source.out.sent + length parts.dest.out.sent) parts.client.out.sent)

-- ---- a number under which no record was sent

abbrev pub unsent : (number : ℕ) → Option Posted → List Line
unsent number None = lines.NoRecord number ∷ []
unsent number (Some r) = []

-- ---- bytes as they are now; none where they can't be read

abbrev pub shown : Volume → Choice → Side → (file off len : ℕ) → Bool → List Line
shown v Went side file off len false = lines.Bytes side file off (bytes_at (file_at v file).now off len) ∷ []
shown v choice side file off len broken = []

module _ {S T C W : Type 0} (m : Machines S T C W) where
  abbrev pub volume_at : Side → World S T C W → Volume
  volume_at sides.Source w = m.source_volume w.source
  volume_at sides.Dest w = m.dest_volume w.dest

  -- what an event prints besides
  abbrev pub own_lines : World S T C W → Event → Choice → List Line
  own_lines w (events.Deliver number) choice = unsent number (posted_at number w.log)
  own_lines w (events.Peek side file off len) choice = shown (volume_at side w) choice side file off len (volume_at side w).broken
  own_lines w event choice = []

  -- where a server stopped, the number of its next opening and what was kept
  abbrev pub told_by : Choice → World S T C W → Step S T C W → List Line
  told_by Went w s = own_lines w s.event s.choice
  told_by Failed w s = own_lines w s.event s.choice
  told_by (Stopped kept) w s =
      let side = stops_at s.event w.log in
      lines.Crash side (volume_at side s.after).boot kept ∷ []

  abbrev pub step_lines : World S T C W → Step S T C W → List Line
  step_lines w s = told_by s.choice w s ++ (notes_of s.parts ++ records_of (length w.log) s.parts)

  -- of small steps one after the other
  abbrev pub lines_of : World S T C W → List (Step S T C W) → List Line
  lines_of w [] = []
  lines_of w (s ∷ steps) = step_lines w s ++ lines_of s.after steps
