use Rattle.std.proofs.Common.{◌≡◌, take}
use Rattle.outbox.specs.Counting.{landed_in}
use Rattle.copy_workers.proofs.counting.landed_in.Given as goal

abbrev pub invariant-notes : goal.invariant-notes
invariant-notes l = l.sum ≡ landed_in (take l.note-index l.notes)
