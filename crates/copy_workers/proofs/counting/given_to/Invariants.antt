use Rattle.std.proofs.Common.{◌≡◌, take}
use Rattle.copy_workers.specs.Desk.{given_to}
use Rattle.copy_workers.proofs.counting.given_to.Given as goal

abbrev pub invariant-records : goal.invariant-records
invariant-records l = l.sum ≡ given_to l.worker (take l.outgoing-index l.sent)
