use Rattle.std.proofs.Common.{◌≡◌}
use Rattle.copy_workers.proofs.worker.report_down.Given as goal

abbrev pub invariant-tries : goal.invariant-tries
invariant-tries g l = record { sent : l.link.sent ≡ l.fn.link.sent; signs : l.link.signs ≡ l.fn.link.signs }
