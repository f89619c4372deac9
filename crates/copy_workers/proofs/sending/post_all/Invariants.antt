use Rattle.std.proofs.Common.{◌≡◌}
use Rattle.copy_workers.proofs.sending.post_all.Given as goal

abbrev pub invariant-records : goal.invariant-records
invariant-records g l = record { sent : l.link.sent ≡ l.fn.link.sent; signs : l.link.signs ≡ l.fn.link.signs }
