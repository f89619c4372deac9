use Rattle.std.proofs.Common.{◌≡◌, drop}
use Rattle.write_queue.proofs.queue.drop_first.Given as goal

abbrev pub invariant-loop-place : goal.invariant-loop-place
invariant-loop-place l = l.works.items ≡ drop l.place l.fn.works.items
