use Rattle.std.proofs.Common.{◌≡◌, ◌++◌, map, drop}
use Rattle.write_queue.specs.Queue as spec
use Rattle.write_queue.proofs.plan.refuse_from.Given as goal

-- what was told, and what is told of the works behind
abbrev pub invariant-loop-i : goal.invariant-loop-i
invariant-loop-i l = l.told.items ++ map (spec.refused l.status) (drop l.i l.queue.works) ≡ l.fn.told.items ++ map (spec.refused l.status) (drop l.from l.queue.works)
