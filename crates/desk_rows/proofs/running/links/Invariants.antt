use Rattle.copy_workers.specs.Workers.{AllUnsent}
use Rattle.desk_rows.proofs.running.links.Given as goal

abbrev pub invariant-workers : goal.invariant-workers
invariant-workers g l = AllUnsent l.links.items
