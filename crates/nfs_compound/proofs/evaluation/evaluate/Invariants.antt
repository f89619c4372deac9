use Rattle.std.proofs.Common.{◌≡◌, ◌≤◌, ◌<◌, drop, length}
use Rattle.std.specs.Prelude.{vec_len, vec_capacity}
use Rattle.std.specs.List.{AllByRecursion}
use Rattle.nfs_compound.specs.Results.{outcome}
use Rattle.nfs_compound.specs.Walk.{nothing_held, last_status}
use Rattle.nfs_compound.proofs.Walking.{Continues}
use Rattle.nfs_compound.proofs.evaluation.evaluate.Given as goal

abbrev pub invariant-loop-place : goal.invariant-loop-place
invariant-loop-place g l = record {
  so_far : Continues g.A.Actor.acts l.compound.tail l.fn.actor nothing_held l.compound.ops l.results.items l.actor l.held (drop l.place l.compound.ops);
  status : last_status l.results.items ≡ record { number = 0 };
  fits : AllByRecursion outcome.Fits l.results.items;
  len : vec_len l.results ≤ l.place;
  room : length l.compound.ops < vec_capacity l.results;
}
