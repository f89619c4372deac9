use Rattle.std.proofs.Common.{◌≡◌, map}
use Rattle.compound_server.specs.Preparing.{op_of, AreSuited}
use Rattle.compound_server.proofs.preparing.prepare.Given as goal

abbrev pub invariant-loop-op : goal.invariant-loop-op
invariant-loop-op g l = record {
  ops : map op_of l.prepared.items ≡ l.yielded;
  suited : AreSuited g.X.Serving.suits l.carry l.prepared.items;
}
