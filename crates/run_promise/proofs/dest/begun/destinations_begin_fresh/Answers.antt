use Rattle.nfs_base.specs.declared.side.Side.TheVariants as sides
use Rattle.run_ends.specs.First.{shape_of}
use Rattle.run_promise.proofs.dest.Beginning.{fresh_begins}
use Rattle.run_promise.proofs.dest.begun.destinations_begin_fresh.Goals as goal

pub returns : goal.returns
returns g c mech events first is = fresh_begins mech (shape_of sides.Dest events) first.dest is.dest
