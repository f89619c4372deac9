use Rattle.std.specs.Prelude.{false}
use Rattle.dest_laws.proofs.calls.Staying.{begins}
use Rattle.dest_laws.proofs.calls.whole.destinations_begin_settled.Goals as goal
use Rattle.nfs_base.specs.declared.seal.End.TheVariants.{Source}

pub returns : goal.returns
returns c = λ who boot capacity source principal. begins who (c.mounts_begin_lawful.ensures.good who Source false) boot capacity source principal
