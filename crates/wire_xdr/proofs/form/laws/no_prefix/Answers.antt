use Rattle.wire_xdr.proofs.Whole.{nothing_behind}
use Rattle.wire_xdr.proofs.form.laws.no_prefix.Goals as goal

pub returns : goal.returns
returns g c = nothing_behind g.T.Xdr.form
