use Rattle.wire_xdr.proofs.Whole.{nothing_behind}
use Rattle.wire_xdr.proofs.form.laws.no_prefix_by.Goals as goal

pub returns : goal.returns
returns g c = λ n. nothing_behind (g.T.XdrBy.form n)
