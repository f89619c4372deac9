use Rattle.wire_xdr.specs.AllLaws.{all_spelled}
use Rattle.wire_xdr.proofs.form.all.all_is_spelled.Goals as goal

pub returns : goal.returns
returns g c = all_spelled g.T.Xdr.form
