use Rattle.wire_xdr.proofs.Whole.{one_value}
use Rattle.wire_xdr.proofs.form.laws.one_spelling.Goals as goal

pub returns-clause-value : goal.returns-clause-value
returns-clause-value g c = one_value g.T.Xdr.form
