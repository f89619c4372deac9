use Rattle.wire_xdr.proofs.Whole.{one_value}
use Rattle.wire_xdr.proofs.form.laws.one_spelling_by.Goals as goal

pub returns-clause-value : goal.returns-clause-value
returns-clause-value g c = λ n. one_value (g.T.XdrBy.form n)
