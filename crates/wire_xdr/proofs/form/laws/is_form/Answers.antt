use Rattle.wire_xdr.proofs.form.laws.is_form.Goals as goal

pub returns : goal.returns
returns g c = g.T.Xdr.form.lawful
