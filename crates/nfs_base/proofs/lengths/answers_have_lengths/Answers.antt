use Rattle.nfs_base.specs.LengthLaws.{answer_bounded}
use Rattle.nfs_base.proofs.lengths.answers_have_lengths.Goals as goal

pub returns : goal.returns
returns g c = λ n bound. answer_bounded g.T.Xdr.form n bound
