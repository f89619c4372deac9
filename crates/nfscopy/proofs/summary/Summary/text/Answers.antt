use Rattle.std.proofs.Common.{append_assoc}
use Rattle.nfscopy.proofs.summary.Summary.text.Goals as goal

pub returns : goal.returns
returns c = simp append_assoc (simp (append_assoc, c.answer-alike.ensures, c.mebibytes-mebibytes.ensures.same) at c.in_ok-format.ensures.ok)
