use Rattle.mount.proofs.OnceLemmas.{taken_once}
use Rattle.mount.proofs.laws.answers_are_taken_once.Goals as goal

pub returns-clause-once : goal.returns-clause-once
returns-clause-once c = λ means place message m. (taken_once means place message m).once

pub returns-clause-unmatched : goal.returns-clause-unmatched
returns-clause-unmatched c = λ means place message m. (taken_once means place message m).unmatched
