use Rattle.client_laws.proofs.Answering.{Answered, answer_taken}
use Rattle.client_laws.proofs.answered.answers_are_taken.Goals as goal

pub returns : goal.returns
returns g c =
    let knows : Answered = record { awaited = c.answers_are_awaited.ensures; replies = c.replies_are_judged.ensures } in
    λ who ways boot purpose side message now before after v w out found reply own step drawn bytes is told.
    answer_taken knows who ways boot c.sends_are_counted.ensures _ side message now before found is purpose v w after out reply own step drawn bytes told
