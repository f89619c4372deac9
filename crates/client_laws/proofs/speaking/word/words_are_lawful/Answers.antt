use Rattle.std.proofs.Common.{suc}
use Rattle.client_laws.proofs.speaking.Ready.{copy_ready_law, last_ready_law}
use Rattle.client_laws.proofs.speaking.Reports.{Holding, held_law, stable_law}
use Rattle.client_laws.proofs.speaking.SaidTurns.{said_turn, sealing_of}
use Rattle.client_laws.proofs.speaking.Sounds.{first_after, name_after}
use Rattle.client_laws.proofs.speaking.Words.{exact_law, first_law, keeps_law, name_law}
use Rattle.client_laws.proofs.speaking.word.words_are_lawful.Goals as goal

pub returns : goal.returns
returns g c = λ setting who boot purposes turn before after v w out t s k own carried x.
    let changes = c.copies_change_by_causes.ensures _ turn before after v w out carried.few x.may x.step in
    let f =
    said_turn who boot purposes _ g.W.Draws.gives turn before after v w out carried c.questions_are_read.ensures.asked c.answers_come_to_what_they_say.ensures
    (λ side message now found reply step drawn bytes is told. c.answers_are_taken.ensures who _ boot (purposes side) side message now before after v w out found reply own step drawn bytes is told)
    x.may x.takes x.step changes
    (c.what_is_known_was_told.ensures.first _ turn before after out changes) (c.what_is_known_was_told.ensures.name _ turn before after out changes)
    (first_after _ turn before after out changes x.may carried.sound) (name_after _ turn before after out changes x.may carried.sound)
    c.only_these_are_stable_and_exact.ensures.stable c.only_these_are_stable_and_exact.ensures.exact in
    let sealing = sealing_of who boot purposes _ g.W.Draws.gives turn before after v w out x.step in
    let holding : Holding _ turn before after = λ held there. c.what_is_held_was_called_back.ensures _ turn before after v w out held x.may x.step there in
    record {
      keeps = keeps_law who boot purposes (λ side. (t side).after) _ turn before after out f s k x.before x.after x.acts;
      first = first_law who boot purposes (λ side. (t side).after) _ turn before after out f s k x.before x.after x.acts;
      name = name_law who boot purposes (λ side. (t side).after) _ turn before after out f s k x.before x.after x.acts;
      exact = exact_law who boot purposes (λ side. (t side).after) _ turn before after out f s k x.before x.after x.acts;
      stable = stable_law who boot purposes (λ side. (t side).after) _ turn before after out f s k x.before x.after x.acts sealing holding;
      held = held_law who boot purposes (λ side. (t side).after) _ turn before after out f s k x.before x.after x.acts sealing holding;
      copy_ready = copy_ready_law boot (λ side. (t side).after) after s (suc k) x.after;
      last_ready = last_ready_law boot (λ side. (t side).after) after s (suc k) x.after;
    }
