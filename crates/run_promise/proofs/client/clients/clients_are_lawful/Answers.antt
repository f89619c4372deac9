use Rattle.std.proofs.Common.{inr, refl, sym, subst}
use Rattle.caller_laws.specs.View.{caller_of}
use Rattle.client_core.specs.State.{ClientState}
use Rattle.client_core.specs.Telling.{mount_at}
use Rattle.client_laws.specs.CallerLaws.{above_at}
use Rattle.run_ends.specs.Ends.{count_gives, words_of}
use Rattle.run_promise.proofs.client.Lawful.{WireLaws, resting}
use Rattle.run_promise.proofs.client.Openings.{obeys_in, starts_in}
use Rattle.run_promise.proofs.client.clients.clients_are_lawful.Goals as goal
use Rattle.wire_model.specs.CallerLaws.{CallerStart}

pub returns-clause-start : goal.returns-clause-start
returns-clause-start g c =
    λ spell meaning seen s first steps purposes side new.
    starts_in (words_of g.M.Mechanism.mic_of g.M.Mechanism.derived g.M.Mechanism.started g.M.Mechanism.accepted g.M.Mechanism.finished count_gives) spell meaning seen first steps purposes
    (λ side. subst (λ (x : ClientState _). CallerStart (caller_of (above_at 0 (purposes 0 side) x) (mount_at side x))) (sym new)
    (c.clients_begin_lawful.ensures.start 0 (purposes 0 side) side s)) side

pub returns-clause-laws : goal.returns-clause-laws
returns-clause-laws g c =
    λ meaning seen who first steps along.
    let words = (words_of g.M.Mechanism.mic_of g.M.Mechanism.derived g.M.Mechanism.started g.M.Mechanism.accepted g.M.Mechanism.finished count_gives) in
    let laws : WireLaws words who = record {
      lawful = λ s purposes turn. c.turns_are_lawful.ensures s who 0 purposes turn;
      rests = λ side purposes client settled.
          resting words who side purposes client settled
          (c.runs_are_lawful.ensures client.setting.mech client.setting.me who _ _ _ _ _ (refl, refl) tt (inr tt) (settled.good side));
    } in
    obeys_in words who laws meaning seen first steps along
