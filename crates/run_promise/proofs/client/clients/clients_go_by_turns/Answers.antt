use Rattle.std.proofs.Common.{sym, subst}
use Rattle.client_core.specs.State.{ClientState}
use Rattle.client_laws.specs.Bounds.Known.{ClientIsFit}
use Rattle.client_laws.specs.Bounds.Ways.{WaysAreFit}
use Rattle.client_laws.specs.CallerLaws.{StartsOwn}
use Rattle.client_laws.specs.WholeTurns.{IsSettled}
use Rattle.run_ends.specs.Ends.{count_gives, ways, words_of}
use Rattle.run_promise.proofs.client.Turning.{Laws}
use Rattle.run_promise.proofs.client.Whole.{goes_along}
use Rattle.run_promise.proofs.client.clients.clients_go_by_turns.Goals as goal

pub returns : goal.returns
returns g c =
    λ spell meaning who s first steps new are starts fits fit may.
    let words = (words_of g.M.Mechanism.mic_of g.M.Mechanism.derived g.M.Mechanism.started g.M.Mechanism.accepted g.M.Mechanism.finished count_gives) in
    let laws : Laws words who = record {
      spelled = λ ways purposes turn. c.turns_are_spelled.ensures ways who 0 purposes turn;
      fit = c.turns_leave_clients_fit.ensures;
      setting = c.each_step_counts_one.ensures.setting;
      settled = λ s purposes turn. c.clients_stay_settled.ensures.stay s who 0 purposes turn;
    } in
    goes_along words spell meaning first steps are who laws
    (subst (λ (x : ClientState _). StartsOwn who (ways words x) count_gives) (sym new) starts)
    (subst (λ (x : ClientState _). WaysAreFit (ways words x) count_gives) (sym new) fits)
    (subst (λ (x : ClientState _). ClientIsFit x) (sym new) (c.clients_begin_fit.ensures s fit))
    (subst (λ (x : ClientState _). IsSettled who x) (sym new) (c.clients_stay_settled.ensures.begin who s)) may
