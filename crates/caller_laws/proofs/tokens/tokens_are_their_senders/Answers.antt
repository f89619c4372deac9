use Rattle.caller_laws.specs.Tokens.{known_by}
use Rattle.caller_laws.proofs.TokenLemmas.{anew_own, own_token, sent_own}
use Rattle.caller_laws.proofs.tokens.tokens_are_their_senders.Goals as goal

pub returns : goal.returns
returns g c = record {
  token = own_token g.M.Mechanism.started g.M.Mechanism.accepted g.M.Mechanism.finished c.tokens_agree.ensures.tokens;
  sent = λ mech principal nonce other whose own at m sent one two is small goes.
      sent_own (known_by (g.M.Mechanism.accepted mech) other whose own) at nonce (g.M.Mechanism.started mech principal nonce) m sent small
      (λ t begun. own_token g.M.Mechanism.started g.M.Mechanism.accepted g.M.Mechanism.finished c.tokens_agree.ensures.tokens mech principal nonce other t whose own one two is begun)
      goes;
  anew = anew_own;
}
