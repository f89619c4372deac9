use Rattle.client_laws.proofs.bounds.beginning.clients_have_fit_ways.Goals as goal

pub returns : goal.returns
returns g c = λ s fit nonces. record {
  codes = c.tokens_agree.ensures.in_bytes.codes;
  nonces = nonces;
  tokens = λ nonce n. c.tokens_agree.ensures.in_bytes.tokens s.mech s.me nonce fit.me.are_bytes n.are_bytes;
}
