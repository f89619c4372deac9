use Rattle.dest_laws.proofs.calls.whole.started_tokens_are_own.Goals as goal

pub returns : goal.returns
returns g c mech principal other whose own nonces other_is whose_is v w nonce token drew started =
    c.tokens_are_their_senders.ensures.token mech principal nonce other token whose own (nonces v w nonce drew) other_is whose_is started
