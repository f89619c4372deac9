use Rattle.std.proofs.Common.{sym, ◌∙◌}
use Rattle.client_laws.proofs.callers.started_tokens_are_own.Goals as goal

pub returns : goal.returns
returns g c = λ mech principal other whose own ways same draws accepts ours v w nonce token drew started.
    c.tokens_are_their_senders.ensures.token mech principal nonce other token whose own (draws v w nonce drew) accepts ours (sym (same nonce) ∙ started)
