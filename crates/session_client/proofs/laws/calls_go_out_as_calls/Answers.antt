use Rattle.wire_xdr.specs.Words.{opaque_bytes}
use Rattle.gss_ctx.specs.Init.{init_head}
use Rattle.session_client.proofs.Directed.{call_of}
use Rattle.session_client.proofs.laws.calls_go_out_as_calls.Goals as goal

pub returns-clause-sealed : goal.returns-clause-sealed
returns-clause-sealed c = λ mic side xid asked. call_of _ _

pub returns-clause-init : goal.returns-clause-init
returns-clause-init c = λ xid token. call_of (init_head xid) (opaque_bytes token)
