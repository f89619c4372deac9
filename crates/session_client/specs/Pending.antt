-- Calls that await their answers: what was asked, and how it was last sent (RFC 5531 section 9, RFC 2203 section 5.3).
-- A call that is sent again asks the same, by another xid and under another number of its context; a reply to what was
-- sent before is no longer awaited.
use Rattle.std.specs.Prelude.{ℕ, List, Option, Some, None}
use Rattle.nfs_base.specs.declared.seal.Seal.{Seal}
use Rattle.gss_ctx.specs.declared.caller.Awaited.{Awaited}
use Rattle.session_client.specs.declared.asked.Asked.{Asked}
use Rattle.session_client.specs.declared.sealing.SealedCall.{SealedCall}

-- a call that awaits its answer, as it was last sent
pub record Asking : Type 0 where
  pub asked : Asked
  pub seal : Seal
  pub awaited : Awaited

abbrev pub asking : Asked → SealedCall → Asking
asking asked call = record { asked = asked; seal = call.seal; awaited = call.awaited }

-- an INIT that awaits its answer: its token, the nonce of that, and the xid by which it was last sent
pub record Beginning : Type 0 where
  pub nonce : List ℕ
  pub token : List ℕ
  pub xid : ℕ

-- it is begun, where the principal is of the realm and so has a token
abbrev pub beginning : ℕ → List ℕ → Option (List ℕ) → Option Beginning
beginning xid nonce None = None
beginning xid nonce (Some token) = Some (record { nonce = nonce; token = token; xid = xid })
