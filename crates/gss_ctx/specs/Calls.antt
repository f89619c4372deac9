-- The initiating side of a context: the calls it seals (RFC 2203 section 5.3).
use Rattle.std.specs.Prelude.{◌≡◌, ℕ, ◌+◌, List, [], ◌++◌, Option, None, Some}
use Rattle.nfs_base.specs.declared.seal.End.{End}
use Rattle.nfs_base.specs.declared.seal.Seal.{Seal}
use Rattle.rpc_msg.specs.Heads.{call}
use Rattle.rpc_msg.specs.GssCred.{gss_cred}
use Rattle.rpc_msg.specs.declared.auth.Auth.{Auth}
use Rattle.rpc_msg.specs.declared.call.CallHead.{CallHead}
use Rattle.rpc_msg.specs.declared.gss_cred.GssCred.{GssCred}
use Rattle.gss_ctx.specs.declared.caller.Sealed.{Sealed}
use Rattle.gss_ctx.specs.Seals.{Mic, header_of, code_auth, sealed_body, reply_code}
use Rattle.gss_ctx.specs.Table.{boot_named, number_named}
use Rattle.rpc_msg.specs.declared.numbers.TheConstants.{AUTH_NONE, CALL, RPCSEC_GSS, RPC_GSS_SVC_INTEGRITY}
use Rattle.gss_mech.specs.declared.mechanism.TheConstants.{INITIATOR}

-- whose context this is, its handle and its key, and the number of the next call
pub record Side : Type 0 where
  pub owner : End
  pub handle : List ℕ
  pub key : List ℕ
  pub next : ℕ

-- the seal of a number under the context of this side
abbrev pub seal_of : Side → ℕ → Seal
seal_of side seq = record { owner = side.owner; boot = boot_named side.handle; number = number_named side.handle; seq = seq }

-- no verifier, and a credential of flavor 6
abbrev pub none_auth : Auth
none_auth = record { flavor = AUTH_NONE; body = [] }

abbrev pub cred_auth : GssCred → Auth
cred_auth cred = record { flavor = RPCSEC_GSS; body = gss_cred.spell cred }

-- the credential of a call under integrity
abbrev pub call_cred : List ℕ → ℕ → GssCred → GssCred
call_cred handle seq asked = record { version = asked.version; gss_proc = asked.gss_proc; seq_num = seq; service = RPC_GSS_SVC_INTEGRITY; handle = handle }

-- a head with this credential, and the same with the code of its header as verifier
abbrev pub with_cred : CallHead → GssCred → CallHead
with_cred head cred = record head { cred = cred_auth cred; verf = none_auth }

abbrev pub verified : Mic → List ℕ → CallHead → CallHead
verified mic key head = record head { verf = code_auth (mic key INITIATOR (header_of CALL head)) }

-- a call as it is sent
abbrev pub sealed_call : Mic → List ℕ → CallHead → ℕ → List ℕ → List ℕ
sealed_call mic key head seq args = call.spell (verified mic key head) ++ sealed_body (mic key INITIATOR) seq args

abbrev pub sealed_of : Mic → Side → CallHead → List ℕ → Sealed
sealed_of mic side head args = record {
  bytes = sealed_call mic side.key head side.next args;
  awaited = record { xid = head.xid; seq = side.next; code = reply_code mic side.key head side.next };
}

-- the call is sealed with the next number, unless the head has no credential
abbrev pub Seals : Mic → Side → CallHead → List ℕ → Option GssCred → Side → Option Sealed → Type 0
Seals mic old head args None new told = ⊥
Seals mic old head args (Some asked) new told =
    (told ≡ Some (sealed_of mic old (with_cred head (call_cred old.handle old.next asked)) args)) × (new ≡ record old { next = old.next + 1 })
