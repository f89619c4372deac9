-- A call as it goes out under a context (RFC 2203 section 5.3, RFC 7861 section 2): what is asked for, the seal, and
-- what is awaited of the reply.
use Rattle.std.specs.Prelude.{◌≡◌, ℕ, ◌+◌, List, Option, Some}
use Rattle.nfs_base.specs.declared.programs.TheConstants.{PROC_NULL, PROC_COMPOUND}
use Rattle.rpc_msg.specs.declared.numbers.TheConstants.{RPCSEC_GSS_DATA, RPCSEC_GSS_DESTROY}
use Rattle.gss_ctx.specs.declared.numbers.TheConstants.{RPCSEC_GSS_CREATE}
use Rattle.gss_ctx.specs.Calls.{Side, seal_of, sealed_of, with_cred, call_cred}
use Rattle.gss_ctx.specs.Init.{asked_head, asked_cred}
use Rattle.gss_ctx.specs.Seals.{Mic}
use Rattle.session_client.specs.declared.sealing.CallKind.{CallKind}
use Rattle.session_client.specs.declared.sealing.CallKind.TheVariants.{Compound, Create, Destroy}
use Rattle.session_client.specs.declared.sealing.SealedCall.{SealedCall}

-- the procedure that is called, and that of RPCSEC_GSS
abbrev pub proc_of : CallKind → ℕ
proc_of Compound = PROC_COMPOUND
proc_of Create = PROC_NULL
proc_of Destroy = PROC_NULL

abbrev pub gss_proc_of : CallKind → ℕ
gss_proc_of Compound = RPCSEC_GSS_DATA
gss_proc_of Create = RPCSEC_GSS_CREATE
gss_proc_of Destroy = RPCSEC_GSS_DESTROY

-- a call under a context, with the context's next number
abbrev pub call_under : Mic → Side → ℕ → CallKind → List ℕ → SealedCall
call_under mic side xid kind args =
    let sealed = sealed_of mic side (with_cred (asked_head xid (proc_of kind) (gss_proc_of kind)) (call_cred side.handle side.next (asked_cred (gss_proc_of kind)))) args in
    record { bytes = sealed.bytes; seal = seal_of side side.next; awaited = sealed.awaited }

-- that number isn't given again
abbrev pub after_call : Side → Side
after_call side = record side { next = side.next + 1 }

-- What becomes of a call: it is sealed with the next number, unless the numbers have run out.
pub record IsCalled (mic : Mic) (old : Side) (xid : ℕ) (kind : CallKind) (args : List ℕ) (new : Side) (told : Option SealedCall) : Type 0 where
  pub told_is : told ≡ Some (call_under mic old xid kind args)
  pub side_is : new ≡ after_call old
