-- What a record says as a call: its head, and what stands behind it (RFC 5531 section 9).
use Rattle.std.specs.Prelude.{ℕ, ◌==◌, Bool, false, if◌then◌else◌, List, drop, take, Option, Some, None, option_and_then, Result, Ok, Err}
use Rattle.std.specs.Int.{w32, from_be_bytes}
use Rattle.gss_ctx.specs.Forms.{init_token}
use Rattle.gss_ctx.specs.Seals.{cred_of}
use Rattle.gss_ctx.specs.declared.numbers.TheConstants.{RPCSEC_GSS_CREATE}
use Rattle.nfs_base.specs.declared.programs.TheConstants.{CALLBACK_PROGRAM}
use Rattle.nfs_base.specs.declared.seal.End.{End}
use Rattle.rpc_msg.specs.Heads.{call}
use Rattle.rpc_msg.specs.Messages.{head_told}
use Rattle.rpc_msg.specs.declared.call.CallHead.{CallHead}
use Rattle.rpc_msg.specs.declared.gss_cred.GssCred.{GssCred}
use Rattle.rpc_msg.specs.declared.messages.RpcFault.{RpcFault}
use Rattle.rpc_msg.specs.declared.numbers.TheConstants.{REPLY, RPCSEC_GSS_INIT}
use Rattle.wire_xdr.specs.All.{value_of}

-- the first word of a record
abbrev pub xid_in : List ℕ → ℕ
xid_in bytes = from_be_bytes w32 (take 4 bytes)

-- a call that was read: its head, and its body
pub record ReadCall : Type 0 where
  pub head : CallHead
  pub body : List ℕ

abbrev pub call_read : List ℕ → Result (CallHead × ℕ) RpcFault → Option ReadCall
call_read bytes (Ok read) = Some (record { head = read.0; body = drop read.1 bytes })
call_read bytes (Err fault) = None

abbrev pub call_in : List ℕ → Option ReadCall
call_in bytes = call_read bytes (head_told call REPLY bytes)

-- ---- a callback goes to the program that a client serves (RFC 8881 section 2.10.3.1)

abbrev pub calls_back : Option ReadCall → Bool
calls_back None = false
calls_back (Some c) = c.head.prog == CALLBACK_PROGRAM

abbrev pub is_callback : List ℕ → Bool
is_callback bytes = calls_back (call_in bytes)

-- ---- the procedure of RPCSEC_GSS that a credential asks for (RFC 2203 section 5)

abbrev pub asks_for : (gss_proc : ℕ) → Option GssCred → Bool
asks_for gss_proc None = false
asks_for gss_proc (Some cred) = cred.gss_proc == gss_proc

-- ---- INIT (RFC 2203 section 5.2.2): whose it is, by what a mechanism makes of its token

abbrev pub end_of : (List ℕ → Option (List ℕ)) → (List ℕ → Option End) → Option (List ℕ) → Option End
end_of accepts whose token = option_and_then whose (option_and_then accepts token)

abbrev pub begun_in : (List ℕ → Option (List ℕ)) → (List ℕ → Option End) → Option ReadCall → Option End
begun_in accepts whose None = None
begun_in accepts whose (Some c) =
    if asks_for RPCSEC_GSS_INIT (cred_of c.head) then end_of accepts whose (value_of init_token c.body) else None

abbrev pub begun_by : (List ℕ → Option (List ℕ)) → (List ℕ → Option End) → List ℕ → Option End
begun_by accepts whose bytes = begun_in accepts whose (call_in bytes)

-- ---- CREATE (RFC 7861 section 2.7)

abbrev pub creates : Option ReadCall → Bool
creates None = false
creates (Some c) = asks_for RPCSEC_GSS_CREATE (cred_of c.head)

abbrev pub is_create : List ℕ → Bool
is_create bytes = creates (call_in bytes)
