-- The call INIT (RFC 2203 section 5.2.2), and the head of every call.
use Rattle.std.specs.Prelude.{ℕ, List, [], ◌++◌}
use Rattle.wire_xdr.specs.Words.{opaque_bytes}
use Rattle.rpc_msg.specs.Heads.{call}
use Rattle.rpc_msg.specs.declared.call.CallHead.{CallHead}
use Rattle.rpc_msg.specs.declared.gss_cred.GssCred.{GssCred}
use Rattle.gss_ctx.specs.Calls.{cred_auth, none_auth}
use Rattle.rpc_msg.specs.declared.numbers.TheConstants.{RPC_VERSION, RPCSEC_GSS_INIT, RPC_GSS_SVC_INTEGRITY}
use Rattle.gss_ctx.specs.declared.numbers.TheConstants.{RPCSEC_GSS_VERSION_3}
use Rattle.nfs_base.specs.declared.programs.TheConstants.{PROC_NULL, NFS_PROGRAM, NFS_VERSION}

-- what a call of NFS asks for, before it is sealed
abbrev pub asked_cred : ℕ → GssCred
asked_cred gss_proc = record { version = RPCSEC_GSS_VERSION_3; gss_proc = gss_proc; seq_num = 0; service = RPC_GSS_SVC_INTEGRITY; handle = [] }

abbrev pub asked_head : ℕ → ℕ → ℕ → CallHead
asked_head xid proc gss_proc = record {
  xid = xid;
  rpcvers = RPC_VERSION;
  prog = NFS_PROGRAM;
  vers = NFS_VERSION;
  proc = proc;
  cred = cred_auth (asked_cred gss_proc);
  verf = none_auth;
}

-- INIT is procedure 1 of RPCSEC_GSS, on procedure NULL
abbrev pub init_head : ℕ → CallHead
init_head xid = asked_head xid PROC_NULL RPCSEC_GSS_INIT

abbrev pub init_message : ℕ → List ℕ → List ℕ
init_message xid token = call.spell (init_head xid) ++ opaque_bytes token
