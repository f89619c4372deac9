-- A credential with a short handle fits the body of an auth.
use Rattle.std.specs.Prelude.{◌≡◌, ℕ, ◌+◌, ◌<◌, ◌≤◌, ◌^◌, Some, List, ◌++◌, length, Result, Ok, Err, IfOk}
use Rattle.std.proofs.Common.{arith, lit<, lit≤, subst, sym}
use Rattle.std.proofs.lemmas.List.{length-append}
use Rattle.wire_xdr.specs.Words.{word_bytes, fixed_bytes, opaque_bytes}
use Rattle.rpc_msg.specs.GssCred.{gss_cred}
use Rattle.rpc_msg.specs.Heads.{auth, call}
use Rattle.rpc_msg.specs.declared.auth.Auth.{Auth}
use Rattle.rpc_msg.specs.declared.call.CallHead.{CallHead}
use Rattle.rpc_msg.specs.declared.numbers.TheConstants.{CALL, RPCSEC_GSS_INIT}
use Rattle.rpc_msg.specs.declared.gss_cred.GssCred.{GssCred}
use Rattle.wire_xdr.specs.All.{value_of}
use Rattle.gss_ctx.specs.Calls.{sealed_call, verified}
use Rattle.gss_ctx.specs.Init.{asked_cred, init_head, init_message}
use Rattle.gss_ctx.specs.Seals.{Mic, header_of}
use Rattle.gss_mech.specs.Tokens.{IsSized}
use Rattle.gss_mech.specs.declared.mechanism.TheConstants.{INITIATOR}
use Rattle.outcome.specs.declared.NoMemory.{NoMemory}
use Rattle.wire_xdr.specs.AllLaws.{spelled_value}
use Rattle.wire_xdr.specs.LengthLaws.{word_length, fixed_length, opaque_length, padding_below}

length-six : (a b c d e f : List ℕ) → length (a ++ (b ++ (c ++ (d ++ (e ++ f))))) ≡ length a + (length b + (length c + (length d + (length e + length f))))
length-six a b c d e f =
    omega (arith, length-append a (b ++ (c ++ (d ++ (e ++ f)))), length-append b (c ++ (d ++ (e ++ f))), length-append c (d ++ (e ++ f)), length-append d (e ++ f), length-append e f)

pub short_cred : (v : GssCred) → length v.handle ≤ 8 → length (gss_cred.spell v) ≤ 400
unfolding gss_cred opaque_bytes
short_cred v short =
    omega (
      arith,
      length-six (word_bytes v.version) (word_bytes v.gss_proc) (word_bytes v.seq_num) (word_bytes v.service) (word_bytes (length v.handle)) (fixed_bytes v.handle),
      word_length v.version,
      word_length v.gss_proc,
      word_length v.seq_num,
      word_length v.service,
      word_length (length v.handle),
      fixed_length v.handle,
      padding_below (length v.handle),
    )

asked_fits : (gss_proc : ℕ) → gss_proc < 2 ^ 32 → gss_cred.Fits (asked_cred gss_proc)
unfolding gss_cred
asked_fits gss_proc small = (lit< tt, (small, (lit< tt, (lit< tt, lit≤ tt))))

-- what a call asks for is read from its head
pub asked_is : (gss_proc : ℕ) → gss_proc < 2 ^ 32 → value_of gss_cred (gss_cred.spell (asked_cred gss_proc)) ≡ Some (asked_cred gss_proc)
asked_is gss_proc small = spelled_value gss_cred (asked_cred gss_proc) (asked_fits gss_proc small)

-- ---- how many bytes the head of a call has

auth_short : (v : Auth) → length (auth.spell v) ≤ 11 + length v.body
unfolding auth
auth_short v = omega (arith, length-append (word_bytes v.flavor) (opaque_bytes v.body), word_length v.flavor, opaque_length v.body, padding_below (length v.body))

pub call_short : (v : CallHead) → length (call.spell v) ≤ 46 + length v.cred.body + length v.verf.body
unfolding call
call_short v =
    let four = word_bytes v.rpcvers ++ (word_bytes v.prog ++ (word_bytes v.vers ++ word_bytes v.proc)) in
    omega (
      arith,
      length-append (word_bytes v.xid) (word_bytes CALL ++ (four ++ (auth.spell v.cred ++ auth.spell v.verf))),
      length-append (word_bytes CALL) (four ++ (auth.spell v.cred ++ auth.spell v.verf)),
      length-append four (auth.spell v.cred ++ auth.spell v.verf),
      length-append (auth.spell v.cred) (auth.spell v.verf),
      length-append (word_bytes v.rpcvers) (word_bytes v.prog ++ (word_bytes v.vers ++ word_bytes v.proc)),
      length-append (word_bytes v.prog) (word_bytes v.vers ++ word_bytes v.proc),
      length-append (word_bytes v.vers) (word_bytes v.proc),
      word_length v.xid,
      word_length CALL,
      word_length v.rpcvers,
      word_length v.prog,
      word_length v.vers,
      word_length v.proc,
      auth_short v.cred,
      auth_short v.verf,
    )

pub init_short : (xid : ℕ) (token : List ℕ) → length (init_message xid token) ≤ 453 + length token
init_short xid token =
    omega (
      arith,
      length-append (call.spell (init_head xid)) (opaque_bytes token),
      call_short (init_head xid),
      short_cred (asked_cred RPCSEC_GSS_INIT) (lit≤ tt),
      opaque_length token,
      padding_below (length token),
    )

-- ---- how many bytes a call has as it is sent

pub sealed_short : (mic : Mic) → IsSized mic → (key : List ℕ) (head : CallHead) (seq : ℕ) (args : List ℕ)
    → length (sealed_call mic key head seq args) ≤ 128 + length head.cred.body + length args
sealed_short mic sized key head seq args =
    let sealed = word_bytes seq ++ args in
    let code = mic key INITIATOR sealed in
    omega (
      arith,
      length-append (call.spell (verified mic key head)) (opaque_bytes sealed ++ opaque_bytes code),
      length-append (opaque_bytes sealed) (opaque_bytes code),
      length-append (word_bytes seq) args,
      call_short (verified mic key head),
      opaque_length sealed,
      opaque_length code,
      padding_below (length sealed),
      padding_below (length code),
      word_length seq,
      sized key INITIATOR (header_of CALL head),
      sized key INITIATOR sealed,
    )

pub short_if : (told : Result (List ℕ) NoMemory) (bytes : List ℕ) (most : ℕ) → IfOk told (λ m. m ≡ bytes) → length bytes ≤ most → IfOk told (λ m. length m ≤ most)
short_if (Ok m) bytes most is short = subst (λ (xs : List ℕ). length xs ≤ most) (sym is) short
short_if (Err e) bytes most is short = tt
