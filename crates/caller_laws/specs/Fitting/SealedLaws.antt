-- What goes out under a context, and INIT, is bytes.
use Rattle.std.proofs.Common.{ℕ, List, ◌++◌}
use Rattle.caller_laws.specs.Fitting.Moving.{GivesBytes}
use Rattle.gss_ctx.specs.Calls.{Side, call_cred}
use Rattle.gss_ctx.specs.Init.{asked_cred, init_head, init_message}
use Rattle.gss_ctx.specs.Seals.{Mic, sealed_body}
use Rattle.gss_mech.specs.BytesLaws.{glued, no_bytes, opaque_are, word_are}
use Rattle.gss_mech.specs.declared.mechanism.TheConstants.{INITIATOR}
use Rattle.rpc_msg.specs.GssCred.{gss_cred}
use Rattle.rpc_msg.specs.Heads.{auth, call}
use Rattle.rpc_msg.specs.declared.call.CallHead.{CallHead}
use Rattle.rpc_msg.specs.declared.gss_cred.GssCred.{GssCred}
use Rattle.rpc_msg.specs.declared.numbers.TheConstants.{RPCSEC_GSS_INIT}
use Rattle.session_client.specs.Sealing.{call_under, gss_proc_of}
use Rattle.session_client.specs.declared.sealing.CallKind.{CallKind}
use Rattle.wire_xdr.specs.Cursor.{IsBytes}
use Rattle.wire_xdr.specs.Words.{opaque_bytes, word_bytes}

cred_are : (cred : GssCred) → IsBytes cred.handle → IsBytes (gss_cred.spell cred)
unfolding gss_cred
cred_are cred h =
    glued (word_bytes cred.version) _ (word_are cred.version)
    (glued (word_bytes cred.gss_proc) _ (word_are cred.gss_proc)
    (glued (word_bytes cred.seq_num) _ (word_are cred.seq_num)
    (glued (word_bytes cred.service) (opaque_bytes cred.handle) (word_are cred.service) (opaque_are cred.handle h))))

head_are : (head : CallHead) → IsBytes head.cred.body → IsBytes head.verf.body → IsBytes (call.spell head)
unfolding call auth
head_are head c v = search (glued, word_are, opaque_are, c, v) depth 20

sealed_are : (code : List ℕ → List ℕ) (seq : ℕ) (payload : List ℕ) → ((bytes : List ℕ) → IsBytes (code bytes)) → IsBytes payload → IsBytes (sealed_body code seq payload)
sealed_are code seq payload codes h =
    let carried : List ℕ = word_bytes seq ++ payload in
    glued (opaque_bytes carried) (opaque_bytes (code carried)) (opaque_are carried (glued (word_bytes seq) payload (word_are seq) h))
    (opaque_are (code carried) (codes carried))

pub call_are : (mic : Mic) (side : Side) (xid : ℕ) (kind : CallKind) (args : List ℕ) → GivesBytes mic → IsBytes side.handle → IsBytes args
    → IsBytes (call_under mic side xid kind args).bytes
call_are mic side xid kind args gives h a =
    glued (call.spell _) (sealed_body (mic side.key INITIATOR) side.next args)
    (head_are _ (cred_are (call_cred side.handle side.next (asked_cred (gss_proc_of kind))) h) (gives side.key INITIATOR _))
    (sealed_are (mic side.key INITIATOR) side.next args (λ bytes. gives side.key INITIATOR bytes) a)

pub init_are : (xid : ℕ) (token : List ℕ) → IsBytes token → IsBytes (init_message xid token)
init_are xid token h =
    glued (call.spell (init_head xid)) (opaque_bytes token) (head_are (init_head xid) (cred_are (asked_cred RPCSEC_GSS_INIT) no_bytes) no_bytes)
    (opaque_are token h)
