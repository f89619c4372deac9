-- What a mount is told as an answer is the reply that it awaited, and what the reply's results spell.
use Rattle.std.proofs.Common.{◌≡◌, ◌∙◌, ℕ, Bool, true, false, List, ◌++◌, drop, Option, Some, None, Result, Ok, Err, refl, ap, subst}
use Rattle.std.specs.Prelude.{◌==◌, if◌then◌else◌}
use Rattle.std.proofs.lemmas.Bool.{eqb-true}
use Rattle.caller_laws.proofs.Replied.{guarded, unless_spelled, xid_spelled}
use Rattle.caller_laws.specs.Answers.Awaited.{IsAwaited}
use Rattle.gss_ctx.specs.Replies.{checked_of, of_head, of_read}
use Rattle.gss_ctx.specs.Seals.{Mic, is_code, unsealed}
use Rattle.gss_ctx.specs.Table.{ContextTable}
use Rattle.gss_ctx.specs.declared.begin.Begun.{Begun}
use Rattle.gss_ctx.specs.declared.begin.Begun.TheVariants as begins
use Rattle.gss_ctx.specs.declared.caller.Awaited.{Awaited}
use Rattle.gss_ctx.specs.declared.caller.Checked.{Checked}
use Rattle.gss_ctx.specs.declared.caller.Checked.TheVariants as checked
use Rattle.mount.specs.State.{Mounted, awaited_at, context_of, emptied, is_present, pending_at, pending_in}
use Rattle.mount.specs.Taking.{Means, after_call, after_create, after_init, after_reply, after_setup, after_step, by_aim, by_awaiting, by_context, by_pending, child_for, parent_of, taken_at}
use Rattle.mount.specs.declared.state.Aim.{Aim}
use Rattle.mount.specs.declared.state.Aim.TheVariants as aims
use Rattle.mount.specs.declared.state.Awaiting.{Awaiting}
use Rattle.mount.specs.declared.state.Context.{Context}
use Rattle.mount.specs.declared.state.Pending.{Pending}
use Rattle.mount.specs.declared.state.Pending.TheVariants.{Init, Under}
use Rattle.mount.specs.declared.state.Standing.{Standing}
use Rattle.mount.specs.declared.state.Standing.TheVariants.{Down, Rooted}
use Rattle.mount.specs.declared.taking.Heard.{Heard}
use Rattle.mount.specs.declared.taking.Told.TheVariants as told_as
use Rattle.nfs_base.specs.declared.seal.Seal.{Seal}
use Rattle.nfs_base.specs.declared.status.Status.{Status}
use Rattle.nfs_compound.specs.Results as results
use Rattle.nfs_compound.specs.declared.op.Op.{Op}
use Rattle.nfs_compound.specs.declared.reply.Reply.{Reply}
use Rattle.rpc_calls.specs.Judging.{judged_of, record_read, reply_read}
use Rattle.rpc_calls.specs.declared.call.Judged.TheVariants as judged
use Rattle.rpc_calls.specs.declared.call.Program.{Program}
use Rattle.rpc_msg.specs.Heads.{call, reply}
use Rattle.rpc_msg.specs.Messages.{behind, first, head_told, kind_of, unless_other}
use Rattle.rpc_msg.specs.declared.messages.RpcFault.{RpcFault}
use Rattle.rpc_msg.specs.declared.reply.Denial.{Denial}
use Rattle.rpc_msg.specs.declared.reply.ReplyHead.{ReplyHead}
use Rattle.rpc_msg.specs.declared.reply.ReplyHead.TheVariants.{Accepted, Denied}
use Rattle.rpc_msg.specs.declared.reply.Stat.{Stat}
use Rattle.rpc_msg.specs.declared.reply.Stat.TheVariants.{Success, ProgUnavail, ProgMismatch, ProcUnavail, Garbage, SystemErr}
use Rattle.session_calls.specs.Answers.{is_answer}
use Rattle.session_client.specs.Answers.{answer_to, child_of, taken_by, taken_of}
use Rattle.session_client.specs.Asked.{ops_of}
use Rattle.session_client.specs.Pending.{Asking, Beginning}
use Rattle.session_client.specs.Setup.{after_answer}
use Rattle.session_client.specs.declared.answers.Taken.{Taken}
use Rattle.session_client.specs.declared.answers.Taken.TheVariants as answers
use Rattle.session_client.specs.declared.answers.TakenChild.{TakenChild}
use Rattle.session_client.specs.declared.answers.TakenChild.TheVariants as children
use Rattle.session_client.specs.declared.setup.Setup.{Setup}
use Rattle.wire_spelling.specs.Calls.{xid_in}
use Rattle.wire_spelling.specs.ReadLaws.{unsealed_carried}
use Rattle.wire_spelling.specs.Replies.{is_read, is_reply, results_of, results_read}
use Rattle.wire_xdr.specs.All.{value_of}
use Rattle.wire_xdr.specs.Cursor.{IsBytes}
use Rattle.wire_xdr.specs.Words.{word_bytes}

-- ---- a reply that was read

kind_spelled : (head : ReplyHead) (rest : List ℕ) → kind_of (reply.spell head ++ rest) ≡ Some 1
unfolding reply word_bytes
kind_spelled head rest = refl

-- a reply is judged one
pub reply_judged : {P : Type 0} (mic : Mic) (now : ℕ) (program : Program) (bytes : List ℕ) (table : ContextTable P) → IsBytes bytes → is_reply bytes ≡ true
    → judged_of mic now program bytes table ≡ judged.Reply
reply_judged {P = P} mic now program bytes table all is = by (head_told reply 0 bytes) refl is
  where
    by : (told : Result (ReplyHead × ℕ) RpcFault) → head_told reply 0 bytes ≡ told → is_read told ≡ true → judged_of mic now program bytes table ≡ judged.Reply
    by (Ok read) told so =
        let s = unless_spelled bytes (kind_of bytes) read told all in
        let kind : kind_of bytes ≡ Some 1 = ap kind_of s.is ∙ kind_spelled read.0 s.rest in
        ap (λ (k : Option ℕ). record_read mic now program bytes table (unless_other 1 k (behind (call.read (first bytes))))) kind ∙ ap reply_read told
    by (Err fault) told so = absurd cc

-- ---- the result under a seal

record IsResult (xid : ℕ) (bytes result : List ℕ) : Type 0 where
  read : ReplyHead × ℕ
  told : head_told reply 0 bytes ≡ Ok read
  xid_is : xid_in bytes ≡ xid
  results : results_of bytes ≡ result

failed_never : {A : Type 0} (a : Bool) (stat : Stat) (result : List ℕ) → (if a then checked.Failed stat else checked.Unmatched) ≡ checked.Result result → A
failed_never true stat result h = absurd cc
failed_never false stat result h = absurd cc

denied_never : {A : Type 0} (a : Bool) (why : Denial) (result : List ℕ) → (if a then checked.Denied why else checked.Unmatched) ≡ checked.Result result → A
denied_never true why result h = absurd cc
denied_never false why result h = absurd cc

module _ (mic : Mic) (key : List ℕ) (awaited : Awaited) (bytes : List ℕ) (all : IsBytes bytes) where
  result_by : (head : ReplyHead) (at : ℕ) (result : List ℕ) → head_told reply 0 bytes ≡ Ok (head, at) → of_head mic key awaited (drop at bytes) head ≡ checked.Result result
      → IsResult awaited.xid bytes result
  result_by (Accepted xid verf Success) at result told h =
      let parts = guarded (xid == awaited.xid) (is_code verf awaited.code) (unsealed (mic key 1) awaited.seq (drop at bytes)) result h in
      let s = unless_spelled bytes (kind_of bytes) (Accepted xid verf Success, at) told all in
      record {
        read = (Accepted xid verf Success, at);
        told = told;
        xid_is = ap xid_in s.is ∙ xid_spelled (Accepted xid verf Success) s.rest s.fits ∙ eqb-true xid awaited.xid parts.0;
        results = ap (results_read bytes) told ∙ unsealed_carried (mic key 1) awaited.seq (drop at bytes) result parts.1;
      }
  result_by (Accepted xid verf ProgUnavail) at result told h = failed_never (xid == awaited.xid) ProgUnavail result h
  result_by (Accepted xid verf (ProgMismatch low high)) at result told h = failed_never (xid == awaited.xid) (ProgMismatch low high) result h
  result_by (Accepted xid verf ProcUnavail) at result told h = failed_never (xid == awaited.xid) ProcUnavail result h
  result_by (Accepted xid verf Garbage) at result told h = failed_never (xid == awaited.xid) Garbage result h
  result_by (Accepted xid verf SystemErr) at result told h = failed_never (xid == awaited.xid) SystemErr result h
  result_by (Denied xid why) at result told h = denied_never (xid == awaited.xid) why result h

  result_read : (told : Result (ReplyHead × ℕ) RpcFault) (result : List ℕ) → head_told reply 0 bytes ≡ told → of_read mic key awaited bytes told ≡ checked.Result result
      → IsResult awaited.xid bytes result
  result_read (Ok read) result told h = result_by read.0 read.1 result told h
  result_read (Err fault) result told h = absurd cc

  checked_result : (result : List ℕ) → checked_of mic key awaited bytes ≡ checked.Result result → IsResult awaited.xid bytes result
  unfolding checked_of
  checked_result result h = result_read (head_told reply 0 bytes) result refl h

-- ---- the answer to a compound

pub record IsAnswerOf (xid : ℕ) (ops : List Op) (bytes : List ℕ) (told : Reply) : Type 0 where
  pub read : ReplyHead × ℕ
  pub read_is : head_told reply 0 bytes ≡ Ok read
  pub xid_is : xid_in bytes ≡ xid
  pub says : value_of results.reply (results_of bytes) ≡ Some told
  pub answers : is_answer ops told ≡ true

answer_if : (xid : ℕ) (ops : List Op) (bytes body : List ℕ) (made told : Reply) (b : Bool) → is_answer ops made ≡ b → (if b then answers.Answer made else answers.Misspelt) ≡ answers.Answer told
    → IsResult xid bytes body → value_of results.reply body ≡ Some made → IsAnswerOf xid ops bytes told
answer_if xid ops bytes body made told true is h r value =
    let same : made ≡ told = cc in
    subst (IsAnswerOf xid ops bytes) same
    (record { read = r.read; read_is = r.told; xid_is = r.xid_is; says = ap (λ (b : List ℕ). value_of results.reply b) r.results ∙ value; answers = is })
answer_if xid ops bytes body made told false is h r value = absurd cc

answer_by : (xid : ℕ) (ops : List Op) (bytes body : List ℕ) (told : Reply) (o : Option Reply) → answer_to ops o ≡ answers.Answer told → IsResult xid bytes body → value_of results.reply body ≡ o
    → IsAnswerOf xid ops bytes told
answer_by xid ops bytes body told None h r value = absurd cc
answer_by xid ops bytes body told (Some made) h r value = answer_if xid ops bytes body made told (is_answer ops made) refl h r value

checked_answer : (mic : Mic) (key : List ℕ) (awaited : Awaited) (ops : List Op) (bytes : List ℕ) (told : Reply) (o : Checked) → IsBytes bytes → checked_of mic key awaited bytes ≡ o
    → taken_by ops o ≡ answers.Answer told → IsAnswerOf awaited.xid ops bytes told
checked_answer mic key awaited ops bytes told (checked.Result body) all is h =
    answer_by awaited.xid ops bytes body told (value_of results.reply body) h (checked_result mic key awaited bytes all body is) refl
checked_answer mic key awaited ops bytes told (checked.Failed stat) all is h = absurd cc
checked_answer mic key awaited ops bytes told (checked.Denied why) all is h = absurd cc
checked_answer mic key awaited ops bytes told checked.Unmatched all is h = absurd cc

pub taken_answer : (mic : Mic) (key : List ℕ) (awaited : Awaited) (ops : List Op) (bytes : List ℕ) (told : Reply) → IsBytes bytes → taken_of mic key awaited ops bytes ≡ answers.Answer told
    → IsAnswerOf awaited.xid ops bytes told
unfolding taken_of
taken_answer mic key awaited ops bytes told all h = checked_answer mic key awaited ops bytes told (checked_of mic key awaited bytes) all refl h

-- ---- at a mount

abbrev Told : Heard × Mounted → Reply → Type 0
Told o told = o.0.told ≡ told_as.Answer told

init_never : {A : Type 0} (place : ℕ) (init : Beginning) (begun : Begun) (m : Mounted) (told : Reply) → Told (after_init place init begun m) told → A
init_never place init (begins.Made handle key) m told h = absurd cc
init_never place init (begins.Refused major) m told h = absurd cc
init_never place init (begins.Failed stat) m told h = absurd cc
init_never place init (begins.Denied why) m told h = absurd cc
init_never place init begins.Unmatched m told h = absurd cc

create_never : {A : Type 0} (derived : List ℕ → ℕ → List ℕ → List ℕ) (place child : ℕ) (c : Context) (seal : Seal) (xid : ℕ) (taken : TakenChild) (m : Mounted) (told : Reply)
    → Told (after_create derived place child (parent_of c) seal xid taken m) told → A
create_never derived place child c seal xid (children.Made handle) m told h = absurd cc
create_never derived place child c seal xid (children.Refused major) m told h = absurd cc
create_never derived place child c seal xid children.Misspelt m told h = absurd cc
create_never derived place child c seal xid (children.Failed stat) m told h = absurd cc
create_never derived place child c seal xid (children.Denied why) m told h = absurd cc
create_never derived place child c seal xid children.Unmatched m told h = absurd cc

-- it is this answer, accepted under the seal
record IsSame (o : Heard × Mounted) (made told : Reply) (seal : Seal) : Type 0 where
  same : made ≡ told
  accepted : o.0.accepted ≡ Some seal

step_never : {A : Type 0} (o : Result Setup Status) (accepted : Option Seal) (m : Mounted) (told : Reply) → Told (after_step o accepted m) told → A
step_never (Ok setup) accepted m told h = absurd cc
step_never (Err status) accepted m told h = absurd cc

setup_same : (st : Standing) (made told : Reply) (seal : Seal) (m : Mounted) → Told (after_setup st made (Some seal) m) told → IsSame (after_setup st made (Some seal) m) made told seal
setup_same (Down kept) made told seal m h = record { same = cc; accepted = refl }
setup_same (Rooted root) made told seal m h = step_never (after_answer m.reclaims made.status made.results root.setup) (Some seal) m told h

reply_same : (aim : Aim) (present : Bool) (made told : Reply) (seal : Seal) (m : Mounted) → Told (after_reply aim present made (Some seal) m) told
    → IsSame (after_reply aim present made (Some seal) m) made told seal
reply_same aims.Setup present made told seal m h = setup_same m.standing made told seal m h
reply_same (aims.Child child) present made told seal m h = record { same = cc; accepted = refl }
reply_same aims.Slot present made told seal m h = record { same = cc; accepted = refl }
reply_same aims.End present made told seal m h = record { same = cc; accepted = refl }

record IsTaken (taken : Taken) (o : Heard × Mounted) (told : Reply) (seal : Seal) : Type 0 where
  is : taken ≡ answers.Answer told
  accepted : o.0.accepted ≡ Some seal

call_taken : (place : ℕ) (aim : Aim) (present : Bool) (seal : Seal) (taken : Taken) (m : Mounted) (told : Reply) → Told (after_call place aim present seal taken m) told
    → IsTaken taken (after_call place aim present seal taken m) told seal
call_taken place aim present seal (answers.Answer made) m told h =
    let s = reply_same aim present made told seal (emptied place m) h in
    record { is = ap (λ (r : Reply). answers.Answer r) s.same; accepted = s.accepted }
call_taken place aim present seal answers.Misspelt m told h = absurd cc
call_taken place aim present seal (answers.Failed stat) m told h = absurd cc
call_taken place aim present seal (answers.Denied why) m told h = absurd cc
call_taken place aim present seal answers.Unmatched m told h = absurd cc

-- what was awaited there
pub record IsAwaitedAt (means : Means) (place : ℕ) (message : List ℕ) (m : Mounted) (told : Reply) (o : Heard × Mounted) : Type 0 where
  pub context : ℕ
  pub aim : Aim
  pub asking : Asking
  pub under : Context
  pub awaited : pending_at m place ≡ Some (Under context aim asking)
  pub there : context_of context m.contexts ≡ Some under
  pub taken : taken_of means.mic under.caller.key asking.awaited (ops_of asking.asked) message ≡ answers.Answer told
  pub accepted : o.0.accepted ≡ Some asking.seal

aim_awaits : (means : Means) (place : ℕ) (message : List ℕ) (child : Option ℕ) (context : ℕ) (aim : Aim) (asking : Asking) (c : Context) (m : Mounted) (told : Reply)
    → pending_at m place ≡ Some (Under context aim asking) → context_of context m.contexts ≡ Some c → Told (by_aim means place message child aim asking c m) told
    → IsAwaitedAt means place message m told (by_aim means place message child aim asking c m)
aim_awaits means place message (Some child) context aim asking c m told awaited there h =
    create_never means.derived place child c asking.seal asking.awaited.xid (child_of means.mic c.caller.key asking.awaited message) m told h
aim_awaits means place message None context aim asking c m told awaited there h =
    let t = call_taken place aim (is_present m.standing c) asking.seal (taken_of means.mic c.caller.key asking.awaited (ops_of asking.asked) message) m told h in
    record { context = context; aim = aim; asking = asking; under = c; awaited = awaited; there = there; taken = t.is; accepted = t.accepted }

context_awaits : (means : Means) (place : ℕ) (message : List ℕ) (context : ℕ) (aim : Aim) (asking : Asking) (o : Option Context) (m : Mounted) (told : Reply)
    → pending_at m place ≡ Some (Under context aim asking) → context_of context m.contexts ≡ o → Told (by_context means place message aim asking o m) told
    → IsAwaitedAt means place message m told (by_context means place message aim asking o m)
context_awaits means place message context aim asking None m told awaited there h = absurd cc
context_awaits means place message context aim asking (Some c) m told awaited there h = aim_awaits means place message (child_for aim) context aim asking c m told awaited there h

pending_awaits : (means : Means) (place : ℕ) (message : List ℕ) (p : Pending) (m : Mounted) (told : Reply) → pending_at m place ≡ Some p → Told (by_pending means place message p m) told
    → IsAwaitedAt means place message m told (by_pending means place message p m)
pending_awaits means place message (Init init) m told awaited h = init_never place init _ m told h
pending_awaits means place message (Under context aim asking) m told awaited h =
    context_awaits means place message context aim asking (context_of context m.contexts) m told awaited refl h

awaits_by : (means : Means) (place : ℕ) (message : List ℕ) (o : Option Awaiting) (m : Mounted) (told : Reply) → awaited_at m place ≡ o → Told (by_awaiting means place message o m) told
    → IsAwaitedAt means place message m told (by_awaiting means place message o m)
awaits_by means place message None m told at h = absurd cc
awaits_by means place message (Some a) m told at h = pending_awaits means place message a.pending m told (ap pending_in at) h

pub awaited_there : (means : Means) (place : ℕ) (message : List ℕ) (m : Mounted) (told : Reply) → (taken_at means place message m).0.told ≡ told_as.Answer told
    → IsAwaitedAt means place message m told (taken_at means place message m)
awaited_there means place message m told h = awaits_by means place message (awaited_at m place) m told refl h

pub awaited_so : (means : Means) (place : ℕ) (message : List ℕ) (m : Mounted) (told : Reply) → IsBytes message → (taken_at means place message m).0.told ≡ told_as.Answer told
    → IsAwaited means place message m told
awaited_so means place message m told all is =
    let a = awaited_there means place message m told is in
    let of = taken_answer means.mic a.under.caller.key a.asking.awaited (ops_of a.asking.asked) message told all a.taken in
    record {
      context = a.context;
      aim = a.aim;
      asking = a.asking;
      under = a.under;
      awaited = a.awaited;
      there = a.there;
      is_reply = ap is_read of.read_is;
      xid = of.xid_is;
      accepted = a.accepted;
      answers = of.answers;
      says = of.says;
    }
