-- What an answer of the source stops a job by is a status of four bytes.
use Rattle.std.proofs.Common.{◌≡◌, ℕ, ◌<◌, ◌^◌, Bool, true, false, List, ◌++◌, length, drop, replicate, Option, Some, None, Result, Ok, Err, refl, sym, subst, arith, lit<}
use Rattle.std.specs.Prelude.{◌==◌, ◌&&◌, not, if◌then◌else◌, nat_lt}
use Rattle.std.proofs.lemmas.Bool.{eqb-false}
use Rattle.std.proofs.lemmas.List.{drop_at, take_at}
use Rattle.call_results.specs.Results.{at, told_bytes, told_size}
use Rattle.dest_laws.proofs.names.Turns.{auth_small, past_small}
use Rattle.dest_laws.specs.Names.Causes.{Fails}
use Rattle.dest_laws.specs.Names.Posts.{FindFailures}
use Rattle.dest_steps.specs.Copier.{Codes}
use Rattle.dest_steps.specs.Replying.{taken_of as taken_for_place}
use Rattle.dest_steps.specs.declared.copier.Copier.{Copier}
use Rattle.dest_tasks.specs.Posts.{asks, is_confirm, post_at}
use Rattle.dest_tasks.specs.Seats.{was_denied}
use Rattle.dest_tasks.specs.declared.post.Errand.{Errand}
use Rattle.dest_tasks.specs.declared.post.Errand.TheVariants as errands
use Rattle.dest_work.specs.Findings.{answered, brought_by, by_status, denied_by, finding_of, is_unknown, refused_by, sized_by}
use Rattle.dest_work.specs.Work.{taken_by, taken_for}
use Rattle.dest_work.specs.declared.finding.Finding.TheVariants as findings
use Rattle.dest_work.specs.declared.work.Taken.{Taken}
use Rattle.dest_work.specs.declared.work.Work.{Work}
use Rattle.gss_ctx.specs.Replies.{checked_of, of_head, of_read, of_stat, result_of}
use Rattle.gss_ctx.specs.Seals.{Mic, is_code, two_opaques, unsealed}
use Rattle.gss_ctx.specs.declared.begin.Begun.{Begun}
use Rattle.gss_ctx.specs.declared.begin.Begun.TheVariants as begins
use Rattle.gss_ctx.specs.declared.caller.Awaited.{Awaited}
use Rattle.gss_ctx.specs.declared.caller.Checked.{Checked}
use Rattle.gss_ctx.specs.declared.caller.Checked.TheVariants as checked
use Rattle.job_table.specs.Table.{JobTable}
use Rattle.mount.specs.State.{Mounted, awaited_at, context_of, emptied, is_present}
use Rattle.mount.specs.Taking.{Means, after_call, after_create, after_init, after_reply, after_setup, after_step, by_aim, by_awaiting, by_context, by_pending, child_for, parent_of, taken_at}
use Rattle.mount.specs.declared.state.Aim.{Aim}
use Rattle.mount.specs.declared.state.Aim.TheVariants as aims
use Rattle.mount.specs.declared.state.Awaiting.{Awaiting}
use Rattle.mount.specs.declared.state.Context.{Context}
use Rattle.mount.specs.declared.state.Pending.{Pending}
use Rattle.mount.specs.declared.state.Pending.TheVariants.{Init, Under}
use Rattle.mount.specs.declared.state.Standing.{Standing}
use Rattle.mount.specs.declared.state.Standing.TheVariants as standings
use Rattle.mount.specs.declared.taking.Heard.{Heard}
use Rattle.mount.specs.declared.taking.Told.TheVariants as tells
use Rattle.mount.specs.declared.taking.Told.{Told}
use Rattle.nfs_base.specs.Forms.{status}
use Rattle.nfs_base.specs.declared.job.JobName.{JobName}
use Rattle.nfs_base.specs.declared.job.Stop.TheVariants.{PastEnd, SourceFailed, SourceRefused}
use Rattle.nfs_base.specs.declared.seal.Seal.{Seal}
use Rattle.nfs_base.specs.declared.status.Status.{Status}
use Rattle.nfs_base.specs.declared.status.TheConstants.Status.{SERVERFAULT}
use Rattle.nfs_compound.specs.Results.{reply}
use Rattle.nfs_compound.specs.declared.op.Op.{Op}
use Rattle.nfs_compound.specs.declared.reply.Reply.{Reply}
use Rattle.nfs_compound.specs.declared.res.Res.{Res}
use Rattle.rpc_msg.specs.Heads as heads
use Rattle.rpc_msg.specs.Messages.{head_told}
use Rattle.rpc_msg.specs.declared.auth.Auth.{Auth}
use Rattle.rpc_msg.specs.declared.messages.RpcFault.{RpcFault}
use Rattle.rpc_msg.specs.declared.numbers.TheConstants.{SUCCESS}
use Rattle.rpc_msg.specs.declared.reply.ReplyHead.{ReplyHead}
use Rattle.rpc_msg.specs.declared.reply.ReplyHead.TheVariants.{Accepted, Denied}
use Rattle.rpc_msg.specs.declared.reply.Stat.{Stat}
use Rattle.rpc_msg.specs.declared.reply.Stat.TheVariants.{Garbage, ProcUnavail, ProgMismatch, ProgUnavail, Success, SystemErr}
use Rattle.session_calls.specs.Answers.{is_answer}
use Rattle.session_client.specs.Answers.{answer_to, taken_by as answer_by, taken_of}
use Rattle.session_client.specs.Asked.{ops_of}
use Rattle.session_client.specs.Pending.{Asking, Beginning}
use Rattle.session_client.specs.Setup.{after_answer, created, exchanged, joined, registered}
use Rattle.session_client.specs.declared.answers.Taken.{Taken as Answered}
use Rattle.session_client.specs.declared.answers.Taken.TheVariants as answers
use Rattle.session_client.specs.declared.answers.TakenChild.{TakenChild}
use Rattle.session_client.specs.declared.answers.TakenChild.TheVariants as children
use Rattle.session_client.specs.declared.setup.Setup.{Setup}
use Rattle.session_client.specs.declared.setup.Setup.TheVariants as setups
use Rattle.wire_spelling.specs.ReadLaws.{unsealed_carried}
use Rattle.wire_spelling.specs.Slots.{carried_by}
use Rattle.wire_xdr.specs.All.{value_of}
use Rattle.wire_xdr.specs.AllLaws.{value_spelled}
use Rattle.wire_xdr.specs.Arms.{number_of}
use Rattle.wire_xdr.specs.Cursor.{IsBytes}
use Rattle.wire_xdr.specs.StepLaws.{IsBytes-drop, IsBytes-take}
use Rattle.wire_xdr.specs.Words.{fixed_bytes, opaque_bytes, padding, word_bytes}

-- ---- what a reply carries is bytes

first_bytes : (xs ys : List ℕ) → IsBytes (xs ++ ys) → IsBytes xs
first_bytes xs ys h = subst IsBytes (take_at xs ys (length xs) refl) (IsBytes-take (length xs) (xs ++ ys) h)

second_bytes : (xs ys : List ℕ) → IsBytes (xs ++ ys) → IsBytes ys
second_bytes xs ys h = subst IsBytes (drop_at xs ys (length xs) refl) (IsBytes-drop (length xs) (xs ++ ys) h)

fixed_are : (bytes : List ℕ) → IsBytes (fixed_bytes bytes) → IsBytes bytes
unfolding fixed_bytes
fixed_are bytes h = first_bytes bytes (replicate (padding (length bytes)) 0) h

opaque_are : (bytes : List ℕ) → IsBytes (opaque_bytes bytes) → IsBytes bytes
unfolding opaque_bytes
opaque_are bytes h = fixed_are bytes (second_bytes (word_bytes (length bytes)) (fixed_bytes bytes) h)

parts_are : (parts : List ℕ × List ℕ) (body : List ℕ) → body ≡ two_opaques.spell parts → IsBytes body → IsBytes parts.0
unfolding two_opaques
parts_are parts body is h = opaque_are parts.0 (first_bytes (opaque_bytes parts.0) (opaque_bytes parts.1) (subst IsBytes is h))

carried_are : (body : List ℕ) (parts : Option (List ℕ × List ℕ)) → value_of two_opaques body ≡ parts → IsBytes body → IsBytes (carried_by parts)
carried_are body None is h = λ i. omega arith
carried_are body (Some parts) is h = IsBytes-drop 4 parts.0 (parts_are parts body ((value_spelled two_opaques parts body h).0 is).1 h)

guarded : (a : Bool) (o : Option (List ℕ)) (result : List ℕ) → (if a then result_of o else checked.Unmatched) ≡ checked.Result result → o ≡ Some result
guarded true (Some x) result h = cc
guarded true None result h = absurd cc
guarded false o result h = absurd cc

found : (a : Bool) (c : Checked) (result : List ℕ) → (if a then c else checked.Unmatched) ≡ checked.Result result → c ≡ checked.Result result
found true c result h = h
found false c result h = absurd cc

module _ (mic : Mic) (key : List ℕ) (awaited : Awaited) (message : List ℕ) (all : IsBytes message) where
  stat_bytes : (at : ℕ) (verf : Auth) (stat : Stat) (result : List ℕ) → of_stat mic key awaited (drop at message) verf stat ≡ checked.Result result → IsBytes result
  stat_bytes at verf Success result h =
      let body : List ℕ = drop at message in
      let is = guarded (is_code verf awaited.code) (unsealed (mic key 1) awaited.seq body) result h in
      subst IsBytes (unsealed_carried (mic key 1) awaited.seq body result is) (carried_are body (value_of two_opaques body) refl (IsBytes-drop at message all))
  stat_bytes at verf ProgUnavail result h = absurd cc
  stat_bytes at verf (ProgMismatch low high) result h = absurd cc
  stat_bytes at verf ProcUnavail result h = absurd cc
  stat_bytes at verf Garbage result h = absurd cc
  stat_bytes at verf SystemErr result h = absurd cc

  head_bytes : (head : ReplyHead) (at : ℕ) (result : List ℕ) → of_head mic key awaited (drop at message) head ≡ checked.Result result → IsBytes result
  head_bytes (Accepted xid verf stat) at result h = stat_bytes at verf stat result (found (xid == awaited.xid) (of_stat mic key awaited (drop at message) verf stat) result h)
  head_bytes (Denied xid why) at result h = absurd (never (found (xid == awaited.xid) (checked.Denied why) result h))
    where
      never : checked.Denied why ≡ checked.Result result → ⊥
      never is = cc

  read_bytes : (read : Result (ReplyHead × ℕ) RpcFault) (result : List ℕ) → of_read mic key awaited message read ≡ checked.Result result → IsBytes result
  read_bytes (Ok head) result h = head_bytes head.0 head.1 result h
  read_bytes (Err fault) result h = absurd cc

  result_bytes : (result : List ℕ) → checked_of mic key awaited message ≡ checked.Result result → IsBytes result
  unfolding checked_of
  result_bytes result h = read_bytes (head_told heads.reply 0 message) result h

-- ---- so its status has four bytes

reply_small : (r : Reply) (body : List ℕ) → IsBytes body → value_of reply body ≡ Some r → r.status.number < 2 ^ 32
unfolding reply status
reply_small r body all is = ((value_spelled reply r body all).0 is).0.0

abbrev Small : Answered → Type 0
Small (answers.Answer r) = r.status.number < 2 ^ 32
Small _ = Unit {0}

answer_small : (ops : List Op) (r : Option Reply) → ((x : Reply) → r ≡ Some x → x.status.number < 2 ^ 32) → Small (answer_to ops r)
answer_small ops None is = tt
answer_small ops (Some r) is = by (is_answer ops r)
  where
    by : (b : Bool) → Small (if b then answers.Answer r else answers.Misspelt)
    by true = is r refl
    by false = tt

answered_small : (ops : List Op) (c : Checked) → ((body : List ℕ) → c ≡ checked.Result body → IsBytes body) → Small (answer_by ops c)
answered_small ops (checked.Result body) all = answer_small ops (value_of reply body) (λ r is. reply_small r body (all body refl) is)
answered_small ops (checked.Failed stat) all = tt
answered_small ops (checked.Denied why) all = tt
answered_small ops checked.Unmatched all = tt

taken_small : (mic : Mic) (key : List ℕ) (awaited : Awaited) (ops : List Op) (message : List ℕ) → IsBytes message → Small (taken_of mic key awaited ops message)
unfolding taken_of
taken_small mic key awaited ops message all = answered_small ops (checked_of mic key awaited message) (λ body is. result_bytes mic key awaited message all body is)

-- ---- and what the mount tells of it

abbrev ToldSmall : Told → Type 0
ToldSmall (tells.Stopped st) = st.number < 2 ^ 32
ToldSmall (tells.Answer r) = r.status.number < 2 ^ 32
ToldSmall _ = Unit {0}

abbrev HeardSmall : Heard × Mounted → Type 0
HeardSmall h = ToldSmall h.0.told

step_small : (r : Result Setup Status) (accepted : Option Seal) (m : Mounted) → ((st : Status) → r ≡ Err st → st.number < 2 ^ 32) → HeardSmall (after_step r accepted m)
step_small (Ok setup) accepted m small = tt
step_small (Err st) accepted m small = small st refl

err_is : (a st : Status) → ◌≡◌ {A = Result Setup Status} (Err a) (Err st) → st ≡ a
err_is a st is = cc

registered_is : (a st : Status) (client : Option (ℕ × ℕ)) → registered a client ≡ Err st → st ≡ a
registered_is a st None is = err_is a st is
registered_is a st (Some client) is = absurd cc

joined_is : (reclaims : Bool) (client : ℕ) (a st : Status) (session : Option (List ℕ)) → joined reclaims client a session ≡ Err st → st ≡ a
joined_is reclaims client a st None is = err_is a st is
joined_is reclaims client a st (Some session) is = absurd cc

reclaimed_is : (up : Setup) (a st : Status) (fine : Bool) → ◌≡◌ {A = Result Setup Status} (if fine then Ok up else Err a) (Err st) → st ≡ a
reclaimed_is up a st true is = absurd cc
reclaimed_is up a st false is = err_is a st is

after_is : (reclaims : Bool) (a st : Status) (results : List Res) (setup : Setup) → after_answer reclaims a results setup ≡ Err st → st ≡ a
unfolding after_answer
after_is reclaims a st results (setups.Rooted verifier) is = registered_is a st (exchanged results) is
after_is reclaims a st results (setups.Registered client sequence) is = joined_is reclaims client a st (created results) is
after_is reclaims a st results (setups.Joined client session) is = reclaimed_is (setups.Up client session) a st _ is
after_is reclaims a st results setups.Down is = absurd cc
after_is reclaims a st results (setups.Up client session) is = absurd cc

setup_small : (standing : Standing) (r : Reply) (accepted : Option Seal) (m : Mounted) → r.status.number < 2 ^ 32 → HeardSmall (after_setup standing r accepted m)
setup_small (standings.Down kept) r accepted m small = small
setup_small (standings.Rooted root) r accepted m small =
    step_small (after_answer m.reclaims r.status r.results root.setup) accepted m
    (λ st is. subst (λ (x : Status). x.number < 2 ^ 32) (sym (after_is m.reclaims r.status st r.results root.setup is)) small)

replied_small : (aim : Aim) (present : Bool) (r : Reply) (accepted : Option Seal) (m : Mounted) → r.status.number < 2 ^ 32 → HeardSmall (after_reply aim present r accepted m)
replied_small aims.Setup present r accepted m small = setup_small m.standing r accepted m small
replied_small (aims.Child child) present r accepted m small = small
replied_small aims.Slot present r accepted m small = small
replied_small aims.End present r accepted m small = small

call_small : (place : ℕ) (aim : Aim) (present : Bool) (seal : Seal) (t : Answered) (m : Mounted) → Small t → HeardSmall (after_call place aim present seal t m)
call_small place aim present seal (answers.Answer r) m small = replied_small aim present r (Some seal) (emptied place m) small
call_small place aim present seal answers.Misspelt m small = tt
call_small place aim present seal (answers.Failed stat) m small = tt
call_small place aim present seal (answers.Denied why) m small = tt
call_small place aim present seal answers.Unmatched m small = tt

child_small : (derived : List ℕ → ℕ → List ℕ → List ℕ) (place child xid : ℕ) (c : Context) (seal : Seal) (t : TakenChild) (m : Mounted)
    → HeardSmall (after_create derived place child (parent_of c) seal xid t m)
child_small derived place child xid c seal (children.Made handle) m = tt
child_small derived place child xid c seal (children.Refused major) m = tt
child_small derived place child xid c seal children.Misspelt m = tt
child_small derived place child xid c seal (children.Failed stat) m = tt
child_small derived place child xid c seal (children.Denied why) m = tt
child_small derived place child xid c seal children.Unmatched m = tt

init_small : (place : ℕ) (init : Beginning) (b : Begun) (m : Mounted) → HeardSmall (after_init place init b m)
init_small place init (begins.Made handle key) m = tt
init_small place init (begins.Refused major) m = tt
init_small place init (begins.Failed stat) m = tt
init_small place init (begins.Denied why) m = tt
init_small place init begins.Unmatched m = tt

module _ (means : Means) (place : ℕ) (message : List ℕ) (all : IsBytes message) where
  aim_small : (child : Option ℕ) (aim : Aim) (call : Asking) (c : Context) (m : Mounted) → HeardSmall (by_aim means place message child aim call c m)
  aim_small (Some child) aim call c m = child_small means.derived place child call.awaited.xid c call.seal _ m
  aim_small None aim call c m = call_small place aim (is_present m.standing c) call.seal _ m (taken_small means.mic c.caller.key call.awaited (ops_of call.asked) message all)

  context_small : (aim : Aim) (call : Asking) (c : Option Context) (m : Mounted) → HeardSmall (by_context means place message aim call c m)
  context_small aim call None m = tt
  context_small aim call (Some c) m = aim_small (child_for aim) aim call c m

  pending_small : (p : Pending) (m : Mounted) → HeardSmall (by_pending means place message p m)
  pending_small (Init init) m = init_small place init _ m
  pending_small (Under context aim call) m = context_small aim call (context_of context m.contexts) m

  awaiting_small : (a : Option Awaiting) (m : Mounted) → HeardSmall (by_awaiting means place message a m)
  awaiting_small None m = tt
  awaiting_small (Some a) m = pending_small a.pending m

  told_small : (m : Mounted) → HeardSmall (taken_at means place message m)
  told_small m = awaiting_small (awaited_at m place) m

-- ---- so does what stops the job

failed_small : (stat : ℕ) → Fails (SourceFailed stat)
failed_small stat status is = let same : SERVERFAULT ≡ status = cc in subst (λ (s : Status). (0 < s.number) × (s.number < 2 ^ 32)) same (lit< tt, lit< tt)

source_small : (st : Status) → 0 < st.number → st.number < 2 ^ 32 → Fails (SourceRefused st)
source_small st above small status is = let same : st ≡ status = cc in subst (λ (s : Status). (0 < s.number) × (s.number < 2 ^ 32)) same (above, small)

above_none : (n : ℕ) → (n == 0) ≡ false → 0 < n
above_none n is = omega (arith, eqb-false n 0 is)

sized_small : (size : Option ℕ) → FindFailures (sized_by size)
sized_small None = failed_small SUCCESS
sized_small (Some size) = tt

brought_small : (asked : ℕ) (bytes : Option (List ℕ)) → FindFailures (brought_by asked bytes)
brought_small asked None = failed_small SUCCESS
brought_small asked (Some bytes) = by (nat_lt asked (length bytes)) (nat_lt (length bytes) asked)
  where
    by : (more less : Bool) → FindFailures (if more then findings.Stops (SourceFailed SUCCESS) else (if less then findings.Stops PastEnd else findings.Brings bytes))
    by true less = failed_small SUCCESS
    by false true = past_small
    by false false = tt

found_small : (errand : Errand) (results : List Res) → FindFailures (answered errand results)
found_small errands.Setup results = tt
found_small errands.Confirm results = tt
found_small errands.Size results = sized_small (at 2 told_size results)
found_small (errands.Bytes chunk) results = brought_small chunk.len (at 2 told_bytes results)

status_small : (errand : Errand) (r : Reply) → r.status.number < 2 ^ 32 → FindFailures (by_status errand r)
status_small errand r small = by (r.status.number == 0) refl
  where
    by : (none : Bool) → (r.status.number == 0) ≡ none → FindFailures (if none then answered errand r.results else findings.Stops (SourceRefused r.status))
    by true is = found_small errand r.results
    by false is = source_small r.status (above_none r.status.number is) small

refused_small : (st : Status) → st.number < 2 ^ 32 → FindFailures (refused_by st)
refused_small st small = by (st.number == 0) refl
  where
    by : (none : Bool) → (st.number == 0) ≡ none → FindFailures (if none then findings.Stops (SourceFailed SUCCESS) else findings.Stops (SourceRefused st))
    by true is = failed_small SUCCESS
    by false is = source_small st (above_none st.number is) small

denied_small : (first : Bool) → FindFailures (denied_by first)
denied_small true = tt
denied_small false = auth_small

finding_small : (errand : Errand) (denied : Bool) (told : Told) → ToldSmall told → FindFailures (finding_of errand denied told)
finding_small errand denied tells.Unmatched small = tt
finding_small errand denied tells.Rooted small = tt
finding_small errand denied (tells.Child child) small = tt
finding_small errand denied (tells.Refused major) small = auth_small
finding_small errand denied tells.Stepped small = tt
finding_small errand denied (tells.Stopped st) small = refused_small st small
finding_small errand denied (tells.Answer r) small = status_small errand r small
finding_small errand denied tells.Misspelt small = failed_small SUCCESS
finding_small errand denied (tells.Failed stat) small = failed_small (number_of heads.stat_case stat)
finding_small errand denied (tells.Denied why) small = denied_small (is_confirm errand && (is_unknown why && not denied))

by_call : (place : ℕ) (t : JobTable) (w : Work) (heard : Heard × Mounted) (call : Option (JobName × Errand)) (u : Taken) → HeardSmall heard
    → taken_by place t w heard call ≡ Some u → FindFailures u.finding
by_call place t w heard None u small is = absurd cc
by_call place t w heard (Some call) u small is =
    let same : taken_for place call.0 call.1 t w heard ≡ u = some_is _ u is in
    subst (λ (x : Taken). FindFailures x.finding) same (finding_small call.1 (was_denied call.0.number w.seats) heard.0.told small)
  where
    some_is : (a b : Taken) → ◌≡◌ {A = Option Taken} (Some a) (Some b) → a ≡ b
    some_is a b is = cc

pub answers_small : (codes : Codes) (finished : List ℕ → List ℕ → Option (List ℕ)) (place : ℕ) (message : List ℕ) (x : Copier) (u : Taken) → IsBytes message
    → taken_for_place codes finished place message x ≡ Some u → FindFailures u.finding
answers_small codes finished place message x u all is =
    let means : Means = record { mic = codes.mic; derived = codes.derived; finished = finished } in
    by_call place x.copies.book.table x.work (taken_at means place message x.work.mount) (asks (post_at x.work.workers place)) u
    (told_small means place message all x.work.mount) is
