-- Whatever happens to copies and to queues, they stay fit.
use Rattle.std.proofs.Common.{ℕ, zero, suc, Bool, true, false, List, [], ◌∷◌, ◌++◌, drop, Option, Some, None}
use Rattle.std.specs.Prelude.{◌==◌, IfSome, nat_lt}
use Rattle.std.specs.List.{AllByRecursion}
use Rattle.callbacks.specs.Callbacks.{Outcome, counted, evaluated, evaluated_by, if_ok, op_outcome, sequence_by, tail_outcome, walked}
use Rattle.caller_laws.specs.Fitting.ListLaws.{append_holds, same_holds, set_holds}
use Rattle.client_copies.specs.Held.{told_for}
use Rattle.client_copies.specs.Refusals.{refused_with}
use Rattle.client_copies.specs.Steps as steps
use Rattle.client_copies.specs.Steps.{after, asked_step, is_going}
use Rattle.client_copies.specs.Table.{Copies, accepted_at, copy_after, copy_at, held_if, named_by, no_copies, offloaded_to, released, told_at, told_held, with_begun}
use Rattle.client_copies.specs.declared.copy.ClientCopy.{ClientCopy}
use Rattle.client_copies.specs.declared.copy.First.{First}
use Rattle.client_copies.specs.declared.copy.Query.{Query}
use Rattle.client_copies.specs.declared.copy.Session.{Session}
use Rattle.client_copies.specs.declared.copy.Stage.{Stage}
use Rattle.client_copies.specs.declared.copy.Stage.TheVariants.{Due, Asked, Accepted, Over}
use Rattle.client_copies.specs.declared.copy.Step.{Step}
use Rattle.client_copies.specs.declared.copy.Step.TheVariants as named
use Rattle.client_copies.specs.declared.copy.Verdict.TheVariants as verdicts
use Rattle.client_copies.specs.declared.copy.Verdict.{Verdict}
use Rattle.client_copies.specs.declared.event.Event.{Event}
use Rattle.client_copies.specs.declared.event.Event.TheVariants as events
use Rattle.client_copies.specs.declared.held.HeldOffload.{HeldOffload}
use Rattle.client_copies.specs.declared.table.TheConstants.{MOST_COPIES}
use Rattle.client_copies.specs.declared.told.Said.{Said}
use Rattle.client_laws.specs.Bounds.Known.{CopiesAreFit, CopyIsFit, EventIsFit, FirstIsFit, QueueIsFit, SpecIsFit, WorkIsFit}
use Rattle.copy_ops.specs.declared.callback.OffloadEnd.{OffloadEnd}
use Rattle.copy_ops.specs.declared.callback.OffloadEnd.TheVariants as ends
use Rattle.file_ops.specs.declared.callbacks.CbSeq.{CbSeq}
use Rattle.nfs_base.specs.Bounds.{StateIdFits}
use Rattle.nfs_base.specs.declared.copy_spec.CopySpec.{CopySpec}
use Rattle.nfs_base.specs.declared.limits.TheConstants.{MOST_OPERATIONS}
use Rattle.nfs_base.specs.declared.side.Side.{Side}
use Rattle.nfs_base.specs.declared.state_id.StateId.{StateId}
use Rattle.nfs_base.specs.declared.status.Status.{Status}
use Rattle.nfs_base.specs.declared.written.Stability.{Stability}
use Rattle.nfs_base.specs.declared.written.Stability.TheVariants.{Unstable, DataSync, FileSync}
use Rattle.nfs_compound.specs.declared.cb_compound.CbCompound.{CbCompound}
use Rattle.nfs_compound.specs.declared.cb_op.CbOp.{CbOp}
use Rattle.nfs_compound.specs.declared.cb_op.CbOp.TheVariants as ops
use Rattle.nfs_compound.specs.declared.compound.TheConstants.{MINOR_VERSION}
use Rattle.nfs_compound.specs.declared.tail.Tail.{Tail}
use Rattle.nfs_compound.specs.declared.tail.Tail.TheVariants as tails
use Rattle.wire_xdr.specs.Cursor.{IsBytes}
use Rattle.write_queue.specs.Queue.{Queued, first}
use Rattle.write_queue.specs.Steps as works
use Rattle.write_queue.specs.declared.queue.Head.{Head}
use Rattle.write_queue.specs.declared.queue.Head.TheVariants as heads
use Rattle.write_queue.specs.declared.work.QueueEvent.{QueueEvent}
use Rattle.write_queue.specs.declared.work.QueueEvent.TheVariants as told
use Rattle.write_queue.specs.declared.work.Work.TheVariants.{Write, Commit}
use Rattle.write_queue.specs.declared.work.Work.{Work}

-- ---- one copy

moves_fits : (o : Option Step) (c : ClientCopy) → CopyIsFit c → CopyIsFit (steps.moves o c).1
moves_fits None c h = h
moves_fits (Some step) c h = h

opened_fits : (side : Side) (st : Stage) (c : ClientCopy) → CopyIsFit c → CopyIsFit (steps.on_opened side st c).1
opened_fits side (Due step) c h = moves_fits (steps.opened_to side step) c h
opened_fits side (Asked step) c h = moves_fits (steps.opened_to side step) c h
opened_fits side Accepted c h = h
opened_fits side (Over verdict) c h = h

sent_fits : (st : Stage) (c : ClientCopy) → CopyIsFit c → CopyIsFit (steps.on_sent st c).1
sent_fits (Due step) c h = h
sent_fits (Asked step) c h = h
sent_fits Accepted c h = h
sent_fits (Over verdict) c h = h

allowed_fits : (o : Option Step) (c : ClientCopy) → CopyIsFit c → CopyIsFit (steps.on_allowed o c).1
allowed_fits None c h = h
allowed_fits (Some named.AllowSource) c h = h
allowed_fits (Some named.AllowDest) c h = h
allowed_fits (Some _) c h = h

granted_fits : (known : First) (o : Option Step) (c : ClientCopy) → FirstIsFit known → CopyIsFit c → CopyIsFit (steps.on_granted known o c).1
granted_fits known None c f h = h
granted_fits known (Some named.Notify) c f h = record { asked = h.asked; are_bytes = h.are_bytes; told = f; name = h.name }
granted_fits known (Some _) c f h = h

accepted_fits : (id : StateId) (sent_at : ℕ) (o : Option Step) (c : ClientCopy) → StateIdFits id → CopyIsFit c → CopyIsFit (steps.on_accepted id sent_at o c).1
accepted_fits id sent_at None c i h = h
accepted_fits id sent_at (Some named.Copy) c i h = record { asked = h.asked; are_bytes = h.are_bytes; told = h.told; name = i }
accepted_fits id sent_at (Some _) c i h = h

last_fits : (change : ℕ) (session : Session) (o : Option Step) (c : ClientCopy) → CopyIsFit c → CopyIsFit (steps.on_told change session o c).1
last_fits change session None c h = h
last_fits change session (Some named.Last) c h = h
last_fits change session (Some _) c h = h

refused_fits : (status : Status) (o : Option Step) (c : ClientCopy) → CopyIsFit c → CopyIsFit (steps.on_refused status o c).1
refused_fits status None c h = h
refused_fits status (Some step) c h = h

queried_fits : (query : Query) (b : Bool) (c : ClientCopy) → CopyIsFit c → CopyIsFit (steps.on_queried query b c).1
queried_fits query true c h = h
queried_fits query false c h = h

completed_fits : (count : ℕ) (b : Bool) (status : Status) (c : ClientCopy) → CopyIsFit c → CopyIsFit (steps.completed count b status c).1
completed_fits count true status c h = h
completed_fits count false status c h = h

progressed_fits : (count : ℕ) (complete : Option Status) (b : Bool) (c : ClientCopy) → CopyIsFit c → CopyIsFit (steps.on_progressed count complete b c).1
progressed_fits count None true c h = h
progressed_fits count (Some status) true c h = completed_fits count (status.number == 0) status c h
progressed_fits count complete false c h = h

ended_fits : (verdict : Verdict) (b : Bool) (c : ClientCopy) → CopyIsFit c → CopyIsFit (steps.on_ended verdict b c).1
ended_fits verdict true c h = h
ended_fits verdict false c h = h

synced_fits : (s : Stability) (c : ClientCopy) → CopyIsFit c → CopyIsFit (steps.synced s c).1
synced_fits FileSync c h = h
synced_fits DataSync c h = h
synced_fits Unstable c h = h

offloaded_fits : (end : OffloadEnd) (b : Bool) (c : ClientCopy) → CopyIsFit c → CopyIsFit (steps.on_offloaded end b c).1
offloaded_fits (ends.Done response) true c h = synced_fits response.committed c h
offloaded_fits (ends.Failed status count) true c h = h
offloaded_fits end false c h = h

fails_fits : (b : Bool) (verdict : Verdict) (c : ClientCopy) → CopyIsFit c → CopyIsFit (steps.fails_if b verdict c).1
fails_fits true verdict c h = h
fails_fits false verdict c h = h

down_fits : (side : Side) (status : Status) (st : Stage) (c : ClientCopy) → CopyIsFit c → CopyIsFit (steps.stage_down side status st c).1
down_fits side status (Due step) c h = fails_fits _ _ c h
down_fits side status (Asked step) c h = fails_fits _ _ c h
down_fits side status Accepted c h = fails_fits _ _ c h
down_fits side status (Over verdict) c h = h

after_fits : (event : Event) (c : ClientCopy) → EventIsFit event → CopyIsFit c → CopyIsFit (after event c).1
unfolding after
after_fits (events.Opened side) c e h = opened_fits side c.stage c h
after_fits events.Sent c e h = sent_fits c.stage c h
after_fits events.Allowed c e h = allowed_fits (asked_step c.stage) c h
after_fits (events.Granted known) c e h = granted_fits known (asked_step c.stage) c e h
after_fits (events.Accepted id sent_at) c e h = accepted_fits id sent_at (asked_step c.stage) c e h
after_fits (events.Told change session) c e h = last_fits change session (asked_step c.stage) c h
after_fits (events.Refused why) c e h = refused_fits (refused_with why) (asked_step c.stage) c h
after_fits (events.Queried query) c e h = queried_fits query (is_going c.stage) c h
after_fits (events.Progressed count complete sent_at) c e h = progressed_fits count complete (is_going c.stage) (record c { query = None; asked_at = sent_at }) h
after_fits events.Cancelled c e h = ended_fits verdicts.Cancelled (is_going c.stage) (record c { query = None }) h
after_fits (events.QueryRefused why) c e h = ended_fits (verdicts.Failed (refused_with why)) (is_going c.stage) (record c { query = None }) h
after_fits (events.Offloaded end) c e h = offloaded_fits end (is_going c.stage) c h
after_fits (events.Down side status) c e h = down_fits side status c.stage (record c { query = steps.query_down side c.query }) h

-- ---- all copies

abbrev At : Option ClientCopy → Type 0
At o = IfSome o CopyIsFit

now_fits : (event : Event) (o : Option ClientCopy) → EventIsFit event → At o → At (copy_after event o)
now_fits event None e h = tt
now_fits event (Some c) e h = after_fits event c e h

pub told_fits : (j : ℕ) (event : Event) (t : Copies) → EventIsFit event → CopiesAreFit t → CopiesAreFit (told_at j event t).1
told_fits j event t e h = set_holds At None t.copies j (copy_after event (copy_at j t)) h (now_fits event (copy_at j t) e (h j))

pub begun_fits : (j : ℕ) (spec : CopySpec) (secret : List ℕ) (t : Copies) → SpecIsFit spec → IsBytes secret → CopiesAreFit t → CopiesAreFit (with_begun j spec secret t)
begun_fits j spec secret t s b h = set_holds At None t.copies j _ h (record { asked = s; are_bytes = b; told = tt; name = tt })

held_fits : (j : ℕ) (o : Option OffloadEnd) (said : Said) (t : Copies) → CopiesAreFit t → CopiesAreFit (told_held j o said t).1
held_fits j None said t h = h
held_fits j (Some end) said t h = told_fits j (events.Offloaded end) t tt h

pub named_fits : (j : ℕ) (id : StateId) (sent_at : ℕ) (t : Copies) → StateIdFits id → CopiesAreFit t → CopiesAreFit (accepted_at j id sent_at t).1
named_fits j id sent_at t i h =
    let o = told_at j (events.Accepted id sent_at) t in
    held_fits j (told_for id o.1.held) o.0 (released id o.1) (told_fits j (events.Accepted id sent_at) t i h)

if_held_fits : (b : Bool) (one : HeldOffload) (t : Copies) → CopiesAreFit t → CopiesAreFit (held_if b one t).1
if_held_fits true one t h = h
if_held_fits false one t h = h

offload_fits : (o : Option ℕ) (id : StateId) (end : OffloadEnd) (t : Copies) → CopiesAreFit t → CopiesAreFit (offloaded_to o id end t).1
offload_fits None id end t h = if_held_fits _ _ t h
offload_fits (Some j) id end t h = told_fits j (events.Offloaded end) t tt h

pub none_fit : CopiesAreFit no_copies
none_fit = same_holds At None None MOST_COPIES tt tt

-- ---- a CB_COMPOUND

sequence_fits : (a b : Bool) (args : CbSeq) (t : Copies) → CopiesAreFit t → CopiesAreFit (sequence_by a b args t).copies
sequence_fits false own args t h = h
sequence_fits true false args t h = h
sequence_fits true true args t h = h

op_fits : (session : Option (List ℕ)) (b : Bool) (op : CbOp) (t : Copies) → CopiesAreFit t → CopiesAreFit (op_outcome session b op t).copies
op_fits session b (ops.Sequence args) t h = sequence_fits b _ args t h
op_fits session true (ops.Offload args) t h = h
op_fits session false (ops.Offload args) t h = offload_fits (named_by args.id t) args.id args.end t h

tail_fits : (tail : Tail) (t : Copies) → CopiesAreFit t → CopiesAreFit (tail_outcome tail t).copies
tail_fits tails.Whole t h = h
tail_fits (tails.Unreadable place op at) t h = h
tail_fits (tails.Unsupported place op) t h = h
tail_fits (tails.Illegal place op) t h = h

if_ok_fits : (b : Bool) (o more : Outcome) → CopiesAreFit o.copies → CopiesAreFit more.copies → CopiesAreFit (if_ok b o more).copies
if_ok_fits true o more h k = k
if_ok_fits false o more h k = h

walked_fits : (session : Option (List ℕ)) (b : Bool) (list : List CbOp) (tail : Tail) (t : Copies) → CopiesAreFit t → CopiesAreFit (walked session b list tail t).copies
walked_fits session b [] tail t h = tail_fits tail t h
walked_fits session b (op ∷ more) tail t h =
    let o = op_outcome session b op t in
    let now = op_fits session b op t h in
    if_ok_fits (o.status.number == 0) o (walked session false more tail o.copies) now (walked_fits session false more tail o.copies now)

counted_fits : (b : Bool) (session : Option (List ℕ)) (c : CbCompound) (t : Copies) → CopiesAreFit t → CopiesAreFit (counted b session c t).copies
counted_fits true session c t h = h
counted_fits false session c t h = walked_fits session true c.ops c.tail t h

by_fits : (b : Bool) (session : Option (List ℕ)) (c : CbCompound) (t : Copies) → CopiesAreFit t → CopiesAreFit (evaluated_by b session c t).copies
by_fits true session c t h = counted_fits (nat_lt MOST_OPERATIONS c.count) session c t h
by_fits false session c t h = h

pub evaluated_fits : (session : Option (List ℕ)) (c : CbCompound) (t : Copies) → CopiesAreFit t → CopiesAreFit (evaluated session c t).copies
evaluated_fits session c t h = by_fits (c.minor == MINOR_VERSION) session c t h

-- ---- writes and commits

drop_fits : (n : ℕ) (xs : List Work) → AllByRecursion WorkIsFit xs → AllByRecursion WorkIsFit (drop n xs)
drop_fits zero xs h = h
drop_fits (suc n) [] h = h
drop_fits (suc n) (x ∷ xs) h = drop_fits n xs h.1

out_fits : (to head : Head) (o : Option Work) (q : Queued) → QueueIsFit q → QueueIsFit (works.goes_out to head o q).1
out_fits to heads.Due (Some work) q h = h
out_fits to heads.Due None q h = h
out_fits to heads.Opening o q h = h
out_fits to heads.Asked o q h = h

found_open_fits : (head : Head) (q : Queued) → QueueIsFit q → QueueIsFit (works.on_opened head q).1
found_open_fits heads.Due q h = h
found_open_fits heads.Opening q h = h
found_open_fits heads.Asked q h = h

written_fits : (count : ℕ) (verifier : List ℕ) (o : Option Work) (q : Queued) → QueueIsFit q → QueueIsFit (works.on_written count verifier o q).1
written_fits count verifier (Some (Write file offset bytes)) q h = drop_fits 1 q.works h
written_fits count verifier (Some (Commit file)) q h = h
written_fits count verifier None q h = h

committed_fits : (verifier : List ℕ) (o : Option Work) (q : Queued) → QueueIsFit q → QueueIsFit (works.on_committed verifier o q).1
committed_fits verifier (Some (Commit file)) q h = drop_fits 1 q.works h
committed_fits verifier (Some (Write file offset bytes)) q h = h
committed_fits verifier None q h = h

work_refused_fits : (status : Status) (o : Option Work) (q : Queued) → QueueIsFit q → QueueIsFit (works.on_refused status o q).1
work_refused_fits status None q h = h
work_refused_fits status (Some work) q h = drop_fits 1 q.works h

pub queue_fits : (event : QueueEvent) (q : Queued) → QueueIsFit q → QueueIsFit (works.after event q).1
unfolding works.after
queue_fits told.OpenSent q h = out_fits heads.Opening q.head (first q.works) q h
queue_fits told.Opened q h = found_open_fits q.head q h
queue_fits told.Sent q h = out_fits heads.Asked q.head (first q.works) q h
queue_fits (told.Written count verifier) q h = written_fits count verifier (works.asked q.head (first q.works)) q h
queue_fits (told.Committed verifier) q h = committed_fits verifier (works.asked q.head (first q.works)) q h
queue_fits (told.Refused status) q h = work_refused_fits status (works.awaited q.head (first q.works)) q h

pub queued_fits : (work : Work) (xs : List Work) → WorkIsFit work → AllByRecursion WorkIsFit xs → AllByRecursion WorkIsFit (xs ++ work ∷ [])
queued_fits work xs w h = append_holds WorkIsFit xs (work ∷ []) h (w, tt)

pub first_fits : (xs : List Work) → AllByRecursion WorkIsFit xs → IfSome (first xs) WorkIsFit
first_fits [] h = tt
first_fits (work ∷ xs) h = h.0
