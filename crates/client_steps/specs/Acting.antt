-- The desk with what the queues are to be; how works go out, and how a setup goes down or begins.
use Rattle.std.specs.Prelude.{ℕ, ◌≡◌, ◌||◌, ◌&&◌, nat_le, is_some, Bool, true, false, length, List, [], ◌∷◌, ◌++◌, Option, Some, None, option_map}
use Rattle.gss_ctx.specs.Seals.{Mic}
use Rattle.nfs_base.specs.declared.limits.TheConstants.{DATA_LIMIT}
use Rattle.nfs_base.specs.declared.side.Side.{Side}
use Rattle.nfs_base.specs.declared.side.Side.TheVariants.{Source, Dest}
use Rattle.nfs_base.specs.declared.status.Status.{Status}
use Rattle.nfs_base.specs.declared.status.TheConstants.Status as statuses
use Rattle.streams.specs.declared.draws.Drawn.{Drawn}
use Rattle.streams.specs.declared.draws.Drawn.TheVariants.{Got, Failed}
use Rattle.client_copies.specs.declared.event.Event.TheVariants as events
use Rattle.client_site.specs.Falling.{gone_down}
use Rattle.client_site.specs.Sending.{may_begin}
use Rattle.client_site.specs.Sites.{file_at}
use Rattle.client_site.specs.declared.site.OpenFile.{OpenFile}
use Rattle.mount.specs.declared.calling.Under.TheVariants.{Root}
use Rattle.outbox.specs.declared.note.Note.{Note}
use Rattle.outbox.specs.declared.note.Note.TheVariants as notes
use Rattle.session_calls.specs.declared.slot_call.FileCall.TheVariants as asks
use Rattle.session_calls.specs.declared.slot_call.SlotCall.{SlotCall}
use Rattle.session_calls.specs.declared.slot_call.SlotCall.TheVariants as calls
use Rattle.write_queue.specs.Plan.{planned}
use Rattle.write_queue.specs.Queue.{Queued, due, emptied, file_of, first, refusals}
use Rattle.write_queue.specs.Steps.{after}
use Rattle.write_queue.specs.declared.queue.Head.{Head}
use Rattle.write_queue.specs.declared.queue.Head.TheVariants as heads
use Rattle.write_queue.specs.declared.work.Line.{Line}
use Rattle.write_queue.specs.declared.work.Line.TheVariants as lines
use Rattle.write_queue.specs.declared.work.QueueEvent.{QueueEvent}
use Rattle.write_queue.specs.declared.work.QueueEvent.TheVariants as works
use Rattle.write_queue.specs.declared.work.Work.{Work}
use Rattle.write_queue.specs.declared.work.Work.TheVariants.{Write, Commit}
use Rattle.client_steps.specs.Calling.{call_sent, begin_sent}
use Rattle.client_steps.specs.CopySteps.{all_copies, copies_go_on, file_on, is_up, some_needs, some_opens}
use Rattle.client_steps.specs.Desks.{noted, send_at, site_at, told_to, with_site}
use Rattle.client_steps.specs.Setting.{open_call}
use Rattle.client_steps.specs.declared.acting.Course.{Course}
use Rattle.client_steps.specs.declared.acting.Queues.{Queues}
use Rattle.client_steps.specs.declared.copy_steps.Openings.{Openings}
use Rattle.client_steps.specs.declared.desk.Desk.{Desk}
use Rattle.client_steps.specs.declared.setting.Setting.{Setting}

pub record Acting : Type 0 where
  pub desk : Desk
  pub source_queue : Queued
  pub dest_queue : Queued

abbrev pub acting : Queues → Course → Acting
acting queues c = record {
  desk = c.desk;
  source_queue = planned c.source_plan queues.source;
  dest_queue = planned c.dest_plan queues.dest;
}

abbrev pub queue_at : Side → Acting → Queued
queue_at Source a = a.source_queue
queue_at Dest a = a.dest_queue

-- at one server this, and at the other what was there
abbrev pub source_or : Side → Queued → Queued → Queued
source_or Source q other = q
source_or Dest q other = other

abbrev pub dest_or : Side → Queued → Queued → Queued
dest_or Source q other = other
dest_or Dest q other = q

abbrev pub with_queue : Side → Queued → Acting → Acting
with_queue side q a = record a { source_queue = source_or side q a.source_queue; dest_queue = dest_or side q a.dest_queue }

abbrev pub with_desk : Desk → Acting → Acting
with_desk d a = record a { desk = d }

abbrev pub due_at : Side → Acting → Option Work
due_at side a = due (queue_at side a)

-- ---- what is told of works

abbrev pub line_note : Side → Line → Note
line_note side (lines.Written file count) = notes.Written side file count
line_note side (lines.Committed file same) = notes.Commit side file same
line_note side (lines.Refused file status) = notes.Refused side file status

abbrev pub line_noted : Side → Option Line → Desk → Desk
line_noted side None d = d
line_noted side (Some line) d = noted (line_note side line) d

abbrev pub lines_noted : Side → List Line → Desk → Desk
lines_noted side [] d = d
lines_noted side (line ∷ more) d = lines_noted side more (noted (line_note side line) d)

-- something happens to a queue's first work
abbrev pub queue_told : Side → QueueEvent → Acting → Acting
queue_told side event a =
    with_queue side (after event (queue_at side a)).1 (with_desk (line_noted side (after event (queue_at side a)).0 a.desk) a)

-- ---- works go out, each once its file is open

abbrev pub write_call : Bool → OpenFile → ℕ → List ℕ → Option SlotCall
write_call true opened_file offset bytes = Some (calls.OnFile opened_file.handle (asks.Write opened_file.id offset bytes))
write_call false opened_file offset bytes = None

abbrev pub work_call : OpenFile → Work → Option SlotCall
work_call opened_file (Write file offset bytes) = write_call (nat_le (length bytes) DATA_LIMIT) opened_file offset bytes
work_call opened_file (Commit file) = Some (calls.OnFile opened_file.handle asks.Commit)

abbrev pub told_if : Bool → Side → QueueEvent → Acting → Acting
told_if true side event a = queue_told side event a
told_if false side event a = a

abbrev pub sent_work : Side → QueueEvent → Bool × Desk → Acting → Acting
sent_work side event o a = told_if o.0 side event (with_desk o.1 a)

abbrev pub called_for : Mic → Side → Option SlotCall → QueueEvent → Acting → Acting
called_for mic side call event a = sent_work side event (call_sent mic side 0 Root call a.desk) a

abbrev pub open_if : {M : Type 0} → Bool → Setting M → Mic → Side → ℕ → Acting → Acting
open_if true s mic side file a = a
open_if false s mic side file a = called_for mic side (open_call s.me file (site_at side a.desk)) works.OpenSent a

abbrev pub opens_for : {M : Type 0} → Setting M → Mic → Side → ℕ → Acting → Acting
opens_for s mic side file a = open_if (some_opens side file all_copies a.desk) s mic side file a

abbrev pub work_sent : {M : Type 0} → Setting M → Mic → Side → Work → Option OpenFile → Acting → Acting
work_sent s mic side work None a = opens_for s mic side (file_of work) a
work_sent s mic side work (Some opened_file) a = called_for mic side (work_call opened_file work) works.Sent a

abbrev pub work_due : {M : Type 0} → Setting M → Mic → Side → Option Work → Acting → Acting
work_due s mic side None a = a
work_due s mic side (Some work) a = work_sent s mic side work (file_on side (file_of work) a.desk) a

abbrev pub work_if : {M : Type 0} → Bool → Setting M → Mic → Side → Acting → Acting
work_if false s mic side a = a
work_if true s mic side a = work_due s mic side (due (queue_at side a)) a

abbrev pub queue_goes_on : {M : Type 0} → Setting M → Mic → Side → Acting → Acting
queue_goes_on s mic side a = work_if (is_up side a.desk) s mic side a

-- ---- all that waits goes on: the queues, then the copies by number

abbrev pub opening_by : Head → Option Work → Option ℕ
opening_by heads.Due work = None
opening_by heads.Opening work = option_map file_of work
opening_by heads.Asked work = None

abbrev pub opening_in : Queued → Option ℕ
opening_in q = opening_by q.head (first q.works)

abbrev pub openings : Acting → Openings
openings a = record { source = opening_in a.source_queue; dest = opening_in a.dest_queue }

abbrev pub copies_on : {M : Type 0} → Setting M → Mic → Acting → Acting
copies_on s mic a = with_desk (copies_go_on s mic (openings a) all_copies a.desk) a

abbrev pub all_go_on : {M : Type 0} → Setting M → Mic → Acting → Acting
all_go_on s mic a = copies_on s mic (queue_goes_on s mic Dest (queue_goes_on s mic Source a))

-- ---- a setup goes down: the copies by number, then the queue in its order

unfoldable pub downs_told : Side → Status → List ℕ → Desk → Desk
downs_told side status [] d = d
downs_told side status (j ∷ js) d = downs_told side status js (told_to j (events.Down side status) d)

abbrev pub back_ended : Option ℕ → Desk → Desk
back_ended None d = d
back_ended (Some number) d = record d { ended = d.ended ++ number ∷ [] }

abbrev pub site_falls : Side → Desk → Desk
site_falls side d = with_site side (gone_down (site_at side d)) d

abbrev pub site_goes_down : Side → Desk → Desk
site_goes_down side d = back_ended (site_at side d).back (site_falls side d)

abbrev pub all_refused : Side → Status → Acting → Acting
all_refused side status a =
    with_queue side (emptied (queue_at side a)) (with_desk (lines_noted side (refusals status (queue_at side a)) a.desk) a)

abbrev pub on_desk : (Desk → Desk) → Acting → Acting
on_desk does a = with_desk (does a.desk) a

abbrev pub goes_down : Side → Status → Acting → Acting
goes_down side status a =
    on_desk (site_goes_down side) (all_refused side status (on_desk (downs_told side status all_copies) a))

-- ---- a setup begins, where something waits for it and it is down

abbrev pub is_needed : Side → Acting → Bool
is_needed side a = is_some (due (queue_at side a)) || some_needs side all_copies a.desk

abbrev pub is_to_begin : Side → Acting → Bool
is_to_begin side a = may_begin (send_at 0 a.desk) (site_at side a.desk).mount && is_needed side a

abbrev pub first_of : Bool → Bool → Option Side
first_of true dest = Some Source
first_of false true = Some Dest
first_of false false = None

abbrev pub to_begin : Acting → Option Side
to_begin a = first_of (is_to_begin Source a) (is_to_begin Dest a)

-- a principal that isn't of the realm counts as a refused INIT
abbrev pub down_unless : Bool → Side → Acting → Acting
down_unless true side a = a
down_unless false side a = goes_down side statuses.ACCESS a

abbrev pub begins_if : Bool → (nonce : List ℕ) → (token : Option (List ℕ)) → Side → Acting → Acting
begins_if false nonce token side a = a
begins_if true nonce token side a =
    down_unless (begin_sent nonce token side a.desk).0 side (with_desk (begin_sent nonce token side a.desk).1 a)

abbrev pub begins : (nonce : List ℕ) → (token : Option (List ℕ)) → Side → Acting → Acting
begins nonce token side a = begins_if (may_begin (send_at 0 a.desk) (site_at side a.desk).mount) nonce token side a

abbrev pub if_drawn : Bool → Acting → Option Acting
if_drawn true a = Some a
if_drawn false a = None

-- What waits goes on, by what is drawn. None: the draw failed.
abbrev pub IsDrawnOn : {M : Type 0} → Setting M → Mic → (List ℕ → Option (List ℕ)) → Side → Drawn → Acting → Option Acting → Type 0
IsDrawnOn s mic started side (Got nonce) a t = t ≡ Some (all_go_on s mic (begins nonce (started nonce) side a))
IsDrawnOn s mic started side Failed a t = t ≡ None

abbrev pub IsDrawn : {M W : Type 0} → Setting M → Mic → (List ℕ → Option (List ℕ)) → (W → Drawn → W → Type 0) → Side → Acting → W → W → Option Acting → Type 0
IsDrawn s mic started gives side a before after t = (drawn : Drawn) × gives before drawn after × IsDrawnOn s mic started side drawn a t

abbrev pub GoesOnAt : {M W : Type 0} → Option Side → Setting M → Mic → (List ℕ → Option (List ℕ)) → (W → Drawn → W → Type 0) → Acting → W → W → Option Acting → Type 0
GoesOnAt None s mic started gives a before after t = (t ≡ Some (all_go_on s mic a)) × (after ≡ before)
GoesOnAt (Some side) s mic started gives a before after t = IsDrawn s mic started gives side a before after t

abbrev pub GoesOn : {M W : Type 0} → Setting M → Mic → (List ℕ → Option (List ℕ)) → (W → Drawn → W → Type 0) → Acting → W → W → Option Acting → Type 0
GoesOn s mic started gives a before after t = GoesOnAt (to_begin a) s mic started gives a before after t
