-- What a destination does on its jobs, without its server: a worker's turn, what an answer of the source does, and what is
-- given up or sent again. RFC 7862 sections 4.2 and 4.10.1.2; workers are own.
use Rattle.std.specs.Prelude.{◌≡◌, ℕ, zero, suc, ◌+◌, ◌^◌, ◌-◌, ◌&&◌, nat_le, nat_lt, Bool, true, false, if◌then◌else◌, is_none, is_some, List, replicate, slice_set, Option, Some, None}
use Rattle.dest_tasks.specs.declared.post.Errand.{Errand}
use Rattle.dest_tasks.specs.declared.post.Errand.TheVariants as errands
use Rattle.dest_tasks.specs.declared.post.Post.TheVariants.{Awaits}
use Rattle.dest_tasks.specs.declared.tasks.Sight.{Sight}
use Rattle.dest_tasks.specs.declared.tasks.Source.{Source}
use Rattle.dest_tasks.specs.declared.tasks.Task.{Task}
use Rattle.dest_tasks.specs.declared.tasks.Task.TheVariants as tasks
use Rattle.dest_tasks.specs.declared.workers.TheConstants.{WORKERS}
use Rattle.dest_tasks.specs.declared.seats.TheConstants.{SEATS}
use Rattle.dest_tasks.specs.Posts.{asks, followed, holds, is_confirm, post_at, put_at}
use Rattle.dest_tasks.specs.Seats.{seat_of, was_denied}
use Rattle.dest_tasks.specs.Tasks.{after_task, is_gone, sight, task_from}
use Rattle.gss_ctx.specs.Seals.{Mic}
use Rattle.job_book.specs.Book.{BookView, client_of, named}
use Rattle.job_book.specs.Working.{with_its}
use Rattle.job_log.specs.Log.{given_back}
use Rattle.job_log.specs.declared.chunk.Chunk.{Chunk}
use Rattle.job_table.specs.Table.{JobTable}
use Rattle.job_table.specs.declared.job.Job.{Job}
use Rattle.job_table.specs.declared.job.Plan.{Plan}
use Rattle.mount.specs.Falling.{fallen, given_up}
use Rattle.mount.specs.Sending.{FitsRecord, session_in}
use Rattle.mount.specs.State.{Mounted, awaited_at, child_name, has_numbers, is_setting_up, setup_in}
use Rattle.mount.specs.declared.machine.SendAt.{SendAt}
use Rattle.mount.specs.declared.machine.Sent.{Sent}
use Rattle.mount.specs.declared.taking.Heard.{Heard}
use Rattle.mount.specs.declared.taking.Told.{Told}
use Rattle.mount.specs.declared.taking.Told.TheVariants.{Child, Denied}
use Rattle.nfs_base.specs.declared.job.JobName.{JobName}
use Rattle.nfs_base.specs.declared.limits.TheConstants.{MOST_JOBS}
use Rattle.sess_slots.specs.Table.{SessionTable}
use Rattle.session_client.specs.declared.setup.Setup.TheVariants as setups
use Rattle.dest_work.specs.declared.work.TheConstants.{AGAIN_SECONDS}
use Rattle.dest_work.specs.declared.work.Due.{Due}
use Rattle.dest_work.specs.declared.work.Due.TheVariants as dues
use Rattle.dest_work.specs.declared.work.Taken.{Taken}
use Rattle.dest_work.specs.declared.work.Work.{Work}
use Rattle.dest_work.specs.Findings.{finding_of}
use Rattle.dest_work.specs.Sending.{call_sent, confirm_sent, read_call, setup_sent, size_call, wants_nonce}

-- ---- what a worker sees

abbrev pub has_session : Mounted → Bool
has_session m = is_some (session_in (setup_in m.standing))

-- of so many seats from one on, whether the job there has its context
unfoldable pub seen_from : Mounted → (left seat : ℕ) → List Bool → List Bool
seen_from m zero seat seen = seen
seen_from m (suc left) seat seen = seen_from m left (seat + 1) (slice_set seen seat (is_some (child_name m seat)))

abbrev pub source_of : Mounted → Source
source_of m = record {
  session = has_session m;
  setting_up = is_setting_up m;
  contexts = seen_from m SEATS 0 (replicate SEATS false);
}

-- the jobs of clients whose leases have ended in a second have none
abbrev pub sight_at : SessionTable → (second : ℕ) → Work → JobTable → JobName → Sight
sight_at sessions second w t name =
    sight (source_of w.mount) w.workers w.seats (is_gone sessions second (client_of t name)) name

abbrev pub task_at : SessionTable → (second : ℕ) → Work → BookView → Option Task
task_at sessions second w b = task_from (sight_at sessions second w b.table) MOST_JOBS 0 b

-- ---- a call that goes out for a job is awaited by the worker; where none goes out, it stays idle

abbrev pub asked : (place : ℕ) → JobName → Errand → Option Sent → Work → Due × Work
asked place job errand None w = (dues.Rest, w)
asked place job errand (Some sent) w = (dues.Asked errand sent, record w { workers = put_at place (Awaits job errand) w.workers })

abbrev pub with_mount : Mounted → Work → Work
with_mount m w = record w { mount = m }

abbrev pub asked_by : (place : ℕ) → JobName → Errand → Option Sent × Mounted → Work → Due × Work
asked_by place job errand outcome w = asked place job errand outcome.0 (with_mount outcome.1 w)

-- a step of the setup, where none is awaited. INIT wants a nonce first.
abbrev pub set_up : Mic → SendAt → (me : List ℕ) → JobName → Work → Due × Work
set_up mic at me job w =
    if is_setting_up w.mount then (dues.Rest, w)
    else (if wants_nonce w.mount then (dues.Begin job, w) else asked_by at.place job errands.Setup (setup_sent mic at me w.mount) w)

-- INIT with a nonce that was drawn, where the principal has a token
abbrev pub begun_for : (place : ℕ) → JobName → Option Sent × Mounted → Work → Option Sent × Work
begun_for place job (None, m) w = (None, w)
begun_for place job (Some sent, m) w =
    (Some sent, record w { mount = m; workers = put_at place (Awaits job errands.Setup) w.workers })

abbrev pub plan_in : Option Job → Option Plan
plan_in None = None
plan_in (Some job) = Some job.plan

-- what is asked for a job by its seat and its plan, where it has both
abbrev pub by_plan : (seat : Option ℕ) → Option Plan → (ℕ → Plan → Due × Work) → Work → Due × Work
by_plan None plan go w = (dues.Rest, w)
by_plan (Some seat) None go w = (dues.Rest, w)
by_plan (Some seat) (Some plan) go w = go seat plan

abbrev pub for_job : JobName → (ℕ → Plan → Due × Work) → BookView → Work → Due × Work
for_job name go b w = by_plan (seat_of name.number w.seats) (plan_in (named b.table name)) go w

abbrev pub confirm : Mic → SendAt → JobName → BookView → Work → Due × Work
confirm mic at job b w = for_job job (λ seat plan. asked_by at.place job errands.Confirm (confirm_sent mic at seat plan w.mount) w) b w

abbrev pub ask_size : Mic → SendAt → JobName → BookView → Work → Due × Work
ask_size mic at job b w = for_job job (λ seat plan. asked_by at.place job errands.Size (call_sent mic at seat plan size_call w.mount) w) b w

abbrev pub read_at : Mic → SendAt → JobName → Chunk → (seat : ℕ) → Plan → Work → Due × Work
read_at mic at job chunk seat plan w =
    if nat_lt (plan.src_off + chunk.off) (2 ^ 64)
    then asked_by at.place job (errands.Bytes chunk) (call_sent mic at seat plan (read_call plan chunk) w.mount) w
    else (dues.Rest, w)

abbrev pub read : Mic → SendAt → JobName → Chunk → BookView → Work → Due × Work
read mic at job chunk b w = for_job job (λ seat plan. read_at mic at job chunk seat plan w) b w

-- ---- a worker's turn

pub record Turn : Type 0 where
  pub told : Due × Work
  pub book : BookView

abbrev pub is_asked : Due → Bool
is_asked (dues.Asked errand sent) = true
is_asked _ = false

-- a chunk that isn't asked for isn't claimed any more
abbrev pub claim_kept : Due → JobName → Chunk → BookView → BookView
claim_kept due job chunk b = if is_asked due then b else with_its job (λ log. given_back log chunk) b

abbrev pub read_turn : JobName → Chunk → Due × Work → BookView → Turn
read_turn job chunk told b = record { told = told; book = claim_kept told.0 job chunk b }

abbrev pub by_task : Mic → SendAt → (me : List ℕ) → Option Task → Work → BookView → Turn
by_task mic at me None w b = record { told = (dues.Rest, w); book = b }
by_task mic at me (Some (tasks.Setup job)) w b = record { told = set_up mic at me job w; book = b }
by_task mic at me (Some (tasks.Confirm job)) w b = record { told = confirm mic at job b w; book = b }
by_task mic at me (Some (tasks.Size job)) w b = record { told = ask_size mic at job b w; book = b }
by_task mic at me (Some (tasks.Read job chunk)) w b = read_turn job chunk (read mic at job chunk b w) b
by_task mic at me (Some (tasks.Commit job)) w b = record { told = (dues.Commit job, w); book = b }

-- A worker that awaits an answer does nothing, one that holds a chunk tries to land it, and else it does its next task, while
-- its slot has numbers.
abbrev pub next_turn : (left : Bool) → Mic → SendAt → (me : List ℕ) → Option Task → Work → BookView → Turn
next_turn true mic at me task w b = by_task mic at me task w (after_task task b)
next_turn false mic at me task w b = record { told = (dues.Rest, w); book = b }

abbrev pub turn_by : (awaits holding left : Bool) → Mic → SendAt → (me : List ℕ) → Option Task → Work → BookView → Turn
turn_by true holding left mic at me task w b = record { told = (dues.Rest, w); book = b }
turn_by false true left mic at me task w b = record { told = (dues.Land, w); book = b }
turn_by false false left mic at me task w b = next_turn left mic at me task w b

abbrev pub turn : Mic → SendAt → (me : List ℕ) → SessionTable → Work → BookView → Turn
turn mic at me sessions w b =
    turn_by (is_some (awaited_at w.mount at.place)) (holds (post_at w.workers at.place)) (has_numbers w.mount.standing at.place)
    mic at me (task_at sessions at.now w b) w b

-- what goes out is no longer than a record may be
abbrev pub DueFits : Due → Type 0
DueFits (dues.Asked errand sent) = FitsRecord (Some sent)
DueFits _ = Unit {0}

-- an INIT that wants a nonce may go out: nothing is set up or awaited
pub record MayBegin (place : ℕ) (m : Mounted) : Type 0 where
  pub free : awaited_at m place ≡ None
  pub down : setup_in m.standing ≡ setups.Down
  pub alone : is_setting_up m ≡ false

abbrev pub IfBegins : Due → Type 0 → Type 0
IfBegins (dues.Begin job) P = P
IfBegins _ P = Unit {0}

-- ---- an answer of the source

-- of so many places from one on, whether an answer is awaited there
unfoldable pub awaited_from : Mounted → (left place : ℕ) → List Bool → List Bool
awaited_from m zero place awaited = awaited
awaited_from m (suc left) place awaited = awaited_from m left (place + 1) (slice_set awaited place (is_some (awaited_at m place)))

abbrev pub awaited_of : Mounted → List Bool
awaited_of m = awaited_from m WORKERS 0 (replicate WORKERS false)

-- the workers whose answers came or were given up are idle
abbrev pub settled : Work → Work
settled w = record w { workers = followed (awaited_of w.mount) WORKERS 0 w.workers }

-- A denial of CREATE makes the mount begin again too; that of another call already did.
abbrev pub is_denial : Told → Bool
is_denial (Denied why) = true
is_denial _ = false

abbrev pub falls : Errand → Told → Bool
falls errand told = is_confirm errand && is_denial told

abbrev pub fallen_if : Bool → Mounted → Mounted
fallen_if true m = fallen m
fallen_if false m = m

-- A context that was made for a job that isn't in the book any more is nobody's, and the call is given up. By then another
-- job may sit at its seat.
abbrev pub is_child : Told → Bool
is_child (Child child) = true
is_child _ = false

abbrev pub is_orphan : Told → JobName → JobTable → Bool
is_orphan told job t = is_child told && is_none (client_of t job)

abbrev pub kept_if : (orphan : Bool) → (place : ℕ) → (old new : Mounted) → Mounted
kept_if true place old new = given_up place old
kept_if false place old new = new

abbrev pub mount_after : (place : ℕ) → JobName → Errand → Told → JobTable → (old new : Mounted) → Mounted
mount_after place job errand told t old new = fallen_if (falls errand told) (kept_if (is_orphan told job t) place old new)

abbrev pub taken_for : (place : ℕ) → JobName → Errand → JobTable → Work → Heard × Mounted → Taken
taken_for place job errand t w heard = record {
  job = job;
  errand = errand;
  finding = finding_of errand (was_denied job.number w.seats) heard.0.told;
  accepted = heard.0.accepted;
  mount = mount_after place job errand heard.0.told t w.mount heard.1;
}

-- what a record is to the call that a worker awaits, once the mount has heard it
abbrev pub taken_by : (place : ℕ) → JobTable → Work → Heard × Mounted → Option (JobName × Errand) → Option Taken
taken_by place t w heard None = None
taken_by place t w heard (Some call) = Some (taken_for place call.0 call.1 t w heard)

abbrev pub taken : (place : ℕ) → JobTable → Work → Heard × Mounted → Option Taken
taken place t w heard = taken_by place t w heard (asks (post_at w.workers place))

-- ---- a worker's link failed: its call is given up, and its job ends where it can still be stopped. A chunk stays held.

abbrev pub without_call : (place : ℕ) → Work → Work
without_call place w = settled (with_mount (given_up place w.mount) w)

-- ---- what is awaited goes out again, once it was sent long enough ago

abbrev pub is_due : (sent_at : Option ℕ) → (now : ℕ) → Bool
is_due None now = false
is_due (Some sent_at) now = nat_le AGAIN_SECONDS (now - sent_at)
