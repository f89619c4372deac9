-- What goes out again when a second comes by itself: each call that was last sent 30 or more seconds ago, the workers' calls
-- first, by their places, and then the callbacks, by the numbers of the jobs (own). What was sent before is no longer awaited.
use Rattle.std.specs.Prelude.{ℕ, zero, suc, ◌+◌, Bool, true, false, List, [], ◌∷◌, ◌++◌, Option, Some, None, option_map}
use Rattle.dest_back.specs.Callbacks.{CallbackTable, post_at, sent_in}
use Rattle.dest_back.specs.Telling.{told_again}
use Rattle.dest_back.specs.declared.telling.Sent.{Sent as Callback}
use Rattle.dest_tasks.specs.Posts.{asks}
use Rattle.dest_tasks.specs.Posts as posts
use Rattle.dest_tasks.specs.Seats.{seat_of}
use Rattle.dest_tasks.specs.Tasks.{is_gone}
use Rattle.dest_tasks.specs.declared.post.Errand.{Errand}
use Rattle.dest_tasks.specs.declared.workers.TheConstants.{WORKERS}
use Rattle.dest_work.specs.Work.{is_due, with_mount}
use Rattle.job_book.specs.Book.{client_of, next_name}
use Rattle.mount.specs.Sending.{sent_again}
use Rattle.mount.specs.State.{Mounted, awaited_at, setup_in}
use Rattle.mount.specs.declared.machine.Sent.{Sent}
use Rattle.nfs_base.specs.declared.job.JobName.{JobName}
use Rattle.nfs_base.specs.declared.limits.TheConstants.{MOST_JOBS}
use Rattle.outbox.specs.declared.label.CallLabel.{CallLabel}
use Rattle.outbox.specs.declared.outgoing.Outgoing.{Outgoing}
use Rattle.dest_steps.specs.Calls.{errand_label, workers_call}
use Rattle.dest_steps.specs.Copier.{Around, Codes, xid_of}
use Rattle.dest_steps.specs.Telling.{call_at, callback}
use Rattle.dest_steps.specs.Turning.{send_at}
use Rattle.dest_steps.specs.declared.copier.Copier.{Copier}
use Rattle.dest_steps.specs.declared.ticking.Again.{Again}

abbrev pub adds : Outgoing → List Outgoing → List Outgoing
adds out sent = sent ++ out ∷ []

-- ---- a worker's call

abbrev pub call_added : (place : ℕ) → CallLabel → Option Sent × Mounted → Again → Again
call_added place label (None, m) a = record a { mount = m }
call_added place label (Some sent, m) a = record a { mount = m; sent = adds (workers_call place label sent) a.sent }

abbrev pub call_by : (xid : Option ℕ) → Codes → Around → (place : ℕ) → Errand → Again → Again
call_by None codes around place errand a = a
call_by (Some xid) codes around place errand a =
    call_added place (errand_label errand (setup_in a.mount.standing)) (sent_again codes.mic (send_at around place xid) a.mount) a

abbrev pub call_for : Codes → Around → (place : ℕ) → Option (JobName × Errand) → Again → Again
call_for codes around place None a = a
call_for codes around place (Some call) a = call_by (xid_of a.mount a.back) codes around place call.1 a

abbrev pub call_if : (due : Bool) → Codes → Around → (place : ℕ) → Copier → Again → Again
call_if true codes around place x a = call_for codes around place (asks (posts.post_at x.work.workers place)) a
call_if false codes around place x a = a

abbrev pub call_again : Codes → Around → (place : ℕ) → Copier → Again → Again
call_again codes around place x a = call_if (is_due (option_map (λ w. w.sent_at) (awaited_at a.mount place)) around.second) codes around place x a

-- of so many workers from a place on
unfoldable pub calls_from : Codes → Around → Copier → (left place : ℕ) → Again → Again
calls_from codes around x zero place a = a
calls_from codes around x (suc left) place a = calls_from codes around x left (place + 1) (call_again codes around place x a)

-- ---- the callback of a job. A job whose client's lease has ended ends, and nothing is told of it any more.

abbrev pub told_added : Option Callback × CallbackTable → Again → Again
told_added (None, back) a = record a { back = back }
told_added (Some call, back) a = record a { back = back; sent = adds (callback call) a.sent }

abbrev pub told_by : (xid : Option ℕ) → Codes → Around → (seat : ℕ) → Again → Again
told_by None codes around seat a = a
told_by (Some xid) codes around seat a = told_added (told_again codes.mic codes.derived around.sessions (call_at around seat xid) a.back) a

abbrev pub told_if : (due : Bool) → Codes → Around → (seat : ℕ) → Again → Again
told_if true codes around seat a = told_by (xid_of a.mount a.back) codes around seat a
told_if false codes around seat a = a

abbrev pub told_at : Codes → Around → (seat : ℕ) → Again → Again
told_at codes around seat a = told_if (is_due (sent_in (post_at a.back seat)) around.second) codes around seat a

abbrev pub told_for : Codes → Around → (seat : Option ℕ) → Again → Again
told_for codes around None a = a
told_for codes around (Some seat) a = told_at codes around seat a

abbrev pub job_told : (gone : Bool) → Codes → Around → (seat : Option ℕ) → Again → Again
job_told true codes around seat a = a
job_told false codes around seat a = told_for codes around seat a

abbrev pub job_again : Codes → Around → JobName → Copier → Again → Again
job_again codes around name x a =
    job_told (is_gone around.sessions around.second (client_of x.copies.book.table name)) codes around (seat_of name.number x.work.seats) a

abbrev pub at_next : Option JobName → (JobName → Again → Again) → Again → Again
at_next None go a = a
at_next (Some name) go a = go name a

-- of so many jobs from a number on
unfoldable pub jobs_from : Codes → Around → Copier → (left after : ℕ) → Again → Again
jobs_from codes around x zero after a = a
jobs_from codes around x (suc left) after a =
    at_next (next_name x.copies.book.table after) (λ name b. jobs_from codes around x left name.number (job_again codes around name x b)) a

-- ---- all of it, and what is awaited afterwards

abbrev pub none_again : Copier → Again
none_again x = record { mount = x.work.mount; back = x.back; sent = [] }

abbrev pub again : Codes → Around → Copier → Again
again codes around x = jobs_from codes around x MOST_JOBS 0 (calls_from codes around x WORKERS 0 (none_again x))

abbrev pub with_again : Again → Copier → Copier
with_again a x = record x { work = with_mount a.mount x.work; back = a.back }
