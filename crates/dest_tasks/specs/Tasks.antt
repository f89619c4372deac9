-- What a worker that awaits and holds nothing does next: the jobs are gone through by number, and the first task that is
-- found is done. RFC 7862 section 4.10.1.2; the tasks and their order are own.
use Rattle.std.specs.Prelude.{ℕ, zero, suc, ◌&&◌, not, Bool, true, false, List, slice_index_or, is_some, Option, Some, None}
use Rattle.std.specs.List.{list_any}
use Rattle.job_log.specs.declared.chunk.Chunk.{Chunk}
use Rattle.job_table.specs.Table.{JobTable, is_running}
use Rattle.job_table.specs.declared.job.Job.{Job}
use Rattle.nfs_base.specs.declared.job.JobName.{JobName}
use Rattle.job_book.specs.Book.{BookView, client_of, id_of, named, next_name}
use Rattle.job_book.specs.Working.{claimed, is_whole, next_chunk, size_in}
use Rattle.sess_slots.specs.Begins.{has_lapsed}
use Rattle.sess_slots.specs.Table.{SessionTable}
use Rattle.dest_tasks.specs.declared.post.Post.{Post}
use Rattle.dest_tasks.specs.declared.seats.Seat.{Seat}
use Rattle.dest_tasks.specs.declared.tasks.Outlook.{Outlook}
use Rattle.dest_tasks.specs.declared.tasks.Sight.{Sight}
use Rattle.dest_tasks.specs.declared.tasks.Source.{Source}
use Rattle.dest_tasks.specs.declared.tasks.Task.{Task}
use Rattle.dest_tasks.specs.declared.tasks.Task.TheVariants as tasks
use Rattle.dest_tasks.specs.Posts.{confirms, sizes}
use Rattle.dest_tasks.specs.Seats.{seat_of}

-- ---- what a worker sees of the source for a job

abbrev pub has_context : (contexts : List Bool) → Option ℕ → Bool
has_context contexts None = false
has_context contexts (Some seat) = slice_index_or contexts seat false

-- whether a job's client has no lease any more: the job ends with it
abbrev pub is_gone : SessionTable → (second : ℕ) → (client : Option ℕ) → Bool
is_gone sessions second None = false
is_gone sessions second (Some client) = has_lapsed sessions client second

-- a session, a context for this job, and which of the answers are awaited that make these or tell the size
abbrev pub sight : Source → List Post → List (Option Seat) → (gone : Bool) → JobName → Sight
sight source posts seats gone name = record {
  session = source.session;
  setting_up = source.setting_up;
  context = has_context source.contexts (seat_of name.number seats);
  confirming = list_any (confirms name) posts;
  sizing = list_any (sizes name) posts;
  gone = gone;
}

abbrev pub seen_in : Outlook → JobTable → JobName → Sight
seen_in o t name = sight o.source.now o.workers.now o.seats.now (is_gone o.sessions.now o.second (client_of t name)) name

-- ---- the tasks of a job that goes on, each where it is due

abbrev pub when : Bool → Task → Option Task
when true task = Some task
when false task = None

abbrev pub or_else : Option Task → Option Task → Option Task
or_else None more = more
or_else (Some task) more = Some task

abbrev pub read_of : JobName → Option Chunk → Option Task
read_of name None = None
read_of name (Some chunk) = Some (tasks.Read name chunk)

abbrev pub read_when : Bool → JobName → Option Chunk → Option Task
read_when true name chunk = read_of name chunk
read_when false name chunk = None

-- calls for the job may go out
abbrev pub may_call : Sight → Bool
may_call s = s.session && s.context

-- the setup, the context, the size
abbrev pub asking_task : Sight → (sized : Bool) → JobName → Option Task
asking_task s sized name =
    or_else (when (not s.session && not s.setting_up) (tasks.Setup name))
    (or_else (when (s.session && (not s.context && not s.confirming)) (tasks.Confirm name))
    (when (may_call s && (not sized && not s.sizing)) (tasks.Size name)))

-- a chunk, the commit
abbrev pub landing_task : (may_read : Bool) → JobName → Option Job → Option Task
landing_task may_read name job = or_else (read_when may_read name (next_chunk job)) (when (is_whole job) (tasks.Commit name))

abbrev pub going_task : Sight → JobName → Option Job → Option Task
going_task s name job =
    or_else (asking_task s (is_some (size_in job)) name) (landing_task (may_call s && is_some (size_in job)) name job)

abbrev pub task_if : (running : Bool) → Sight → JobName → Option Job → Option Task
task_if true s name job = going_task s name job
task_if false s name job = None

-- a job that ends with its client's lease goes on no more
abbrev pub goes_on : (running : Bool) → Sight → Bool
goes_on running s = running && not s.gone

abbrev pub job_task : (JobName → Sight) → JobName → BookView → Option Task
job_task see name b = task_if (goes_on (is_running b.table (id_of name)) (see name)) (see name) name (named b.table name)

-- ---- the first task of all jobs

abbrev pub at_next : Option JobName → (JobName → Option Task) → Option Task
at_next None go = None
at_next (Some name) go = go name

-- of so many jobs from a number on
unfoldable pub task_from : (JobName → Sight) → (left after : ℕ) → BookView → Option Task
task_from see zero after b = None
task_from see (suc left) after b = at_next (next_name b.table after) (λ name. or_else (job_task see name b) (task_from see left name.number b))

-- the chunk that is to be read is claimed
abbrev pub claimed_by : Task → BookView → BookView
claimed_by (tasks.Read name chunk) b = claimed (Some chunk) name b
claimed_by _ b = b

abbrev pub after_task : Option Task → BookView → BookView
after_task None b = b
after_task (Some task) b = claimed_by task b
