-- A worker's turn is made, and what goes out by that. A job is committed only where it still runs and each of its chunks has
-- landed, and its client is told only once that has gone through.
use Rattle.std.specs.Prelude.{ℕ, ◌&&◌, Bool, true, false, [], ◌∷◌, Option, Some, None}
use Rattle.block_file.specs.declared.faults.ReadFault.{ReadFault}
use Rattle.dest_jobs.specs.Progress.{commits}
use Rattle.dest_tasks.specs.Posts.{post_at, put_at}
use Rattle.dest_tasks.specs.declared.post.Post.{Post}
use Rattle.dest_tasks.specs.declared.post.Post.TheVariants.{Awaits, Holds, Idle}
use Rattle.job_book.specs.Book.{id_of, named}
use Rattle.job_book.specs.Working.{is_whole}
use Rattle.job_table.specs.Table.{is_running}
use Rattle.nfs_base.specs.declared.job.JobName.{JobName}
use Rattle.nfs_base.specs.declared.job.Stop.TheVariants.{DiskFault}
use Rattle.outbox.specs.declared.outgoing.Outgoing.{Outgoing}
use Rattle.server_volume.specs.Calls.{Called, commit_call}
use Rattle.server_volume.specs.Choices.{Choice}
use Rattle.dest_steps.specs.Landing.{Doing, Done, landed, still, stopped, target_file}
use Rattle.dest_steps.specs.declared.copier.Copier.{Copier}
use Rattle.dest_steps.specs.declared.landing.Landing.{Landing}
use Rattle.dest_steps.specs.declared.telling.Telling.{Telling}
use Rattle.dest_steps.specs.declared.turning.Committing.{Committing}
use Rattle.dest_steps.specs.declared.turning.Turn.{Turn}
use Rattle.dest_steps.specs.declared.turning.Turn.TheVariants as turns

-- ---- the chunk that the worker holds lands

abbrev pub without_post : (place : ℕ) → Doing → Doing
without_post place d = record d { copier = record d.copier { work = record d.copier.work { workers = put_at place Idle d.copier.work.workers } } }

abbrev pub held_landed : Choice → (place : ℕ) → Option Landing → Post → Doing → Done
held_landed choice place told Idle d = still (without_post place d)
held_landed choice place told (Awaits job errand) d = still d
held_landed choice place told (Holds job chunk bytes) d = landed choice place job chunk bytes told (without_post place d)

-- ---- a job's file is committed

abbrev pub committed : JobName → Telling → Doing → Done
committed job told d = record { doing = record d { copier = record d.copier { copies = commits job d.copier.copies; back = told.back } }; sent = told.sent }

abbrev pub with_commit : Called ReadFault → Doing → Doing
with_commit c d = record d { store = c.store; used = c.used }

abbrev pub commit_done : JobName → Committing → Option ReadFault → Doing → Done
commit_done job told None d = committed job told.done d
commit_done job told (Some fault) d = stopped job DiskFault told.fault d

abbrev pub commit_by : JobName → Committing → Called ReadFault → Doing → Done
commit_by job told c d = commit_done job told c.fault (with_commit c d)

abbrev pub commit_in : Choice → JobName → Committing → (file : Option ℕ) → Doing → Done
commit_in choice job told None d = still d
commit_in choice job told (Some file) d = commit_by job told (commit_call choice d.used d.store file) d

abbrev pub may_commit : JobName → Copier → Bool
may_commit job x = is_running x.copies.book.table (id_of job) && is_whole (named x.copies.book.table job)

abbrev pub commit_if : Bool → Choice → JobName → Committing → Doing → Done
commit_if false choice job told d = still d
commit_if true choice job told d = commit_in choice job told (target_file d.store (named d.copier.copies.book.table job)) d

-- ---- the turn

abbrev pub sends : Outgoing → Doing → Done
sends call d = record { doing = d; sent = call ∷ [] }

abbrev pub turn_made : Choice → (place : ℕ) → Turn → Doing → Done
turn_made choice place turns.Rest d = still d
turn_made choice place turns.Undrawn d = still d
turn_made choice place (turns.Sent call) d = sends call d
turn_made choice place (turns.Stops job cause told) d = stopped job cause told d
turn_made choice place (turns.Lands told) d = held_landed choice place told (post_at d.copier.work.workers place) d
turn_made choice place (turns.Commits job told) d = commit_if (may_commit job d.copier) choice job told d
