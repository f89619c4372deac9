-- How a chunk lands: it is written where the job still takes it, and where it needn't wait for an earlier one. At most one call
-- is made on the volume. Where the volume refuses the write or the disk fails, the job is stopped, and its client is told.
use Rattle.std.specs.Prelude.{◌≡◌, ℕ, ◌+◌, ◌^◌, ◌==◌, ◌||◌, nat_le, nat_lt, if◌then◌else◌, List, [], length, Option, Some, None}
use Rattle.block_file.specs.declared.faults.WriteFault.{WriteFault}
use Rattle.block_file.specs.declared.faults.WriteFault.TheVariants as faults
use Rattle.dest_jobs.specs.Ending.{with_note}
use Rattle.dest_jobs.specs.Progress.{lands, stops}
use Rattle.dest_tasks.specs.Posts.{put_at}
use Rattle.dest_tasks.specs.declared.post.Post.TheVariants.{Holds}
use Rattle.job_book.specs.Book.{id_of, named}
use Rattle.job_log.specs.declared.chunk.Chunk.{Chunk}
use Rattle.job_log.specs.declared.chunk.Landing.{Landing as Takes}
use Rattle.job_log.specs.declared.chunk.Landing.TheVariants as takes
use Rattle.job_table.specs.Table.{table_landing}
use Rattle.job_table.specs.declared.job.Job.{Job}
use Rattle.nfs_base.specs.declared.job.JobName.{JobName}
use Rattle.nfs_base.specs.declared.job.Stop.{Stop}
use Rattle.nfs_base.specs.declared.job.Stop.TheVariants.{DiskFault, Worn}
use Rattle.nfs_base.specs.declared.limits.TheConstants.{DATA_LIMIT}
use Rattle.outbox.specs.declared.note.Note.TheVariants as notes
use Rattle.outbox.specs.declared.outgoing.Outgoing.{Outgoing}
use Rattle.server_volume.specs.Calls.{Called, write_call}
use Rattle.server_volume.specs.Choices.{Agrees, Choice}
use Rattle.server_volume.specs.Store.{Store}
use Rattle.server_volume.specs.declared.used.Used.{Used}
use Rattle.dest_steps.specs.declared.copier.Copier.{Copier}
use Rattle.dest_steps.specs.declared.landing.Landing.{Landing}
use Rattle.dest_steps.specs.declared.telling.Telling.{Telling}

-- the copies, the volume, and the calls on it so far
pub record Doing : Type 0 where
  pub copier : Copier
  pub store : Store
  pub used : List Used

-- the same afterwards, and what goes out
pub record Done : Type 0 where
  pub doing : Doing
  pub sent : List Outgoing

-- At each choice that agrees with the calls that were made, the model's is this.
abbrev pub Does : (Choice → Done) → Copier → Store → List Used → List Outgoing → Type 0
Does told copier store used sent =
    (choice : Choice) → Agrees choice used → told choice ≡ record { doing = record { copier = copier; store = store; used = used }; sent = sent }

abbrev pub doing_of : Copier → Store → List Used → Doing
doing_of copier store used = record { copier = copier; store = store; used = used }

-- ---- nothing goes out, or a job is stopped where it still can be

abbrev pub still : Doing → Done
still d = record { doing = d; sent = [] }

abbrev pub stopped_in : JobName → Stop → Telling → Copier → Copier
stopped_in job cause told x = record x { copies = stops cause job x.copies; back = told.back }

abbrev pub stopped : JobName → Stop → Telling → Doing → Done
stopped job cause told d = record { doing = record d { copier = stopped_in job cause told d.copier }; sent = told.sent }

-- ---- a chunk that comes too late, and one that waits

abbrev pub late : JobName → Chunk → Copier → Copier
late job chunk x = record x { copies = with_note (notes.Late job chunk.off) x.copies }

abbrev pub waits : (place : ℕ) → JobName → Chunk → (bytes : List ℕ) → Copier → Copier
waits place job chunk bytes x = record x {
  copies = with_note (notes.Held job chunk.off) x.copies;
  work = record x.work { workers = put_at place (Holds job chunk bytes) x.work.workers };
}

abbrev pub with_copier : Copier → Doing → Doing
with_copier x d = record d { copier = x }

-- ---- the write

-- why the job is stopped that is written
abbrev pub cause_of : WriteFault → Stop
cause_of faults.Worn = Worn
cause_of faults.TooFar = DiskFault
cause_of faults.DiskFailed = DiskFault
cause_of faults.Broken = DiskFault

abbrev pub told_of : WriteFault → Landing → Telling
told_of faults.Worn told = told.worn
told_of faults.TooFar told = told.fault
told_of faults.DiskFailed told = told.fault
told_of faults.Broken told = told.fault

abbrev pub written : JobName → Chunk → Landing → Option WriteFault → Doing → Done
written job chunk told None d = still (with_copier (record d.copier { copies = lands job chunk d.copier.copies }) d)
written job chunk told (Some fault) d = stopped job (cause_of fault) (told_of fault told) d

abbrev pub with_write : Called WriteFault → Doing → Doing
with_write c d = record d { store = c.store; used = c.used }

abbrev pub written_by : JobName → Chunk → Landing → Called WriteFault → Doing → Done
written_by job chunk told c d = written job chunk told c.fault (with_write c d)

abbrev pub written_at : Choice → JobName → Chunk → (file off : ℕ) → (bytes : List ℕ) → Landing → Doing → Done
written_at choice job chunk file off bytes told d = written_by job chunk told (write_call choice d.used d.store file off bytes) d

-- where: in the job's file, which is one of the volume's, from the range's start on
abbrev pub file_of : (files file : ℕ) → Option ℕ
file_of files file = if (file == 0) || nat_le files file then None else Some file

abbrev pub target_file : Store → Option Job → Option ℕ
target_file s None = None
target_file s (Some job) = file_of (length s.volume.files) job.plan.file

abbrev pub off_of : (from off : ℕ) → Option ℕ
off_of from off = if nat_lt (from + off) (2 ^ 64) then Some (from + off) else None

abbrev pub target_off : Chunk → Option Job → Option ℕ
target_off chunk None = None
target_off chunk (Some job) = off_of job.plan.dst_off chunk.off

abbrev pub paired : Option ℕ → Option ℕ → Option (ℕ × ℕ)
paired None off = None
paired (Some file) None = None
paired (Some file) (Some off) = Some (file, off)

abbrev pub target : Store → Chunk → (len : ℕ) → Option Job → Option (ℕ × ℕ)
target s chunk len job = if nat_lt DATA_LIMIT len then None else paired (target_file s job) (target_off chunk job)

abbrev pub written_where : Choice → JobName → Chunk → (bytes : List ℕ) → Landing → Option (ℕ × ℕ) → Doing → Done
written_where choice job chunk bytes told None d = still d
written_where choice job chunk bytes told (Some place) d = written_at choice job chunk place.0 place.1 bytes told d

abbrev pub written_to : Choice → JobName → Chunk → (bytes : List ℕ) → Landing → Doing → Done
written_to choice job chunk bytes told d =
    written_where choice job chunk bytes told (target d.store chunk (length bytes) (named d.copier.copies.book.table job)) d

-- ---- all of it, by what the job says to the chunk

abbrev pub written_if : Choice → JobName → Chunk → (bytes : List ℕ) → Option Landing → Doing → Done
written_if choice job chunk bytes None d = still d
written_if choice job chunk bytes (Some told) d = written_to choice job chunk bytes told d

abbrev pub landed_by : Takes → Choice → (place : ℕ) → JobName → Chunk → (bytes : List ℕ) → Option Landing → Doing → Done
landed_by takes.Late choice place job chunk bytes told d = still (with_copier (late job chunk d.copier) d)
landed_by takes.Held choice place job chunk bytes told d = still (with_copier (waits place job chunk bytes d.copier) d)
landed_by takes.Landed choice place job chunk bytes told d = written_if choice job chunk bytes told d

abbrev pub landed : Choice → (place : ℕ) → JobName → Chunk → (bytes : List ℕ) → Option Landing → Doing → Done
landed choice place job chunk bytes told d =
    landed_by (table_landing d.copier.copies.book.table (id_of job) chunk) choice place job chunk bytes told d
