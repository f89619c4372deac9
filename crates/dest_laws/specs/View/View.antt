-- A destination as the laws of a wire and of copies see it: as a caller of its source, and by its jobs and what its workers
-- hold. Own definitions.
use Rattle.std.specs.Prelude.{ℕ, ◌-◌, ◌==◌, Bool, true, false, nat_lt, if◌then◌else◌, Option, Some, None, unwrap_or}
use Rattle.caller_laws.specs.View.{Above, caller_of}
use Rattle.copy_model.specs.Job.{Plan as CopyPlan, size_of}
use Rattle.copy_model.specs.Marks.{len_of}
use Rattle.dest_core.specs.Stepping.{DestState, copier_in}
use Rattle.dest_steps.specs.Copier.{last_xid}
use Rattle.dest_steps.specs.declared.copier.Copier.{Copier}
use Rattle.dest_tasks.specs.Posts.{post_at}
use Rattle.dest_tasks.specs.declared.post.Errand.{Errand}
use Rattle.dest_tasks.specs.declared.post.Errand.TheVariants as errands
use Rattle.dest_tasks.specs.declared.post.Post.{Post}
use Rattle.dest_tasks.specs.declared.post.Post.TheVariants.{Awaits, Holds, Idle}
use Rattle.file_server.specs.Handles.{file_in}
use Rattle.job_table.specs.declared.job.Plan.{Plan}
use Rattle.nfs_base.specs.declared.job.JobName.{JobName}
use Rattle.wire_model.specs.Copies.{Job}
use Rattle.wire_model.specs.System.{Chunk}
use Rattle.wire_model.specs.Wire.{Caller, ForJob, ForOther, Purpose}

-- ---- its jobs: numbered from 1 in the order of their acceptance

abbrev pub place_of : JobName → ℕ
place_of job = job.number - 1

abbrev pub made_in : {M : Type 0} → DestState M → ℕ
made_in s = (copier_in s).copies.book.table.made

-- the plan of a job as a history has it: the source's file by the number in its handle
abbrev pub plan_seen : Plan → CopyPlan
plan_seen plan = record {
  src_file = file_in plan.source;
  src_off = plan.src_off;
  dst_file = plan.file;
  dst_off = plan.dst_off;
  count = plan.count;
  consecutive = plan.consecutive;
}

-- How much room a copy may come to need yet, from its offset on: as much as was asked for; for a count of 0 its length, and all to
-- the capacity until that is known. One that was retired needs no more than it has.
abbrev pub room_by : (capacity : ℕ) → CopyPlan → (sized : Option ℕ) → ℕ
room_by capacity plan sized = if plan.count == 0 then unwrap_or sized (capacity - plan.dst_off) else plan.count

abbrev pub room_of : (capacity : ℕ) → Job → ℕ
room_of capacity job = if job.retired then len_of job.entries else room_by capacity job.plan (size_of job.entries)

-- ---- what its workers are at, by their places

-- a worker asks the source for a job's size or bytes; the setup and a job's context are for nothing of their own
abbrev pub errand_purpose : JobName → Errand → Purpose
errand_purpose job errands.Size = ForJob (place_of job)
errand_purpose job (errands.Bytes chunk) = ForJob (place_of job)
errand_purpose job errand = ForOther

abbrev pub post_purpose : Post → Purpose
post_purpose (Awaits job errand) = errand_purpose job errand
post_purpose post = ForOther

abbrev pub held_in : Post → Option Chunk
held_in (Holds job chunk bytes) = Some (record { copy = place_of job; off = chunk.off; bytes = bytes })
held_in post = None

abbrev pub holds_at : {M : Type 0} → DestState M → ℕ → Option Chunk
holds_at s place = held_in (post_at (copier_in s).work.workers place)

-- ---- as a caller of its source

-- a call for a job waits for its acceptance
abbrev pub ready_by : (made : ℕ) → Purpose → Bool
ready_by made (ForJob job) = nat_lt job made
ready_by made purpose = true

abbrev pub above_in : (boot : ℕ) → Copier → Above
above_in boot x = record {
  boot = boot;
  calls = last_xid x.work.mount x.back;
  purpose = λ place. post_purpose (post_at x.work.workers place);
  ready = ready_by x.copies.book.table.made;
}

abbrev pub caller_in : {M : Type 0} → DestState M → Caller
caller_in s = caller_of (above_in s.state.machine.store.volume.boot (copier_in s)) (copier_in s).work.mount
