-- The disk in memory: what it shows, and what exactly its calls answer. Own definitions.
use Rattle.std.specs.Prelude.{◌≡◌, ℕ, ◌+◌, true, false}
use Rattle.disk_model.specs.declared.disk.Io.{Io}
use Rattle.disk_model.specs.declared.disk.Io.TheVariants.{Done, Failed}
use Rattle.disk_model.specs.declared.fuse.Fuse.{Fuse}
use Rattle.disk_model.specs.declared.memory_disk.Counts.{Counts}
use Rattle.disk_model.specs.declared.memory_disk.MemoryDisk.{MemoryDisk}
use Rattle.disk_model.specs.Elapsed.{Timeline}
use Rattle.outcome.specs.Plan.{Plan, counted, is_due, after_call, planned_faults}
use Rattle.disk_model.specs.Replay.{base_of, moments}

-- how many blocks it has
abbrev pub size_of : MemoryDisk → ℕ
size_of d = d.blocks

-- its moments since the last crash
abbrev pub timeline_of : MemoryDisk → Timeline
timeline_of d = moments (base_of d.store.left) d.store.calls.items d.stop

abbrev pub fuse_of : MemoryDisk → Fuse
fuse_of d = d.fuse

-- the calls that it was given, and those of them that are to fail
abbrev pub plan_of : MemoryDisk → Plan
plan_of d = d.plan

-- the calls of each kind that it was given
abbrev pub counts_of : MemoryDisk → Counts
counts_of d = d.counts

-- how many of its calls failed for want of memory
abbrev pub starved_of : MemoryDisk → ℕ
starved_of d = d.starved

-- how many of its calls failed
abbrev pub faults_of : MemoryDisk → ℕ
faults_of d = planned_faults d.plan + d.starved

-- A call that is planned to fail does. Any other fails only for want of memory, which is counted.
pub record Answers (old new : MemoryDisk) (result : Io) : Type 0 where
  pub plan : plan_of new ≡ after_call (plan_of old)
  pub due : is_due (plan_of old) ≡ true → (result ≡ Failed) × (starved_of new ≡ starved_of old)
  pub done : result ≡ Done → starved_of new ≡ starved_of old
  pub starved : is_due (plan_of old) ≡ false → result ≡ Failed → starved_of new ≡ counted (starved_of old)
