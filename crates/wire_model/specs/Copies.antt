-- The copies of a destination as they are seen: each with its plan and log, and what its server has done with it.
use Rattle.std.specs.Prelude.{◌≡◌, ℕ, ◌+◌, Bool, false, ◌&&◌, ◌||◌, not, nat_lt, List, [], length}
use Rattle.copy_model.specs.Job.{Plan, Entry, has_ended}
use Rattle.copy_model.specs.Marks.{len_of, has_byte, is_stopped, is_committed}
use Rattle.copy_model.specs.Moment.{Copy, Did}
use Rattle.copy_model.specs.Moment as did
use Rattle.copy_model.specs.Effect.{Effect, Rests, Writes, Commits, WriteFails, CommitFails, Crashes}
use Rattle.copy_model.specs.Laws.{Progress}

-- A job: its plan and log, whether its server retired it or lost it in a crash, and whether it was reported as
-- stable: a CB_OFFLOAD with FILE_SYNC4 was sent, or an OFFLOAD_STATUS was answered that it is complete.
pub record Job : Type 0 where
  pub plan : Plan
  pub entries : List Entry
  pub retired : Bool
  pub lost : Bool
  pub stable : Bool

-- The three facts on completion. They are said here alone: another way to complete, as a COMMIT by the client
-- with the verifier of the copy, changes these and the law that a job that becomes safe owes a commit.
abbrev pub is_complete : Job → Bool
is_complete job = is_committed job.entries

abbrev pub is_safe : Job → Bool
is_safe job = is_committed job.entries

abbrev pub may_land : Job → Bool
may_land job = not (has_ended job.entries) && (not job.retired && not job.lost)

-- A copy as it is seen. One that its server retired is seen as stopped.
abbrev pub copy_of : Job → Copy
copy_of job =
    record {
      plan = job.plan;
      len = len_of job.entries;
      stopped = is_stopped job.entries || job.retired;
      completed = is_complete job;
      stable = job.stable;
    }

-- how far the copy at a place is, of so many that were accepted
abbrev pub progress_of : ℕ → ℕ → Job → Progress
progress_of made j job =
    record {
      landed = λ q. has_byte job.entries q;
      live = may_land job;
      intact = nat_lt j made && not job.lost;
      durable = is_safe job;
    }

-- a job of which nothing was entered or reported
pub record IsBlank (job : Job) : Type 0 where
  pub entries : job.entries ≡ []
  pub stable : job.stable ≡ false

-- What the destination did to its volume in a step: a call of its own or a client's, or a crash; the landing of
-- a chunk of a copy, whose offset counts from the start of its range; or such a landing failed.
pub data Deed : Type 0 where
  Plain : (effect : Effect) → Deed
  Lands : (copy off : ℕ) (bytes : List ℕ) → Deed
  LandFails : Deed

abbrev pub did_by : Effect → Did
did_by Rests = did.Rested
did_by (Writes file off bytes) = did.Wrote file off (length bytes)
did_by (Commits file) = did.Rested
did_by WriteFails = did.Rested
did_by (CommitFails file) = did.Rested
did_by (Crashes under kept) = did.Crashed

abbrev pub did_of : Deed → Did
did_of (Plain effect) = did_by effect
did_of (Lands copy off bytes) = did.Landed copy off (length bytes)
did_of LandFails = did.Rested

-- what the step is to the volume, where the copies have these plans
abbrev pub effect_of : (ℕ → Plan) → Deed → Effect
effect_of plan (Plain effect) = effect
effect_of plan (Lands copy off bytes) = Writes (plan copy).dst_file ((plan copy).dst_off + off) bytes
effect_of plan LandFails = WriteFails

-- and what it would be had no chunk ever landed
abbrev pub bare_effect : Deed → Effect
bare_effect (Plain effect) = effect
bare_effect (Lands copy off bytes) = Rests
bare_effect LandFails = Rests
