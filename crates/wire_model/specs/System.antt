-- A system of three machines in small steps, and the history that it shows.
use Rattle.std.specs.Prelude.{ℕ, zero, suc, Bool, Option, List}
use Rattle.copy_model.specs.Volume.{Volume}
use Rattle.copy_model.specs.Job.{Plan}
use Rattle.copy_model.specs.Moment.{Did, Moment, History, seen_source, seen_dest}
use Rattle.copy_model.specs.Moment as did
use Rattle.copy_model.specs.Effect.{Effect}
use Rattle.copy_model.specs.Laws.{Progress}
use Rattle.nfs_base.specs.declared.seal.End.{End}
use Rattle.nfs_base.specs.declared.job.JobName.{JobName}
use Rattle.wire_model.specs.Wire.{Acts, Server, Caller, Wire}
use Rattle.wire_model.specs.Copies.{Job, Deed, copy_of, progress_of, did_of, effect_of}
use Rattle.wire_model.specs.Word.{Word}

-- a chunk of a copy that a worker of the destination holds
pub record Chunk : Type 0 where
  pub copy : ℕ
  pub off : ℕ
  pub bytes : List ℕ

-- Each end's acts in a step, and what is seen of the three machines at each moment: both servers, each end as a
-- caller of either, the volumes and what the steps did to them (bare is the destination's had no chunk ever
-- landed), the copies in the order of their acceptance with the room that each claims, the chunks that workers
-- hold, the names of the copies; and of the client, by its own numbers, what it knows and has said of each of its
-- copies, and the names of which it holds a report.
pub record System : Type 0 where
  pub acts : End → ℕ → Acts
  pub server : End → ℕ → Server
  pub caller : End → End → ℕ → Caller
  pub source : ℕ → Volume
  pub effect : ℕ → Effect
  pub dest : ℕ → Volume
  pub bare : ℕ → Volume
  pub deed : ℕ → Deed
  pub made : ℕ → ℕ
  pub job : ℕ → ℕ → Job
  pub reach : ℕ → ℕ
  pub holds : ℕ → ℕ → Option Chunk
  pub name : ℕ → ℕ → JobName
  pub word : ℕ → ℕ → Word
  pub held : ℕ → JobName → Bool

-- one server and its callers
abbrev pub wire_of : System → End → Wire
wire_of s owner = record { owner = owner; server = s.server owner; caller = s.caller owner; acts = s.acts }

abbrev pub plan_at : System → ℕ → ℕ → Plan
plan_at s k j = (s.job k j).plan

-- what the step from moment k does to the destination's volume
abbrev pub dest_effect : System → ℕ → Effect
dest_effect s k = effect_of (plan_at s k) (s.deed k)

-- what the step to a moment did
abbrev pub did_at : System → ℕ → Did
did_at s zero = did.Rested
did_at s (suc k) = did_of (s.deed k)

abbrev pub history : System → History
history s =
    λ k.
    record {
      source = seen_source (s.source k);
      dest = seen_dest (s.dest k);
      bare = seen_dest (s.bare k);
      made = s.made k;
      copy = λ j. copy_of (s.job k j);
      did = did_at s k;
    }

abbrev pub progress : System → ℕ → ℕ → Progress
progress s k j = progress_of (s.made k) j (s.job k j)
