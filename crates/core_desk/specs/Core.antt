-- A desk with a destination's machine, and its steps. Own definitions.
use Rattle.std.specs.Prelude.{◌≡◌, ℕ, ◌<◌, ◌≤◌, nat_le, Bool, false, if◌then◌else◌, List, [], Option, Some, None, IfSome, MatchOption, Result, IfOk, OnErr}
use Rattle.outbox.specs.declared.outgoing.Outbox.{Outbox}
use Rattle.outbox.specs.declared.outgoing.Outgoing.{Outgoing}
use Rattle.outcome.specs.declared.memory.NoMemory.{NoMemory}
use Rattle.core_desk.specs.Kept.{passed_of, Gives}
use Rattle.core_desk.specs.declared.machine.TheConstants.{MOST_CALLS}
use Rattle.core_desk.specs.declared.desk.Closing.{Closing}
use Rattle.core_desk.specs.declared.desk.Closing.TheVariants as closing

-- The machine, its draws, the totals of the books, the calls that are kept for workers, and whether the desk was asked to close.
pub record DeskState (K W : Type 0) : Type 0 where
  pub core : K
  pub draws : W
  pub landed : ℕ
  pub turns : ℕ
  pub given : ℕ
  pub kept : List (Option Outgoing)
  pub asked : Bool

-- no step is left to the machine
abbrev pub is_full : (steps : ℕ) → Bool
is_full steps = nat_le MOST_CALLS steps

abbrev pub closing_of : (asked : Bool) → (steps : ℕ) → Option Closing
closing_of asked steps = if asked then Some closing.Asked else (if is_full steps then Some closing.Calls else None)

pub record IsEmpty (out : Outbox) : Type 0 where
  pub sent : out.sent ≡ []
  pub notes : out.notes ≡ []
  pub accepted : out.accepted ≡ None
  pub used : out.used ≡ []
  pub drawn : out.undrawn ≡ false

-- What a desk gives of a step of the machine in some second: what the step told, with other records.
pub record Gave {K : Type 0} (step : (now : ℕ) → K → Outbox → K → Type 0) (sends : List Outgoing → List Outgoing → Type 0) (old : K) (out : Outbox) (new : K) : Type 0 where
  pub now : ℕ
  pub told : Outbox
  pub step_is : step now old told new
  pub is : out ≡ record told { sent = out.sent }
  pub sent : sends told.sent out.sent

-- the same records, and those that no worker waits for
abbrev pub same_sent : List Outgoing → List Outgoing → Type 0
same_sent told sent = sent ≡ told

abbrev pub passed_sent : List Outgoing → List Outgoing → Type 0
passed_sent told sent = sent ≡ passed_of told

-- ---- what workers do

-- A worker's turn is one step of the machine, or, where none is left, nothing; without memory the machine is as before. With a record that
-- came for the worker it is the step that takes it. Without one it is the worker's own, whose draws it takes, and what it gives goes behind
-- the call that is kept for the worker.
pub record TurnIs {K W : Type 0} (steps : K → ℕ) (works : (now : ℕ) → W → W → K → Outbox → K → Type 0)
    (takes : (message : List ℕ) → (now : ℕ) → K → Outbox → K → Type 0) (worker : ℕ) (reply : Option (List ℕ))
    (old : DeskState K W) (result : Result Outbox NoMemory) (new : DeskState K W) : Type 0 where
  pub step : steps old.core < MOST_CALLS → IfOk result (λ out. MatchOption reply
      (Gave (λ now before told after. works now old.draws new.draws before told after) (Gives worker old.kept new.kept) old.core out new.core)
      (λ message. Gave (takes message) same_sent old.core out new.core))
  pub full : MOST_CALLS ≤ steps old.core → IfOk result IsEmpty × (new.core ≡ old.core)
  pub rest : IfSome reply (λ message. (new.draws ≡ old.draws) × (new.kept ≡ old.kept))
  pub later : steps old.core ≤ steps new.core
  pub err : OnErr result (new.core ≡ old.core)
  pub asked : new.asked ≡ old.asked

-- A link that failed is one step of the machine, or, where none is left, nothing; without memory all is as before.
pub record LossIs {K W : Type 0} (steps : K → ℕ) (fails : K → Outbox → K → Type 0) (old : DeskState K W) (result : Result Outbox NoMemory)
    (new : DeskState K W) : Type 0 where
  pub step : steps old.core < MOST_CALLS → IfOk result (λ out. fails old.core out new.core)
  pub full : MOST_CALLS ≤ steps old.core → IfOk result IsEmpty × (new ≡ old)
  pub rest : new ≡ record old { core = new.core }
  pub later : steps old.core ≤ steps new.core
  pub err : OnErr result (new ≡ old)
