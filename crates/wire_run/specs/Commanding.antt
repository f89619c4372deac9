-- What a command of the client asks of the client before. Own definitions.
use Rattle.std.specs.Prelude.{◌≡◌, ℕ, ◌≤◌, ◌<◌, None}
use Rattle.client_copies.specs.declared.table.TheConstants.{MOST_COPIES}
use Rattle.client_core.specs.State.{ClientState}
use Rattle.client_core.specs.Telling.{copy_of}
use Rattle.wire_schedule.specs.declared.event.Event.{Event}
use Rattle.wire_schedule.specs.declared.event.Event.TheVariants as kinds

-- a copy that is to be begun has a number, and wasn't begun before
pub record IsNewCopy {M : Type 0} (copy : ℕ) (c : ClientState M) : Type 0 where
  pub first : 1 ≤ copy
  pub last : copy < MOST_COPIES
  pub new : copy_of copy c ≡ None

abbrev pub CanBegin : {M : Type 0} → Event → ClientState M → Type 0
CanBegin (kinds.Copy copy spec) c = IsNewCopy copy c
CanBegin event c = Unit {0}
