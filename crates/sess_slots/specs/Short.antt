-- What holds of the slots of every session: they are sixteen, and a reply that is kept is at most a record.
use Rattle.std.specs.Prelude.{◌≡◌, ◌≤◌, List, length, All, IfSome}
use Rattle.nfs_base.specs.declared.limits.TheConstants.{SLOTS}
use Rattle.sess_slots.specs.declared.slot.TheConstants.{MOST_REPLY}
use Rattle.sess_slots.specs.declared.slot.Slot.{Slot}

abbrev pub IsShort : Slot → Type 0
IsShort slot = IfSome slot.kept (λ kept. length kept.reply ≤ MOST_REPLY)

pub record AreSlots (slots : List Slot) : Type 0 where
  pub all : length slots ≡ SLOTS
  pub short : All IsShort slots
