-- What holds of the sessions of every server, whatever calls it takes.
use Rattle.std.specs.Prelude.{◌≡◌, ℕ, suc, ◌≤◌, List, [], ◌∷◌, length, Some, IfSome}
use Rattle.nfs_base.specs.declared.limits.TheConstants.{SLOTS}
use Rattle.sess_slots.specs.declared.answers.Place.{Place}
use Rattle.sess_slots.specs.declared.session.Session.{Session}
use Rattle.sess_slots.specs.Begins.{slot_of}
use Rattle.sess_slots.specs.Table.{SessionTable, session_numbered}

-- sessions stand in the order in which they were made: their numbers rise from low on, and none is above made
abbrev pub AreRising : (low : ℕ) → List Session → (made : ℕ) → Type 0
AreRising low [] made = low ≤ suc made
AreRising low (s ∷ ss) made = (low ≤ s.number) × AreRising (suc s.number) ss made

-- Numbers begin with 1 and rise, so each is of one session at most; and each session has its sixteen slots.
pub record IsSound (table : SessionTable) : Type 0 where
  pub numbers : AreRising 1 table.sessions table.sessions_made
  pub slots : (n : ℕ) (s : Session) → session_numbered table.sessions n ≡ Some s → length s.slots ≡ SLOTS

-- no slot's number is above this
abbrev pub AreBelow : (most : ℕ) → SessionTable → Type 0
AreBelow most table = (place : Place) → IfSome (slot_of table place) (λ slot. slot.last ≤ most)
