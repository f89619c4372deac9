-- What a call leaves of a session table's slots: it moves none, or one.
use Rattle.std.specs.Prelude.{◌≡◌, ◌⊎◌, ℕ, suc, ◌<◌, ◌≤◌, List, Some, replicate}
use Rattle.nfs_base.specs.declared.limits.TheConstants.{SLOTS}
use Rattle.sess_slots.specs.declared.answers.Place.{Place}
use Rattle.sess_slots.specs.declared.session.Session.{Session}
use Rattle.sess_slots.specs.Begins.{reply_kept}
use Rattle.sess_slots.specs.Slots.{fresh_slot}
use Rattle.sess_slots.specs.Table.{SessionTable, session_numbered}
use Rattle.slot_laws.specs.Sound.{IsSound}

-- a session that was just made: its number is above all that were given, and nothing was taken on its slots
pub record IsFresh (v : SessionTable) (n : ℕ) (s : Session) : Type 0 where
  pub above : v.sessions_made < n
  pub slots : s.slots ≡ replicate SLOTS fresh_slot

-- No slot moves: a session that is there was there, or was just made, and one is made at most.
pub record Rests (v w : SessionTable) : Type 0 where
  pub made : v.sessions_made ≤ w.sessions_made
  pub few : w.sessions_made ≤ suc v.sessions_made
  pub found : (n : ℕ) (s : Session) → session_numbered w.sessions n ≡ Some s → (session_numbered v.sessions n ≡ Some s) ⊎ IsFresh v n s
  pub sound : IsSound w

-- One slot moves: a number was executed in it, and the reply is kept for the root context of the call.
pub record Moves (place : Place) (root : ℕ) (reply : List ℕ) (v w : SessionTable) : Type 0 where
  pub made : w.sessions_made ≡ v.sessions_made
  pub sessions : w.sessions ≡ reply_kept place root reply v.sessions
