-- The moments of a disk since its last crash, and the fuse. Own model.
use Rattle.std.specs.Prelude.{◌≡◌, ℕ, suc, zero, ◌≤◌, true, []}
use Rattle.disk_model.specs.Disk.{Image, DiskState}
use Rattle.disk_model.specs.declared.fuse.Fuse.{Fuse}
use Rattle.disk_model.specs.declared.fuse.Fuse.TheVariants.{Unset, Burning, Out}

-- The moments since the last crash: the number of the present one, and the disk at each. A write or
-- a sync takes at most one moment, a read none. `stop` is the moment at which the fuse ran out.
pub record Timeline : Type 0 where
  pub latest : ℕ
  pub state : ℕ → DiskState
  pub stop : ℕ

-- the disk now
abbrev pub present : Timeline → DiskState
present t = t.state t.latest

-- what a read gives now
abbrev pub contents : Timeline → Image
contents t = (present t).reads

-- the fuse after one more write or sync
abbrev pub burnt : Fuse → Fuse
burnt Unset = Unset
burnt (Burning zero) = Out
burnt (Burning (suc calls)) = Burning calls
burnt Out = Out

-- the fuse after it is set to let so many calls pass; a machine that has stopped stays stopped
abbrev pub set_to : Fuse → ℕ → Fuse
set_to Unset calls = Burning calls
set_to (Burning _) calls = Burning calls
set_to Out calls = Out

-- The machine has stopped.
abbrev pub IsOut : Fuse → Type 0
IsOut fuse = fuse ≡ Out

-- The moment as of which a crash leaves what it leaves: that of the stop, or now.
abbrev pub crash_moment : Fuse → Timeline → ℕ
crash_moment Unset t = t.latest
crash_moment (Burning _) t = t.latest
crash_moment Out t = t.stop

-- Time goes on: the moments that were stay as they were. A machine that had stopped is stopped at the
-- same moment; one that stopped in between did so at a moment in between. A fuse that isn't set stays so.
pub record Elapses (old_fuse new_fuse : Fuse) (old new : Timeline) : Type 0 where
  pub later : old.latest ≤ new.latest
  pub past : (k : ℕ) → k ≤ old.latest → new.state k ≡ old.state k
  pub stays : IsOut old_fuse → IsOut new_fuse × (new.stop ≡ old.stop)
  pub stops : (IsOut old_fuse → ⊥) → IsOut new_fuse → (old.latest ≤ new.stop) × (new.stop ≤ new.latest)
  pub unset : old_fuse ≡ Unset → new_fuse ≡ Unset

-- A call that stops the machine stops it before the call does anything.
abbrev pub StopsBefore : Fuse → Fuse → Timeline → Timeline → Type 0
StopsBefore old_fuse new_fuse old new = (IsOut old_fuse → ⊥) → IsOut new_fuse → new.stop ≡ old.latest

-- the moments of a disk that tells nothing
abbrev pub untold : Timeline
untold = record { latest = 0; state = λ _. record { reads = λ _. []; is_open = λ _. true }; stop = 0 }
