-- Whether file 1 of the source and file 1 of the destination have the same bytes, by what contracts see of a system.
use Rattle.std.specs.Prelude.{◌≡◌, ◌≢◌, ◌⊎◌, ℕ, List, IfSome, true}
use Rattle.copy_model.specs.Volume.{bytes_at, file_at}
use Rattle.nfs_base.specs.declared.side.Side.{Side}
use Rattle.nfs_base.specs.declared.side.Side.TheVariants.{Source, Dest}
use Rattle.outcome.specs.Causes.{Rose}
use Rattle.wire_run.specs.Running.{Running, disk_of, faults_in}
use Rattle.wire_run.specs.System.{is_broken, shown_at}

-- what holds of the bytes that both files have now, where both servers are there
abbrev pub OfBoth : {D M : Type 0} → Running D M → (List ℕ → List ℕ → Type 0) → Type 0
OfBoth r holds =
    IfSome (shown_at r.source_state r.dest_state Source) (λ s. IfSome (shown_at r.source_state r.dest_state Dest) (λ d. holds (file_at s 1).now (file_at d 1).now))

-- they have the same bytes
abbrev pub AreAlike : {D M : Type 0} → Running D M → Type 0
AreAlike r = OfBoth r (λ s d. s ≡ d)

-- they don't
abbrev pub AreUnlike : {D M : Type 0} → Running D M → Type 0
AreUnlike r = OfBoth r (λ s d. s ≢ d)

-- they have the same len bytes from off on, zeros past the end
abbrev pub AreAlikeAt : {D M : Type 0} → Running D M → (off len : ℕ) → Type 0
AreAlikeAt r off len = OfBoth r (λ s d. bytes_at s off len ≡ bytes_at d off len)

-- why a server's file isn't shown: its volume is broken, or its disk failed
abbrev pub IsUnshown : {D M : Type 0} → (D → ℕ) → Running D M → Running D M → Side → Type 0
IsUnshown faults old new side = (is_broken old side ≡ true) ⊎ Rose (faults_in faults (disk_of old side)) (faults_in faults (disk_of new side))

-- why they aren't said to be alike: they differ, or one isn't shown
abbrev pub MayDiffer : {D M : Type 0} → (D → ℕ) → Running D M → Running D M → Type 0
MayDiffer faults old new = AreUnlike old ⊎ (IsUnshown faults old new Source ⊎ IsUnshown faults old new Dest)

-- all but the two disks is as it was
abbrev pub LeavesAll : {D M : Type 0} → Running D M → Running D M → Type 0
LeavesAll old new = new ≡ record old { source = new.source; dest = new.dest }
