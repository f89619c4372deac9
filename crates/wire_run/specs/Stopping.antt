-- What is known of servers that stop and are opened anew. Own definitions.
use Rattle.std.specs.Prelude.{◌≡◌, ℕ, ◌+◌, ◌-◌, ◌<◌, ◌^◌, List, Option, None, length}
use Rattle.block_file.specs.Opened.{Opened, StandsFor}
use Rattle.block_file.specs.declared.faults.OpenFault.{OpenFault}
use Rattle.block_file.specs.declared.faults.OpenFault.TheVariants.{DiskFailed}
use Rattle.disk_model.specs.Elapsed.{IsOut, Timeline}
use Rattle.disk_model.specs.declared.fuse.Fuse.{Fuse}
use Rattle.disk_model.specs.declared.fuse.Fuse.TheVariants.{Unset}
use Rattle.run_ends.specs.Stops.Reopening.{IsReopened, IsUnopened, MadeCalls, MayReopen}
use Rattle.server_volume.specs.Store.{Store, store_of}
use Rattle.server_volume.specs.declared.used.Used.{Used}
use Rattle.volume_stops.specs.Stops.{StopsIn, kept_by, pending_after, pending_in, pending_within}
use Rattle.volume_stops.specs.declared.kept.Kept.{Kept}
use Rattle.volume_stops.specs.declared.pending.Pending.{Pending}

-- Of calls on a volume before which the machine hadn't stopped, and of what is opened behind a stop in them.
pub record StopLaws {D : Type 0} (told : Type 0) (size : D → ℕ) (fuse : D → Fuse) (timeline : D → Timeline) (faults : D → ℕ) : Type 0 where
  pub may : (old new : Opened D) (used : List Used) → MadeCalls told size fuse timeline faults old new used
      → (told → IsOut (fuse old.disk) → ⊥) → MayReopen told size fuse timeline new.disk
  pub stops : (old new next : Opened D) (used : List Used) (pending : Option Pending) → told
      → MadeCalls told size fuse timeline faults old new used → (told → IsOut (fuse old.disk) → ⊥)
      → IsReopened told size fuse timeline faults new.disk next → pending ≡ pending_in (store_of size old)
      → StopsIn (store_of size old) used (kept_by (length next.volume.files) next.homes (pending_within pending used)) (store_of size next)
  pub fails : (old new : Opened D) (used : List Used) (now : D) (fault : OpenFault) → told
      → MadeCalls told size fuse timeline faults old new used → (told → IsOut (fuse old.disk) → ⊥)
      → old.volume.boot < 2 ^ 32 - 1 → IsUnopened told size fuse timeline faults new.disk now fault → fault ≡ DiskFailed
  pub noted : (old new : Opened D) (used : List Used) (pending : Option Pending) → told
      → MadeCalls told size fuse timeline faults old new used → pending ≡ pending_in (store_of size old)
      → pending_after pending used ≡ pending_in (store_of size new)
  pub unset : (old new : Opened D) (used : List Used) → told → MadeCalls told size fuse timeline faults old new used
      → fuse old.disk ≡ Unset → fuse new.disk ≡ Unset
  pub fresh : (disk : D) (next : Opened D) → told → IsReopened told size fuse timeline faults disk next → pending_in (store_of size next) ≡ None
  pub boot : (s t : Store) (used : List Used) (kept : Kept) → StopsIn s used kept t → t.volume.boot ≡ s.volume.boot + 1
  pub tag_is : (s t : Store) (used : List Used) (kept : Kept) → StopsIn s used kept t → t.tag ≡ s.tag
  pub files : (s t : Store) (used : List Used) (kept : Kept) → StopsIn s used kept t → length t.volume.files ≡ length s.volume.files
