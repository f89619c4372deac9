-- What a crash at any moment of a step may leave of the server's volume, by the calls that the step makes. Own
-- definitions; the calls are those of RFC 8881 sections 18.3, 18.22 and 18.32.
use Rattle.std.specs.Prelude.{◌≡◌, ◌⊎◌, ℕ, ◌<◌, ◌+◌, false, None, List, [], ◌∷◌, ◌++◌, length}
use Rattle.outcome.specs.Causes.{RoseBy}
use Rattle.copy_model.specs.Volume.{fail_commit}
use Rattle.disk_model.specs.Disk.{Image, MayLeave}
use Rattle.disk_model.specs.Elapsed.{Timeline, present}
use Rattle.disk_model.specs.Passes.{Passes}
use Rattle.block_file.specs.Opened.{MayBeLeft, homes_by}
use Rattle.server_volume.specs.declared.used.Used.{Used}
use Rattle.server_volume.specs.declared.used.CallAnswer.{CallAnswer}
use Rattle.server_volume.specs.declared.used.CallAnswer.TheVariants.{Done, DiskFailed, Refused}
use Rattle.server_volume.specs.Store.{Store, Seat}
use Rattle.server_volume.specs.Calls.{Asked, Reads, Writes, Commits, call_of, left_by, write_fault}

-- a call that a step made, and what it answered
pub record Made : Type 0 where
  pub asked : Asked
  pub answer : CallAnswer

-- a volume that a call may change is one with that file, and isn't broken
pub record IsServed (s : Store) (file : ℕ) : Type 0 where
  pub there : file < length s.volume.files
  pub whole : s.volume.broken ≡ false

-- The volume takes what is asked of it.
abbrev pub Serves : Store → Asked → Type 0
Serves s (Reads file off len) = IsServed s file
Serves s (Writes file off bytes) = IsServed s file × (write_fault s.volume off bytes ≡ None)
Serves s (Commits file) = IsServed s file

-- a call that wasn't refused was one that the volume takes
abbrev pub IsTaken : CallAnswer → Store → Asked → Type 0
IsTaken Done s asked = Serves s asked
IsTaken DiskFailed s asked = Serves s asked
IsTaken Refused s asked = Unit {0}

-- The store as a crash inside the call sees it: that before the call, with a commit under way.
abbrev pub within : Asked → CallAnswer → Store → Store
within (Reads file off len) answer s = s
within (Writes file off bytes) answer s = s
within (Commits file) Done s = record s { volume = fail_commit s.volume file }
within (Commits file) DiskFailed s = record s { volume = fail_commit s.volume file }
within (Commits file) Refused s = s

-- ---- calls one after the other, from a store on

-- what they leave
abbrev pub after_calls : Store → List Made → Store
after_calls s [] = s
after_calls s (m ∷ ms) = after_calls (left_by m.asked m.answer s) ms

-- the stores that crashes inside them see
abbrev pub stores_within : Store → List Made → List Store
stores_within s [] = []
stores_within s (m ∷ ms) = within m.asked m.answer s ∷ stores_within (left_by m.asked m.answer s) ms

-- how they are noted
abbrev pub uses_of : Store → List Made → List Used
uses_of s [] = []
uses_of s (m ∷ ms) = record { call = call_of m.asked s; answer = m.answer } ∷ uses_of (left_by m.asked m.answer s) ms

-- each of them was refused, or one that the volume takes
abbrev pub AreTaken : Store → List Made → Type 0
AreTaken s [] = Unit {0}
AreTaken s (m ∷ ms) = IsTaken m.answer s m.asked × AreTaken (left_by m.asked m.answer s) ms

-- how many of the calls that are noted failed on the disk
abbrev pub failed_in : CallAnswer → ℕ
failed_in Done = 0
failed_in DiskFailed = 1
failed_in Refused = 0

abbrev pub failures_in : List Used → ℕ
failures_in [] = 0
failures_in (u ∷ us) = failed_in u.answer + failures_in us

-- ---- what a crash may leave

-- an image that a crash may leave of a store
abbrev pub LeftOf : Store → Image → Type 0
LeftOf s image = MayBeLeft s.size s.tag (homes_by s.homes) s.volume image

-- or of one of these
abbrev pub LeftBy : List Store → Image → Type 0
LeftBy [] image = ⊥
LeftBy (s ∷ ss) image = LeftOf s image ⊎ LeftBy ss image

-- what a crash now may leave is left by one of these
abbrev pub NowLeft : Timeline → List Store → Type 0
NowLeft t stores = (image : Image) → MayLeave (present t) image → LeftBy stores image

-- what is left by one of those is left by one of these
abbrev pub IsCovered : List Store → List Store → Type 0
IsCovered those these = (image : Image) → LeftBy those image → LeftBy these image

-- What was done to a volume in some calls, which are noted behind those before. Whatever a crash at any moment of
-- them may leave is left by one of these stores, where they have what a crash before the calls may leave and what one
-- inside a call may.
pub record Ran (old new : Seat) (used more : List Used) : Type 0 where
  pub calls : List Made
  pub noted : more ≡ used ++ uses_of old.store calls
  pub taken : AreTaken old.store calls
  pub store : new.store ≡ after_calls old.store calls
  pub moments : (stores : List Store) → NowLeft old.timeline stores → IsCovered (stores_within old.store calls) stores
      → Passes old.fuse new.fuse old.timeline new.timeline (LeftBy stores)

-- The same of any disk: those calls are noted behind those before, the disk is as large as it was, and its count of faults rose by
-- one at least for each call that failed on it. Of a disk that tells what it holds, the calls ran.
pub record Counted (told : Type 0) (old new : Seat) (used more : List Used) : Type 0 where
  pub added : List Used
  pub noted : more ≡ used ++ added
  pub as_large : new.store.size ≡ old.store.size
  pub rose : RoseBy (failures_in added) old.faults new.faults
  pub ran : told → Ran old new used more
