-- What a step does to a volume, and what is seen of it afterwards. Own definitions; WRITE and COMMIT are those
-- of RFC 8881 sections 18.32 and 18.3.
use Rattle.std.specs.Prelude.{◌≡◌, ℕ, suc, ◌+◌, ◌-◌, ◌^◌, ◌<◌, ◌≤◌, false, Option, None, Some, List, length}
use Rattle.copy_model.specs.Volume.{Volume, Doubt, Kept, formatted, write, commit, fail_write, fail_commit, crash}

-- A step leaves a volume as it is, writes to it, commits a file, fails to do either, or its server crashes. A
-- crash may come while a commit of one file is under way.
pub data Effect : Type 0 where
  Rests : Effect
  Writes : (file off : ℕ) (bytes : List ℕ) → Effect
  Commits : (file : ℕ) → Effect
  WriteFails : Effect
  CommitFails : (file : ℕ) → Effect
  Crashes : (under : Option ℕ) (kept : Kept) → Effect

-- a volume with a commit of this file under way: a crash may leave what it is making safe
abbrev pub committing : Volume → Option ℕ → Volume
committing v None = v
committing v (Some file) = fail_commit v file

abbrev pub after : Volume → Effect → Volume
after v Rests = v
after v (Writes file off bytes) = write v file off bytes
after v (Commits file) = commit v file
after v WriteFails = fail_write v
after v (CommitFails file) = fail_commit v file
after v (Crashes under kept) = crash (committing v under) kept

-- A call goes to a file that is there, of a volume that isn't broken, and a write to one whose writes can still
-- be numbered: the number is part of a change attribute.
abbrev pub IsReady : Volume → ℕ → Type 0
IsReady v file = (v.broken ≡ false) × (file < length v.files)

abbrev pub IsAllowed : Volume → Effect → Type 0
IsAllowed v Rests = Unit {0}
IsAllowed v (Writes file off bytes) = IsReady v file × (v.writes < 2 ^ 32 - 1)
IsAllowed v (Commits file) = IsReady v file
IsAllowed v WriteFails = v.broken ≡ false
IsAllowed v (CommitFails file) = IsReady v file
IsAllowed v (Crashes None kept) = Unit {0}
IsAllowed v (Crashes (Some file) kept) = IsReady v file

-- the effect is a crash
abbrev pub IsCrashOf : Effect → Type 0
IsCrashOf Rests = ⊥
IsCrashOf (Writes file off bytes) = ⊥
IsCrashOf (Commits file) = ⊥
IsCrashOf WriteFails = ⊥
IsCrashOf (CommitFails file) = ⊥
IsCrashOf (Crashes under kept) = Unit {0}

-- the effect writes this byte
abbrev pub WritesAt : Effect → ℕ → ℕ → Type 0
WritesAt Rests file place = ⊥
WritesAt (Writes at off bytes) file place = (at ≡ file) × (off ≤ place) × (place < off + length bytes)
WritesAt (Commits at) file place = ⊥
WritesAt WriteFails file place = ⊥
WritesAt (CommitFails at) file place = ⊥
WritesAt (Crashes under kept) file place = ⊥

-- the effect is a write or the failure of one, as a landing is
abbrev pub IsWriting : Effect → Type 0
IsWriting Rests = ⊥
IsWriting (Writes file off bytes) = Unit {0}
IsWriting (Commits file) = ⊥
IsWriting WriteFails = Unit {0}
IsWriting (CommitFails file) = ⊥
IsWriting (Crashes under kept) = ⊥

-- What holds of a volume from its formatting on: nothing is in doubt unless it is broken, and what is in doubt
-- is a file that is there.
pub record IsFirm (v : Volume) : Type 0 where
  pub certain : v.broken ≡ false → v.doubt ≡ None
  pub there : (d : Doubt) → v.doubt ≡ Some d → d.file < length v.files

-- a volume from its formatting on, whose steps do only what is allowed
pub record IsVolumeRun (volume : ℕ → Volume) (effect : ℕ → Effect) : Type 0 where
  pub files : ℕ
  pub capacity : ℕ
  pub start : volume 0 ≡ formatted files capacity
  pub allowed : (k : ℕ) → IsAllowed (volume k) (effect k)
  pub goes_on : (k : ℕ) → volume (suc k) ≡ after (volume k) (effect k)
