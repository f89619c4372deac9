-- What becomes of a server's volume whose machine stops, in a call on it or between two steps. It crashes then, and the volume is
-- opened anew. Own definitions; COMMIT is that of RFC 8881 section 18.3.
use Rattle.std.specs.Prelude.{◌≡◌, ◌⊎◌, ℕ, ◌-◌, ◌<◌, ◌≤◌, ◌==◌, ◌&&◌, Bool, true, false, nat_le, nat_lt, Option, Some, None, List, [], ◌∷◌, fold, length, if◌then◌else◌}
use Rattle.copy_model.specs.Effect.{Effect, Crashes}
use Rattle.copy_model.specs.Volume as volumes
use Rattle.copy_model.specs.Volume.{Doubt, Volume, crash}
use Rattle.disk_model.specs.Disk.{Image, MayLeave}
use Rattle.disk_model.specs.Elapsed.{present}
use Rattle.block_file.specs.Opened.{homes_by, left_home}
use Rattle.block_file.specs.Stored.{home_of, reopened, tag_of}
use Rattle.server_volume.specs.Moments.{AreTaken, LeftOf, Made, stores_within, uses_of}
use Rattle.server_volume.specs.Store.{Seat, Store}
use Rattle.server_volume.specs.declared.used.CallAnswer.{CallAnswer}
use Rattle.server_volume.specs.declared.used.CallAnswer.TheVariants.{Done, DiskFailed, Refused}
use Rattle.server_volume.specs.declared.used.Used.{Used}
use Rattle.server_volume.specs.declared.used.VolumeCall.{VolumeCall}
use Rattle.server_volume.specs.declared.used.VolumeCall.TheVariants as kinds
use Rattle.volume_stops.specs.declared.kept.Kept.{Kept}
use Rattle.volume_stops.specs.declared.kept.Kept.TheVariants.{Old, New, Nothing}
use Rattle.volume_stops.specs.declared.pending.Pending.{Pending}

-- ---- commits that a crash may find unfinished. A commit is noted with the home whose table it puts.

-- one that failed, as an open volume has it
abbrev pub in_doubt : List ℕ → Option Doubt → Option Pending
in_doubt homes None = None
in_doubt homes (Some d) = Some (record { file = d.file; home = 1 - homes_by homes d.file })

abbrev pub pending_in : Store → Option Pending
pending_in s = in_doubt s.homes s.volume.doubt

-- what one call leaves: its own commit, if the disk failed in it
abbrev pub left_by_call : Option Pending → VolumeCall → CallAnswer → Option Pending
left_by_call before (kinds.Read file off len) answer = before
left_by_call before (kinds.Write file off len) answer = before
left_by_call before (kinds.Commit file home) Done = before
left_by_call before (kinds.Commit file home) DiskFailed = Some (record { file = file; home = home })
left_by_call before (kinds.Commit file home) Refused = before

abbrev pub left_pending : Option Pending → Used → Option Pending
left_pending before used = left_by_call before used.call used.answer

-- what a stop within one call finds: its own commit, unless it was refused
abbrev pub met_in_call : Option Pending → VolumeCall → CallAnswer → Option Pending
met_in_call before (kinds.Read file off len) answer = before
met_in_call before (kinds.Write file off len) answer = before
met_in_call before (kinds.Commit file home) Done = Some (record { file = file; home = home })
met_in_call before (kinds.Commit file home) DiskFailed = Some (record { file = file; home = home })
met_in_call before (kinds.Commit file home) Refused = before

abbrev pub met_pending : Option Pending → Used → Option Pending
met_pending before used = met_in_call before used.call used.answer

-- what the calls of a step leave, one after the other, and what a stop within them finds
abbrev pub pending_after : Option Pending → List Used → Option Pending
pending_after before used = fold left_pending before used

abbrev pub pending_within : Option Pending → List Used → Option Pending
pending_within before used = fold met_pending before used

-- ---- what was kept of it: the table in force stands in the home that the commit put, or in the other one

abbrev pub kept_at : (home now : ℕ) → Kept
kept_at home now = if now == home then New else Old

abbrev pub kept_if : (there : Bool) → (home now : ℕ) → Kept
kept_if true home now = kept_at home now
kept_if false home now = Nothing

-- a volume with so many files, the root among them, has one of this number that isn't the root
abbrev pub is_file : (files file : ℕ) → Bool
is_file files file = nat_le 1 file && nat_lt file files

abbrev pub kept_by : (files : ℕ) → (homes : List ℕ) → Option Pending → Kept
kept_by files homes None = Nothing
kept_by files homes (Some p) = kept_if (is_file files p.file) p.home (homes_by homes p.file)

-- ---- a volume after a crash

-- what is opened of an image
pub record IsOpenedFrom (image : Image) (t : Store) : Type 0 where
  pub volume : t.volume ≡ reopened image
  pub tag_is : t.tag ≡ tag_of image
  pub homes_are : (j : ℕ) → 1 ≤ j → j < length t.volume.files → homes_by t.homes j ≡ home_of image j

-- what was opened is what a crash leaves of a store
pub record IsLeftOf (s t : Store) : Type 0 where
  pub side : volumes.Kept
  pub volume : t.volume ≡ crash s.volume side
  pub tag_is : t.tag ≡ s.tag
  pub homes_are : (j : ℕ) → 1 ≤ j → j < length t.volume.files → homes_by t.homes j ≡ left_home (homes_by s.homes) s.volume.doubt side j

-- or of one of these
abbrev pub IsLeftBy : List Store → Store → Type 0
IsLeftBy [] t = ⊥
IsLeftBy (s ∷ ss) t = IsLeftOf s t ⊎ IsLeftBy ss t

-- The machine stopped in a step that made these calls on the volume, or between two steps where there are none. What was opened then
-- is what a crash leaves of the volume as it was before the calls, or as a crash within one of them finds it; and this was kept of the
-- commit that the crash found unfinished.
pub record StopsIn (s : Store) (used : List Used) (kept : Kept) (t : Store) : Type 0 where
  pub calls : List Made
  pub noted : used ≡ uses_of s calls
  pub taken : AreTaken s calls
  pub left : IsLeftBy (s ∷ stores_within s calls) t
  pub size_is : t.size ≡ s.size
  pub kept_is : kept ≡ kept_by (length t.volume.files) t.homes (pending_within (pending_in s) used)

-- whatever a crash now may leave, this store leaves
abbrev pub StandsAs : Seat → Type 0
StandsAs seat = (image : Image) → MayLeave (present seat.timeline) image → LeftOf seat.store image

-- ---- as one effect that the promise knows, where the step made one call at most

abbrev pub side_of : Kept → volumes.Kept
side_of Old = volumes.Old
side_of New = volumes.New
side_of Nothing = volumes.Old

-- the file whose commit is under way in a call
abbrev pub under_by : VolumeCall → CallAnswer → Option ℕ
under_by (kinds.Read file off len) answer = None
under_by (kinds.Write file off len) answer = None
under_by (kinds.Commit file home) Done = Some file
under_by (kinds.Commit file home) DiskFailed = Some file
under_by (kinds.Commit file home) Refused = None

-- in the first call, if there is one
abbrev pub under_in : List Used → Option ℕ
under_in [] = None
under_in (u ∷ us) = under_by u.call u.answer

abbrev pub crash_effect : Kept → List Used → Effect
crash_effect kept used = Crashes (under_in used) (side_of kept)

-- nothing is in doubt unless the volume is broken
abbrev pub IsCertain : Volume → Type 0
IsCertain v = v.broken ≡ false → v.doubt ≡ None

-- neither what is in doubt is the root, nor what is committed
pub record SparesRoot (s : Store) (used : List Used) : Type 0 where
  pub doubt : (d : Doubt) → s.volume.doubt ≡ Some d → d.file ≡ 0 → ⊥
  pub call : (file : ℕ) → under_in used ≡ Some file → file ≡ 0 → ⊥
