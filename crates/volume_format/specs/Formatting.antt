-- How a format ends: for each end why it came, what was put, and what the disk holds then.
use Rattle.std.specs.Prelude.{◌≡◌, ◌⊎◌, ℕ, ◌<◌, ◌≤◌, Option, None, Some, List}
use Rattle.std.specs.Io.KnownBytes.{Keeps, Appends}
use Rattle.block_file.specs.Layout.{blocks_of}
use Rattle.block_file.specs.Stored.{IsFormatted, LeftByFormat}
use Rattle.disk_model.specs.Disk.{Image, MayLeave}
use Rattle.disk_model.specs.Elapsed.{present}
use Rattle.outcome.specs.Causes.{Rose}
use Rattle.streams.specs.Sink.{AppendsFront}
use Rattle.volume_format.specs.DiskWords.{DiskWords}
use Rattle.volume_format.specs.Lines.{formatted_text, small_text}
use Rattle.volume_format.specs.Shapes.{Numbers}
use Rattle.volume_format.specs.declared.formatting.FormatEnd.{FormatEnd}
use Rattle.volume_format.specs.declared.formatting.FormatEnd.TheVariants as ends

-- how many blocks a volume takes
abbrev pub need_of : Numbers → ℕ
need_of v = blocks_of v.files v.blocks

module _ {D : Type 0} (w : DiskWords D) (v : Numbers) where
  -- ---- what becomes of the disk

  -- It was formatted: whatever a crash may leave of it is an empty volume of these numbers, that was never opened.
  pub record IsMade (disk now : D) : Type 0 where
    pub room : need_of v ≤ w.size disk
    pub size : w.size now ≡ w.size disk
    pub faults : w.faults disk ≤ w.faults now
    pub holds : w.told → (image : Image) → MayLeave (present (w.timeline now)) image → IsFormatted (w.size now) v.files v.blocks v.tag image

  -- It failed. A crash leaves its block 0 as it was, or all other blocks as they are laid out.
  pub record HasFailed (disk now : D) : Type 0 where
    pub room : need_of v ≤ w.size disk
    pub size : w.size now ≡ w.size disk
    pub rose : Rose (w.faults disk) (w.faults now)
    pub left : w.told → (image : Image) → MayLeave (present (w.timeline now)) image → LeftByFormat v.files v.blocks (present (w.timeline disk)) image

  -- It is too small, and as it was.
  pub record IsTooSmall (disk now : D) : Type 0 where
    pub few : w.size disk < need_of v
    pub same : now ≡ disk

  -- this holds of the disk that was handed in and the one that is handed back
  abbrev pub HandsBack : (D → D → Type 0) → Option D → Option D → Type 0
  HandsBack P (Some disk) (Some now) = P disk now
  HandsBack P before now = ⊥

  -- ---- what is owed: the line of the volume, or of a disk that is too small

  abbrev pub made_line : List ℕ
  made_line = formatted_text (need_of v)

  abbrev pub small_line : D → List ℕ
  small_line disk = small_text (need_of v) (w.size disk)

  module _ (taken taken_now : Option (List ℕ)) (writes writes_now : ℕ) where
    -- what an end says; want of memory, which is status 5, has no cause
    abbrev pub EndIs : FormatEnd → D → D → Type 0
    EndIs ends.Done disk now = IsMade disk now × Appends taken taken_now made_line
    EndIs ends.WriteFault disk now =
        Rose writes writes_now
        × ((IsMade disk now × AppendsFront taken taken_now made_line) ⊎ (IsTooSmall disk now × AppendsFront taken taken_now (small_line disk)))
    EndIs ends.NoMemory disk now = (IsMade disk now ⊎ IsTooSmall disk now) × Keeps taken taken_now
    EndIs ends.DiskFault disk now = HasFailed disk now × Keeps taken taken_now
    EndIs ends.TooSmall disk now = IsTooSmall disk now × Appends taken taken_now (small_line disk)

    -- where the disk has room and no count of faults rose, the line of the volume was put, but for want of memory
    abbrev pub Completes : FormatEnd → D → D → Type 0
    Completes end disk now =
        need_of v ≤ w.size disk → (Rose (w.faults disk) (w.faults now) → ⊥) → (Rose writes writes_now → ⊥) → (end ≡ ends.Done) ⊎ (end ≡ ends.NoMemory)

    pub record Formats (before now : Option D) (end : FormatEnd) : Type 0 where
      pub is : HandsBack (EndIs end) before now
      pub completes : HandsBack (Completes end) before now
