-- Which disks a command uses, and what is asked of them. Own definitions.
use Rattle.std.specs.Prelude.{◌≡◌, true, Option, None, Some, IfSome, is_some}
use Rattle.block_file.specs.Opened.{CanBeOpened}
use Rattle.disk_model.specs.Disk.{Image, MayLeave}
use Rattle.disk_model.specs.Elapsed.{present}
use Rattle.command_line.specs.declared.command.Command.{Command}
use Rattle.command_line.specs.declared.command.Command.TheVariants.{Run, Show, Gen, Format, ServeSource, ServeDest, Copy}
use Rattle.volume_format.specs.DiskWords.{DiskWords}

-- A disk that is opened, not formatted: whatever a crash may leave of it, where it tells, holds no volume, or one in which no byte
-- stands past the end of a file.
abbrev pub MayOpen : {D : Type 0} → DiskWords D → D → Type 0
MayOpen w disk = w.told → (image : Image) → MayLeave (present (w.timeline disk)) image → CanBeOpened (w.size disk) image

-- The disks that a command uses are handed in: both for `run` and `gen`, the source's for `format` and `serve-source`, the destination's for
-- `serve-dest`.
abbrev pub HasDisks : {D : Type 0} → DiskWords D → Option Command → Option D → Option D → Type 0
HasDisks w None source dest = Unit {0}
HasDisks w (Some Run) source dest = (is_some source ≡ true) × (is_some dest ≡ true)
HasDisks w (Some (Gen mebibytes)) source dest = (is_some source ≡ true) × (is_some dest ≡ true)
HasDisks w (Some Show) source dest = Unit {0}
HasDisks w (Some (Format v)) source dest = is_some source ≡ true
HasDisks w (Some (ServeSource service)) source dest = (is_some source ≡ true) × IfSome source (MayOpen w)
HasDisks w (Some (ServeDest order)) source dest = (is_some dest ≡ true) × IfSome dest (MayOpen w)
HasDisks w (Some (Copy order)) source dest = Unit {0}
