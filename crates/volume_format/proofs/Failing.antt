-- A disk that failed while it was formatted.
use Rattle.std.proofs.Common.{◌≡◌, ◌⊎◌, ℕ, ◌≤◌, List, sym, subst, arith}
use Rattle.std.specs.Prelude.{Option, Some}
use Rattle.std.proofs.KnownBytes.{Keeps-refl}
use Rattle.block_file.specs.Stored.{LeftByFormat}
use Rattle.disk_model.specs.Disk.{Image, MayLeave}
use Rattle.disk_model.specs.Elapsed.{Timeline, present}
use Rattle.disk_model.specs.Passes.{Passes}
use Rattle.disk_model.specs.declared.fuse.Fuse.{Fuse}
use Rattle.outcome.specs.Causes.{Rose}
use Rattle.volume_format.specs.DiskWords.{DiskWords}
use Rattle.volume_format.specs.Formatting.{Formats, need_of}
use Rattle.volume_format.specs.Shapes.{Numbers}
use Rattle.volume_format.specs.declared.formatting.FormatEnd.TheVariants.{DiskFault}

-- what a crash now may leave, of what one at any moment since might have left
pub left_now : (P : Image → Type 0) (old_fuse new_fuse : Fuse) (old new : Timeline) → Passes old_fuse new_fuse old new P
    → (image : Image) → MayLeave (present new) image → P image
left_now P old_fuse new_fuse old new passes image left = passes.each new.latest passes.time.later (omega arith) image left

pub failed_ends : {D : Type 0} (w : DiskWords D) (v : Numbers) (taken : Option (List ℕ)) (writes : ℕ) (disk back : D) (before : Option D)
    → before ≡ Some disk → need_of v ≤ w.size disk → w.size back ≡ w.size disk → Rose (w.faults disk) (w.faults back)
    → (w.told → (image : Image) → MayLeave (present (w.timeline back)) image → LeftByFormat v.files v.blocks (present (w.timeline disk)) image)
    → Formats w v taken taken writes writes before (Some back) DiskFault
failed_ends w v taken writes disk back before is room size rose left =
    subst (λ (d : Option _). Formats w v taken taken writes writes d (Some back) DiskFault) (sym is) (record {
      is = (record { room = room; size = size; rose = rose; left = left }, Keeps-refl taken);
      completes = λ room unfailed unhindered. absurd (unfailed rose);
    })
