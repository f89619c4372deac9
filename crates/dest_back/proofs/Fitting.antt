-- Each level of safety has a spelling.
use Rattle.std.proofs.Common.{arith}
use Rattle.nfs_base.specs.Forms.{stability}
use Rattle.nfs_base.specs.declared.written.Stability.{Stability}
use Rattle.nfs_base.specs.declared.written.Stability.TheVariants.{DataSync, FileSync, Unstable}

pub stability_fits : (v : Stability) → stability.Fits v
unfolding stability
stability_fits Unstable = (omega arith, tt)
stability_fits DataSync = (omega arith, tt)
stability_fits FileSync = (omega arith, tt)
