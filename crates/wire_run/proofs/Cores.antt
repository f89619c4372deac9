-- A server that is there has a core.
use Rattle.std.proofs.Common.{◌≡◌, refl, subst, sym}
use Rattle.wire_run.specs.Stage.{DestHost, IsDestOpen, IsSourceOpen, SourceHost}
use Rattle.wire_run.specs.declared.ends.DestEnd.{DestEnd}
use Rattle.wire_run.specs.declared.ends.DestEnd.TheVariants as dest_end
use Rattle.wire_run.specs.declared.ends.SourceEnd.{SourceEnd}
use Rattle.wire_run.specs.declared.ends.SourceEnd.TheVariants as source_end

pub record SourceThere {D M : Type 0} (end : SourceEnd D M) : Type 0 where
  pub core : SourceHost D M
  pub is : end ≡ source_end.Open core

pub record DestThere {D M : Type 0} (end : DestEnd D M) : Type 0 where
  pub core : DestHost D M
  pub is : end ≡ dest_end.Open core

pub source_there : {D M : Type 0} (end : SourceEnd D M) → IsSourceOpen end → SourceThere end
source_there (source_end.Open core) opened = record { core = core; is = refl }
source_there source_end.Away opened = absurd opened
source_there (source_end.Disk disk) opened = absurd opened

pub dest_there : {D M : Type 0} (end : DestEnd D M) → IsDestOpen end → DestThere end
dest_there (dest_end.Open core) opened = record { core = core; is = refl }
dest_there dest_end.Away opened = absurd opened
dest_there (dest_end.Disk disk) opened = absurd opened

pub source_open : {D M : Type 0} (end : SourceEnd D M) (core : SourceHost D M) → end ≡ source_end.Open core → IsSourceOpen end
source_open {D} {M} end core is = subst (λ (e : SourceEnd D M). IsSourceOpen e) (sym is) tt

pub dest_open : {D M : Type 0} (end : DestEnd D M) (core : DestHost D M) → end ≡ dest_end.Open core → IsDestOpen end
dest_open {D} {M} end core is = subst (λ (e : DestEnd D M). IsDestOpen e) (sym is) tt
