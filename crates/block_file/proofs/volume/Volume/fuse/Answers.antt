use Rattle.std.proofs.Common.{◌≡◌, ℕ, List, [], slice_index, slice_index_or, sym, ap, subst}
use Rattle.disk_model.specs.Elapsed.{Timeline}
use Rattle.block_file.specs.Opened.{Opened, SameOpening, held_of, volume_at, IsKept}
use Rattle.block_file.proofs.Kept.{kept_same}
use Rattle.block_file.proofs.Openings.{same_opening}
use Rattle.block_file.proofs.volume.Volume.fuse.Goals as goal

pub invariant_of-self : goal.invariant_of-self
invariant_of-self g c =
    let v = c.self.inside in
    let homes : ℕ → ℕ = λ j. slice_index v.homes.items j in
    let newest : ℕ → List ℕ = λ j. slice_index_or v.newest.items j [] in
    let tables : ℕ → List ℕ = λ j. slice_index_or v.tables.items j [] in (
      c.self.invariant.0,
      c.self.invariant.1,
      c.self.invariant.2,
      kept_same g.D.Disk.Told (g.D.Disk.size v.disk) (g.D.Disk.timeline v.disk) v.moment v.shape v.tag v.boot v.writes v.broken v.doubt homes newest tables
          (g.D.Disk.size c.fuse.new.self) (g.D.Disk.timeline c.fuse.new.self) (sym c.fuse.ensures.size) (λ told. sym (c.fuse.ensures.same told)) c.self.invariant.3,
    )

pub returns-clause-volume : goal.returns-clause-volume
returns-clause-volume g c = λ told.
    let v = c.self.inside in
    let newest : ℕ → List ℕ = λ j. slice_index_or v.newest.items j [] in
    let tables : ℕ → List ℕ = λ j. slice_index_or v.tables.items j [] in
    subst (λ (w : Opened g.row.D.Denot). volume_at v.shape v.boot v.writes v.broken v.doubt newest tables ((g.D.Disk.timeline c.fuse.new.self).state v.moment).reads ≡ w.volume) c.self.view_is
    (ap (λ (t : Timeline). volume_at v.shape v.boot v.writes v.broken v.doubt newest tables (t.state v.moment).reads) (c.fuse.ensures.same told))

pub returns-clause-stands : goal.returns-clause-stands
returns-clause-stands g c = λ told image may.
    let v = c.self.inside in
    let homes : ℕ → ℕ = λ j. slice_index v.homes.items j in
    let newest : ℕ → List ℕ = λ j. slice_index_or v.newest.items j [] in
    let tables : ℕ → List ℕ = λ j. slice_index_or v.tables.items j [] in
    let now : IsKept g.D.Disk.Told (g.D.Disk.size c.fuse.new.self) (g.D.Disk.timeline c.fuse.new.self) v.moment v.shape v.tag v.boot v.writes v.broken v.doubt homes newest tables =
    kept_same g.D.Disk.Told (g.D.Disk.size v.disk) (g.D.Disk.timeline v.disk) v.moment v.shape v.tag v.boot v.writes v.broken v.doubt homes newest tables
    (g.D.Disk.size c.fuse.new.self) (g.D.Disk.timeline c.fuse.new.self) (sym c.fuse.ensures.size) (λ told. sym (c.fuse.ensures.same told)) c.self.invariant.3 in
    now.left told image may

pub returns-clause-opening : goal.returns-clause-opening
returns-clause-opening g c =
    let v = c.self.inside in
    let image = ((g.D.Disk.timeline v.disk).state v.moment).reads in
    let later = ((g.D.Disk.timeline c.fuse.new.self).state v.moment).reads in
    let newest : ℕ → List ℕ = λ j. slice_index_or v.newest.items j [] in
    let tables : ℕ → List ℕ = λ j. slice_index_or v.tables.items j [] in
    subst (λ (w : Opened g.row.D.Denot). SameOpening w.volume (volume_at v.shape v.boot v.writes v.broken v.doubt newest tables later)) c.self.view_is
    (same_opening v.shape v.boot v.writes v.writes v.broken v.broken v.doubt v.doubt (held_of v.shape newest image) (held_of v.shape newest later) tables tables image later)
