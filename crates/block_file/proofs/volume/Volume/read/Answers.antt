use Rattle.std.proofs.Common.{◌≡◌, ℕ, ◌*◌, ◌≤◌, false, List, [], length, slice_index, slice_index_or, refl, sym, ◌∙◌, ap, subst, arith}
use Rattle.copy_model.specs.Volume.{File, Volume, bytes_at, file_at}
use Rattle.disk_model.specs.Disk.{DiskState}
use Rattle.disk_model.specs.Elapsed.{Timeline, contents}
use Rattle.block_file.specs.Layout.{size_in}
use Rattle.block_file.specs.Held.{held_by}
use Rattle.block_file.specs.Opened.{Opened, SameOpening, held_of, volume_at, IsKept}
use Rattle.block_file.proofs.Openings.{file_is, same_opening}
use Rattle.block_file.proofs.Kept.{there_is, at_now, kept_same}
use Rattle.block_file.proofs.volume.Volume.read.Given.{Over}
use Rattle.block_file.proofs.volume.Volume.read.Goals as goal
use Rattle.block_file.proofs.volume.Volume.read.Goals.{After-read_file}

-- a read that has read the disk, or has failed to
module _ (g : Over) (c : After-read_file g) where
  abbrev told : Type 0
  told = g.D.Disk.Told

  abbrev first : Timeline
  first = g.D.Disk.timeline c.self.inside.disk

  abbrev later : Timeline
  later = g.D.Disk.timeline c.read_file.new.disk

  abbrev homes : ℕ → ℕ
  homes = λ j. slice_index c.self.inside.homes.items j

  abbrev newest : ℕ → List ℕ
  newest = λ j. slice_index_or c.self.inside.newest.items j []

  abbrev tables : ℕ → List ℕ
  tables = λ j. slice_index_or c.self.inside.tables.items j []

  abbrev seen : Timeline → Volume
  seen = λ t.
      let v = c.self.inside in
      volume_at v.shape v.boot v.writes v.broken v.doubt newest tables (t.state v.moment).reads

  kept : let v = c.self.inside in IsKept told (g.D.Disk.size c.read_file.new.disk) later v.moment v.shape v.tag v.boot v.writes v.broken v.doubt homes newest tables
  kept =
      let v = c.self.inside in
      kept_same told (g.D.Disk.size v.disk) first v.moment v.shape v.tag v.boot v.writes v.broken v.doubt homes newest tables
      (g.D.Disk.size c.read_file.new.disk) later (sym c.read_file.ensures.size) (λ o. sym (c.read_file.ensures.same o)) c.self.invariant.3

  volume_is : told → seen later ≡ c.args.self.now.volume
  volume_is o =
      subst (λ (w : Opened g.row.D.Denot). seen later ≡ w.volume) c.self.view_is (ap seen (c.read_file.ensures.same o))

  same : SameOpening c.args.self.now.volume (seen later)
  same =
      let v = c.self.inside in
      let image = (first.state v.moment).reads in
      let now = (later.state v.moment).reads in
      subst (λ (w : Opened g.row.D.Denot). SameOpening w.volume (seen later)) c.self.view_is
      (same_opening v.shape v.boot v.writes v.writes v.broken v.broken v.doubt v.doubt (held_of v.shape newest image) (held_of v.shape newest now) tables tables image now)

pub table_at-newest-requires : goal.table_at-newest-requires
table_at-newest-requires g c =
    let v = c.self.inside in
    let t = g.D.Disk.timeline v.disk in
    let file = c.args.file in
    let some = c.requires.no_root in
    let homes : ℕ → ℕ = λ j. slice_index v.homes.items j in
    let newest : ℕ → List ℕ = λ j. slice_index_or v.newest.items j [] in
    let tables : ℕ → List ℕ = λ j. slice_index_or v.tables.items j [] in
    let image = (t.state v.moment).reads in
    let there : file ≤ v.shape.files = there_is v.shape v.boot v.writes v.broken v.doubt newest tables image file (rw (← c.self.view_is) at c.requires.there) in
    let kept = c.self.invariant.3 in
    omega (arith, there, c.self.invariant.2)

pub read_file-requires : goal.read_file-requires
read_file-requires g c =
    let v = c.self.inside in
    let t = g.D.Disk.timeline v.disk in
    let file = c.args.file in
    let some = c.requires.no_root in
    let homes : ℕ → ℕ = λ j. slice_index v.homes.items j in
    let newest : ℕ → List ℕ = λ j. slice_index_or v.newest.items j [] in
    let tables : ℕ → List ℕ = λ j. slice_index_or v.tables.items j [] in
    let image = (t.state v.moment).reads in
    let there : file ≤ v.shape.files = there_is v.shape v.boot v.writes v.broken v.doubt newest tables image file (rw (← c.self.view_is) at c.requires.there) in
    let kept = c.self.invariant.3 in
    record {
      some = some;
      there = there;
      fits = subst (λ (l : List ℕ). size_in l ≤ v.shape.blocks * 4096) (sym c.table_at-newest.ensures) (kept.files.sizes file some there);
      room = kept.opened.room;
    }

pub invariant_of-self : goal.invariant_of-self
invariant_of-self g c = (c.self.invariant.0, c.self.invariant.1, c.self.invariant.2, kept g (goal.at.invariant_of-self g c).After-read_file)

pub invariant_of-self-2 : goal.invariant_of-self-2
invariant_of-self-2 g c = (c.self.invariant.0, c.self.invariant.1, c.self.invariant.2, kept g (goal.at.invariant_of-self-2 g c).After-read_file)

pub returns-in-Failed-clause-volume : goal.returns-in-Failed-clause-volume
returns-in-Failed-clause-volume g c = λ told. volume_is g (goal.at.returns-in-Failed-clause-volume g c).After-read_file told

pub returns-clause-volume : goal.returns-clause-volume
returns-clause-volume g c = λ told. volume_is g (goal.at.returns-clause-volume g c).After-read_file told

pub returns-in-Failed-clause-opening : goal.returns-in-Failed-clause-opening
returns-in-Failed-clause-opening g c = same g (goal.at.returns-in-Failed-clause-opening g c).After-read_file

pub returns-clause-opening : goal.returns-clause-opening
returns-clause-opening g c = same g (goal.at.returns-clause-opening g c).After-read_file

pub returns-clause-bytes : goal.returns-clause-bytes
returns-clause-bytes g c = λ told ok.
    let v = c.self.inside in
    let t = g.D.Disk.timeline v.disk in
    let file = c.args.file in
    let some = c.requires.no_root in
    let homes : ℕ → ℕ = λ j. slice_index v.homes.items j in
    let newest : ℕ → List ℕ = λ j. slice_index_or v.newest.items j [] in
    let tables : ℕ → List ℕ = λ j. slice_index_or v.tables.items j [] in
    let image = (t.state v.moment).reads in
    let there : file ≤ v.shape.files = there_is v.shape v.boot v.writes v.broken v.doubt newest tables image file (rw (← c.self.view_is) at c.requires.there) in
    let kept = c.self.invariant.3 in
    let newest_is : c.table_at-newest.result ≡ newest file = c.table_at-newest.ensures in
    let broken_is : c.is_broken.result ≡ v.broken = c.is_broken.ensures.broken ∙ sym (ap (λ (w : Opened g.row.D.Denot). w.volume.broken) c.self.view_is) in
    let whole : v.broken ≡ false = sym broken_is ∙ c.if-is_broken.false in
    let now = at_now g.D.Disk.Told (g.D.Disk.size v.disk) t v.moment v.shape v.tag v.boot v.writes v.broken v.doubt homes newest tables kept whole told in
    let len = length c.args.out.now in
    subst (λ (w : Opened g.row.D.Denot). c.read_file.new.out ≡ bytes_at (file_at w.volume file).now c.args.off len) c.self.view_is
    (c.in-Done.ensures.bytes told refl
    ∙ ap (λ (l : List ℕ). bytes_at (held_by v.shape l (contents t) file).now c.args.off len) newest_is
    ∙ ap (λ (s : DiskState). bytes_at (held_by v.shape (newest file) s.reads file).now c.args.off len) (sym now)
    ∙ sym (ap (λ (f : File). bytes_at f.now c.args.off len)
    (file_is v.shape v.boot v.writes v.broken v.doubt (held_of v.shape newest image) tables image file some there)))
