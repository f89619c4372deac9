use Rattle.std.proofs.Common.{◌≡◌, ℕ, ◌≤◌, List, [], length, slice_index_or, sym, ◌∙◌, ap, subst, arith}
use Rattle.copy_model.specs.Volume.{File, file_at}
use Rattle.block_file.specs.declared.info.FileInfo.{FileInfo}
use Rattle.block_file.specs.Layout.{size_in, change_in}
use Rattle.block_file.specs.Opened.{Opened, volume_at}
use Rattle.block_file.proofs.Kept.{there_is, info_is}
use Rattle.block_file.proofs.volume.Volume.file.Goals as goal

pub table_at-newest-requires : goal.table_at-newest-requires
table_at-newest-requires g c =
    let v = c.self.inside in
    let file = c.args.file in
    let newest : ℕ → List ℕ = λ j. slice_index_or v.newest.items j [] in
    let tables : ℕ → List ℕ = λ j. slice_index_or v.tables.items j [] in
    let image = ((g.D.Disk.timeline v.disk).state v.moment).reads in
    let there : file ≤ v.shape.files = there_is v.shape v.boot v.writes v.broken v.doubt newest tables image file (rw (← c.self.view_is) at c.requires.there) in
    omega (arith, there, c.self.invariant.2)

pub returns-clause-info : goal.returns-clause-info
returns-clause-info g c =
    let v = c.self.inside in
    let file = c.args.file in
    let newest : ℕ → List ℕ = λ j. slice_index_or v.newest.items j [] in
    let tables : ℕ → List ℕ = λ j. slice_index_or v.tables.items j [] in
    let image = ((g.D.Disk.timeline v.disk).state v.moment).reads in
    let there : file ≤ v.shape.files = there_is v.shape v.boot v.writes v.broken v.doubt newest tables image file (rw (← c.self.view_is) at c.requires.there) in
    let is = info_is v.shape v.boot v.writes v.broken v.doubt newest tables image file c.requires.no_root there in
    let here : File = file_at (volume_at v.shape v.boot v.writes v.broken v.doubt newest tables image) file in
    subst (λ (w : Opened g.row.D.Denot). (let made : FileInfo = record { size = c.size_in.result; change = c.change_in.result } in made)
    ≡ record { size = length (file_at w.volume file).now; change = (file_at w.volume file).change }) c.self.view_is
    (ap (λ (n : ℕ). record { size = n; change = c.change_in.result }) (c.size_in.ensures ∙ ap size_in c.table_at-newest.ensures ∙ sym is.0)
    ∙ ap (λ (n : ℕ). record { size = length here.now; change = n }) (c.change_in.ensures ∙ ap change_in c.table_at-newest.ensures ∙ sym is.1))

pub returns-clause-within : goal.returns-clause-within
returns-clause-within g c =
    let v = c.self.inside in
    let file = c.args.file in
    let newest : ℕ → List ℕ = λ j. slice_index_or v.newest.items j [] in
    let tables : ℕ → List ℕ = λ j. slice_index_or v.tables.items j [] in
    let image = ((g.D.Disk.timeline v.disk).state v.moment).reads in
    let there : file ≤ v.shape.files = there_is v.shape v.boot v.writes v.broken v.doubt newest tables image file (rw (← c.self.view_is) at c.requires.there) in
    let is : c.size_in.result ≡ size_in (newest file) = c.size_in.ensures ∙ ap size_in c.table_at-newest.ensures in
    let fits = c.self.invariant.3.files.sizes file c.requires.no_root there in
    subst (λ (w : Opened g.row.D.Denot). c.size_in.result ≤ w.volume.capacity) c.self.view_is (omega (arith, is, fits))
