use Rattle.std.proofs.Common.{◌≡◌, ℕ, ◌<◌, ◌≤◌, List, [], length, slice_index_or, subst, arith}
use Rattle.std.proofs.lemmas.List.{get_or_read}
use Rattle.block_file.specs.Opened.{Opened, homes_by}
use Rattle.block_file.proofs.Kept.{there_is}
use Rattle.block_file.proofs.volume.Volume.home.Goals as goal

pub index-requires : goal.index-requires
index-requires g c =
    let v = c.self.inside in
    let file = c.args.file in
    let newest : ℕ → List ℕ = λ j. slice_index_or v.newest.items j [] in
    let tables : ℕ → List ℕ = λ j. slice_index_or v.tables.items j [] in
    let image = ((g.D.Disk.timeline v.disk).state v.moment).reads in
    let there : file ≤ v.shape.files = there_is v.shape v.boot v.writes v.broken v.doubt newest tables image file (rw (← c.self.view_is) at c.requires.there) in
    omega (arith, there, c.self.invariant.0)

pub returns-clause-home : goal.returns-clause-home
returns-clause-home g c =
    let v = c.self.inside in
    let file = c.args.file in
    let newest : ℕ → List ℕ = λ j. slice_index_or v.newest.items j [] in
    let tables : ℕ → List ℕ = λ j. slice_index_or v.tables.items j [] in
    let image = ((g.D.Disk.timeline v.disk).state v.moment).reads in
    let there : file ≤ v.shape.files = there_is v.shape v.boot v.writes v.broken v.doubt newest tables image file (rw (← c.self.view_is) at c.requires.there) in
    let hlt : file < length v.homes.items = omega (arith, there, c.self.invariant.0) in
    subst (λ (w : Opened g.row.D.Denot). c.index.result.now ≡ homes_by w.homes file) c.self.view_is (get_or_read v.homes.items _ _ hlt c.index.ensures 0)

pub returns-clause-two : goal.returns-clause-two
returns-clause-two g c =
    let v = c.self.inside in
    let file = c.args.file in
    let newest : ℕ → List ℕ = λ j. slice_index_or v.newest.items j [] in
    let tables : ℕ → List ℕ = λ j. slice_index_or v.tables.items j [] in
    let image = ((g.D.Disk.timeline v.disk).state v.moment).reads in
    let there : file ≤ v.shape.files = there_is v.shape v.boot v.writes v.broken v.doubt newest tables image file (rw (← c.self.view_is) at c.requires.there) in
    let hlt : file < length v.homes.items = omega (arith, there, c.self.invariant.0) in
    let is : c.index.result.now ≡ homes_by v.homes.items file = get_or_read v.homes.items _ _ hlt c.index.ensures 0 in
    omega (arith, is, c.self.invariant.3.opened.two file there)
