use Rattle.std.proofs.Common.{ℕ, List, [], slice_index, slice_index_or, sym}
use Rattle.disk_model.specs.Elapsed.{contents}
use Rattle.block_file.proofs.Raised.{reading_passes, opening_passes, loaded_same}
use Rattle.block_file.proofs.opening.start.Goals as goal

pub returns-in-Err-clause-any_moment : goal.returns-in-Err-clause-any_moment
returns-in-Err-clause-any_moment g c = λ told ok.
    reading_passes (g.D.Disk.size c.args.disk.now) _ _ _ _ (c.load.ensures.any_moment told)

pub raise-requires-clause-loaded : goal.raise-requires-clause-loaded
raise-requires-clause-loaded g c =
    let v = c.in-Ok.loaded in
    let homes : ℕ → ℕ = λ j. slice_index v.cells.homes.items j in
    let tables : ℕ → List ℕ = λ j. slice_index_or v.cells.tables.items j [] in
    loaded_same g.D.Disk.Told (g.D.Disk.size c.args.disk.now) (g.D.Disk.size c.load.new.disk) v.shape v.tag v.boot homes tables
    (contents (g.D.Disk.timeline c.args.disk.now)) (contents (g.D.Disk.timeline c.load.new.disk)) (sym c.load.ensures.size) (λ told. sym (c.load.ensures.reads told))
    (rw c.in-Ok.is at c.in_ok-fault.ensures.loaded)

pub returns-in-Failed-clause-any_moment : goal.returns-in-Failed-clause-any_moment
returns-in-Failed-clause-any_moment g c = λ told ok.
    opening_passes (g.D.Disk.size c.args.disk.now) (g.D.Disk.size c.load.new.disk) _ _ _ _ _ _ c.load.ensures.size (c.load.ensures.reads told)
    (c.load.ensures.any_moment told) (c.raise.ensures.any_moment told)

pub returns-in-Done-clause-any_moment : goal.returns-in-Done-clause-any_moment
returns-in-Done-clause-any_moment g c = λ told ok.
    opening_passes (g.D.Disk.size c.args.disk.now) (g.D.Disk.size c.load.new.disk) _ _ _ _ _ _ c.load.ensures.size (c.load.ensures.reads told)
    (c.load.ensures.any_moment told) (c.raise.ensures.any_moment told)
