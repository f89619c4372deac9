use Rattle.std.proofs.Common.{◌≡◌, ℕ, ◌+◌, List, [], length, slice_index_or, sym, subst}
use Rattle.block_file.specs.Opened.{Opened, held_of}
use Rattle.block_file.proofs.Openings.{files_len}
use Rattle.block_file.proofs.volume.Volume.files.Goals as goal

pub returns-clause-count : goal.returns-clause-count
returns-clause-count g c =
    let v = c.self.inside in
    let newest : ℕ → List ℕ = λ j. slice_index_or v.newest.items j [] in
    let tables : ℕ → List ℕ = λ j. slice_index_or v.tables.items j [] in
    let image = ((g.D.Disk.timeline v.disk).state v.moment).reads in
    subst (λ (w : Opened g.row.D.Denot). v.shape.files + 1 ≡ length w.volume.files) c.self.view_is
    (sym (files_len v.shape v.boot v.writes v.broken v.doubt (held_of v.shape newest image) tables image))
