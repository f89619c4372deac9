use Rattle.std.proofs.Common.{◌≡◌, ℕ, ◌-◌, ◌∙◌, ap, subst}
use Rattle.disk_model.specs.Disk.{Writes}
use Rattle.disk_model.specs.Elapsed.{present}
use Rattle.block_file.specs.Layout.{data_at}
use Rattle.block_file.specs.Blocks.{next_place}
use Rattle.block_file.proofs.Standing.{safe_wrote}
use Rattle.block_file.proofs.blocks.write_block.Given.{Over}
use Rattle.block_file.proofs.blocks.write_block.Goals as goal

place : (g : Over) (c : goal.After-write g) → c.data_at-at.result ≡ next_place c.args.shape c.args.table.now c.args.file c.args.number
place g c =
    let s = c.args.shape in
    c.data_at-at.ensures.place ∙ ap (λ (h : ℕ). data_at s.files s.blocks c.args.file c.args.number (1 - h)) c.home_in.ensures.home

wrote : (g : Over) (c : goal.After-write g) → g.D.Disk.Told
    → Writes (next_place c.args.shape c.args.table.now c.args.file c.args.number) c.args.block.now c.write.result
    (present (g.D.Disk.timeline c.args.disk.now)) (present (g.D.Disk.timeline c.write.new.self))
wrote g c told =
    subst (λ (p : ℕ). Writes p c.args.block.now c.write.result (present (g.D.Disk.timeline c.args.disk.now)) (present (g.D.Disk.timeline c.write.new.self)))
    (place g c) (c.write.ensures.written told)

pub returns-clause-safe : goal.returns-clause-safe
returns-clause-safe g c = λ told.
    safe_wrote c.args.shape c.args.table.now c.args.block.now c.args.file c.args.number _ _ _ _ _ c.requires.within
    (wrote g c told) (c.write.ensures.time told) (c.write.ensures.soon told)
