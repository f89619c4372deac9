use Rattle.std.proofs.Common.{◌≡◌, ◌+◌, ◌*◌, arith}
use Rattle.disk_model.specs.Elapsed.{present}
use Rattle.block_file.specs.Layout.{cell_at}
use Rattle.block_file.proofs.Standing.{put_passes_at, stands_put_at, is_cell_at}
use Rattle.block_file.proofs.blocks.put_table.Given.{Over}
use Rattle.block_file.proofs.blocks.put_table.Goals as goal

cell_place : (g : Over) (c : goal.After-put-result g) → 1 + 3 * c.from.result ≡ cell_at c.args.number
cell_place g c = omega (arith, c.from.ensures)

pub returns-clause-stands : goal.returns-clause-stands
returns-clause-stands g c = λ told done safe is stands.
    let there = c.put-result.ensures.done told done in
    stands_put_at c.args.shape safe c.args.table.now c.args.number c.args.home.now (1 + 3 * c.from.result) c.put-result.new.self.home _ _
    (cell_place g c) (c.put-result.ensures.turned done) c.requires.within is stands (c.put-result.ensures.rest told) there.1 there.0 there.2

pub returns-clause-any_moment : goal.returns-clause-any_moment
returns-clause-any_moment g c = λ told safe before after is stands had has.
    put_passes_at c.args.shape safe before after c.args.table.now c.args.number (1 + 3 * c.from.result) _ _ _ _
    (cell_place g c) c.requires.within stands had has
    (c.put-result.ensures.any_moment told
    (is_cell_at (present (g.D.Disk.timeline c.args.disk.now)) c.args.number (1 + 3 * c.from.result) c.args.home.now (safe.homes c.args.number)
    (cell_place g c) is (stands.cells c.args.number c.requires.within)))
