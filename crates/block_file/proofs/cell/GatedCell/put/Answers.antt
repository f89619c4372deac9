use Rattle.std.proofs.Common.{◌≡◌, ◌+◌, ◌-◌, arith}
use Rattle.block_file.proofs.Cells.{put_first, put_both}
use Rattle.block_file.proofs.cell.GatedCell.put.Goals as goal

pub returns-in-Failed-clause-any_moment : goal.returns-in-Failed-clause-any_moment
returns-in-Failed-clause-any_moment g c = λ told cell.
    let self = c.args.self.now in
    let place : self.at + 1 + c.from.result ≡ self.at + 1 + (1 - self.home) = omega (arith, c.from.ensures) in
    put_first self.at self.home (self.at + 1 + c.from.result) c.args.block.now _ _ _ _ self.two_homes place cell (c.land.ensures.any_moment told)

pub returns-in-Failed-land-clause-any_moment : goal.returns-in-Failed-land-clause-any_moment
returns-in-Failed-land-clause-any_moment g c = λ told cell.
    let self = c.args.self.now in
    let place : self.at + 1 + c.from.result ≡ self.at + 1 + (1 - self.home) = omega (arith, c.from.ensures) in
    put_both self.at self.home (self.at + 1 + c.from.result) c.args.block.now _ _ _ _ _ _ self.two_homes place cell
    (c.land.ensures.any_moment told) (c.in-Done.ensures.lands told) (c.land-2.ensures.any_moment told)

pub returns-clause-any_moment : goal.returns-clause-any_moment
returns-clause-any_moment g c = λ told cell.
    let self = c.args.self.now in
    let place : self.at + 1 + c.from.result ≡ self.at + 1 + (1 - self.home) = omega (arith, c.from.ensures) in
    put_both self.at self.home (self.at + 1 + c.from.result) c.args.block.now _ _ _ _ _ _ self.two_homes place cell
    (c.land.ensures.any_moment told) (c.in-Done.ensures.lands told) (c.land-2.ensures.any_moment told)
