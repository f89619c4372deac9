use Rattle.std.proofs.Common.{◌≡◌, ℕ, ◌+◌, ◌*◌, ◌<◌, sym, subst}
use Rattle.block_file.specs.Layout.{data_at, blocks_of}
use Rattle.block_file.proofs.Places.{data_within}
use Rattle.block_file.proofs.blocks.data_at.Goals as goal

pub returns-clause-room : goal.returns-clause-room
returns-clause-room c =
    let s = c.args.shape in
    let place : 4 + 3 * c.from.result + 2 * (c.from-2.result * c.from-3.result + c.from-4.result) + c.from-5.result
    ≡ data_at s.files s.blocks c.args.file c.args.block c.args.home = cc in
    subst (λ (p : ℕ). p < blocks_of s.files s.blocks) (sym place)
    (data_within s.files s.blocks c.args.file c.args.block c.args.home c.requires.within.some c.requires.within.file c.requires.within.block c.requires.home)
