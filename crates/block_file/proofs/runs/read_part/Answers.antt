use Rattle.std.proofs.Common.{length, sym, ◌∙◌}
use Rattle.disk_model.specs.Elapsed.{contents}
use Rattle.block_file.specs.Blocks.{place_of}
use Rattle.block_file.proofs.Pieces.{whole_taken}
use Rattle.block_file.proofs.runs.read_part.Goals as goal

pub returns-in-Some-clause-bytes : goal.returns-in-Some-clause-bytes
returns-in-Some-clause-bytes g c = λ told ok.
    let at = place_of c.args.shape c.args.table.now c.args.file c.args.number in
    let block = contents (g.D.Disk.timeline c.args.disk.now) at in
    c.read_block.ensures.bytes told ok
    ∙ sym (whole_taken block (length c.args.out.now) c.args.from c.in-Some.ensures.cases.long c.requires.fits (c.blocks-count.ensures.whole told at))
