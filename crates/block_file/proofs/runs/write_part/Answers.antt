use Rattle.block_file.specs.Layout.{data_at}
use Rattle.block_file.proofs.Places.{other_apart}
use Rattle.block_file.proofs.runs.write_part.Goals as goal

pub returns-in-Failed-clause-others : goal.returns-in-Failed-clause-others
returns-in-Failed-clause-others g c = λ told j b h at le ne.
    c.write_next.ensures.elsewhere told (data_at c.args.shape.files c.args.shape.blocks j b h)
    (other_apart c.args.shape c.args.table.now c.args.file c.args.number j b h c.requires.within at le ne)

pub returns-clause-others : goal.returns-clause-others
returns-clause-others g c = λ told j b h at le ne.
    c.write_next.ensures.elsewhere told (data_at c.args.shape.files c.args.shape.blocks j b h)
    (other_apart c.args.shape c.args.table.now c.args.file c.args.number j b h c.requires.within at le ne)
