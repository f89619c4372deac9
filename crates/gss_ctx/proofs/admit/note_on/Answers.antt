use Rattle.std.proofs.Common.{arith}
use Rattle.gss_ctx.specs.Table.{noted_on}
use Rattle.gss_ctx.proofs.TableLemmas.{map_one}
use Rattle.gss_ctx.proofs.admit.note_on.Goals as goal

pub loop-entry-preserved : goal.loop-entry-preserved
loop-entry-preserved g c =
    map_one (noted_on c.args.number c.args.seq) c.loop-entry.entry-index c.args.entries.now c.loop-entry.entries c.entry-item.result c.note_one.new.entry
    (omega arith) c.loop-entry.invariant c.note_one.ensures
