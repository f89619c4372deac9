use Rattle.std.proofs.Common.{arith}
use Rattle.gss_ctx.specs.Table.{used_on}
use Rattle.gss_ctx.proofs.TableLemmas.{map_one}
use Rattle.gss_ctx.proofs.admit.use_on.Goals as goal

pub loop-entry-preserved : goal.loop-entry-preserved
loop-entry-preserved g c =
    map_one (used_on c.args.number c.args.parent c.args.now) c.loop-entry.entry-index c.args.entries.now c.loop-entry.entries c.entry-item.result c.use_one.new.entry
    (omega arith) c.loop-entry.invariant c.use_one.ensures
