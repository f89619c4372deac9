use Rattle.gss_ctx.specs.Table.{is_kept}
use Rattle.gss_ctx.proofs.KeptLemmas.{kept_filtered}
use Rattle.gss_ctx.proofs.contexts.Contexts.destroy.Goals as goal

pub invariant_of-self : goal.invariant_of-self
invariant_of-self g c =
    kept_filtered _ (is_kept c.args.number) c.self.inside.entries.items _ _ _ c.self.invariant c.keep_others.ensures.items c.keep_others.ensures.capacity
