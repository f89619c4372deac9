use Rattle.gss_ctx.proofs.KeptLemmas.{kept_counted}
use Rattle.gss_ctx.proofs.contexts.Contexts.count.Goals as goal

pub invariant_of-self : goal.invariant_of-self
invariant_of-self g c =
    kept_counted _ c.args.now c.args.verdict.now.answer c.args.verdict.now.seen c.self.inside.entries.items _ _ _ c.self.invariant c.note_verdict.ensures.items c.note_verdict.ensures.capacity
