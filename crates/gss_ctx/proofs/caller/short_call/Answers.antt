use Rattle.std.proofs.Common.{arith}
use Rattle.gss_ctx.specs.Calls.{sealed_call}
use Rattle.gss_ctx.proofs.CredLemmas.{sealed_short, short_if}
use Rattle.gss_ctx.proofs.caller.short_call.Goals as goal

pub returns-clause-len : goal.returns-clause-len
returns-clause-len g c =
    let mic = g.M.Mechanism.mic_of in
    short_if c.sealed_call.result (sealed_call mic c.args.key.now c.args.head c.args.seq c.args.args.now) _ c.sealed_call.ensures
    (omega (arith, sealed_short mic g.met.M.Mechanism.sized c.args.key.now c.args.head c.args.seq c.args.args.now, c.requires.cred))
