use Rattle.std.proofs.Common.{◌≡◌, ◌-◌, ◌/◌, true, ◌∙◌, subst, sym, arith}
use Rattle.std.specs.Prelude.{not}
use Rattle.job_log.specs.Kept.{view_of}
use Rattle.job_log.specs.Log.{JobView, is_claimed, waits}
use Rattle.job_log.proofs.Steps.{claim_means, claim_inside, waits_for_last}
use Rattle.job_log.proofs.log.JobLog.waits.Goals as goal

pub returns : goal.returns
returns c =
    let k = c.self.invariant in
    let v : JobView = (view_of c.self.inside.consecutive c.self.inside.entries.items c.self.inside.cause c.self.inside.claimed c.self.inside.spare) in
    let P : JobView → Type 0 = λ w. is_claimed w c.args.chunk ≡ true in
    let Q : JobView → Type 0 = λ w. not c.get.result ≡ waits w c.args.chunk in
    let m = claim_means v c.args.chunk c.self.inside.len k.size_is (subst P (sym c.self.view_is) c.requires) in
    let within = claim_inside c.self.inside.claimed.flags (c.args.chunk.off / 65536) m.claim in
    let count = k.claimed_length in
    subst Q c.self.view_is
    (waits_for_last v c.args.chunk c.get.result c.if-not-self.false k.sound.lawful (omega arith) (c.get.ensures ∙ k.landed_is (c.args.chunk.off / 65536 - 1) (omega arith)))
