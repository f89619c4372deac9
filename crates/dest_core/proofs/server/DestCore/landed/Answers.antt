use Rattle.std.proofs.Common.{◌≡◌, ◌<◌, ◌^◌, ◌∙◌, sym, ap, arith, rules}
use Rattle.dest_core.specs.Landing.{landed_by}
use Rattle.dest_jobs.specs.BytesLaws.{bytes_are}
use Rattle.dest_core.proofs.server.DestCore.landed.Goals as goal

pub unwrap-requires : goal.unwrap-requires
unwrap-requires g c =
    let host = c.self.inside.host in
    let same = bytes_are host.server.files.extra.copier.copies.book c.landed-landed.ensures.sound.rising in
    let few = c.self.invariant.1.few in
    let steps : c.calls-steps.result < 2 ^ 32 = search rules in
    let made : c.calls-steps.result ≡ host.steps = c.calls-steps.ensures ∙ sym (ap (λ h. h.steps) c.self.view_is) in
    let small : c.landed-landed.result < 2 ^ 64 = omega (arith, c.landed-landed.ensures.value, same, few, steps, made) in
    search rules

pub returns-clause-same : goal.returns-clause-same
returns-clause-same g c =
    let host = c.self.inside.host in
    let same = bytes_are host.server.files.extra.copier.copies.book c.landed-landed.ensures.sound.rising in
    let is : c.unwrap.result ≡ c.landed-landed.result = search rules in
    is ∙ c.landed-landed.ensures.value ∙ sym same ∙ ap (λ h. landed_by h) c.self.view_is
