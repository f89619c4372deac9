use Rattle.std.proofs.Common.{length, subst, sym, ap, ◌∙◌, arith}
use Rattle.dest_core.specs.Stepping.{without_lapsed}
use Rattle.dest_core.proofs.Hosts.{counted_without_lapsed, leases_gone}
use Rattle.dest_jobs.specs.LandedLaws.{expiring_lands_none, expiring_tells_few}
use Rattle.dest_jobs.specs.Counting.{KeepsLanded}
use Rattle.dest_jobs.specs.declared.copies.Copies.{Copies}
use Rattle.dest_core.specs.Landing.{copies_in}
use Rattle.dest_core.proofs.steps.second_comes.Goals as goal

pub returns-clause-is : goal.returns-clause-is
returns-clause-is g c =
    leases_gone g.D.Disk.size c.tick.new.self c.end_leases.new.server c.end_leases.ensures
    ∙ ap (λ s. without_lapsed s) c.tick.ensures.is

pub returns-clause-volume : goal.returns-clause-volume
returns-clause-volume g c = ap (λ s. s.files.volume) c.end_leases.ensures ∙ c.tick.ensures.volume

pub returns-clause-counted : goal.returns-clause-counted
returns-clause-counted g c =
    counted_without_lapsed c.tick.new.self c.end_leases.new.server c.end_leases.ensures c.tick.ensures.counted

pub returns-clause-keeps : goal.returns-clause-keeps
returns-clause-keeps g c =
    let came = copies_in c.tick.new.self in
    let ended = ap (λ s. s.files.extra.copier.copies) c.end_leases.ensures in
    let same = ap (λ s. s.state.machine.extra.copier.copies) c.tick.ensures.is in
    subst (λ (x : Copies). KeepsLanded x (copies_in (record c.tick.new.self { server = c.end_leases.new.server }))) same
    (subst (λ (x : Copies). KeepsLanded came x) (sym ended) (expiring_lands_none c.tick.new.self.server.sessions c.tick.new.self.second came))

pub returns-clause-notes : goal.returns-clause-notes
returns-clause-notes g c =
    let came = copies_in c.tick.new.self in
    let ended = ap (λ s. length s.files.extra.copier.copies.told) c.end_leases.ensures in
    let same = ap (λ s. length s.state.machine.extra.copier.copies.told) c.tick.ensures.is in
    let few = expiring_tells_few c.tick.new.self.server.sessions c.tick.new.self.second came in
    omega (arith, ended, same, few)
