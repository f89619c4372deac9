use Rattle.std.proofs.Common.{List, length, ap, sym, ◌∙◌, arith}
use Rattle.wire_log.proofs.Stored.{length_posted}
use Rattle.wire_log.proofs.log.Log.count.Goals as goal
use Rattle.wire_machine.specs.World.{Posted}

pub returns-clause-exact : goal.returns-clause-exact
returns-clause-exact c =
    c.len.ensures ∙ c.self.inside.records.ok.0 ∙ sym (length_posted c.self.inside.records.items) ∙ ap (λ (log : List Posted). length log) c.self.view_is

pub returns-clause-most : goal.returns-clause-most
returns-clause-most c =
    let few = c.self.invariant.few in
    let same = c.self.inside.records.ok.0 in
    let len = c.len.ensures in
    omega arith
