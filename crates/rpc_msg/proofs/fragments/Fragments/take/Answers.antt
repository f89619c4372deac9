use Rattle.std.proofs.Common.{arith, ap, ◌≡◌, ◌<◌}
use Rattle.rpc_msg.specs.Underway.{Under}
use Rattle.rpc_msg.specs.StreamLaws.{cut-take}
use Rattle.rpc_msg.proofs.Cuts.{cut-header, made_cut}
use Rattle.rpc_msg.proofs.fragments.Fragments.take.Goals as goal

pub returns-then-self-eq0-clause-made : goal.returns-then-self-eq0-clause-made
returns-then-self-eq0-clause-made c =
    let none : c.args.self.now.lacking ≡ 0 = rw (← c.self.view_is) c.if-self-eq0.true in
    made_cut _ _ _ _ _ (cut-header _ _ c.requires none) c.header_byte.ensures

pub returns-clause-made : goal.returns-clause-made
returns-clause-made c =
    let lacking : c.self.inside.lacking ≡ c.args.self.now.lacking = ap (λ (u : Under). u.lacking) c.self.view_is in
    let least = c.min-count.ensures in
    let some : 0 < c.min-count.result = omega (arith, least, c.requires, c.if-self-eq0.false) in
    made_cut _ _ _ _ _ (cut-take _ _ _ some (omega (arith, least)) (omega (arith, least, lacking))) c.body.ensures
