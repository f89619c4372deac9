use Rattle.std.proofs.Common.{refl, ◌≡◌}
use Rattle.std.specs.declared.option.Option.TheVariants.{None}
use Rattle.rpc_msg.proofs.Cuts.{feeds_need}
use Rattle.rpc_msg.proofs.records.RecordFeed.feed.Goals as goal

pub returns-clause-exact : goal.returns-clause-exact
returns-clause-exact c =
    let kept = c.parts.invariant in
    let small : c.args.self.now.large ≡ None = rw (← c.self.view_is) c.in_default.is in
    feeds_need _ _ _ _ _ small kept.0 c.parts-test.false kept.3 (rw kept.1 refl) kept.2
