use Rattle.std.proofs.Common.{◌≡◌, ◌++◌, rules, OnOk}
use Rattle.wire_run.proofs.Settled.{sent_keeps}
use Rattle.wire_run.specs.Stage.{posted_by}
use Rattle.wire_run.proofs.stage.Stage.send.Goals as goal

pub returns-clause-keeps : goal.returns-clause-keeps
returns-clause-keeps g c =
    let ok : OnOk c.post.result (c.post.new.self ≡ c.args.self.now.log ++ posted_by c.args.acted c.args.self.now) = search rules in
    sent_keeps c.args.acted c.args.self.now c.post.new.self c.post.result c.requires.bytes ok c.post.ensures.err
