use Rattle.std.specs.String.{string_bytes}
use Rattle.wire_run.proofs.Settled.{all_fault}
use Rattle.wire_run.proofs.stage.Stage.settle_all.Goals as goal

pub returns-then-is_too_large-clause-settled : goal.returns-then-is_too_large-clause-settled
returns-then-is_too_large-clause-settled g c =
    all_fault c.args.ticked c.args.self.now (string_bytes c.args.text.now) c.all_size.result c.all_size.ensures (c.is_too_large.ensures.0 c.if-is_too_large.true)
