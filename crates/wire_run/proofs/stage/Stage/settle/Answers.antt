use Rattle.std.specs.String.{string_bytes}
use Rattle.wire_log.specs.Keeping.{reading}
use Rattle.wire_run.proofs.Settled.{settled_fault}
use Rattle.wire_run.proofs.stage.Stage.settle.Goals as goal

pub returns-in-Some-clause-settled : goal.returns-in-Some-clause-settled
returns-in-Some-clause-settled g c = settled_fault reading c.args.acted c.args.self.now (string_bytes c.args.text.now) c.in-Some.fault c.in-Some.ensures
