use Rattle.dest_steps.proofs.Keeping.{stopped_keeps}
use Rattle.dest_steps.proofs.copier.Copier.stop.Goals as goal

pub returns-clause-keeps : goal.returns-clause-keeps
returns-clause-keeps c = stopped_keeps c.args.cause c.args.job c.args.self.now.copies c.stop.new.self c.stop.ensures
