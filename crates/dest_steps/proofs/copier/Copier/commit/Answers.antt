use Rattle.dest_steps.proofs.Keeping.{committed_keeps}
use Rattle.dest_steps.proofs.copier.Copier.commit.Goals as goal

pub returns-clause-keeps : goal.returns-clause-keeps
returns-clause-keeps c = committed_keeps c.args.job c.args.self.now.copies c.commit.new.self c.commit.ensures
