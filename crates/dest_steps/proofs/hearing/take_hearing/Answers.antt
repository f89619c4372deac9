use Rattle.dest_steps.specs.Hearing.{job_name}
use Rattle.dest_steps.proofs.Keeping.{reported_keeps}
use Rattle.dest_steps.proofs.hearing.take_hearing.Goals as goal

pub returns-in-Done-clause-keeps : goal.returns-in-Done-clause-keeps
returns-in-Done-clause-keeps c =
    reported_keeps (job_name c.args.boot c.in-Done.number) c.args.copier.now.copies c.report.new.self c.report.ensures
