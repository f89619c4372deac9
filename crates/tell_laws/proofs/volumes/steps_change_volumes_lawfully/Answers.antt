use Rattle.tell_laws.proofs.Effects.{came_lawful, ran_lawful}
use Rattle.tell_laws.proofs.volumes.steps_change_volumes_lawfully.Goals as goal

pub returns-clause-ran : goal.returns-clause-ran
returns-clause-ran c old new used ran one few =
    ran_lawful c.written_bytes.ensures.read_back c.written_files.ensures.written old new used ran one few

pub returns-clause-came : goal.returns-clause-came
returns-clause-came c old new used came one few =
    came_lawful c.written_bytes.ensures.read_back c.written_files.ensures.written old new used came one few
