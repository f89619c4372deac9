use Rattle.dest_steps.proofs.Keeping.{landed_lands}
use Rattle.dest_steps.proofs.landing.write_at.Goals as goal

pub returns-in-Ok-clause-lands : goal.returns-in-Ok-clause-lands
returns-in-Ok-clause-lands g c =
    landed_lands c.args.job c.args.chunk c.args.copier.now.copies c.land.new.self c.requires.takes c.land.ensures
