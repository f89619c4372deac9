use Rattle.std.proofs.Common.{subst}
use Rattle.copy_model.specs.Job.{IsLawful}
use Rattle.job_log.specs.Log.{JobView}
use Rattle.job_log.proofs.log.JobLog.landed.Goals as goal

pub returns-clause-lawful : goal.returns-clause-lawful
returns-clause-lawful c =
    let P : JobView → Type 0 = λ v. IsLawful v.consecutive v.entries in
    subst P c.self.view_is c.self.invariant.sound.lawful
