use Rattle.std.proofs.Common.{refl}
use Rattle.dest_laws.proofs.landings.Once.{reply_once, work_once}
use Rattle.dest_laws.proofs.landings.calling.workers_call_once.Goals as goal

pub returns : goal.returns
returns g c = record { work = work_once _; reply = reply_once; failure = λ codes place d. refl; tick = λ codes now d. refl }
