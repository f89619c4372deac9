use Rattle.run_promise.proofs.system.Shown.{goes_on, marks}
use Rattle.run_promise.proofs.system.history.histories_show_jobs.Goals as goal

pub returns : goal.returns
returns c = record {
  on = λ stable before now jobs counted risen. goes_on stable now jobs before counted;
  marked = λ stable now jobs place below. marks stable now jobs place below;
}
