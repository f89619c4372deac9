use Rattle.run_promise.proofs.system.Folds.{count_after, each_after, past_after}
use Rattle.run_promise.proofs.system.history.histories_are_folds.Goals as goal

pub returns : goal.returns
returns g = record {
  count = λ listed stable boot made jobs within. count_after listed stable boot made jobs within;
  each = λ listed stable boot made jobs place below. each_after listed stable boot made jobs place below;
  past = λ listed stable boot made jobs place within past. past_after listed stable boot made jobs place within past;
}
