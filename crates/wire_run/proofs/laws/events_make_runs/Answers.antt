use Rattle.std.proofs.Common.{refl}
use Rattle.wire_run.specs.declared.run.Ran.TheVariants.{Whole}
use Rattle.wire_run.proofs.Tracing.{numbered_events}
use Rattle.wire_run.proofs.Whole.{run_last, run_over}
use Rattle.wire_run.proofs.laws.events_make_runs.Goals as goal

pub returns : goal.returns
returns g c = record {
  whole = λ events start new before middle now rest admitted happened put.
      (run_last _ _ _ _ _ (record { source = λ s. refl; dest = λ s. refl }) events start new before middle now Whole rest admitted happened put).is;
  over = λ events start new before now end rest admitted happened.
      let ended = run_over _ _ _ _ _ events start new before now end rest admitted happened in
      (ended.is, ended.cause);
  listed = λ line events. numbered_events line events;
}
