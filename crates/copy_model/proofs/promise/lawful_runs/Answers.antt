-- The parts of the promise, each from the lemmas on lawful runs.
use Rattle.std.proofs.Common.{suc, arith}
use Rattle.copy_model.proofs.Later.{completed_on, stopped_on, stable_on}
use Rattle.copy_model.proofs.Settled.{stable_settled}
use Rattle.copy_model.proofs.Elsewhere.{others_alike, still_zero, stopped_rests, stopped_completes_no_more}
use Rattle.copy_model.proofs.promise.lawful_runs.Goals as goal

pub returns-clause-kept : goal.returns-clause-kept
returns-clause-kept c h progress lawful = record {
  whole = λ j s stable.
      let completed = (lawful.moments s).durable j ((lawful.moments s).stable j stable) in
      (completed, lawful.extent j s completed);
  stable = stable_settled h progress lawful;
  others = others_alike h progress lawful;
  zeros = still_zero h progress lawful;
  completes = λ j k completed. completed_on h progress lawful j k (suc k) (omega arith) completed;
  reports = λ j k stable. stable_on h progress lawful j k stable;
}

pub returns-clause-stopped : goal.returns-clause-stopped
returns-clause-stopped c h progress lawful = record {
  stays = λ j k stopped. stopped_on h progress lawful j k (suc k) (omega arith) stopped;
  lands = λ j i k stopped le lands. stopped_rests h progress lawful j i k stopped le ((lawful.steps k).live j lands).1;
  completes = stopped_completes_no_more h progress lawful;
  moves = λ k file place no_crash readable unreached. ((lawful.steps k).quiet file place unreached no_crash readable).1;
}
