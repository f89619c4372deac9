use Rattle.wire_run.proofs.Turns.{cut_now, if_err, if_ok, one_on}
use Rattle.wire_run.proofs.system.System.run_entry.Goals as goal

pub returns-in-Once-clause-ran : goal.returns-in-Once-clause-ran
returns-in-Once-clause-ran g c =
    rw c.in-Once.is (if_ok c.run_event.result _ _ (λ r happens. one_on _ _ _ _ _ c.args.line c.in-Once.event _ _ _ _ r happens) c.run_event.ensures.ran)

pub returns-in-Once-clause-err : goal.returns-in-Once-clause-err
returns-in-Once-clause-err g c =
    rw c.in-Once.is (if_err c.run_event.result _ _ (λ same. cut_now _ _ _ _ _ _ c.args.self.now _ _ same) c.run_event.ensures.err)

pub returns-in-Flows-clause-err : goal.returns-in-Flows-clause-err
returns-in-Flows-clause-err g c = rw c.in-Flows.is c.run_turns.ensures.err

pub returns-in-Rounds-clause-err : goal.returns-in-Rounds-clause-err
returns-in-Rounds-clause-err g c = rw c.in-Rounds.is c.run_turns-in-Rounds.ensures.err
