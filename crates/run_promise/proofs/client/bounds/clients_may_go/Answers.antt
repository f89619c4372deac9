use Rattle.std.proofs.Common.{sym, subst}
use Rattle.client_core.specs.State.{ClientState}
use Rattle.run_checks.specs.RunLaws.{runs_right}
use Rattle.run_ends.specs.Ends.{count_gives, machines, words_of}
use Rattle.run_promise.proofs.client.Along.{IsWithin, Laws, runs_within}
use Rattle.run_promise.proofs.client.Moments.{begins_within, may_go}
use Rattle.run_promise.proofs.client.bounds.clients_may_go.Goals as goal
use Rattle.wire_schedule.specs.Admission.{at_start}

pub returns : goal.returns
returns g c =
    λ read spell meaning s first events steps end accepted new runs.
    let words = (words_of g.M.Mechanism.mic_of g.M.Mechanism.derived g.M.Mechanism.started g.M.Mechanism.accepted g.M.Mechanism.finished count_gives) in
    let laws : Laws words = record {
      few = c.each_step_calls_few.ensures;
      steps = c.each_step_counts_one.ensures.steps;
      none = c.copies_begin_by_command.ensures;
    } in
    may_go words spell meaning first steps (runs_right (machines words) read first events steps end runs).steps
    (runs_within words laws read at_start events first steps end accepted
    (subst (λ (x : ClientState _). IsWithin at_start.begun x) (sym new) (begins_within s)) runs)
