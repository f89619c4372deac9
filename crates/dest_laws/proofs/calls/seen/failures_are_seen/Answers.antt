use Rattle.dest_core.specs.Stepping.{failure_step}
use Rattle.dest_laws.proofs.calls.Failures.{failure_seen}
use Rattle.dest_laws.proofs.calls.seen.failures_are_seen.Goals as goal
use Rattle.dest_laws.specs.Own.Going.{jobs_in}
use Rattle.dest_steps.specs.Copier.{Codes}
use Rattle.mount.specs.Taking.{Means}

pub returns : goal.returns
returns g c mech principal who place s speaker executed settled =
    let means : Means = record { mic = g.M.Mechanism.mic_of; derived = g.M.Mechanism.derived; finished = g.M.Mechanism.finished mech principal } in
    let codes : Codes = record { mic = means.mic; derived = means.derived } in
    let deeds = c.steps_go_by_deeds.ensures.failure codes place s in
    let later = c.entries_grow_by_deeds.ensures.later deeds.0 (jobs_in s) (jobs_in (failure_step codes place s).host) deeds.1 in
    failure_seen who means place s speaker executed settled later.made
