use Rattle.dest_core.specs.Stepping.{tick_step}
use Rattle.dest_laws.proofs.calls.Ticks.{tick_seen}
use Rattle.dest_laws.proofs.calls.seen.ticks_are_seen.Goals as goal
use Rattle.dest_laws.specs.Own.Going.{jobs_in}
use Rattle.dest_steps.specs.Copier.{Codes}
use Rattle.mount.specs.Taking.{Means}

pub returns : goal.returns
returns g c mech principal who now s speaker executed settled =
    let means : Means = record { mic = g.M.Mechanism.mic_of; derived = g.M.Mechanism.derived; finished = g.M.Mechanism.finished mech principal } in
    let codes : Codes = record { mic = means.mic; derived = means.derived } in
    let deeds = c.steps_go_by_deeds.ensures.tick codes now s in
    let later = c.entries_grow_by_deeds.ensures.later deeds.0 (jobs_in s) (jobs_in (tick_step codes now s).host) deeds.1 in
    tick_seen who means (λ at send m. c.sends_are_counted.ensures means.mic at send m) now s speaker executed settled later.made
