use Rattle.dest_laws.proofs.calls.Works.{work_seen}
use Rattle.dest_laws.proofs.calls.seen.workers_turns_are_seen.Goals as goal
use Rattle.dest_laws.specs.Own.Going.{jobs_in}
use Rattle.mount.specs.Taking.{Means}

pub returns : goal.returns
returns g c mech principal who started place now s before after t speaker executed settled within own work =
    let means : Means = record { mic = g.M.Mechanism.mic_of; derived = g.M.Mechanism.derived; finished = g.M.Mechanism.finished mech principal } in
    let deeds = c.steps_go_by_deeds.ensures.work started (record { mic = means.mic; derived = means.derived }) place now s before after t work in
    let later = c.entries_grow_by_deeds.ensures.later deeds.0 (jobs_in s) (jobs_in t.host) deeds.1 in
    work_seen who means (λ at send m. c.sends_are_counted.ensures means.mic at send m) g.W.Draws.gives started place now s before after t speaker executed settled within own
    later.made work
