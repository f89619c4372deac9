use Rattle.dest_laws.proofs.calls.Fitting.{run_spelled}
use Rattle.dest_laws.proofs.calls.whole.fit_steps_are_spelled.Goals as goal
use Rattle.dest_laws.specs.Calls.Steps.{above_of, mount_of}
use Rattle.mount.specs.Taking.{Means}

pub returns : goal.returns
returns g c mech principal who s t shown seen bytes fit sends =
    let means : Means = record { mic = g.M.Mechanism.mic_of; derived = g.M.Mechanism.derived; finished = g.M.Mechanism.finished mech principal } in
    run_spelled means (λ move m is moves. c.mounts_stay_fit.ensures.stay means move m bytes is moves)
    (λ at send m is moves. c.what_is_asked_is_spelled.ensures means.mic at send m bytes is moves) who seen.step.steps (above_of s) seen.step.middle (mount_of s) (mount_of t)
    seen.step.run fit (seen.fits sends)
