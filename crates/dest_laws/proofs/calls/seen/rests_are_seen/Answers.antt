use Rattle.dest_laws.proofs.calls.Failures.{rest_seen}
use Rattle.dest_laws.proofs.calls.seen.rests_are_seen.Goals as goal
use Rattle.mount.specs.Taking.{Means}

pub returns : goal.returns
returns g c mech principal who s shown settled accepted out =
    let means : Means = record { mic = g.M.Mechanism.mic_of; derived = g.M.Mechanism.derived; finished = g.M.Mechanism.finished mech principal } in
    rest_seen who means s shown settled accepted out
