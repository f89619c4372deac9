use Rattle.run_checks.specs.RunLaws.{runs_unmistaken}
use Rattle.run_ends.specs.Ends.{count_gives, machines, words_of}
use Rattle.run_promise.proofs.client.Openings.{unmistaken_in}
use Rattle.run_promise.proofs.client.clients.wires_are_unmistaken.Goals as goal
use Rattle.run_promise.specs.Client.Along.{codes_of}
use Rattle.run_promise.specs.System.System.{telling}

pub returns : goal.returns
returns g c =
    λ spell meaning seen first steps purposes owner events end empty none runs.
    let words = (words_of g.M.Mechanism.mic_of g.M.Mechanism.derived g.M.Mechanism.started g.M.Mechanism.accepted g.M.Mechanism.finished count_gives) in
    unmistaken_in words spell meaning seen first steps purposes
    (runs_unmistaken (machines words) (telling (codes_of words)) spell meaning first events steps end empty none runs) owner
