use Rattle.context_laws.specs.JudgedLaws.{begun_under, create_is_of, judged_fits, judged_read, judged_there}
use Rattle.context_laws.proofs.calls.calls_are_judged.Goals as goal

pub returns : goal.returns
returns g c =
    let mic = g.M.Mechanism.mic_of in
    record { read = judged_read mic; fits = judged_fits mic; init = begun_under mic; create = create_is_of mic; there = judged_there mic }
