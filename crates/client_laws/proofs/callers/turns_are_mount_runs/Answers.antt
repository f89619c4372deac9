use Rattle.client_laws.proofs.MountTurns.{turn_runs}
use Rattle.client_laws.proofs.callers.turns_are_mount_runs.Goals as goal

pub returns : goal.returns
returns g c =
    λ ways who boot side purpose turn before after v w out own may step left.
    (turn_runs c.sends_are_counted.ensures ways _ who boot side purpose turn before after v w out
    (record { is = ⊥; codes = λ no. absurd no; client = λ no. absurd no; told = λ no. absurd no }) (own, λ no. absurd no) may step left).turns
