use Rattle.client_laws.proofs.WholeRuns.{Knows}
use Rattle.client_laws.proofs.Wholes.{lawful}
use Rattle.mount.specs.Taking.{Means}
use Rattle.client_laws.proofs.whole.turns_are_lawful.Goals as goal

pub returns : goal.returns
returns g c =
    λ s who boot purposes turn before after out t settled bytes spelled side.
    let means : Means = record { mic = g.M.Mechanism.mic_of; derived = g.M.Mechanism.derived; finished = g.M.Mechanism.finished s.mech s.me } in
    let knows : Knows who means = record {
      keeps = c.steps_are_lawful.ensures.good s.mech s.me who;
      server = c.servers_stay.ensures means;
      xids = c.calls_have_their_xids.ensures s.mech s.me who;
      one = c.runs_are_lawful.ensures s.mech s.me who;
    } in
    lawful who _ knows boot purposes turn before after out t settled c.tokens_agree.ensures.codes bytes spelled side
