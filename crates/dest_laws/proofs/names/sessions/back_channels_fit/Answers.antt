use Rattle.dest_laws.proofs.names.Backs.{backs_fit, compound_fits}
use Rattle.dest_laws.proofs.names.sessions.back_channels_fit.Goals as goal

pub returns : goal.returns
returns g c = record {
  compound = λ gate serve parting choice who principal carry compound s fit.
      compound_fits parting (record { gate = gate; serve = serve }) choice who principal carry compound s fit;
  backs = backs_fit;
}
