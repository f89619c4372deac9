use Rattle.caller_laws.specs.Fitting.TakeLaws.{fresh_fits}
use Rattle.client_laws.proofs.bounds.beginning.clients_begin_fit.Goals as goal
use Rattle.client_laws.specs.Bounds.CopyLaws.{none_fit}

pub returns : goal.returns
returns g c = λ s fit. record {
  setting = fit;
  parts = record { at_source = record { mount = fresh_fits _ _; files = tt }; at_dest = record { mount = fresh_fits _ _; files = tt }; table = none_fit };
  queues = record { at_source = tt; at_dest = tt };
}
