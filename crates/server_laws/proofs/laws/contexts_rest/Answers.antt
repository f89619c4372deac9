use Rattle.std.proofs.Common.{refl}
use Rattle.session_server.specs.Host.{rules_of}
use Rattle.server_laws.proofs.Contexts.{empty_good, tick_good}
use Rattle.server_laws.proofs.laws.contexts_rest.Goals as goal

pub returns : goal.returns
returns g c = record {
  start = empty_good;
  tick = λ now s. refl;
  good = tick_good
      (rules_of g.X.Extension.gated g.X.Serving.serves g.X.Serving.leaves g.X.Serving.lapses g.X.Extending.judges g.X.Extending.tells g.X.Extending.silent);
}
