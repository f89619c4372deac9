use Rattle.context_laws.specs.MadeLaws.{answers_init, create_gives, created_child}
use Rattle.context_laws.proofs.calls.contexts_are_made.Goals as goal

pub returns : goal.returns
returns g c = record {
  init = λ mech now xid first token. answers_init g.M.Mechanism.mic_of (g.M.Mechanism.accepted mech token) g.W.Draws.gives now xid first;
  create = created_child g.M.Mechanism.derived;
  given = λ table call under made child. create_gives g.M.Mechanism.mic_of table call under made child g.met.M.Mechanism.sized;
}
