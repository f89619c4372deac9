use Rattle.server_laws.proofs.Contexts.{init_law, create_law}
use Rattle.server_laws.proofs.laws.contexts_are_made.Goals as goal

pub returns : goal.returns
returns g c = record {
  init = λ mech conn bytes now s before after t step accepts whose by reply seal begun sends.
      init_law _ _ _ _ conn bytes now s before after t step accepts whose by reply seal begun sends;
  create = λ mech conn bytes now s before after t step reply seal child creates sends given.
      create_law _ _ _ _ conn bytes now s before after t step g.met.X.Mech.Mechanism.sized reply seal child creates sends given;
}
