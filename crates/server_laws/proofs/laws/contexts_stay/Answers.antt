use Rattle.server_laws.proofs.Contexts.{boot_stays, made_rises, root_was_or_is_made, stays_good}
use Rattle.server_laws.proofs.laws.contexts_stay.Goals as goal

pub returns : goal.returns
returns g c = record {
  boot = λ mech conn bytes now s before after t step. boot_stays _ _ _ _ conn bytes now s before after t step;
  made = λ mech conn bytes now s before after t step. made_rises _ _ _ _ conn bytes now s before after t step;
  root = λ mech conn bytes now s before after t step number root there. root_was_or_is_made _ _ _ _ conn bytes now s before after t step number root there;
  good = λ mech conn bytes now s before after t step. stays_good _ _ _ _ conn bytes now s before after t step;
}
