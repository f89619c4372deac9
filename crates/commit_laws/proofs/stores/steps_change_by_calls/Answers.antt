use Rattle.commit_laws.proofs.StepCalls.{turn_goes}
use Rattle.commit_laws.proofs.stores.steps_change_by_calls.Goals as goal

pub returns : goal.returns
returns g c mech conn bytes now s before after t turn = turn_goes _ g.met.X.Calling.by_calls _ _ _ conn bytes now s before after t turn
