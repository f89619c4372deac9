use Rattle.caller_laws.specs.JoiningLaws.{joined_obey}
use Rattle.caller_laws.proofs.joining.steps_join.Goals as goal

pub returns : goal.returns
returns c = λ spell owner own v u w a b first second follows. joined_obey spell owner own v u w a b first second follows
