use Rattle.caller_laws.proofs.one_step.Beside.{beside_obeys}
use Rattle.caller_laws.proofs.one_step.runs.others_go_beside.Goals as goal

pub returns : goal.returns
returns g spell owner own v u w a c laws beside = beside_obeys spell owner own v u w a c laws beside
