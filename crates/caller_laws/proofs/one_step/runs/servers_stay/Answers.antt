use Rattle.caller_laws.proofs.one_step.Servers.{done_server}
use Rattle.caller_laws.proofs.one_step.runs.servers_stay.Goals as goal

pub returns : goal.returns
returns c = done_server
