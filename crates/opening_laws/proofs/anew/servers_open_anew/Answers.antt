use Rattle.opening_laws.proofs.Opened.{server_anew}
use Rattle.opening_laws.proofs.anew.servers_open_anew.Goals as goal

pub returns : goal.returns
returns c = server_anew
