use Rattle.std.proofs.Common.{length}
use Rattle.compound_server.proofs.server.Server.+end_clients.Given as goal

abbrev pub decreases-end_clients : goal.decreases-end_clients
decreases-end_clients g l = length l.clients.now
