use Rattle.std.proofs.Common.{length}
use Rattle.client_core.proofs.endings.+end_backs.Given as goal

abbrev pub decreases-end_backs : goal.decreases-end_backs
decreases-end_backs l = length l.numbers.now
