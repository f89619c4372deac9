use Rattle.client_laws.proofs.SpelledTurns.{fit_turn}
use Rattle.client_laws.proofs.fits.turns_leave_clients_fit.Goals as goal

pub returns : goal.returns
returns g c = λ ways turn before after v w out fits fit told step. fit_turn ways _ turn before after v w out fits fit told step
