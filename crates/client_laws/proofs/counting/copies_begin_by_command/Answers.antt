use Rattle.client_laws.proofs.NoneBegun.{none_begun}
use Rattle.client_laws.proofs.counting.copies_begin_by_command.Goals as goal

pub returns : goal.returns
returns g c = λ ways turn before after v w out j step none other. none_begun ways _ turn before v w (after, out) j step none other
