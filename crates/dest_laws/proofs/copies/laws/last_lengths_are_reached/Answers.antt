use Rattle.dest_laws.proofs.copies.Narrow.{begins_fit, within}
use Rattle.dest_laws.proofs.copies.laws.last_lengths_are_reached.Goals as goal

pub returns : goal.returns
returns c = record { within = within; begin = begins_fit }
