use Rattle.past_copies.proofs.Ordered.{copy_stays, name_stays, other_name, was_lost}
use Rattle.past_copies.proofs.laws.copies_of_the_past_stay.Goals as goal

pub returns : goal.returns
returns c = record { copies = copy_stays; names = name_stays; gone = was_lost; others = other_name }
