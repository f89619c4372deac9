use Rattle.past_copies.proofs.Ordered.{copy_behind, count, name_behind}
use Rattle.past_copies.proofs.laws.copies_stand_in_order.Goals as goal

pub returns : goal.returns
returns c = record { count = count; copies = copy_behind; names = name_behind }
