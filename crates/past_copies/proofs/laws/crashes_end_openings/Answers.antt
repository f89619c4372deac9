use Rattle.past_copies.proofs.Ended.{blank_after, count_after, lost_after, name_after, past_later}
use Rattle.past_copies.proofs.laws.crashes_end_openings.Goals as goal

pub returns : goal.returns
returns c = record {
  count = count_after;
  copies = lost_after;
  names = name_after;
  blank = blank_after;
  past = past_later;
}
