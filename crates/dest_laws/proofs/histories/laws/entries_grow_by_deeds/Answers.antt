use Rattle.dest_laws.proofs.histories.Entries.{all_later, grows, keeps_entries, new_blank, stays_gone}
use Rattle.dest_laws.proofs.histories.laws.entries_grow_by_deeds.Goals as goal

pub returns : goal.returns
returns c = record { later = all_later; grows = grows; gone = stays_gone; kept = keeps_entries; blank = new_blank }
