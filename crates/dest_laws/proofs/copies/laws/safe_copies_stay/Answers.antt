use Rattle.dest_laws.proofs.copies.Goes.{DeedLaws}
use Rattle.dest_laws.proofs.copies.Safe.{stay_safe}
use Rattle.dest_laws.proofs.copies.laws.safe_copies_stay.Goals as goal

pub returns : goal.returns
returns g c =
    let told = c.entries_grow_by_deeds.ensures in
    let laws : DeedLaws = record { later = told.later; grows = told.grows; kept = told.kept; blank = told.blank; keeps = c.histories_stay_linked.ensures.keeps } in
    λ spell meaning s k took speaker executed d t shows story safe reports.
    stay_safe laws spell meaning s k took speaker executed d t shows story safe reports
