use Rattle.dest_laws.proofs.copies.Copies.{copies_obey}
use Rattle.dest_laws.proofs.copies.Goes.{DeedLaws}
use Rattle.dest_laws.proofs.copies.laws.copies_go_on.Goals as goal

pub returns : goal.returns
returns g c =
    let told = c.entries_grow_by_deeds.ensures in
    let laws : DeedLaws = record { later = told.later; grows = told.grows; kept = told.kept; blank = told.blank; keeps = c.histories_stay_linked.ensures.keeps } in
    λ spell meaning s k took speaker executed d t shows story was_sound sound comes safe within held.
    copies_obey laws spell meaning s k took speaker executed d t shows story was_sound sound comes safe within held
