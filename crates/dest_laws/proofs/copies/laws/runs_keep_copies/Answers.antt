use Rattle.dest_laws.proofs.copies.Runs.{StepLaws, run_obeys}
use Rattle.dest_laws.proofs.copies.laws.runs_keep_copies.Goals as goal

pub returns : goal.returns
returns g c =
    let laws : StepLaws _ = record {
      later = c.entries_grow_by_deeds.ensures.later;
      narrow = c.rooms_narrow.ensures;
      obey = c.copies_go_on.ensures;
      within = c.last_lengths_are_reached.ensures.within;
      begin = c.last_lengths_are_reached.ensures.begin;
    } in
    λ spell meaning s host step last run none ends comes held safe k.
    run_obeys laws spell meaning s host step run none last ends comes held safe k
