use Rattle.copy_model.proofs.RefusedRuns.{uncommitted_refused, unsized_refused, changed_refused, never_held_refused, spilled_refused, unclean_refused, late_landing_refused, late_commit_refused, moved_refused}
use Rattle.copy_model.proofs.sanity.refused_examples.Goals as goal

pub returns-clause-uncommitted : goal.returns-clause-uncommitted
returns-clause-uncommitted c = uncommitted_refused

pub returns-clause-never_sized : goal.returns-clause-never_sized
returns-clause-never_sized c = unsized_refused

pub returns-clause-changed : goal.returns-clause-changed
returns-clause-changed c = changed_refused

pub returns-clause-never_held : goal.returns-clause-never_held
returns-clause-never_held c = never_held_refused

pub returns-clause-spilled : goal.returns-clause-spilled
returns-clause-spilled c = spilled_refused

pub returns-clause-unclean : goal.returns-clause-unclean
returns-clause-unclean c = unclean_refused

pub returns-clause-late_landing : goal.returns-clause-late_landing
returns-clause-late_landing c = late_landing_refused

pub returns-clause-late_commit : goal.returns-clause-late_commit
returns-clause-late_commit c = late_commit_refused

pub returns-clause-moved : goal.returns-clause-moved
returns-clause-moved c = moved_refused
