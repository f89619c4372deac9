use Rattle.copy_model.proofs.Effects.{firm_formatted, firm_beside, same_files, quiet_after, shown_after, written_after, committed_settles, zeros_formatted}
use Rattle.copy_model.proofs.steps.volume_effects.Goals as goal

pub returns-clause-firm_start : goal.returns-clause-firm_start
returns-clause-firm_start c = firm_formatted

pub returns-clause-firm : goal.returns-clause-firm
returns-clause-firm c = firm_beside

pub returns-clause-files : goal.returns-clause-files
returns-clause-files c = same_files

pub returns-clause-quiet : goal.returns-clause-quiet
returns-clause-quiet c = quiet_after

pub returns-clause-shown : goal.returns-clause-shown
returns-clause-shown c = shown_after

pub returns-clause-written : goal.returns-clause-written
returns-clause-written c = written_after

pub returns-clause-settles : goal.returns-clause-settles
returns-clause-settles c = committed_settles

pub returns-clause-zeros : goal.returns-clause-zeros
returns-clause-zeros c = zeros_formatted
