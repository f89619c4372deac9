use Rattle.opening_laws.proofs.Opened.{names_kept}
use Rattle.opening_laws.proofs.anew.crashes_keep_names.Goals as goal

pub returns : goal.returns
returns c = names_kept
