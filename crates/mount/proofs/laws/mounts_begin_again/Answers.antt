use Rattle.mount.proofs.OnceLemmas.{none_at, none_sets_up}
use Rattle.mount.proofs.laws.mounts_begin_again.Goals as goal
use Rattle.mount.specs.declared.state.TheConstants.{PLACES}

pub returns-clause-children : goal.returns-clause-children
returns-clause-children c = λ m child. none_at PLACES child

pub returns-clause-setup : goal.returns-clause-setup
returns-clause-setup c = λ m. none_sets_up m.places
