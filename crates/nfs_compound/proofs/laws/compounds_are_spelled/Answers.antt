use Rattle.nfs_compound.proofs.Compounds.{compound_found, compound_again, cb_compound_found, cb_compound_again}
use Rattle.nfs_compound.proofs.laws.compounds_are_spelled.Goals as goal

pub returns : goal.returns
returns c = record { found = compound_found; read = compound_again; cb_found = cb_compound_found; cb_read = cb_compound_again }
