use Rattle.nfs_compound.specs.Compounds.{compound_bytes, cb_compound_bytes}
use Rattle.nfs_compound.proofs.Compounds.{compound_again, cb_compound_again}
use Rattle.nfs_compound.proofs.Written.{compound_written, cb_compound_written}
use Rattle.nfs_compound.proofs.laws.written_compounds_are_read.Goals as goal

pub returns : goal.returns
returns c = record {
  compound = λ compound bytes whole count fits uncut.
      compound_again (compound_bytes compound) compound bytes (compound_written compound bytes whole count fits uncut);
  cb_compound = λ compound bytes whole count fits.
      cb_compound_again (cb_compound_bytes compound) compound bytes (cb_compound_written compound bytes whole count fits);
}
