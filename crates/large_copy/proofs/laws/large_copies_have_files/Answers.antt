use Rattle.large_copy.proofs.Files.{files_there}
use Rattle.large_copy.proofs.laws.large_copies_have_files.Goals as goal

pub returns : goal.returns
returns c = λ mebibytes side. files_there mebibytes side
