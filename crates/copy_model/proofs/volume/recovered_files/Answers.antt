use Rattle.copy_model.proofs.Bytes.{file_at-crash_commit, file_at-crash_new}
use Rattle.copy_model.proofs.volume.recovered_files.Goals as goal

pub returns-clause-committed : goal.returns-clause-committed
returns-clause-committed c = file_at-crash_commit

pub returns-clause-new : goal.returns-clause-new
returns-clause-new c = file_at-crash_new
