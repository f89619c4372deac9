use Rattle.volume_laws.proofs.Answered.{commit_failed, read_failed, write_failed}
use Rattle.volume_laws.proofs.laws.failed_calls_were_taken.Goals as goal

pub returns : goal.returns
returns c = record { read = read_failed; write = write_failed; commit = commit_failed }
