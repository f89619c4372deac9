use Rattle.std.proofs.Common.{◌≡◌, ◌*◌, ◌≤◌, take}
use Rattle.std.specs.Prelude.{All, sum_by}
use Rattle.copy_model.specs.Job.{IsLawful, landed_bytes}
use Rattle.job_log.specs.Log.{ClaimsAreNew}
use Rattle.job_table.specs.Stored.{jobs_at}
use Rattle.job_table.proofs.progress.landed_by.Given as goal

abbrev pub invariant-loop-key : goal.invariant-loop-key
invariant-loop-key l =
    record {
      bound : l.bytes ≤ l.key-index * 18446744073709551616;
      sum : l.bytes ≡ sum_by (λ job. landed_bytes job.log.entries) (jobs_at l.slots (take l.key-index l.keys));
      lawful : All (λ job. IsLawful job.log.consecutive job.log.entries) (jobs_at l.slots (take l.key-index l.keys));
      claims : All (λ job. ClaimsAreNew job.log) (jobs_at l.slots (take l.key-index l.keys));
    }
