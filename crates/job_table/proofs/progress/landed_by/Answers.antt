use Rattle.std.proofs.Common.{ℕ, List, [], ◌∷◌, take, arith}
use Rattle.std.proofs.lemmas.List.Elements.{All-push}
use Rattle.std.proofs.lemmas.List.Sums.{sum_by-append}
use Rattle.copy_model.specs.Job.{IsLawful, landed_bytes}
use Rattle.job_log.specs.Log.{ClaimsAreNew}
use Rattle.job_table.specs.declared.job.Job.{Job}
use Rattle.job_table.specs.Stored.{jobs_at}
use Rattle.job_table.proofs.Writes.{jobs_taken}
use Rattle.job_table.proofs.progress.landed_by.Goals as goal

pub loop-key-preserved : goal.loop-key-preserved
loop-key-preserved c =
    let grow = jobs_taken c.args.slots.now c.args.keys.now c.loop-key.key-index c.index.result.now c.loop-key-test.true c.index.ensures in
    let before : List Job = jobs_at c.args.slots.now (take c.loop-key.key-index c.args.keys.now) in
    let bytes : Job → ℕ = λ job. landed_bytes job.log.entries in
    let i = c.loop-key.invariant in
    record {
      bound = omega arith;
      sum =
          let s = sum_by-append bytes before (c.index.result.now ∷ []) in
          let was = i.sum in
          rw grow (omega arith);
      lawful = rw grow (All-push (λ (job : Job). IsLawful job.log.consecutive job.log.entries) before c.index.result.now i.lawful c.landed.ensures.lawful);
      claims = rw grow (All-push (λ (job : Job). ClaimsAreNew job.log) before c.index.result.now i.claims c.landed.ensures.claims);
    }
