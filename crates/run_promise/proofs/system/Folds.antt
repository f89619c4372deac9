-- What is seen at each place of a history.
use Rattle.std.proofs.Common.{◌≡◌, ⊎_elim, ◌+◌, ◌-◌, ◌<◌, ◌≤◌, ◌∷◌, ◌∙◌, [], ℕ, zero, suc, Bool, List, ap, arith, length, refl, sym}
use Rattle.std.specs.Prelude.{slice_index_or}
use Rattle.std.proofs.lemmas.Bool.{cases_lt}
use Rattle.std.proofs.lemmas.List.{get_or-append_right, get_or_append_left, length-append}
use Rattle.nfs_base.specs.declared.job.JobName.{JobName}
use Rattle.wire_machine.specs.History.{Listed, jobs_after, newly, no_job, seen_again, seen_next}
use Rattle.wire_model.specs.Copies.{Job}

module _ (listed : List Listed) (stable : JobName → Bool) (boot : ℕ) where
  abbrev next : ℕ → Job → Job
  next = seen_next listed stable boot

  again_length : (number : ℕ) (jobs : List Job) → length (seen_again listed stable boot number jobs) ≡ length jobs
  again_length number [] = refl
  again_length number (job ∷ jobs) = ap suc (again_length (number + 1) jobs)

  newly_length : (left number : ℕ) → length (newly listed stable boot left number) ≡ left
  newly_length zero number = refl
  newly_length (suc left) number = ap suc (newly_length left (number + 1))

  again_at : (number : ℕ) (jobs : List Job) (i : ℕ) → i < length jobs
      → slice_index_or (seen_again listed stable boot number jobs) i no_job ≡ next (number + i) (slice_index_or jobs i no_job)
  again_at number [] i below = absurd (omega (arith, below))
  again_at number (job ∷ jobs) zero below = ap (λ (n : ℕ). next n job) (omega arith)
  again_at number (job ∷ jobs) (suc i) below =
      again_at (number + 1) jobs i (omega (arith, below)) ∙ ap (λ (n : ℕ). next n (slice_index_or jobs i no_job)) (omega arith)

  newly_at : (left number i : ℕ) → i < left → slice_index_or (newly listed stable boot left number) i no_job ≡ next (number + i) no_job
  newly_at zero number i below = absurd (omega (arith, below))
  newly_at (suc left) number zero below = ap (λ (n : ℕ). next n no_job) (omega arith)
  newly_at (suc left) number (suc i) below =
      newly_at left (number + 1) i (omega (arith, below)) ∙ ap (λ (n : ℕ). next n no_job) (omega arith)

  pub past_end : (jobs : List Job) (i : ℕ) → length jobs ≤ i → slice_index_or jobs i no_job ≡ no_job
  past_end [] i past = refl
  past_end (job ∷ jobs) zero past = absurd (omega (arith, past))
  past_end (job ∷ jobs) (suc i) past = past_end jobs i (omega (arith, past))

  pub count_after : (made : ℕ) (jobs : List Job) → length jobs ≤ made → length (jobs_after listed stable boot made jobs) ≡ made
  count_after made jobs within =
      let both = length-append (seen_again listed stable boot 1 jobs) (newly listed stable boot (made - length jobs) (length jobs + 1)) in
      let first = again_length 1 jobs in
      let second = newly_length (made - length jobs) (length jobs + 1) in
      omega (arith, both, first, second, within)

  pub each_after : (made : ℕ) (jobs : List Job) (i : ℕ) → i < made
      → slice_index_or (jobs_after listed stable boot made jobs) i no_job ≡ next (i + 1) (slice_index_or jobs i no_job)
  each_after made jobs i below =
      let old : List Job = seen_again listed stable boot 1 jobs in
      let new : List Job = newly listed stable boot (made - length jobs) (length jobs + 1) in
      let old_length : length old ≡ length jobs = again_length 1 jobs in
      ⊎_elim
      (λ (seen : i < length jobs).
      get_or_append_left old new no_job i (omega (arith, seen, old_length))
      ∙ again_at 1 jobs i seen ∙ ap (λ (n : ℕ). next n (slice_index_or jobs i no_job)) (omega arith))
      (λ (unseen : length jobs ≤ i).
      get_or-append_right old new (length jobs) i no_job old_length unseen
      ∙ newly_at (made - length jobs) (length jobs + 1) (i - length jobs) (omega (arith, below, unseen))
      ∙ ap (λ (n : ℕ). next n no_job) (omega (arith, unseen))
      ∙ ap (λ (job : Job). next (i + 1) job) (sym (past_end jobs i unseen)))
      (cases_lt i (length jobs))

  pub past_after : (made : ℕ) (jobs : List Job) (i : ℕ) → length jobs ≤ made → made ≤ i
      → slice_index_or (jobs_after listed stable boot made jobs) i no_job ≡ no_job
  past_after made jobs i within past = past_end (jobs_after listed stable boot made jobs) i (omega (arith, count_after made jobs within, past))
