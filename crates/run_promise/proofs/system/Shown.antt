-- The jobs that a history lists are those of the table, by number.
use Rattle.std.proofs.Common.{◌≡◌, ◌+◌, ◌<◌, ◌∷◌, ◌∙◌, [], ℕ, Bool, List, ap, arith, refl, subst, sym, true, false, Option, Some, None, ◌==◌, cond, length}
use Rattle.std.specs.Prelude.{◌&&◌, ◌||◌, find, map, slice_index_or}
use Rattle.std.proofs.lemmas.Bool.{both_ways, eq-eqb, eqb-true, false_from_ne_true}
use Rattle.dest_laws.specs.Histories.Linked.{GoOn, IsSeenAs, looked_up as seen_as, name_at}
use Rattle.dest_laws.specs.Histories.Seen.{Seen, seen, seen_in}
use Rattle.dest_laws.specs.View.View.{plan_seen}
use Rattle.job_book.specs.Book.{id_of}
use Rattle.job_table.specs.Table.{JobTable, is_job}
use Rattle.job_table.specs.declared.job.Job.{Job as TableJob}
use Rattle.nfs_base.specs.declared.job.JobName.{JobName}
use Rattle.run_promise.proofs.system.Folds.{each_after, past_end}
use Rattle.run_promise.specs.System.Listing.{listed_in, listed_of}
use Rattle.wire_machine.specs.History.{Listed, jobs_after, listed_at, looked_up, marked_stable, no_job}
use Rattle.wire_model.specs.Copies.{Job}

turned : (n m : ℕ) (b : Bool) → (m == n) ≡ b → (n == m) ≡ b
turned n m true same = eq-eqb n m (sym (eqb-true m n same))
turned n m false other =
    false_from_ne_true (n == m) (λ same. both_ways (m == n) other (eq-eqb m n (sym (eqb-true n m same))))

same_test : (boot n m : ℕ) → ((boot == boot) && (n == m)) ≡ (m == n)
same_test boot n m = ap (λ (t : Bool). t && (n == m)) (eq-eqb boot boot refl) ∙ turned n m (m == n) refl

found_both : (b : Bool) (job : TableJob) (first : Option Listed) (second : Option TableJob) (copy : Job)
    → looked_up first copy ≡ seen_as plan_seen (seen second) copy
    → looked_up (cond b (Some (listed_of job)) first) copy ≡ seen_as plan_seen (seen (cond b (Some job) second)) copy
found_both true job first second copy same = refl
found_both false job first second copy same = same

listed_is : (boot place : ℕ) (jobs : List TableJob) (copy : Job)
    → looked_up (listed_at (place + 1) (map listed_of jobs)) copy ≡ seen_as plan_seen (seen (find (is_job boot (id_of (name_at boot place))) jobs)) copy
listed_is boot place [] copy = refl
listed_is boot place (job ∷ jobs) copy =
    subst
    (λ (t : Bool). looked_up (listed_at (place + 1) (map listed_of (job ∷ jobs))) copy
    ≡ seen_as plan_seen (seen (cond t (Some job) (find (is_job boot (id_of (name_at boot place))) jobs))) copy)
    (sym (same_test boot (place + 1) job.number))
    (found_both (job.number == place + 1) job (listed_at (place + 1) (map listed_of jobs)) (find (is_job boot (id_of (name_at boot place))) jobs) copy
    (listed_is boot place jobs copy))

module _ (stable : JobName → Bool) (now : JobTable) (jobs : List Job) where
  abbrev before_at : ℕ → Job
  before_at place = slice_index_or jobs place no_job

  abbrev after_at : ℕ → Job
  after_at place = slice_index_or (jobs_after (listed_in now) stable now.boot now.made jobs) place no_job

  -- what is seen at a place
  next_is : (place : ℕ) → place < now.made
      → after_at place ≡ marked_stable (stable (name_at now.boot place)) (seen_as plan_seen (seen_in now (name_at now.boot place)) (before_at place))
  next_is place below =
      each_after (listed_in now) stable now.boot now.made jobs place below
      ∙ ap (marked_stable (stable (name_at now.boot place))) (listed_is now.boot place now.jobs (before_at place))

  seen_at : (place : ℕ) → place < now.made → IsSeenAs (seen_as plan_seen (seen_in now (name_at now.boot place)) (before_at place)) (after_at place)
  seen_at place below =
      let is = next_is place below in
      record {
        plan = ap (λ (job : Job). job.plan) is;
        entries = ap (λ (job : Job). job.entries) is;
        retired = ap (λ (job : Job). job.retired) is;
        lost = ap (λ (job : Job). job.lost) is;
      }

  pub goes_on : (before : JobTable) → length jobs ≡ before.made → GoOn plan_seen before now before_at after_at
  goes_on before counted = record {
    seen_as = seen_at;
    fresh = λ place past. ap (λ (job : Job). job.retired) (past_end (listed_in now) stable now.boot jobs place (omega (arith, counted, past)));
  }

  kept_stable : (job : Option Seen) (copy : Job) → (seen_as plan_seen job copy).stable ≡ copy.stable
  kept_stable None copy = refl
  kept_stable (Some s) copy = refl

  pub marks : (place : ℕ) → place < now.made → (after_at place).stable ≡ ((before_at place).stable || stable (name_at now.boot place))
  marks place below =
      ap (λ (job : Job). job.stable) (next_is place below)
      ∙ ap (λ (b : Bool). b || stable (name_at now.boot place)) (kept_stable (seen_in now (name_at now.boot place)) (before_at place))
