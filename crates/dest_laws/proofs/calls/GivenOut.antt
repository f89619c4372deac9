-- The jobs that are there have numbers that were given out, whatever is done to a book.
use Rattle.std.proofs.Common.{◌≡◌, ◌⊎◌, inl, inr, ℕ, ◌+◌, ◌<◌, ◌≤◌, Bool, true, false, List, [], ◌∷◌, Option, Some, None, refl, sym, subst, arith}
use Rattle.std.proofs.lemmas.Bool.{and_parts, eqb-true}
use Rattle.std.specs.Prelude.{◌==◌, find, not, if◌then◌else◌}
use Rattle.std.specs.List.{AllByRecursion}
use Rattle.copy_model.specs.Job.{Committed}
use Rattle.dest_laws.proofs.calls.Callbacks.{all_filter, all_more}
use Rattle.dest_laws.specs.Calls.Settled.{AreGivenOut, IsGivenOut}
use Rattle.dest_tasks.specs.Completing.{Accepts, Claims, Comes, Commits, Deed, Does, GivesBack, Lands, Retires, Sizes, Stops}
use Rattle.job_book.specs.Book.{BookView, accept_answer, after_accept, id_of, named}
use Rattle.job_book.specs.Working.{claimed, next_chunk, stopped, with_its}
use Rattle.job_book.specs.declared.acceptance.Acceptance.{Acceptance}
use Rattle.job_book.specs.declared.acceptance.Acceptance.TheVariants as acceptances
use Rattle.job_log.specs.Log.{JobView, after_landing, given_back, sized, with_claim, with_entry}
use Rattle.job_log.specs.declared.chunk.Chunk.{Chunk}
use Rattle.job_log.specs.declared.chunk.Landing.TheVariants as landings
use Rattle.job_table.specs.Table.{changed, is_job, new_job}
use Rattle.job_table.specs.declared.job.Job.{Job}
use Rattle.job_table.specs.declared.job.JobId.{JobId}
use Rattle.job_table.specs.declared.job.Plan.{Plan}
use Rattle.nfs_base.specs.declared.job.JobName.{JobName}

pub chosen : (b : Bool) (first job : Job) (rest : Option Job) → (if b then Some first else rest) ≡ Some job → ((b ≡ true) × (first ≡ job)) ⊎ (rest ≡ Some job)
chosen true first job rest e = inl (refl, cc)
chosen false first job rest e = inr e

-- a job that is found has the number that was looked for, and it was given out
pub found_given : (made boot : ℕ) (id : JobId) (jobs : List Job) (job : Job) → AllByRecursion (IsGivenOut made) jobs → find (is_job boot id) jobs ≡ Some job
    → (0 < id.number) × (id.number ≤ made)
found_given made boot id [] job all is = absurd cc
found_given made boot id (first ∷ jobs) job all is =
    elim (chosen (is_job boot id first) first job (find (is_job boot id) jobs) is) [
      | inl here ↦
          let parts = and_parts (id.boot == boot) (id.number == first.number) here.0 in
          let same : id.number ≡ first.number = eqb-true id.number first.number parts.1 in
          let low : 0 < first.number = all.0.0 in
          let high : first.number ≤ made = all.0.1 in
          (omega arith, omega arith)
      | inr later ↦ found_given made boot id jobs job all.1 later
    ]

-- what a change of a job leaves true of it stays true of all
pub changed_all : (P : Job → Type 0) (test : Job → Bool) (f : Job → Job) → ((job : Job) → P job → P (f job)) → (jobs : List Job) → AllByRecursion P jobs
    → AllByRecursion P (changed test f jobs)
changed_all P test f same [] all = tt
changed_all P test f same (job ∷ jobs) all = by (test job) (changed test f jobs) (changed_all P test f same jobs all.1)
  where
    by : (b : Bool) (rest : List Job) → AllByRecursion P rest → AllByRecursion P (if b then f job ∷ jobs else job ∷ rest)
    by true rest rests = (same job all.0, all.1)
    by false rest rests = (all.0, rests)

pub its_given : (name : JobName) (f : JobView → JobView) (b : BookView) → AreGivenOut b.table → AreGivenOut (with_its name f b).table
its_given name f b all =
    changed_all (IsGivenOut b.table.made) (is_job b.table.boot (id_of name)) (λ job. record job { log = f job.log }) (λ job it. it) b.table.jobs all

pub claimed_given : (chunk : Option Chunk) (name : JobName) (b : BookView) → AreGivenOut b.table → AreGivenOut (claimed chunk name b).table
claimed_given None name b all = all
claimed_given (Some chunk) name b all = its_given name (λ log. with_claim log chunk true) b all

-- ---- deeds

raised : (made : ℕ) (jobs : List Job) → AllByRecursion (IsGivenOut made) jobs → AllByRecursion (IsGivenOut (made + 1)) jobs
raised made [] all = tt
raised made (job ∷ jobs) all =
    let low : 0 < job.number = all.0.0 in
    let high : job.number ≤ made = all.0.1 in
    ((low, omega arith), raised made jobs all.1)

accepted_given : (answer : Acceptance) (plan : Plan) (b : BookView) → AreGivenOut b.table → AreGivenOut (after_accept answer plan b).table
accepted_given (acceptances.Accepted name) plan b all =
    all_more (IsGivenOut (b.table.made + 1)) b.table.jobs (new_job (b.table.made + 1) plan) (raised b.table.made b.table.jobs all) (omega arith, omega arith)
accepted_given (acceptances.Overlap name) plan b all = all
accepted_given acceptances.Full plan b all = all
accepted_given acceptances.TooFar plan b all = all

does_given : (deed : Deed) (b c : BookView) → Does deed b c → AreGivenOut b.table → AreGivenOut c.table
does_given (Accepts plan) b c is all =
    subst (λ (x : BookView). AreGivenOut x.table) (sym is) (accepted_given (accept_answer b.table plan) plan b all)
does_given (Sizes spare len name) b c is all = subst (λ (x : BookView). AreGivenOut x.table) (sym is.1) (its_given name (λ log. sized (record log { spare = spare }) len) b all)
does_given (Claims name) b c is all = subst (λ (x : BookView). AreGivenOut x.table) (sym is) (claimed_given (next_chunk (named b.table name)) name b all)
does_given (GivesBack name chunk) b c is all = subst (λ (x : BookView). AreGivenOut x.table) (sym is) (its_given name (λ log. given_back log chunk) b all)
does_given (Lands name chunk) b c is all = subst (λ (x : BookView). AreGivenOut x.table) (sym is.1) (its_given name (λ log. after_landing log chunk landings.Landed) b all)
does_given (Stops cause name) b c is all = subst (λ (x : BookView). AreGivenOut x.table) (sym is) (its_given name (λ log. stopped cause log) b all)
does_given (Commits name) b c is all = subst (λ (x : BookView). AreGivenOut x.table) (sym is) (its_given name (λ log. with_entry log Committed) b all)
does_given (Retires name) b c is all =
    subst (λ (x : BookView). AreGivenOut x.table) (sym is)
    (all_filter (IsGivenOut b.table.made) (λ job. not (is_job b.table.boot (id_of name) job)) b.table.jobs all)

pub comes_given : (deeds : List Deed) (b c : BookView) → Comes deeds b c → AreGivenOut b.table → AreGivenOut c.table
unfolding Comes
comes_given [] b c come all = subst (λ (x : BookView). AreGivenOut x.table) (sym come) all
comes_given (deed ∷ deeds) b c come all = comes_given deeds come.0 c come.2 (does_given deed b come.0 come.1 all)
