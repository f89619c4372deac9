-- A stopped job has a cause, whatever is done to a book.
use Rattle.std.proofs.Common.{◌≡◌, ℕ, ◌+◌, ◌≤◌, Bool, true, false, List, [], ◌∷◌, ◌++◌, Option, Some, None, refl, sym, ap, subst, arith}
use Rattle.std.specs.Prelude.{◌||◌, not, if◌then◌else◌, sum_by}
use Rattle.std.proofs.lemmas.List.Sums.{sum_by-cons}
use Rattle.std.specs.List.{AllByRecursion}
use Rattle.copy_model.specs.Job.{Committed, Entry, Landed, Sized}
use Rattle.copy_model.specs.Marks.{is_stop, is_stopped}
use Rattle.dest_jobs.specs.Progress.{commits, lands, stopped_if, stops}
use Rattle.dest_jobs.specs.declared.copies.Copies.{Copies}
use Rattle.dest_laws.proofs.names.Callbacks.{all_kept, one_more}
use Rattle.dest_laws.specs.Deeds.{GoesWithin, entry_in}
use Rattle.dest_laws.specs.Histories.Kinds.{AreOf, GoesBy, is_end, is_taking}
use Rattle.dest_laws.specs.Names.Causes.{Fails, HasCause, HaveCauses, StopFails}
use Rattle.dest_tasks.specs.Completing.{Accepts, Claims, Comes, Commits, Deed, Does, GivesBack, Lands, Retires, Sizes, Stops}
use Rattle.job_book.specs.Book.{BookView, accept_answer, after_accept, id_of, named}
use Rattle.job_book.specs.Working.{claimed, next_chunk, stopped, with_its}
use Rattle.job_book.specs.declared.acceptance.Acceptance.{Acceptance}
use Rattle.job_book.specs.declared.acceptance.Acceptance.TheVariants.{Accepted, Full, Overlap, TooFar}
use Rattle.job_log.specs.Log.{JobView, after_landing, given_back, is_claimed, sized, with_claim, with_entry}
use Rattle.job_log.specs.declared.chunk.Chunk.{Chunk}
use Rattle.job_log.specs.declared.chunk.Landing.TheVariants as landings
use Rattle.job_table.specs.Table.{changed, is_job, is_running, new_job}
use Rattle.job_table.specs.declared.job.Job.{Job}
use Rattle.job_table.specs.declared.job.Plan.{Plan}
use Rattle.nfs_base.specs.declared.job.JobName.{JobName}
use Rattle.nfs_base.specs.declared.job.Stop.{Stop}

abbrev Caused : Job → Type 0
Caused job = HasCause job.log

-- ---- a log

not_stop : (es : List Entry) (e : Entry) → is_stop e ≡ false → is_stopped es ≡ false → is_stopped (es ++ e ∷ []) ≡ false
not_stop [] e other free = ap (λ (b : Bool). b || false) other
not_stop (x ∷ es) e other free = by (is_stop x) free (λ rest. not_stop es e other rest)
  where
    by : (b : Bool) → (b || is_stopped es) ≡ false → (is_stopped es ≡ false → is_stopped (es ++ e ∷ []) ≡ false) → (b || is_stopped (es ++ e ∷ [])) ≡ false
    by true free rest = absurd cc
    by false free rest = rest free

entry_caused : (log : JobView) (e : Entry) → is_stop e ≡ false → HasCause log → HasCause (with_entry log e)
entry_caused log e other has = record { stopped = λ none. not_stop log.entries e other (has.stopped none); fails = has.fails }

pub stopped_caused : (cause : Stop) (log : JobView) → Fails cause → HasCause (stopped cause log)
stopped_caused cause log fails = record {
  stopped = λ none. absurd (never none);
  fails = λ c is. let same : cause ≡ c = some_is c is in subst Fails same fails;
}
  where
    never : ◌≡◌ {A = Option Stop} (Some cause) None → ⊥
    never none = cc

    some_is : (c : Stop) → ◌≡◌ {A = Option Stop} (Some cause) (Some c) → cause ≡ c
    some_is c is = cc

pub sized_caused : (spare len : ℕ) (log : JobView) → HasCause log → HasCause (sized (record log { spare = spare }) len)
sized_caused spare len log has = entry_caused _ (Sized len) refl (record { stopped = has.stopped; fails = has.fails })

pub landed_caused : (chunk : Chunk) (log : JobView) → HasCause log → HasCause (after_landing log chunk landings.Landed)
landed_caused chunk log has = entry_caused (with_claim log chunk false) (Landed chunk.off chunk.len) refl (record { stopped = has.stopped; fails = has.fails })

pub committed_caused : (log : JobView) → HasCause log → HasCause (with_entry log Committed)
committed_caused log has = entry_caused log Committed refl has

back_caused : (chunk : Chunk) (log : JobView) → HasCause log → HasCause (given_back log chunk)
back_caused chunk log has = by (is_claimed log chunk)
  where
    by : (b : Bool) → HasCause (if b then with_claim log chunk false else log)
    by true = record { stopped = has.stopped; fails = has.fails }
    by false = has

-- ---- a book

changed_caused : (test : Job → Bool) (f : JobView → JobView) (jobs : List Job) → ((log : JobView) → HasCause log → HasCause (f log)) → AllByRecursion Caused jobs
    → AllByRecursion Caused (changed test (λ job. record job { log = f job.log }) jobs)
changed_caused test f [] keeps all = tt
changed_caused test f (job ∷ jobs) keeps all = by (test job) (changed_caused test f jobs keeps all.1)
  where
    by : (b : Bool) → AllByRecursion Caused (changed test (λ j. record j { log = f j.log }) jobs)
        → AllByRecursion Caused (if b then record job { log = f job.log } ∷ jobs else job ∷ changed test (λ j. record j { log = f j.log }) jobs)
    by true rest = (keeps job.log all.0, all.1)
    by false rest = (all.0, rest)

pub its_caused : (name : JobName) (f : JobView → JobView) (b : BookView) → ((log : JobView) → HasCause log → HasCause (f log)) → HaveCauses b.table → HaveCauses (with_its name f b).table
its_caused name f b keeps all = changed_caused (is_job b.table.boot (id_of name)) f b.table.jobs keeps all

accepted_caused : (answer : Acceptance) (plan : Plan) (b : BookView) → HaveCauses b.table → HaveCauses (after_accept answer plan b).table
accepted_caused (Accepted name) plan b all =
    one_more Caused b.table.jobs (new_job (b.table.made + 1) plan) all (record { stopped = λ none. refl; fails = λ cause is. absurd (never cause is) })
  where
    never : (cause : Stop) → ◌≡◌ {A = Option Stop} None (Some cause) → ⊥
    never cause is = cc
accepted_caused (Overlap name) plan b all = all
accepted_caused Full plan b all = all
accepted_caused TooFar plan b all = all

claimed_caused : (chunk : Option Chunk) (name : JobName) (b : BookView) → HaveCauses b.table → HaveCauses (claimed chunk name b).table
claimed_caused None name b all = all
claimed_caused (Some chunk) name b all = its_caused name _ b (λ log has. record { stopped = has.stopped; fails = has.fails }) all

abbrev Have : BookView → Type 0
Have b = HaveCauses b.table

deed_caused : (deed : Deed) (b c : BookView) → StopFails deed → Does deed b c → Have b → Have c
deed_caused (Accepts plan) b c fails does all = subst Have (sym does) (accepted_caused (accept_answer b.table plan) plan b all)
deed_caused (Sizes spare len name) b c fails does all = subst Have (sym does.1) (its_caused name _ b (sized_caused spare len) all)
deed_caused (Claims name) b c fails does all = subst Have (sym does) (claimed_caused (next_chunk (named b.table name)) name b all)
deed_caused (GivesBack name chunk) b c fails does all = subst Have (sym does) (its_caused name _ b (back_caused chunk) all)
deed_caused (Lands name chunk) b c fails does all = subst Have (sym does.1) (its_caused name _ b (landed_caused chunk) all)
deed_caused (Stops cause name) b c fails does all = subst Have (sym does) (its_caused name _ b (λ log has. stopped_caused cause log fails) all)
deed_caused (Commits name) b c fails does all = subst Have (sym does) (its_caused name _ b committed_caused all)
deed_caused (Retires name) b c fails does all =
    subst Have (sym does) (all_kept Caused (λ job. not (is_job b.table.boot (id_of name) job)) b.table.jobs all)

module _ (kind : Deed → Bool) (none : (deed : Deed) → kind deed ≡ true → StopFails deed) where
  deeds_caused : (deeds : List Deed) (b c : BookView) → AreOf kind deeds → Comes deeds b c → Have b → Have c
  unfolding Comes
  deeds_caused [] b c are come all = subst Have (sym come) all
  deeds_caused (deed ∷ deeds) b c are come all = deeds_caused deeds come.0 c are.1 come.2 (deed_caused deed b come.0 (none deed are.0) come.1 all)

  kinds_caused : (b c : BookView) → GoesBy kind b c → Have b → Have c
  kinds_caused b c goes all = deeds_caused goes.deeds b c goes.are goes.come all

-- where copies are taken and jobs end, none is stopped
taking_stops : (deed : Deed) → is_taking deed ≡ true → StopFails deed
taking_stops (Stops cause name) is = absurd cc
taking_stops (Accepts plan) is = tt
taking_stops (Sizes spare len name) is = tt
taking_stops (Claims name) is = tt
taking_stops (GivesBack name chunk) is = tt
taking_stops (Lands name chunk) is = tt
taking_stops (Commits name) is = tt
taking_stops (Retires name) is = tt

ending_stops : (deed : Deed) → is_end deed ≡ true → StopFails deed
ending_stops (Stops cause name) is = absurd cc
ending_stops (Accepts plan) is = tt
ending_stops (Sizes spare len name) is = tt
ending_stops (Claims name) is = tt
ending_stops (GivesBack name chunk) is = tt
ending_stops (Lands name chunk) is = tt
ending_stops (Commits name) is = tt
ending_stops (Retires name) is = tt

pub takes_caused : (b c : BookView) → GoesBy is_taking b c → HaveCauses b.table → HaveCauses c.table
takes_caused b c goes all = kinds_caused is_taking taking_stops b c goes all

pub ends_caused : (b c : BookView) → GoesBy is_end b c → HaveCauses b.table → HaveCauses c.table
ends_caused b c goes all = kinds_caused is_end ending_stops b c goes all

-- ---- what comes about in copies

stop_by : (running : Bool) (cause : Stop) (name : JobName) (x : Copies) → Fails cause → HaveCauses x.book.table → HaveCauses (stopped_if running cause name x).book.table
stop_by true cause name x fails all = its_caused name _ x.book (λ log has. stopped_caused cause log fails) all
stop_by false cause name x fails all = all

pub stops_caused : (cause : Stop) (name : JobName) (x : Copies) → Fails cause → HaveCauses x.book.table → HaveCauses (stops cause name x).book.table
stops_caused cause name x fails all = stop_by (is_running x.book.table (id_of name)) cause name x fails all

pub lands_caused : (name : JobName) (chunk : Chunk) (x : Copies) → HaveCauses x.book.table → HaveCauses (lands name chunk x).book.table
lands_caused name chunk x all = its_caused name _ x.book (landed_caused chunk) all

pub commits_caused : (name : JobName) (x : Copies) → HaveCauses x.book.table → HaveCauses (commits name x).book.table
commits_caused name x all = its_caused name _ x.book committed_caused all

-- ---- where no entry is given, no job is stopped

no_stop : (deed : Deed) → entry_in deed ≡ 0 → StopFails deed
no_stop (Stops cause name) none = absurd (omega (arith, none))
no_stop (Accepts plan) none = tt
no_stop (Sizes spare len name) none = tt
no_stop (Claims name) none = tt
no_stop (GivesBack name chunk) none = tt
no_stop (Lands name chunk) none = tt
no_stop (Commits name) none = tt
no_stop (Retires name) none = tt

quiet_caused : (deeds : List Deed) (b c : BookView) → Comes deeds b c → sum_by entry_in deeds ≤ 0 → Have b → Have c
unfolding Comes
quiet_caused [] b c come none all = subst Have (sym come) all
quiet_caused (deed ∷ deeds) b c come none all =
    let split = sum_by-cons entry_in deed deeds in
    let first : entry_in deed ≡ 0 = omega (arith, split, none) in
    let rest : sum_by entry_in deeds ≤ 0 = omega (arith, split, none) in
    quiet_caused deeds come.0 c come.2 rest (deed_caused deed b come.0 (no_stop deed first) come.1 all)

pub within_caused : (accepts : ℕ) (b c : BookView) → GoesWithin accepts 0 b c → HaveCauses b.table → HaveCauses c.table
within_caused accepts b c goes all = quiet_caused goes.deeds b c goes.come goes.few_entries all
