-- Each job keeps a number that was given out, and of such a job is right what it is told.
use Rattle.std.proofs.Common.{◌≡◌, ℕ, ◌+◌, ◌<◌, ◌≤◌, Bool, true, false, List, [], ◌∷◌, ◌++◌, length, Option, Some, None, refl, sym, ap, subst, ◌∙◌, arith}
use Rattle.std.specs.Prelude.{◌==◌, ◌&&◌, ◌-◌, not, sum_by, if◌then◌else◌, find}
use Rattle.std.specs.List.{AllByRecursion}
use Rattle.std.proofs.lemmas.Bool.{eqb-true}
use Rattle.std.proofs.lemmas.List.{length-append}
use Rattle.std.proofs.lemmas.List.Sums.{sum_by-cons}
use Rattle.dest_jobs.specs.Copying.{offload_id}
use Rattle.dest_laws.proofs.names.Callbacks.{all_kept, found_all, one_more}
use Rattle.dest_laws.specs.Deeds.{ByDeeds, GoesWithin, accept_in}
use Rattle.dest_laws.specs.Histories.Linked.{name_at}
use Rattle.dest_laws.specs.Names.Posts.{CanCommit, CanStop}
use Rattle.dest_laws.specs.Names.Right.{AreGiven, IsSafe, IsWithin, TellsRight}
use Rattle.dest_steps.specs.Copier.{Around}
use Rattle.dest_tasks.specs.Completing.{Accepts, Claims, Comes, Commits, Deed, Does, GivesBack, Lands, Retires, Sizes, Stops}
use Rattle.file_server.specs.Handles.{file_handle}
use Rattle.job_book.specs.Book.{BookView, accept_answer, after_accept, id_of, named}
use Rattle.job_book.specs.Working.{claimed, next_chunk, with_its}
use Rattle.job_book.specs.declared.acceptance.Acceptance.{Acceptance}
use Rattle.job_book.specs.declared.acceptance.Acceptance.TheVariants.{Accepted, Full, Overlap, TooFar}
use Rattle.job_log.specs.Log.{JobView}
use Rattle.job_log.specs.declared.chunk.Chunk.{Chunk}
use Rattle.job_table.specs.Table.{JobTable, changed, is_job, new_job}
use Rattle.job_table.specs.declared.job.Job.{Job}
use Rattle.job_table.specs.declared.job.Plan.{Plan}
use Rattle.nfs_base.specs.declared.job.JobName.{JobName}
use Rattle.nfs_base.specs.declared.limits.TheConstants.{HANDLE_LIMIT}
use Rattle.wire_xdr.specs.LengthLaws.{hyper_length, word_length}
use Rattle.wire_xdr.specs.Words.{hyper_bytes, word_bytes}

-- ---- what is done to a book

abbrev Number : (made : ℕ) → Job → Type 0
Number made job = (0 < job.number) × (job.number ≤ made)

more_given : (made : ℕ) (jobs : List Job) → AllByRecursion (Number made) jobs → AllByRecursion (Number (made + 1)) jobs
more_given made [] all = tt
more_given made (job ∷ jobs) all = let below = all.0.1 in ((all.0.0, omega arith), more_given made jobs all.1)

changed_given : (made : ℕ) (test : Job → Bool) (f : JobView → JobView) (jobs : List Job) → AllByRecursion (Number made) jobs
    → AllByRecursion (Number made) (changed test (λ job. record job { log = f job.log }) jobs)
changed_given made test f [] all = tt
changed_given made test f (job ∷ jobs) all = by (test job) (changed_given made test f jobs all.1)
  where
    by : (b : Bool) → AllByRecursion (Number made) (changed test (λ j. record j { log = f j.log }) jobs)
        → AllByRecursion (Number made) (if b then record job { log = f job.log } ∷ jobs else job ∷ changed test (λ j. record j { log = f j.log }) jobs)
    by true rest = (all.0, all.1)
    by false rest = (all.0, rest)

its_given : (name : JobName) (f : JobView → JobView) (b : BookView) → AreGiven b.table → AreGiven (with_its name f b).table
its_given name f b all = changed_given b.table.made (is_job b.table.boot (id_of name)) f b.table.jobs all

accepted_given : (answer : Acceptance) (plan : Plan) (b : BookView) → AreGiven b.table → AreGiven (after_accept answer plan b).table
accepted_given (Accepted name) plan b all =
    one_more (Number (b.table.made + 1)) b.table.jobs (new_job (b.table.made + 1) plan) (more_given b.table.made b.table.jobs all) (omega arith, omega arith)
accepted_given (Overlap name) plan b all = all
accepted_given Full plan b all = all
accepted_given TooFar plan b all = all

claimed_given : (chunk : Option Chunk) (name : JobName) (b : BookView) → AreGiven b.table → AreGiven (claimed chunk name b).table
claimed_given None name b all = all
claimed_given (Some chunk) name b all = its_given name _ b all

abbrev Given : BookView → Type 0
Given b = AreGiven b.table

deed_given : (deed : Deed) (b c : BookView) → Does deed b c → Given b → Given c
deed_given (Accepts plan) b c does all = subst Given (sym does) (accepted_given (accept_answer b.table plan) plan b all)
deed_given (Sizes spare len name) b c does all = subst Given (sym does.1) (its_given name _ b all)
deed_given (Claims name) b c does all = subst Given (sym does) (claimed_given (next_chunk (named b.table name)) name b all)
deed_given (GivesBack name chunk) b c does all = subst Given (sym does) (its_given name _ b all)
deed_given (Lands name chunk) b c does all = subst Given (sym does.1) (its_given name _ b all)
deed_given (Stops cause name) b c does all = subst Given (sym does) (its_given name _ b all)
deed_given (Commits name) b c does all = subst Given (sym does) (its_given name _ b all)
deed_given (Retires name) b c does all =
    subst Given (sym does) (all_kept (Number b.table.made) (λ job. not (is_job b.table.boot (id_of name) job)) b.table.jobs all)

deeds_given : (deeds : List Deed) (b c : BookView) → Comes deeds b c → Given b → Given c
unfolding Comes
deeds_given [] b c come all = subst Given (sym come) all
deeds_given (deed ∷ deeds) b c come all = deeds_given deeds come.0 c come.2 (deed_given deed b come.0 come.1 all)

pub stay_given : (b c : BookView) → ByDeeds b c → AreGiven b.table → AreGiven c.table
stay_given b c by all = deeds_given by.0 b c by.1 all

-- ---- a job of this name

both_so : (a b : Bool) → (a && b) ≡ true → (a ≡ true) × (b ≡ true)
both_so true b is = (refl, is)
both_so false b is = absurd cc

passes_found : (test : Job → Bool) (jobs : List Job) (job : Job) → find test jobs ≡ Some job → test job ≡ true
passes_found test [] job is = absurd cc
passes_found test (j ∷ jobs) job is = by (test j) refl is (λ found. passes_found test jobs job found)
  where
    by : (b : Bool) → test j ≡ b → (if b then Some j else find test jobs) ≡ Some job → (find test jobs ≡ Some job → test job ≡ true) → test job ≡ true
    by true passes found rest = let same : j ≡ job = cc in subst (λ (x : Job). test x ≡ true) same passes
    by false passes found rest = rest found

pub record IsGivenName (boot made : ℕ) (name : JobName) : Type 0 where
  pub place : ℕ
  pub below : place < made
  pub named : name ≡ name_at boot place

pub given_name : (boot made : ℕ) (t : JobTable) (name : JobName) (job : Job) → IsWithin boot made t → named t name ≡ Some job → IsGivenName boot made name
given_name boot made t name job within there =
    let both = both_so (name.boot == t.boot) (name.number == job.number) (passes_found (is_job t.boot (id_of name)) t.jobs job there) in
    let boots : name.boot ≡ boot = eqb-true name.boot t.boot both.0 ∙ within.boot_is in
    let numbers : name.number ≡ job.number = eqb-true name.number job.number both.1 in
    let given = found_all (Number t.made) (is_job t.boot (id_of name)) t.jobs job within.given there in
    let low = given.0 in
    let high = given.1 in
    let few = within.few in
    let place : name.number ≡ (name.number - 1) + 1 = omega (arith, low, numbers) in
    record {
      place = name.number - 1;
      below = omega (arith, low, high, few, numbers);
      named = ap (λ (b : ℕ). named_so b name.number) boots ∙ ap (λ (n : ℕ). named_so boot n) place;
    }
  where
    named_so : (boot number : ℕ) → JobName
    named_so boot number = record { boot = boot; number = number }

-- ---- what it is told

handle_short : (tag file : ℕ) → (1 ≤ length (file_handle tag file)) × (length (file_handle tag file) ≤ HANDLE_LIMIT)
unfolding file_handle
handle_short tag file =
    let all : length (hyper_bytes tag ++ word_bytes file) ≡ 12 = omega (arith, length-append (hyper_bytes tag) (word_bytes file), hyper_length tag, word_length file) in
    (omega (arith, all), omega (arith, all))

pub can_stop : (boot made : ℕ) (safe : ℕ → Bool) (around : Around) (t : JobTable) → IsWithin boot made t → CanStop around (TellsRight boot made safe) t
can_stop boot made safe around t within name job status count there small =
    let given = given_name boot made t name job within there in
    record {
      place = given.place;
      given = given.below;
      id = ap offload_id given.named;
      handle = handle_short around.tag job.plan.file;
      end = small;
    }

pub can_commit : (boot made : ℕ) (safe : ℕ → Bool) (around : Around) (name : JobName) → IsSafe boot made safe name → CanCommit around (TellsRight boot made safe) name
can_commit boot made safe around name is job count = record {
  place = is.place;
  given = is.given;
  id = ap offload_id is.named;
  handle = handle_short around.tag job.plan.file;
  end = (is.is, (tt, hyper_length around.boot));
}

-- ---- where no copy is taken, no number is given out

-- the same opening, and no more numbers
record SameCount (b c : BookView) : Type 0 where
  made : c.table.made ≡ b.table.made
  boot : c.table.boot ≡ b.table.boot

its_same : (name : JobName) (f : JobView → JobView) (b c : BookView) → c ≡ with_its name f b → SameCount b c
its_same name f b c is = record { made = ap (λ (x : BookView). x.table.made) is; boot = ap (λ (x : BookView). x.table.boot) is }

claimed_same : (chunk : Option Chunk) (name : JobName) (b c : BookView) → c ≡ claimed chunk name b → SameCount b c
claimed_same None name b c is = record { made = ap (λ (x : BookView). x.table.made) is; boot = ap (λ (x : BookView). x.table.boot) is }
claimed_same (Some chunk) name b c is = its_same name _ b c is

deed_same : (deed : Deed) (b c : BookView) → Does deed b c → accept_in deed ≡ 0 → SameCount b c
deed_same (Accepts plan) b c does none = absurd (omega (arith, none))
deed_same (Sizes spare len name) b c does none = its_same name _ b c does.1
deed_same (Claims name) b c does none = claimed_same (next_chunk (named b.table name)) name b c does
deed_same (GivesBack name chunk) b c does none = its_same name _ b c does
deed_same (Lands name chunk) b c does none = its_same name _ b c does.1
deed_same (Stops cause name) b c does none = its_same name _ b c does
deed_same (Commits name) b c does none = its_same name _ b c does
deed_same (Retires name) b c does none = record { made = ap (λ (x : BookView). x.table.made) does; boot = ap (λ (x : BookView). x.table.boot) does }

deeds_same : (deeds : List Deed) (b c : BookView) → Comes deeds b c → sum_by accept_in deeds ≤ 0 → SameCount b c
unfolding Comes
deeds_same [] b c come none = record { made = ap (λ (x : BookView). x.table.made) come; boot = ap (λ (x : BookView). x.table.boot) come }
deeds_same (deed ∷ deeds) b c come none =
    let split = sum_by-cons accept_in deed deeds in
    let first : accept_in deed ≡ 0 = omega (arith, split, none) in
    let rest : sum_by accept_in deeds ≤ 0 = omega (arith, split, none) in
    let one = deed_same deed b come.0 come.1 first in
    let more = deeds_same deeds come.0 c come.2 rest in
    record { made = more.made ∙ one.made; boot = more.boot ∙ one.boot }

pub within_after : (boot made entries : ℕ) (b c : BookView) → GoesWithin 0 entries b c → IsWithin boot made b.table → IsWithin boot made c.table
within_after boot made entries b c goes within =
    let same = deeds_same goes.deeds b c goes.come goes.few_accepts in
    let few = within.few in
    record {
      given = stay_given b c (goes.deeds, goes.come) within.given;
      boot_is = same.boot ∙ within.boot_is;
      few = subst (λ (n : ℕ). n ≤ made) (sym same.made) few;
    }
