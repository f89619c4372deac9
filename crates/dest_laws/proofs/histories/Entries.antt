-- What deeds leave of a job's plan and entries.
use Rattle.std.proofs.Common.{◌≡◌, ℕ, ◌+◌, ◌<◌, ◌≤◌, Bool, true, false, List, [], ◌∷◌, ◌++◌, Option, Some, None, refl, sym, ap, subst, ◌∙◌, arith, append-nil, append_assoc}
use Rattle.std.proofs.lemmas.List.Elements.{All-head, All-tail}
use Rattle.std.proofs.lemmas.List.Folds.{find-append}
use Rattle.std.specs.Option.{option_or}
use Rattle.std.specs.Prelude.{if◌then◌else◌, All, find, option_map, unwrap_or}
use Rattle.copy_model.specs.Job.{Committed, Entry, Landed, Sized, Stopped}
use Rattle.dest_tasks.specs.NamedLaws.{find_behind, find_changed, find_other, find_without, is_older, none_left, number_of, same_name, two_names}
use Rattle.dest_laws.specs.Histories.Kinds.{AreOf, GoesBy, is_taking}
use Rattle.dest_laws.specs.Histories.Seen.{GrowsBy, IsGiven, Later, Seen, entries_by, entries_in, seen, seen_in}
use Rattle.dest_tasks.specs.Completing as deeds
use Rattle.dest_tasks.specs.Completing.{Comes, Deed, Does}
use Rattle.dest_tasks.specs.Posts.{is_same}
use Rattle.job_book.specs.Book.{BookView, IsSound, accept_answer, after_accept, id_of, named, retired}
use Rattle.job_book.specs.Working.{claimed, next_chunk, stopped, with_its}
use Rattle.job_book.specs.declared.acceptance.Acceptance.{Acceptance}
use Rattle.job_book.specs.declared.acceptance.Acceptance.TheVariants as answers
use Rattle.job_log.specs.Log.{JobView, after_landing, given_back, is_claimed, sized, with_claim, with_entry}
use Rattle.job_log.specs.declared.chunk.Chunk.{Chunk}
use Rattle.job_log.specs.declared.chunk.Landing.TheVariants as landings
use Rattle.job_table.specs.Table.{JobTable, is_job, new_job}
use Rattle.job_table.specs.declared.job.Job.{Job}
use Rattle.job_table.specs.declared.job.Plan.{Plan}
use Rattle.nfs_base.specs.declared.job.JobName.{JobName}

-- ---- more entries

abbrev pub with_more : List Entry → Option Seen → Option Seen
with_more more o = option_map (λ (s : Seen). record { plan = s.plan; entries = s.entries ++ more }) o

abbrev pub a_seen : Plan → List Entry → Option Seen
a_seen plan entries = Some (record { plan = plan; entries = entries })

none_more : (o : Option Seen) → with_more [] o ≡ o
none_more None = refl
none_more (Some s) = ap (λ (es : List Entry). a_seen s.plan es) (append-nil s.entries)

abbrev more_if : Bool → List Entry → List Entry
more_if same more = if same then more else []

nothing_if : (same : Bool) → more_if same [] ≡ []
nothing_if true = refl
nothing_if false = refl

-- ---- a job's log is another

seen_other : (f : JobView → JobView) (more : List Entry) → ((log : JobView) → (f log).entries ≡ log.entries ++ more) → (job : Option Job)
    → seen (option_map (λ (j : Job). record j { log = f j.log }) job) ≡ with_more more (seen job)
seen_other f more pushes None = refl
seen_other f more pushes (Some job) = ap (λ (es : List Entry). a_seen job.plan es) (pushes job.log)

its_own : (name : JobName) (f : JobView → JobView) (more : List Entry) (b : BookView) → ((log : JobView) → (f log).entries ≡ log.entries ++ more)
    → seen_in (with_its name f b).table name ≡ with_more more (seen_in b.table name)
its_own name f more b pushes =
    let p = is_job b.table.boot (id_of name) in
    ap seen (find_changed p (λ (j : Job). record j { log = f j.log }) b.table.jobs (λ x. refl)) ∙ seen_other f more pushes (named b.table name)

its_seen : (job name : JobName) (f : JobView → JobView) (more : List Entry) (b : BookView) → ((log : JobView) → (f log).entries ≡ log.entries ++ more)
    → (same : Bool) → is_same job name ≡ same → seen_in (with_its job f b).table name ≡ with_more (more_if same more) (seen_in b.table name)
its_seen job name f more b pushes true is =
    subst (λ (n : JobName). seen_in (with_its n f b).table name ≡ with_more more (seen_in b.table name)) (sym (same_name job name is)) (its_own name f more b pushes)
its_seen job name f more b pushes false is =
    let p = is_job b.table.boot (id_of job) in
    let q = is_job b.table.boot (id_of name) in
    ap seen (find_other p q (λ (j : Job). record j { log = f j.log }) b.table.jobs (λ x. refl) (λ x. two_names b.table.boot job name x is))
    ∙ sym (none_more (seen_in b.table name))

-- one that keeps the entries
its_kept : (job name : JobName) (f : JobView → JobView) (b : BookView) → ((log : JobView) → (f log).entries ≡ log.entries)
    → seen_in (with_its job f b).table name ≡ with_more [] (seen_in b.table name)
its_kept job name f b keeps =
    its_seen job name f [] b (λ log. keeps log ∙ sym (append-nil log.entries)) (is_same job name) refl
    ∙ ap (λ (es : List Entry). with_more es (seen_in b.table name)) (nothing_if (is_same job name))

-- ---- one deed

abbrev pub after : JobName → Deed → Option Seen → Option Seen
after name (deeds.Retires job) o = if is_same job name then None else o
after name deed o = with_more (entries_by name deed) o

accepted_seen : (answer : Acceptance) (plan : Plan) (b : BookView) (name : JobName) → IsGiven b.table name
    → seen_in (after_accept answer plan b).table name ≡ with_more [] (seen_in b.table name)
accepted_seen (answers.Accepted given_out) plan b name given =
    let p = is_job b.table.boot (id_of name) in
    ap seen (find_behind p b.table.jobs (new_job (b.table.made + 1) plan) (is_older b.table.boot b.table.made name plan given))
    ∙ sym (none_more (seen_in b.table name))
accepted_seen (answers.Overlap other) plan b name given = sym (none_more (seen_in b.table name))
accepted_seen answers.Full plan b name given = sym (none_more (seen_in b.table name))
accepted_seen answers.TooFar plan b name given = sym (none_more (seen_in b.table name))

claimed_seen : (chunk : Option Chunk) (job name : JobName) (b : BookView) → seen_in (claimed chunk job b).table name ≡ with_more [] (seen_in b.table name)
claimed_seen None job name b = sym (none_more (seen_in b.table name))
claimed_seen (Some chunk) job name b = its_kept job name (λ log. with_claim log chunk true) b (λ log. refl)

back_keeps : (is : Bool) (log : JobView) (chunk : Chunk) → (if is then with_claim log chunk false else log).entries ≡ log.entries
back_keeps true log chunk = refl
back_keeps false log chunk = refl

retired_seen : (job name : JobName) (b : BookView) (same : Bool) → is_same job name ≡ same
    → seen_in (retired job b).table name ≡ (if same then None else seen_in b.table name)
retired_seen job name b true is =
    subst (λ (n : JobName). seen_in (retired n b).table name ≡ None) (sym (same_name job name is))
    (ap seen (none_left (is_job b.table.boot (id_of name)) b.table.jobs))
retired_seen job name b false is =
    ap seen (find_without (is_job b.table.boot (id_of job)) (is_job b.table.boot (id_of name)) b.table.jobs (λ x. two_names b.table.boot job name x is))

-- from one book to another that is this one
by_book : (name : JobName) (b c d : BookView) (o : Option Seen) → c ≡ d → seen_in d.table name ≡ o → seen_in c.table name ≡ o
by_book name b c d o is seen_is = ap (λ (x : BookView). seen_in x.table name) is ∙ seen_is

deed_seen : (deed : Deed) (b c : BookView) (name : JobName) → IsGiven b.table name → Does deed b c
    → seen_in c.table name ≡ after name deed (seen_in b.table name)
deed_seen (deeds.Accepts plan) b c name given done =
    by_book name b c (after_accept (accept_answer b.table plan) plan b) _ done (accepted_seen (accept_answer b.table plan) plan b name given)
deed_seen (deeds.Sizes spare len job) b c name given done =
    let f : JobView → JobView = λ log. sized (record log { spare = spare }) len in
    by_book name b c (with_its job f b) _ done.1 (its_seen job name f (Sized len ∷ []) b (λ log. refl) (is_same job name) refl)
deed_seen (deeds.Claims job) b c name given done =
    by_book name b c (claimed (next_chunk (named b.table job)) job b) _ done (claimed_seen (next_chunk (named b.table job)) job name b)
deed_seen (deeds.GivesBack job chunk) b c name given done =
    let f : JobView → JobView = λ log. given_back log chunk in
    by_book name b c (with_its job f b) _ done (its_kept job name f b (λ log. back_keeps (is_claimed log chunk) log chunk))
deed_seen (deeds.Lands job chunk) b c name given done =
    let f : JobView → JobView = λ log. after_landing log chunk landings.Landed in
    by_book name b c (with_its job f b) _ done.1 (its_seen job name f (Landed chunk.off chunk.len ∷ []) b (λ log. refl) (is_same job name) refl)
deed_seen (deeds.Stops cause job) b c name given done =
    let f : JobView → JobView = λ log. stopped cause log in
    by_book name b c (with_its job f b) _ done (its_seen job name f (Stopped ∷ []) b (λ log. refl) (is_same job name) refl)
deed_seen (deeds.Commits job) b c name given done =
    let f : JobView → JobView = λ log. with_entry log Committed in
    by_book name b c (with_its job f b) _ done (its_seen job name f (Committed ∷ []) b (λ log. refl) (is_same job name) refl)
deed_seen (deeds.Retires job) b c name given done =
    by_book name b c (retired job b) _ done (retired_seen job name b (is_same job name) refl)

-- ---- the table itself goes on

same_later : (t : JobTable) → Later t t
same_later t = record { boot = refl; capacity = refl; made = omega arith }

later_on : (r t u : JobTable) → Later r t → Later t u → Later r u
later_on r t u first second = record {
  boot = second.boot ∙ first.boot;
  capacity = second.capacity ∙ first.capacity;
  made = let a = first.made in let b = second.made in omega (arith, a, b);
}

by_table : (b c d : BookView) → c ≡ d → Later b.table d.table → Later b.table c.table
by_table b c d is later = subst (λ (x : BookView). Later b.table x.table) (sym is) later

accepted_later : (answer : Acceptance) (plan : Plan) (b : BookView) → Later b.table (after_accept answer plan b).table
accepted_later (answers.Accepted name) plan b = record { boot = refl; capacity = refl; made = omega arith }
accepted_later (answers.Overlap other) plan b = same_later b.table
accepted_later answers.Full plan b = same_later b.table
accepted_later answers.TooFar plan b = same_later b.table

its_later : (job : JobName) (f : JobView → JobView) (b : BookView) → Later b.table (with_its job f b).table
its_later job f b = record { boot = refl; capacity = refl; made = omega arith }

claimed_later : (chunk : Option Chunk) (job : JobName) (b : BookView) → Later b.table (claimed chunk job b).table
claimed_later None job b = same_later b.table
claimed_later (Some chunk) job b = its_later job (λ log. with_claim log chunk true) b

deed_later : (deed : Deed) (b c : BookView) → Does deed b c → Later b.table c.table
deed_later (deeds.Accepts plan) b c done =
    by_table b c (after_accept (accept_answer b.table plan) plan b) done (accepted_later (accept_answer b.table plan) plan b)
deed_later (deeds.Sizes spare len job) b c done =
    let f : JobView → JobView = λ log. sized (record log { spare = spare }) len in by_table b c (with_its job f b) done.1 (its_later job f b)
deed_later (deeds.Claims job) b c done =
    by_table b c (claimed (next_chunk (named b.table job)) job b) done (claimed_later (next_chunk (named b.table job)) job b)
deed_later (deeds.GivesBack job chunk) b c done =
    let f : JobView → JobView = λ log. given_back log chunk in by_table b c (with_its job f b) done (its_later job f b)
deed_later (deeds.Lands job chunk) b c done =
    let f : JobView → JobView = λ log. after_landing log chunk landings.Landed in by_table b c (with_its job f b) done.1 (its_later job f b)
deed_later (deeds.Stops cause job) b c done =
    let f : JobView → JobView = λ log. stopped cause log in by_table b c (with_its job f b) done (its_later job f b)
deed_later (deeds.Commits job) b c done =
    let f : JobView → JobView = λ log. with_entry log Committed in by_table b c (with_its job f b) done (its_later job f b)
deed_later (deeds.Retires job) b c done =
    by_table b c (retired job b) done (record { boot = refl; capacity = refl; made = omega arith })

-- ---- deeds one after another

pub all_later : (ds : List Deed) (b c : BookView) → Comes ds b c → Later b.table c.table
unfolding Comes
all_later [] b c come = by_table b c b come (same_later b.table)
all_later (d ∷ ds) b c come = later_on b.table come.0.table c.table (deed_later d b come.0 come.1) (all_later ds come.0 c come.2)

abbrev after_all : JobName → List Deed → Option Seen → Option Seen
after_all name [] o = o
after_all name (d ∷ ds) o = after_all name ds (after name d o)

still_given : (b c : BookView) (name : JobName) → Later b.table c.table → IsGiven b.table name → IsGiven c.table name
still_given b c name later given = let more = later.made in omega (arith, more, given)

all_seen : (ds : List Deed) (b c : BookView) (name : JobName) → IsGiven b.table name → Comes ds b c
    → seen_in c.table name ≡ after_all name ds (seen_in b.table name)
unfolding Comes
all_seen [] b c name given come = ap (λ (x : BookView). seen_in x.table name) come
all_seen (d ∷ ds) b c name given come =
    all_seen ds come.0 c name (still_given b come.0 name (deed_later d b come.0 come.1) given) come.2
    ∙ ap (λ o. after_all name ds o) (deed_seen d b come.0 name given come.1)

-- a job that is gone stays so
abbrev nobody : Option Seen
nobody = None

none_either : (same : Bool) → (if same then nobody else nobody) ≡ nobody
none_either true = refl
none_either false = refl

none_after : (name : JobName) (d : Deed) → after name d None ≡ None
none_after name (deeds.Accepts plan) = refl
none_after name (deeds.Sizes spare len job) = refl
none_after name (deeds.Claims job) = refl
none_after name (deeds.GivesBack job chunk) = refl
none_after name (deeds.Lands job chunk) = refl
none_after name (deeds.Stops cause job) = refl
none_after name (deeds.Commits job) = refl
none_after name (deeds.Retires job) = none_either (is_same job name)

none_after_all : (name : JobName) (ds : List Deed) → after_all name ds None ≡ None
none_after_all name [] = refl
none_after_all name (d ∷ ds) = ap (λ o. after_all name ds o) (none_after name d) ∙ none_after_all name ds

-- one that stays has what the deeds give it
grows_then : (name : JobName) (ds : List Deed) (more : List Entry) (old new : Seen)
    → GrowsBy (entries_in name ds) (record { plan = old.plan; entries = old.entries ++ more }) new → GrowsBy (more ++ entries_in name ds) old new
grows_then name ds more old new rest = record {
  plan = rest.plan;
  entries = rest.entries ∙ append_assoc old.entries more (entries_in name ds);
}

-- one more deed of a job that is there then and is there in the end
grows_by_more : (name : JobName) (ds : List Deed) (more : List Entry) (old new : Seen) → after_all name ds (a_seen old.plan (old.entries ++ more)) ≡ Some new
    → ((s t : Seen) → after_all name ds (Some s) ≡ Some t → GrowsBy (entries_in name ds) s t) → GrowsBy (more ++ entries_in name ds) old new
grows_by_more name ds more old new is rest = grows_then name ds more old new (rest (record { plan = old.plan; entries = old.entries ++ more }) new is)

grows_unless : (same : Bool) (name : JobName) (ds : List Deed) (old new : Seen) → after_all name ds (if same then None else Some old) ≡ Some new
    → ((s t : Seen) → after_all name ds (Some s) ≡ Some t → GrowsBy (entries_in name ds) s t) → GrowsBy ([] ++ entries_in name ds) old new
grows_unless true name ds old new is rest = let none = none_after_all name ds in absurd cc
grows_unless false name ds old new is rest = rest old new is

some_is : (s t : Seen) → Some s ≡ Some t → s ≡ t
some_is s t is = ap (λ (o : Option Seen). unwrap_or o s) is

grows_all : (name : JobName) (ds : List Deed) (old new : Seen) → after_all name ds (Some old) ≡ Some new → GrowsBy (entries_in name ds) old new
grows_all name [] old new is =
    let same : old ≡ new = some_is old new is in
    record { plan = ap (λ (s : Seen). s.plan) (sym same); entries = ap (λ (s : Seen). s.entries) (sym same) ∙ sym (append-nil old.entries) }
grows_all name (deeds.Accepts plan ∷ ds) old new is = grows_by_more name ds [] old new is (grows_all name ds)
grows_all name (deeds.Sizes spare len job ∷ ds) old new is = grows_by_more name ds (entries_by name (deeds.Sizes spare len job)) old new is (grows_all name ds)
grows_all name (deeds.Claims job ∷ ds) old new is = grows_by_more name ds [] old new is (grows_all name ds)
grows_all name (deeds.GivesBack job chunk ∷ ds) old new is = grows_by_more name ds [] old new is (grows_all name ds)
grows_all name (deeds.Lands job chunk ∷ ds) old new is = grows_by_more name ds (entries_by name (deeds.Lands job chunk)) old new is (grows_all name ds)
grows_all name (deeds.Stops cause job ∷ ds) old new is = grows_by_more name ds (entries_by name (deeds.Stops cause job)) old new is (grows_all name ds)
grows_all name (deeds.Commits job ∷ ds) old new is = grows_by_more name ds (entries_by name (deeds.Commits job)) old new is (grows_all name ds)
grows_all name (deeds.Retires job ∷ ds) old new is = grows_unless (is_same job name) name ds old new is (grows_all name ds)

pub grows : (ds : List Deed) (b c : BookView) (name : JobName) (old new : Seen) → Comes ds b c → IsGiven b.table name
    → seen_in b.table name ≡ Some old → seen_in c.table name ≡ Some new → GrowsBy (entries_in name ds) old new
grows ds b c name old new come given was now =
    grows_all name ds old new (ap (λ o. after_all name ds o) (sym was) ∙ sym (all_seen ds b c name given come) ∙ now)

pub stays_gone : (ds : List Deed) (b c : BookView) (name : JobName) → Comes ds b c → IsGiven b.table name → seen_in b.table name ≡ None
    → seen_in c.table name ≡ None
stays_gone ds b c name come given was =
    all_seen ds b c name given come ∙ ap (λ o. after_all name ds o) was ∙ none_after_all name ds

-- ---- a step in which copies are taken and jobs end, and nothing else

no_entry : (name : JobName) (d : Deed) → is_taking d ≡ true → entries_by name d ≡ []
no_entry name (deeds.Accepts plan) is = refl
no_entry name (deeds.Sizes spare len job) is = absurd cc
no_entry name (deeds.Claims job) is = absurd cc
no_entry name (deeds.GivesBack job chunk) is = absurd cc
no_entry name (deeds.Lands job chunk) is = absurd cc
no_entry name (deeds.Stops cause job) is = absurd cc
no_entry name (deeds.Commits job) is = absurd cc
no_entry name (deeds.Retires job) is = refl

no_entries : (name : JobName) (ds : List Deed) → AreOf is_taking ds → entries_in name ds ≡ []
no_entries name [] are = refl
no_entries name (d ∷ ds) are =
    ap (λ (es : List Entry). es ++ entries_in name ds) (no_entry name d are.0) ∙ no_entries name ds are.1

pub keeps_entries : (b c : BookView) (name : JobName) (old new : Seen) → GoesBy is_taking b c → IsGiven b.table name
    → seen_in b.table name ≡ Some old → seen_in c.table name ≡ Some new → GrowsBy [] old new
keeps_entries b c name old new goes given was now =
    subst (λ (es : List Entry). GrowsBy es old new) (no_entries name goes.deeds goes.are) (grows goes.deeds b c name old new goes.come given was now)

-- ---- a job whose name wasn't given out before is blank then

abbrev IsBlankIn : Option Seen → Type 0
IsBlankIn None = Unit {0}
IsBlankIn (Some s) = s.entries ≡ []

blank_or : (a b : Option Job) → IsBlankIn (seen a) → IsBlankIn (seen b) → IsBlankIn (seen (option_or a b))
blank_or None b first second = second
blank_or (Some job) b first second = first

blank_if : (is : Bool) (number : ℕ) (plan : Plan) → IsBlankIn (seen (if is then Some (new_job number plan) else None))
blank_if true number plan = refl
blank_if false number plan = tt

blank_new : (p : Job → Bool) (number : ℕ) (plan : Plan) → IsBlankIn (seen (find p (new_job number plan ∷ [])))
blank_new p number plan = blank_if (p (new_job number plan)) number plan

accepted_blank : (answer : Acceptance) (plan : Plan) (b : BookView) (name : JobName) → IsBlankIn (seen_in b.table name)
    → IsBlankIn (seen_in (after_accept answer plan b).table name)
accepted_blank (answers.Accepted given_out) plan b name blank =
    let p = is_job b.table.boot (id_of name) in
    let y = new_job (b.table.made + 1) plan in
    subst (λ (o : Option Job). IsBlankIn (seen o)) (sym (find-append p b.table.jobs (y ∷ [])))
    (blank_or (find p b.table.jobs) (find p (y ∷ [])) blank (blank_new p (b.table.made + 1) plan))
accepted_blank (answers.Overlap other) plan b name blank = blank
accepted_blank answers.Full plan b name blank = blank
accepted_blank answers.TooFar plan b name blank = blank

blank_unless : (same : Bool) (o : Option Seen) → IsBlankIn o → IsBlankIn (if same then None else o)
blank_unless true o blank = tt
blank_unless false o blank = blank

blank_book : (name : JobName) (c d : BookView) → c ≡ d → IsBlankIn (seen_in d.table name) → IsBlankIn (seen_in c.table name)
blank_book name c d is blank = subst (λ (x : BookView). IsBlankIn (seen_in x.table name)) (sym is) blank

deed_blank : (d : Deed) (b c : BookView) (name : JobName) → is_taking d ≡ true → Does d b c → IsBlankIn (seen_in b.table name) → IsBlankIn (seen_in c.table name)
deed_blank (deeds.Accepts plan) b c name is done blank =
    blank_book name c (after_accept (accept_answer b.table plan) plan b) done (accepted_blank (accept_answer b.table plan) plan b name blank)
deed_blank (deeds.Sizes spare len job) b c name is done blank = absurd cc
deed_blank (deeds.Claims job) b c name is done blank = absurd cc
deed_blank (deeds.GivesBack job chunk) b c name is done blank = absurd cc
deed_blank (deeds.Lands job chunk) b c name is done blank = absurd cc
deed_blank (deeds.Stops cause job) b c name is done blank = absurd cc
deed_blank (deeds.Commits job) b c name is done blank = absurd cc
deed_blank (deeds.Retires job) b c name is done blank =
    blank_book name c (retired job b) done
    (subst IsBlankIn (sym (retired_seen job name b (is_same job name) refl)) (blank_unless (is_same job name) (seen_in b.table name) blank))

all_blank : (ds : List Deed) (b c : BookView) (name : JobName) → AreOf is_taking ds → Comes ds b c → IsBlankIn (seen_in b.table name) → IsBlankIn (seen_in c.table name)
unfolding Comes
all_blank [] b c name are come blank = blank_book name c b come blank
all_blank (d ∷ ds) b c name are come blank = all_blank ds come.0 c name are.1 come.2 (deed_blank d b come.0 name are.0 come.1 blank)

-- a name that wasn't given out names none

no_job_if : (boot made : ℕ) (name : JobName) (x : Job) (b : Bool) → is_job boot (id_of name) x ≡ b → made < name.number → x.number ≤ made → b ≡ false
no_job_if boot made name x true is new few = absurd (omega (arith, number_of boot name x is, new, few))
no_job_if boot made name x false is new few = refl

abbrev IsMade : (made : ℕ) → Job → Type 0
IsMade made job = (0 < job.number) × (job.number ≤ made)

none_found : (boot made : ℕ) (name : JobName) (xs : List Job) → made < name.number → All (IsMade made) xs → find (is_job boot (id_of name)) xs ≡ None
none_found boot made name [] new all = refl
none_found boot made name (x ∷ xs) new all =
    let here = All-head (IsMade made) x xs all in
    rw (no_job_if boot made name x (is_job boot (id_of name) x) refl new here.1) (none_found boot made name xs new (All-tail (IsMade made) x xs all))

pub new_blank : (b c : BookView) (name : JobName) (new : Seen) → IsSound b.table → GoesBy is_taking b c → b.table.made < name.number
    → seen_in c.table name ≡ Some new → new.entries ≡ []
new_blank b c name new sound goes fresh now =
    let none = none_found b.table.boot b.table.made name b.table.jobs fresh sound.given in
    let start : IsBlankIn (seen_in b.table name) = subst (λ (o : Option Job). IsBlankIn (seen o)) (sym none) tt in
    subst IsBlankIn now (all_blank goes.deeds b c name goes.are goes.come start)
