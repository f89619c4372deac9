-- A sized job of which each chunk has landed is whole, and its task is to commit.
use Rattle.std.proofs.Common.{◌≡◌, ℕ, zero, suc, ◌+◌, ◌*◌, Bool, true, false, List, [], ◌∷◌, ◌++◌, take, slice_get, refl, sym, ap, subst, ◌∙◌, arith}
use Rattle.std.proofs.lemmas.List.Elements.{All-head, All-tail}
use Rattle.std.proofs.lemmas.List.Folds.{list_any-append}
use Rattle.std.proofs.lemmas.List.Sums.{sum_by-cons}
use Rattle.std.specs.Prelude.{◌||◌, ◌&&◌, not, is_some, if◌then◌else◌, All, IfSome, IsSome, Option, Some, None, find, option_map}
use Rattle.std.specs.List.{list_any}
use Rattle.copy_model.specs.Job.{Committed, Entry, IsLawful, Landed, Reported, Sized, Stopped, chunk_size, chunks_of, has_landed, is_landing, size_of}
use Rattle.copy_model.specs.Marks.{is_commit, is_committed}
use Rattle.job_log.specs.Log.{ClaimsAreNew, sized, total_of, with_entry}
use Rattle.job_log.specs.declared.chunk.Chunk.{Chunk}
use Rattle.job_table.specs.Table.{is_job, is_running, passes, is_live}
use Rattle.job_table.specs.declared.job.Job.{Job}
use Rattle.job_book.specs.Book.{BookView, IsSound, id_of, named}
use Rattle.job_book.specs.Working.{is_whole, is_whole_by, next_chunk, size_in}
use Rattle.nfs_base.specs.declared.job.JobName.{JobName}
use Rattle.dest_tasks.specs.Completing.{Commits, Deed, Does, Comes, GoesOn, Sizes, chunks_left, ends, landing_in, landings_in, left_of, one_unless}
use Rattle.dest_tasks.specs.Tasks.{asking_task, goes_on, job_task, landing_task, may_call, or_else, read_when, task_if, when}
use Rattle.dest_tasks.specs.declared.tasks.Sight.{Sight}
use Rattle.dest_tasks.specs.declared.tasks.Task.{Task}
use Rattle.dest_tasks.specs.declared.tasks.Task.TheVariants as tasks
use Rattle.dest_tasks.proofs.Left.{is_whole_then, whole_has_none}
use Rattle.dest_tasks.proofs.Steps.{IsThere, its_own, one_deed, relogged}

-- ---- the job of the name, in a sound book

found_if : (P : Job → Type 0) (x job : Job) (more : Option Job) (b : Bool) → (if b then Some x else more) ≡ Some job → P x → (more ≡ Some job → P job) → P job
found_if P x job more true is here rest = let same : x ≡ job = cc in subst P same here
found_if P x job more false is here rest = rest is

found_has : (P : Job → Type 0) (test : Job → Bool) (jobs : List Job) (job : Job) → All P jobs → find test jobs ≡ Some job → P job
found_has P test [] job all is = absurd (cc)
found_has P test (x ∷ xs) job all is =
    found_if P x job (find test xs) (test x) is (All-head P x xs all) (λ found. found_has P test xs job (All-tail P x xs all) found)

claims_new : (b : BookView) (name : JobName) (job : Job) → IsSound b.table → named b.table name ≡ Some job → ClaimsAreNew job.log
claims_new b name job sound there = found_has (λ j. ClaimsAreNew j.log) (is_job b.table.boot (id_of name)) b.table.jobs job sound.claims there

-- ---- all that comes

parts : (a b : Bool) → (a || b) ≡ false → (a ≡ false) × (b ≡ false)
parts false b is = (refl, is)
parts true b is = absurd (cc)

joined : (name : JobName) (len first rest : ℕ) (job : Job) (b c : BookView) (i : IsThere name len first job b) → IsThere name len rest i.after c
    → IsThere name len (first + rest) job c
joined name len first rest job b c i j = record {
  after = j.after;
  there = j.there;
  goes = record {
    is_sized = j.goes.is_sized;
    claims = j.goes.claims;
    as_far = j.goes.as_far ∙ i.goes.as_far;
    left = let a = i.goes.left in let d = j.goes.left in omega (arith, a, d);
  };
}

pub all_deeds : (name : JobName) (len : ℕ) (deeds : List Deed) (job : Job) (b c : BookView) → size_of job.log.entries ≡ Some len → ClaimsAreNew job.log
    → named b.table name ≡ Some job → list_any (ends name) deeds ≡ false → Comes deeds b c → IsThere name len (landings_in name deeds) job c
unfolding Comes
all_deeds name len [] job b c size new there spares come =
    record { after = job; there = ap (λ (d : BookView). named d.table name) come ∙ there; goes = record { is_sized = size; claims = new; as_far = refl; left = omega arith } }
all_deeds name len (deed ∷ deeds) job b c size new there spares come =
    let each = parts (ends name deed) (list_any (ends name) deeds) spares in
    let first = one_deed name len job deed b come.0 size new there each.0 come.1 in
    let rest = all_deeds name len deeds first.after come.0 c first.goes.is_sized first.goes.claims first.there each.1 come.2 in
    subst (λ (n : ℕ). IsThere name len n job c) (sym (sum_by-cons (landing_in name) deed deeds))
    (joined name len (landing_in name deed) (landings_in name deeds) job come.0 c first rest)

there_at : (name : JobName) (len : ℕ) (deeds : List Deed) (b c : BookView) (found : Option Job) → GoesOn name len deeds b c → named b.table name ≡ found
    → (job : Job) × (found ≡ Some job) × IsThere name len (landings_in name deeds) job c × (size_of job.log.entries ≡ Some len)
there_at name len deeds b c None g is =
    let none : size_in (named b.table name) ≡ None = ap size_in is in
    let some = g.is_sized in
    absurd (cc)
there_at name len deeds b c (Some job) g is =
    let sized : size_of job.log.entries ≡ Some len = sym (ap size_in is) ∙ g.is_sized in
    (job, refl, all_deeds name len deeds job b c sized (claims_new b name job g.sound is) is g.spared g.come, sized)

left_sized : (job : Job) (len : ℕ) → size_of job.log.entries ≡ Some len → chunks_left (Some job) ≡ left_of job.log.entries (chunks_of len)
left_sized job len is = ap (λ (n : Option ℕ). left_of job.log.entries (chunks_of (total_of n))) is

pub goes_left : (name : JobName) (len : ℕ) (deeds : List Deed) (b c : BookView) → GoesOn name len deeds b c
    → chunks_left (named c.table name) + landings_in name deeds ≡ chunks_left (named b.table name)
goes_left name len deeds b c g =
    let t = there_at name len deeds b c (named b.table name) g refl in
    let before : chunks_left (named b.table name) ≡ left_of t.0.log.entries (chunks_of len) = ap chunks_left t.1 ∙ left_sized t.0 len t.3 in
    let after : chunks_left (named c.table name) ≡ left_of t.2.after.log.entries (chunks_of len) = ap chunks_left t.2.there ∙ left_sized t.2.after len t.2.goes.is_sized in
    let less = t.2.goes.left in
    omega (arith, before, after, less)

pub goes_sized : (name : JobName) (len : ℕ) (deeds : List Deed) (b c : BookView) → GoesOn name len deeds b c → size_in (named c.table name) ≡ Some len
goes_sized name len deeds b c g =
    let t = there_at name len deeds b c (named b.table name) g refl in
    ap size_in t.2.there ∙ t.2.goes.is_sized

pub goes_running : (name : JobName) (len : ℕ) (deeds : List Deed) (b c : BookView) → GoesOn name len deeds b c
    → is_running c.table (id_of name) ≡ is_running b.table (id_of name)
goes_running name len deeds b c g =
    let t = there_at name len deeds b c (named b.table name) g refl in
    ap (λ (o : Option Job). passes is_live o) t.2.there
    ∙ ap (λ (e : Bool). not e) t.2.goes.as_far
    ∙ sym (ap (λ (o : Option Job). passes is_live o) t.1)

-- ---- none is left

whole_at : (len : ℕ) (found : Option Job) → size_in found ≡ Some len → chunks_left found ≡ 0 → is_whole found ≡ true
whole_at len None sized none = absurd (cc)
whole_at len (Some job) sized none = is_whole_then job.log.entries len sized (sym (left_sized job len sized) ∙ none)

pub goes_whole : (name : JobName) (len : ℕ) (deeds : List Deed) (b c : BookView) → GoesOn name len deeds b c
    → landings_in name deeds ≡ chunks_left (named b.table name) → is_whole (named c.table name) ≡ true
goes_whole name len deeds b c g all =
    let left = goes_left name len deeds b c g in
    whole_at len (named c.table name) (goes_sized name len deeds b c g) (omega (arith, left, all))

-- ---- its task

commit_next : (may : Bool) (name : JobName) (chunk : Option Chunk) (whole : Bool) → chunk ≡ None → whole ≡ true
    → or_else (read_when may name chunk) (when whole (tasks.Commit name)) ≡ Some (tasks.Commit name)
commit_next true name None true none is = refl
commit_next false name None true none is = refl
commit_next may name None false none is = absurd (cc)
commit_next may name (Some chunk) whole none is = absurd (cc)

when_goes : (goes : Bool) (s : Sight) (name : JobName) (job : Option Job) → goes ≡ true → task_if goes s name job ≡ task_if true s name job
when_goes true s name job is = refl
when_goes false s name job is = absurd (cc)

on : (running gone : Bool) → running ≡ true → gone ≡ false → (running && not gone) ≡ true
on true false is stays = refl
on true true is stays = absurd (cc)
on false gone is stays = absurd (cc)

has_size : (es : List Entry) (size : Option ℕ) → is_whole_by es size ≡ true → is_some size ≡ true
has_size es None whole = absurd (cc)
has_size es (Some len) whole = refl

whole_task : (s : Sight) (name : JobName) (job : Option Job) → is_whole job ≡ true
    → task_if true s name job ≡ or_else (asking_task s true name) (Some (tasks.Commit name))
whole_task s name None whole = absurd (cc)
whole_task s name (Some job) whole =
    let sized : is_some (size_of job.log.entries) ≡ true = has_size job.log.entries (size_of job.log.entries) whole in
    ap (λ (b : Bool). or_else (asking_task s b name) (landing_task (may_call s && b) name (Some job))) sized
    ∙ ap (λ (t : Option Task). or_else (asking_task s true name) t)
    (commit_next (may_call s && true) name (next_chunk (Some job)) (is_whole (Some job)) (whole_has_none job.log whole) whole)

pub commit_due : (see : JobName → Sight) (b : BookView) (name : JobName) → is_running b.table (id_of name) ≡ true → is_whole (named b.table name) ≡ true
    → (see name).gone ≡ false → job_task see name b ≡ or_else (asking_task (see name) true name) (Some (tasks.Commit name))
commit_due see b name running whole stays =
    when_goes (goes_on (is_running b.table (id_of name)) (see name)) (see name) name (named b.table name)
    (on (is_running b.table (id_of name)) (see name).gone running stays)
    ∙ whole_task (see name) name (named b.table name) whole

-- ---- its length becomes known

size_before : (es : List Entry) (i total : ℕ) → size_of (take i es) ≡ Some total → size_of es ≡ Some total
size_before [] zero total is = is
size_before [] (suc i) total is = is
size_before (e ∷ es) zero total is = absurd (cc)
size_before (Sized len ∷ es) (suc i) total is = is
size_before (Landed off len ∷ es) (suc i) total is = size_before es i total is
size_before (Stopped ∷ es) (suc i) total is = size_before es i total is
size_before (Committed ∷ es) (suc i) total is = size_before es i total is
size_before (Reported ∷ es) (suc i) total is = size_before es i total is

none_landed : (es : List Entry) (at : ℕ) → ((i off len : ℕ) → slice_get es i ≡ Some (Landed off len) → ⊥) → has_landed es at ≡ false
none_landed [] at never = refl
none_landed (Sized len ∷ es) at never = none_landed es at (λ i off n is. never (suc i) off n is)
none_landed (Landed off len ∷ es) at never = absurd (never zero off len refl)
none_landed (Stopped ∷ es) at never = none_landed es at (λ i off n is. never (suc i) off n is)
none_landed (Committed ∷ es) at never = none_landed es at (λ i off n is. never (suc i) off n is)
none_landed (Reported ∷ es) at never = none_landed es at (λ i off n is. never (suc i) off n is)

unsized_none : (consecutive : Bool) (es : List Entry) (at : ℕ) → IsLawful consecutive es → size_of es ≡ None → has_landed es at ≡ false
unsized_none consecutive es at lawful unsized = none_landed es at
    (λ i off len is.
    let allowed = (lawful i (Landed off len) is).0 in
    let sized : size_of es ≡ Some allowed.total = size_before es i allowed.total allowed.is_sized in
    absurd (cc))

sized_first : (es : List Entry) (len : ℕ) → size_of es ≡ None → size_of (es ++ Sized len ∷ []) ≡ Some len
sized_first [] len is = refl
sized_first (Sized to ∷ es) len is = absurd (cc)
sized_first (Landed off n ∷ es) len is = sized_first es len is
sized_first (Stopped ∷ es) len is = sized_first es len is
sized_first (Committed ∷ es) len is = sized_first es len is
sized_first (Reported ∷ es) len is = sized_first es len is

all_left : (es : List Entry) (n : ℕ) → ((at : ℕ) → has_landed es at ≡ false) → left_of es n ≡ n
unfolding left_of
all_left es zero none = refl
all_left es (suc n) none =
    let before = all_left es n none in
    let here : one_unless (has_landed es (n * chunk_size)) ≡ 1 = ap one_unless (none (n * chunk_size)) in
    omega (arith, before, here)

none_yet : (es : List Entry) (at len : ℕ) → has_landed es at ≡ false → has_landed (es ++ Sized len ∷ []) at ≡ false
none_yet es at len none = list_any-append (is_landing at) es (Sized len ∷ []) ∙ ap (λ (b : Bool). b || false) none

sized_at : (spare len : ℕ) (found : Option Job) → IfSome found (λ job. IsLawful job.plan.consecutive job.log.entries) → IsSome found → size_in found ≡ None
    → chunks_left (option_map (relogged (λ log. sized (record log { spare = spare }) len)) found) ≡ chunks_of len
sized_at spare len None lawful there unsized = absurd (cc)
sized_at spare len (Some job) lawful there unsized =
    ap (λ (n : Option ℕ). left_of (job.log.entries ++ Sized len ∷ []) (chunks_of (total_of n))) (sized_first job.log.entries len unsized)
    ∙ all_left (job.log.entries ++ Sized len ∷ []) (chunks_of len)
    (λ at. none_yet job.log.entries at len (unsized_none job.plan.consecutive job.log.entries at lawful unsized))

lawful_found : (test : Job → Bool) (jobs : List Job) (found : Option Job) → All (λ job. IsLawful job.plan.consecutive job.log.entries) jobs → find test jobs ≡ found
    → IfSome found (λ job. IsLawful job.plan.consecutive job.log.entries)
lawful_found test jobs None all is = tt
lawful_found test jobs (Some job) all is = found_has (λ j. IsLawful j.plan.consecutive j.log.entries) test jobs job all is

pub all_are_left : (name : JobName) (spare len : ℕ) (b c : BookView) → IsSound b.table → IsSome (named b.table name) → Does (Sizes spare len name) b c
    → chunks_left (named c.table name) ≡ chunks_of len
all_are_left name spare len b c sound there done =
    ap (λ (d : BookView). chunks_left (named d.table name)) done.1
    ∙ ap chunks_left (its_own b name (λ log. sized (record log { spare = spare }) len))
    ∙ sized_at spare len (named b.table name)
    (lawful_found (is_job b.table.boot (id_of name)) b.table.jobs (named b.table name) sound.lawful refl) there done.0

-- ---- its commit

or_true : (b : Bool) → (b || true) ≡ true
or_true true = refl
or_true false = refl

committed_at : (found : Option Job) → IsSome found → IfSome (option_map (relogged (λ log. with_entry log Committed)) found) (λ job. is_committed job.log.entries ≡ true)
committed_at None there = tt
committed_at (Some job) there = list_any-append is_commit job.log.entries (Committed ∷ []) ∙ or_true (is_committed job.log.entries)

pub commits_end : (name : JobName) (b c : BookView) → IsSome (named b.table name) → Does (Commits name) b c → IfSome (named c.table name) (λ job. is_committed job.log.entries ≡ true)
commits_end name b c there done =
    subst (λ (d : BookView). IfSome (named d.table name) (λ job. is_committed job.log.entries ≡ true)) (sym done)
    (subst (λ (o : Option Job). IfSome o (λ job. is_committed job.log.entries ≡ true)) (sym (its_own b name (λ log. with_entry log Committed)))
    (committed_at (named b.table name) there))
