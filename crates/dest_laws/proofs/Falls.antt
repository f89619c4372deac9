-- Nothing that is done to a book raises how many chunks of a sized job are left.
use Rattle.std.proofs.Common.{◌≡◌, ℕ, zero, suc, ◌+◌, ◌*◌, ◌≤◌, Bool, true, false, List, [], ◌∷◌, ◌++◌, refl, sym, ap, subst, ◌∙◌, arith}
use Rattle.std.proofs.lemmas.Bool.{eqb-true, ne_eqb}
use Rattle.std.proofs.lemmas.List.Elements.{All-head, All-tail}
use Rattle.std.proofs.lemmas.List.Folds.{list_any-append}
use Rattle.std.specs.Prelude.{◌==◌, ◌&&◌, ◌||◌, if◌then◌else◌, All, Option, Some, None, find, option_map}
use Rattle.std.specs.List.{list_any}
use Rattle.copy_model.specs.Job.{Committed, Entry, Landed, Reported, Sized, Stopped, chunk_size, chunks_of, has_landed, is_landing, size_of}
use Rattle.job_log.specs.Log.{JobView, after_landing, given_back, is_claimed, sized, total_of, with_claim, with_entry}
use Rattle.job_log.specs.declared.chunk.Chunk.{Chunk}
use Rattle.job_log.specs.declared.chunk.Landing.TheVariants as landings
use Rattle.job_table.specs.Table.{is_job, new_job}
use Rattle.job_table.specs.declared.job.Job.{Job}
use Rattle.job_table.specs.declared.job.Plan.{Plan}
use Rattle.job_book.specs.Book.{BookView, IsSound, accept_answer, after_accept, id_of, named, retired}
use Rattle.job_book.specs.Working.{claimed, next_chunk, size_in, stopped, with_its}
use Rattle.job_book.specs.declared.acceptance.Acceptance.{Acceptance}
use Rattle.job_book.specs.declared.acceptance.Acceptance.TheVariants as answers
use Rattle.nfs_base.specs.declared.job.JobName.{JobName}
use Rattle.dest_tasks.specs.Completing.{Accepts, Claims, Comes, Commits, Deed, Does, GivesBack, Lands, Retires, Sizes, Stops, chunks_left, left_of, one_unless}
use Rattle.dest_tasks.specs.NamedLaws.{find_behind, find_changed, find_other, find_without, none_left, same_name, two_names}
use Rattle.dest_tasks.specs.Posts.{is_same}
use Rattle.dest_laws.specs.Deeds.{ByDeeds}

-- ---- one more entry

fewer : (a b : Bool) → one_unless (a || b) ≤ one_unless a
fewer true b = omega arith
fewer false true = omega arith
fewer false false = omega arith

left_more : (es : List Entry) (e : Entry) (n : ℕ) → left_of (es ++ e ∷ []) n ≤ left_of es n
unfolding left_of
left_more es e zero = omega arith
left_more es e (suc n) =
    let before = left_more es e n in
    let at = n * chunk_size in
    let here : one_unless (has_landed (es ++ e ∷ []) at) ≤ one_unless (has_landed es at) =
    subst (λ (b : Bool). one_unless b ≤ one_unless (has_landed es at)) (sym (list_any-append (is_landing at) es (e ∷ []))) (fewer (has_landed es at) (list_any (is_landing at) (e ∷ []))) in
    omega (arith, before, here)

size_kept : (es : List Entry) (e : Entry) (len : ℕ) → size_of es ≡ Some len → size_of (es ++ e ∷ []) ≡ Some len
size_kept [] e len is = absurd (cc)
size_kept (Sized to ∷ es) e len is = is
size_kept (Landed off n ∷ es) e len is = size_kept es e len is
size_kept (Stopped ∷ es) e len is = size_kept es e len is
size_kept (Committed ∷ es) e len is = size_kept es e len is
size_kept (Reported ∷ es) e len is = size_kept es e len is

abbrev Holds : (len most : ℕ) → List Entry → Type 0
Holds len most es = (size_of es ≡ Some len) × (left_of es (chunks_of len) ≤ most)

abbrev HoldsOf : (len most : ℕ) → Option Job → Type 0
HoldsOf len most None = Unit {0}
HoldsOf len most (Some job) = Holds len most job.log.entries

more_holds : (len most : ℕ) (es : List Entry) (e : Entry) → Holds len most es → Holds len most (es ++ e ∷ [])
more_holds len most es e h =
    let less = left_more es e (chunks_of len) in
    let was = h.1 in
    (size_kept es e len h.0, omega (arith, less, was))

-- ---- both of two

both_so : (a b : Bool) → (a && b) ≡ true → (a ≡ true) × (b ≡ true)
both_so true b is = (refl, is)
both_so false b is = absurd (cc)

-- ---- the job of a name

abbrev pub relogged : (JobView → JobView) → Job → Job
relogged f job = record job { log = f job.log }

own_holds : (len most : ℕ) (f : JobView → JobView) (o : Option Job)
    → ((job : Job) → o ≡ Some job → Holds len most job.log.entries → Holds len most (f job.log).entries) → HoldsOf len most o
    → HoldsOf len most (option_map (relogged f) o)
own_holds len most f None keeps h = tt
own_holds len most f (Some job) keeps h = keeps job refl h

its_holds : (len most : ℕ) (name other : JobName) (f : JobView → JobView) (b : BookView) (same : Bool) → is_same other name ≡ same
    → ((job : Job) → named b.table other ≡ Some job → Holds len most job.log.entries → Holds len most (f job.log).entries)
    → HoldsOf len most (named b.table name) → HoldsOf len most (named (with_its other f b).table name)
its_holds len most name other f b true is keeps h =
    let this : other ≡ name = same_name other name is in
    let own = find_changed (is_job b.table.boot (id_of name)) (relogged f) b.table.jobs (λ x. refl) in
    subst (λ (n : JobName). HoldsOf len most (named (with_its n f b).table name)) (sym this)
    (subst (λ (o : Option Job). HoldsOf len most o) (sym own)
    (own_holds len most f (named b.table name) (λ job there. keeps job (subst (λ (n : JobName). named b.table n ≡ Some job) (sym this) there)) h))
its_holds len most name other f b false is keeps h =
    let still = find_other (is_job b.table.boot (id_of other)) (is_job b.table.boot (id_of name)) (relogged f) b.table.jobs (λ x. refl)
    (λ x first second. two_names b.table.boot other name x is first second) in
    subst (λ (o : Option Job). HoldsOf len most o) (sym still) h

both_false : (a b : Bool) → b ≡ false → (a && b) ≡ false
both_false true b is = is
both_false false b is = refl

-- it holds of the job, and its number was given out before
record At (len most : ℕ) (name : JobName) (b : BookView) : Type 0 where
  holds : HoldsOf len most (named b.table name)
  given : name.number ≤ b.table.made

its_at : (len most : ℕ) (name other : JobName) (f : JobView → JobView) (b : BookView)
    → ((job : Job) → named b.table other ≡ Some job → Holds len most job.log.entries → Holds len most (f job.log).entries)
    → At len most name b → At len most name (with_its other f b)
its_at len most name other f b keeps a =
    record { holds = its_holds len most name other f b (is_same other name) refl keeps a.holds; given = a.given }

claim_at : (len most : ℕ) (name other : JobName) (chunk : Option Chunk) (b : BookView) → At len most name b → At len most name (claimed chunk other b)
claim_at len most name other None b a = a
claim_at len most name other (Some chunk) b a = its_at len most name other (λ log. with_claim log chunk true) b (λ job there h. h) a

back_entries : (v : JobView) (chunk : Chunk) (b : Bool) → (if b then with_claim v chunk false else v).entries ≡ v.entries
back_entries v chunk true = refl
back_entries v chunk false = refl

not_sized : (len most : ℕ) (name other : JobName) (b : BookView) (job : Job) {P : Type 0} → size_in (named b.table other) ≡ None
    → named b.table other ≡ Some job → Holds len most job.log.entries → P
not_sized len most name other b job none there h =
    let has : size_in (named b.table other) ≡ Some len = ap size_in there ∙ h.0 in
    absurd (cc)

accept_at : (len most : ℕ) (name : JobName) (plan : Plan) (b : BookView) (answer : Acceptance) → At len most name b → At len most name (after_accept answer plan b)
accept_at len most name plan b (answers.Accepted at) a =
    let le = a.given in
    let other : is_job b.table.boot (id_of name) (new_job (b.table.made + 1) plan) ≡ false =
    both_false (name.boot == b.table.boot) (name.number == b.table.made + 1) (ne_eqb name.number (b.table.made + 1) (λ same. omega (arith, le, same))) in
    record {
      holds = subst (λ (o : Option Job). HoldsOf len most o) (sym (find_behind (is_job b.table.boot (id_of name)) b.table.jobs (new_job (b.table.made + 1) plan) other)) a.holds;
      given = omega (arith, le);
    }
accept_at len most name plan b (answers.Overlap at) a = a
accept_at len most name plan b answers.Full a = a
accept_at len most name plan b answers.TooFar a = a

retire_holds : (len most : ℕ) (name other : JobName) (b : BookView) (same : Bool) → is_same other name ≡ same → HoldsOf len most (named b.table name)
    → HoldsOf len most (named (retired other b).table name)
retire_holds len most name other b true is h =
    let this : other ≡ name = same_name other name is in
    subst (λ (n : JobName). HoldsOf len most (named (retired n b).table name)) (sym this)
    (subst (λ (o : Option Job). HoldsOf len most o) (sym (none_left (is_job b.table.boot (id_of name)) b.table.jobs)) tt)
retire_holds len most name other b false is h =
    let still = find_without (is_job b.table.boot (id_of other)) (is_job b.table.boot (id_of name)) b.table.jobs (λ x first second. two_names b.table.boot other name x is first second) in
    subst (λ (o : Option Job). HoldsOf len most o) (sym still) h

deed_at : (len most : ℕ) (name : JobName) (deed : Deed) (b c : BookView) → Does deed b c → At len most name b → At len most name c
deed_at len most name (Accepts plan) b c done a =
    subst (λ (d : BookView). At len most name d) (sym done) (accept_at len most name plan b (accept_answer b.table plan) a)
deed_at len most name (Sizes spare to other) b c done a =
    subst (λ (d : BookView). At len most name d) (sym done.1)
    (its_at len most name other (λ log. sized (record log { spare = spare }) to) b (λ job there h. not_sized len most name other b job done.0 there h) a)
deed_at len most name (Claims other) b c done a =
    subst (λ (d : BookView). At len most name d) (sym done) (claim_at len most name other (next_chunk (named b.table other)) b a)
deed_at len most name (GivesBack other chunk) b c done a =
    subst (λ (d : BookView). At len most name d) (sym done)
    (its_at len most name other (λ log. given_back log chunk) b
    (λ job there h. subst (λ (es : List Entry). Holds len most es) (sym (back_entries job.log chunk (is_claimed job.log chunk))) h) a)
deed_at len most name (Lands other chunk) b c done a =
    subst (λ (d : BookView). At len most name d) (sym done.1)
    (its_at len most name other (λ log. after_landing log chunk landings.Landed) b (λ job there h. more_holds len most job.log.entries (Landed chunk.off chunk.len) h) a)
deed_at len most name (Stops cause other) b c done a =
    subst (λ (d : BookView). At len most name d) (sym done)
    (its_at len most name other (λ log. stopped cause log) b (λ job there h. more_holds len most job.log.entries Stopped h) a)
deed_at len most name (Commits other) b c done a =
    subst (λ (d : BookView). At len most name d) (sym done)
    (its_at len most name other (λ log. with_entry log Committed) b (λ job there h. more_holds len most job.log.entries Committed h) a)
deed_at len most name (Retires other) b c done a =
    subst (λ (d : BookView). At len most name d) (sym done)
    (record { holds = retire_holds len most name other b (is_same other name) refl a.holds; given = a.given })

deeds_at : (len most : ℕ) (name : JobName) (deeds : List Deed) (b c : BookView) → Comes deeds b c → At len most name b → At len most name c
unfolding Comes
deeds_at len most name [] b c come a = subst (λ (d : BookView). At len most name d) (sym come) a
deeds_at len most name (deed ∷ deeds) b c come a = deeds_at len most name deeds come.0 c come.2 (deed_at len most name deed b come.0 come.1 a)

-- ---- all of it

left_is : (job : Job) (len : ℕ) → size_of job.log.entries ≡ Some len → chunks_left (Some job) ≡ left_of job.log.entries (chunks_of len)
left_is job len is = ap (λ (n : Option ℕ). left_of job.log.entries (chunks_of (total_of n))) is

left_within : (len most : ℕ) (o : Option Job) → HoldsOf len most o → chunks_left o ≤ most
left_within len most None h = omega arith
left_within len most (Some job) h = let is = left_is job len h.0 in let le = h.1 in omega (arith, is, le)

found_if : (P : Job → Type 0) (x job : Job) (more : Option Job) (b : Bool) → (if b then Some x else more) ≡ Some job → P x → (more ≡ Some job → P job) → P job
found_if P x job more true is here rest = let same : x ≡ job = cc in subst P same here
found_if P x job more false is here rest = rest is

found_has : (P : Job → Type 0) (test : Job → Bool) (jobs : List Job) (job : Job) → All P jobs → find test jobs ≡ Some job → P job
found_has P test [] job all is = absurd (cc)
found_has P test (x ∷ xs) job all is =
    found_if P x job (find test xs) (test x) is (All-head P x xs all) (λ found. found_has P test xs job (All-tail P x xs all) found)

passes_if : (test : Job → Bool) (x job : Job) (more : Option Job) (b : Bool) → test x ≡ b → (if b then Some x else more) ≡ Some job → (more ≡ Some job → test job ≡ true) → test job ≡ true
passes_if test x job more true here is rest = let same : x ≡ job = cc in subst (λ (j : Job). test j ≡ true) same here
passes_if test x job more false here is rest = rest is

found_passes : (test : Job → Bool) (jobs : List Job) (job : Job) → find test jobs ≡ Some job → test job ≡ true
found_passes test [] job is = absurd (cc)
found_passes test (x ∷ xs) job is = passes_if test x job (find test xs) (test x) refl is (λ found. found_passes test xs job found)

begins : (name : JobName) (len : ℕ) (b : BookView) (found : Option Job) → IsSound b.table → named b.table name ≡ found → size_in found ≡ Some len
    → At len (chunks_left found) name b
begins name len b None sound there is = absurd (cc)
begins name len b (Some job) sound there is =
    let left = left_is job len is in
    let passes = both_so (name.boot == b.table.boot) (name.number == job.number) (found_passes (is_job b.table.boot (id_of name)) b.table.jobs job there) in
    let number : name.number ≡ job.number = eqb-true name.number job.number passes.1 in
    let known = found_has (λ j. j.number ≤ b.table.made) (is_job b.table.boot (id_of name)) b.table.jobs job (λ i d inside. (sound.given i d inside).1) there in
    record {
      holds = subst (λ (o : Option Job). HoldsOf len (chunks_left (Some job)) o) (sym there) (is, omega (arith, left));
      given = omega (arith, number, known);
    }

pub left_falls : (name : JobName) (len : ℕ) (b c : BookView) → IsSound b.table → size_in (named b.table name) ≡ Some len → ByDeeds b c
    → chunks_left (named c.table name) ≤ chunks_left (named b.table name)
left_falls name len b c sound is come =
    let most = chunks_left (named b.table name) in
    left_within len most (named c.table name) (deeds_at len most name come.0 b c come.1 (begins name len b (named b.table name) sound refl is)).holds
