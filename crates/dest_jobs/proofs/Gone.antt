-- Jobs are gone through by number: those end that are to, and all others stay as they are.
use Rattle.std.proofs.Common.{◌≡◌, ℕ, zero, suc, ◌+◌, ◌<◌, ◌≤◌, Bool, true, false, List, [], ◌∷◌, length, get_or, Option, Some, None, refl, ap, sym, subst, ◌∙◌, arith}
use Rattle.std.specs.Prelude.{◌==◌, ◌&&◌, not, nat_lt, find, filter, option_map, All, AllPairs, if◌then◌else◌}
use Rattle.std.proofs.lemmas.Bool.{eq-eqb, ne_eqb, lt-ltb, le-ltb, ltb-true, ltb-false}
use Rattle.std.proofs.lemmas.List.Elements.{All-head, All-tail}
use Rattle.std.proofs.lemmas.List.Kept.{AllPairs-filter}
use Rattle.job_table.specs.declared.job.Job.{Job}
use Rattle.job_table.specs.Table.{is_job, is_running, job_above}
use Rattle.job_book.specs.Book.{client_of, id_of, name_of}
use Rattle.nfs_base.specs.declared.job.JobName.{JobName}
use Rattle.nfs_base.specs.declared.job.Stop.{Stop}
use Rattle.nfs_base.specs.declared.limits.TheConstants.{MOST_JOBS}
use Rattle.dest_jobs.specs.Ending.{at_next, end_all, end_from, end_if, stop_told, takes}
use Rattle.dest_jobs.specs.declared.copies.Copies.{Copies}

abbrev Rises : List Job → Type 0
Rises jobs = AllPairs (λ (a b : Job). a.number < b.number) jobs

-- a job with a number above this one, and one of these that is to end
abbrev is_above : ℕ → Job → Bool
is_above after job = nat_lt after job.number

abbrev falls : (ℕ → Bool) → ℕ → Job → Bool
falls test after job = is_above after job && test job.plan.client

abbrev left_over : (ℕ → Bool) → ℕ → List Job → List Job
left_over test after jobs = filter (λ j. not (falls test after j)) jobs

abbrev count_above : ℕ → List Job → ℕ
count_above after jobs = length (filter (λ j. is_above after j) jobs)

abbrev without_if : Bool → (Job → Bool) → List Job → List Job
without_if ends p jobs = if ends then filter (λ j. not (p j)) jobs else jobs

abbrev by_name : (boot : ℕ) → Job → Job → Bool
by_name boot job = is_job boot (id_of (name_of boot job))

-- ---- lists

higher : (x : Job) (xs : List Job) → Rises (x ∷ xs) → All (λ y. x.number < y.number) xs
higher x xs rises i d lt = rises 0 (suc i) d (omega arith) (omega arith)

rest : (x : Job) (xs : List Job) → Rises (x ∷ xs) → Rises xs
rest x xs rises i j d lt inside = rises (suc i) (suc j) d (omega arith) (omega arith)

kept_step : (q : Job → Bool) (x : Job) (xs : List Job) → q x ≡ true → filter q xs ≡ xs → filter q (x ∷ xs) ≡ x ∷ xs
kept_step q x xs passes ih = rw passes (ap (λ (js : List Job). x ∷ js) ih)

-- all are kept where each passes
kept : (q : Job → Bool) (xs : List Job) → All (λ x. q x ≡ true) xs → filter q xs ≡ xs
kept q [] all = refl
kept q (x ∷ xs) all = kept_step q x xs (All-head (λ x. q x ≡ true) x xs all) (kept q xs (All-tail (λ x. q x ≡ true) x xs all))

alike_step : (q r : Job → Bool) (x : Job) (xs : List Job) (b : Bool) → q x ≡ b → r x ≡ b → filter q xs ≡ filter r xs → filter q (x ∷ xs) ≡ filter r (x ∷ xs)
alike_step q r x xs true a b ih = rw (a, b) (ap (λ (js : List Job). x ∷ js) ih)
alike_step q r x xs false a b ih = rw (a, b) ih

-- two tests that agree on each keep the same
alike : (q r : Job → Bool) (xs : List Job) → All (λ x. q x ≡ r x) xs → filter q xs ≡ filter r xs
alike q r [] all = refl
alike q r (x ∷ xs) all = alike_step q r x xs (r x) (All-head (λ x. q x ≡ r x) x xs all) refl (alike q r xs (All-tail (λ x. q x ≡ r x) x xs all))

few_step : (q : Job → Bool) (x : Job) (xs : List Job) (b : Bool) → q x ≡ b → length (filter q xs) ≤ length xs → length (filter q (x ∷ xs)) ≤ suc (length xs)
few_step q x xs true is ih = rw is (omega arith)
few_step q x xs false is ih = rw is (omega arith)

few : (q : Job → Bool) (xs : List Job) → length (filter q xs) ≤ length xs
few q [] = omega arith
few q (x ∷ xs) = few_step q x xs (q x) refl (few q xs)

-- ---- none is above

unmoved_step : (test : ℕ → Bool) (after : ℕ) (x : Job) (xs : List Job) (b : Bool) → is_above after x ≡ b → count_above after (x ∷ xs) ≤ 0
    → (count_above after xs ≤ 0 → xs ≡ left_over test after xs) → x ∷ xs ≡ left_over test after (x ∷ xs)
unmoved_step test after x xs true is none ih = let more : count_above after (x ∷ xs) ≡ suc (count_above after xs) = rw is refl in absurd (omega arith)
unmoved_step test after x xs false is none ih =
    let same : count_above after (x ∷ xs) ≡ count_above after xs = rw is refl in
    rw is (ap (λ (js : List Job). x ∷ js) (ih (omega arith)))

unmoved : (test : ℕ → Bool) (after : ℕ) (xs : List Job) → count_above after xs ≤ 0 → xs ≡ left_over test after xs
unmoved test after [] none = refl
unmoved test after (x ∷ xs) none = unmoved_step test after x xs (is_above after x) refl none (unmoved test after xs)

none_step : (after : ℕ) (x : Job) (xs : List Job) (b : Bool) → is_above after x ≡ b → (if b then Some x else find (λ j. is_above after j) xs) ≡ None
    → (find (λ j. is_above after j) xs ≡ None → count_above after xs ≡ 0) → count_above after (x ∷ xs) ≡ 0
none_step after x xs true is none ih = absurd (cc)
none_step after x xs false is none ih = rw is (ih none)

none_above : (after : ℕ) (xs : List Job) → find (λ j. is_above after j) xs ≡ None → count_above after xs ≡ 0
none_above after [] none = refl
none_above after (x ∷ xs) none = none_step after x xs (is_above after x) refl none (none_above after xs)

-- ---- the lowest above

-- it is found by its name, and what is left when it was looked at is what was to be left
record Step (boot : ℕ) (test : ℕ → Bool) (after : ℕ) (jobs : List Job) (job : Job) : Type 0 where
  above : after < job.number
  there : find (by_name boot job) jobs ≡ Some job
  left : left_over test job.number (without_if (test job.plan.client) (by_name boot job) jobs) ≡ left_over test after jobs
  fewer : count_above job.number (without_if (test job.plan.client) (by_name boot job) jobs) + 1 ≤ count_above after jobs

left_here : (test : ℕ → Bool) (after : ℕ) (p : Job → Bool) (y : Job) (ys : List Job) (t : Bool) → test y.plan.client ≡ t → is_above after y ≡ true
    → is_above y.number y ≡ false → p y ≡ true → filter (λ z. not (p z)) ys ≡ ys → left_over test y.number ys ≡ left_over test after ys
    → left_over test y.number (without_if t p (y ∷ ys)) ≡ left_over test after (y ∷ ys)
left_here test after p y ys true is above not_self passes all same = rw (passes, all, above, is) same
left_here test after p y ys false is above not_self passes all same = rw (not_self, above, is) (ap (λ (js : List Job). y ∷ js) same)

fewer_here : (after : ℕ) (p : Job → Bool) (y : Job) (ys : List Job) (t : Bool) → is_above after y ≡ true
    → is_above y.number y ≡ false → p y ≡ true → filter (λ z. not (p z)) ys ≡ ys → filter (λ z. is_above after z) ys ≡ ys
    → count_above y.number (without_if t p (y ∷ ys)) + 1 ≤ count_above after (y ∷ ys)
fewer_here after p y ys true above not_self passes all higher_all = let n = few (λ z. is_above y.number z) ys in rw (passes, all, above, higher_all) (omega arith)
fewer_here after p y ys false above not_self passes all higher_all = let n = few (λ z. is_above y.number z) ys in rw (not_self, above, higher_all) (omega arith)

and_true : (a b : Bool) → a ≡ true → (a && b) ≡ b
and_true true b e = refl
and_true false b e = absurd (cc)

self_named : (boot : ℕ) (y : Job) → by_name boot y y ≡ true
self_named boot y = and_true (boot == boot) (y.number == y.number) (eq-eqb boot boot refl) ∙ eq-eqb y.number y.number refl

not_second : (a b : Bool) → b ≡ false → (a && b) ≡ false
not_second true b e = e
not_second false b e = refl

other_named : (boot : ℕ) (x y : Job) → (x.number ≡ y.number → ⊥) → by_name boot x y ≡ false
other_named boot x y differs = not_second (boot == boot) (x.number == y.number) (ne_eqb x.number y.number differs)

here : (boot : ℕ) (test : ℕ → Bool) (after : ℕ) (y : Job) (ys : List Job) → is_above after y ≡ true → All (λ z. y.number < z.number) ys
    → Step boot test after (y ∷ ys) y
here boot test after y ys above up =
    let lt = ltb-true after y.number above in
    let not_self = le-ltb y.number y.number (omega arith) in
    let passes = self_named boot y in
    let all = kept (λ z. not (by_name boot y z)) ys (λ i d inside. let u = up i d inside in ap (λ (b : Bool). not b) (other_named boot y (get_or ys i d) (λ e. omega (arith, e, u)))) in
    let higher_all = kept (λ z. is_above after z) ys (λ i d inside. let u = up i d inside in lt-ltb after (get_or ys i d).number (omega arith)) in
    let same = alike (λ z. not (falls test y.number z)) (λ z. not (falls test after z)) ys
    (λ i d inside. let u = up i d inside in
    ap (λ (b : Bool). not (b && test (get_or ys i d).plan.client)) (lt-ltb y.number (get_or ys i d).number u ∙ sym (lt-ltb after (get_or ys i d).number (omega arith)))) in
    record {
      above = lt;
      there = rw passes refl;
      left = left_here test after (by_name boot y) y ys (test y.plan.client) refl above not_self passes all same;
      fewer = fewer_here after (by_name boot y) y ys (test y.plan.client) above not_self passes all higher_all;
    }

further_left : (test : ℕ → Bool) (after number : ℕ) (p : Job → Bool) (y : Job) (ys : List Job) (t : Bool) → is_above after y ≡ false → is_above number y ≡ false → p y ≡ false
    → left_over test number (without_if t p ys) ≡ left_over test after ys → left_over test number (without_if t p (y ∷ ys)) ≡ left_over test after (y ∷ ys)
further_left test after number p y ys true below under fails ih = rw (fails, under, below) (ap (λ (js : List Job). y ∷ js) ih)
further_left test after number p y ys false below under fails ih = rw (under, below) (ap (λ (js : List Job). y ∷ js) ih)

further_fewer : (after number : ℕ) (p : Job → Bool) (y : Job) (ys : List Job) (t : Bool) → is_above after y ≡ false → is_above number y ≡ false → p y ≡ false
    → count_above number (without_if t p ys) + 1 ≤ count_above after ys → count_above number (without_if t p (y ∷ ys)) + 1 ≤ count_above after (y ∷ ys)
further_fewer after number p y ys true below under fails ih = rw (fails, under, below) ih
further_fewer after number p y ys false below under fails ih = rw (under, below) ih

further : (boot : ℕ) (test : ℕ → Bool) (after : ℕ) (y : Job) (ys : List Job) (job : Job) → is_above after y ≡ false → Step boot test after ys job → Step boot test after (y ∷ ys) job
further boot test after y ys job below s =
    let le = ltb-false after y.number below in
    let lt = s.above in
    let fails = other_named boot job y (λ e. omega (arith, e)) in
    let under = le-ltb job.number y.number (omega arith) in
    record {
      above = lt;
      there = rw fails s.there;
      left = further_left test after job.number (by_name boot job) y ys (test job.plan.client) below under fails s.left;
      fewer = further_fewer after job.number (by_name boot job) y ys (test job.plan.client) below under fails s.fewer;
    }

step_at : (boot : ℕ) (test : ℕ → Bool) (after : ℕ) (y : Job) (ys : List Job) (job : Job) (b : Bool) → is_above after y ≡ b
    → (if b then Some y else find (λ j. is_above after j) ys) ≡ Some job → Rises (y ∷ ys)
    → (find (λ j. is_above after j) ys ≡ Some job → Step boot test after ys job) → Step boot test after (y ∷ ys) job
step_at boot test after y ys job true is found rises ih =
    let same : y ≡ job = cc in
    subst (λ (j : Job). Step boot test after (y ∷ ys) j) same (here boot test after y ys is (higher y ys rises))
step_at boot test after y ys job false is found rises ih = further boot test after y ys job is (ih found)

step : (boot : ℕ) (test : ℕ → Bool) (after : ℕ) (xs : List Job) (job : Job) → find (λ j. is_above after j) xs ≡ Some job → Rises xs → Step boot test after xs job
step boot test after [] job found rises = absurd (cc)
step boot test after (y ∷ ys) job found rises =
    step_at boot test after y ys job (is_above after y) refl found rises (λ h. step boot test after ys job h (rest y ys rises))

-- ---- one after the other

still : (running : Bool) (cause : Stop) (name : JobName) (x : Copies) → (stop_told running cause name x).book ≡ x.book
still true cause name x = refl
still false cause name x = refl

ended_jobs : (ends : Bool) (cause : Stop) (job : Job) (x : Copies)
    → (end_if ends cause (name_of x.book.table.boot job) x).book.table.jobs ≡ without_if ends (by_name x.book.table.boot job) x.book.table.jobs
ended_jobs true cause job x =
    let name = name_of x.book.table.boot job in
    ap (λ b. filter (λ j. not (is_job b.table.boot (id_of name) j)) b.table.jobs) (still (is_running x.book.table (id_of name)) cause name x)
ended_jobs false cause job x = refl

rises_still : (ends : Bool) (p : Job → Bool) (jobs : List Job) → Rises jobs → Rises (without_if ends p jobs)
rises_still true p jobs rises = AllPairs-filter (λ (a b : Job). a.number < b.number) (λ j. not (p j)) jobs rises
rises_still false p jobs rises = rises

abbrev Leaves : (ℕ → Bool) → Stop → (left : ℕ) → Type 0
Leaves test cause left = (after : ℕ) (x : Copies) → Rises x.book.table.jobs → count_above after x.book.table.jobs ≤ left
    → (end_from test cause left after x).book.table.jobs ≡ left_over test after x.book.table.jobs

at_lowest : (test : ℕ → Bool) (cause : Stop) (left after : ℕ) (x : Copies) (o : Option Job) → Leaves test cause left → job_above x.book.table after ≡ o
    → Rises x.book.table.jobs → count_above after x.book.table.jobs ≤ suc left
    → (at_next (option_map (λ job. name_of x.book.table.boot job) o)
    (λ name y. end_from test cause left name.number (end_if (takes test (client_of y.book.table name)) cause name y)) x).book.table.jobs
    ≡ left_over test after x.book.table.jobs
at_lowest test cause left after x None ih is rises small =
    let none = none_above after x.book.table.jobs is in
    unmoved test after x.book.table.jobs (omega arith)
at_lowest test cause left after x (Some job) ih is rises small =
    let boot = x.book.table.boot in
    let jobs = x.book.table.jobs in
    let s = step boot test after jobs job is rises in
    let name = name_of boot job in
    let p = by_name boot job in
    let ends : takes test (client_of x.book.table name) ≡ test job.plan.client = ap (λ (o : Option Job). takes test (option_map (λ j. j.plan.client) o)) s.there in
    let y = end_if (test job.plan.client) cause name x in
    let now : y.book.table.jobs ≡ without_if (test job.plan.client) p jobs = ended_jobs (test job.plan.client) cause job x in
    let up : Rises y.book.table.jobs = subst Rises (sym now) (rises_still (test job.plan.client) p jobs rises) in
    let fewer = s.fewer in
    let less : count_above job.number y.book.table.jobs ≤ left = subst (λ (js : List Job). count_above job.number js ≤ left) (sym now) (omega arith) in
    ap (λ (e : Bool). (end_from test cause left job.number (end_if e cause name x)).book.table.jobs) ends
    ∙ ih job.number y up less
    ∙ ap (λ (js : List Job). left_over test job.number js) now
    ∙ s.left

pub leaves_others : (test : ℕ → Bool) (cause : Stop) (left : ℕ) → Leaves test cause left
unfolding end_from
leaves_others test cause zero after x rises small = unmoved test after x.book.table.jobs small
leaves_others test cause (suc left) after x rises small =
    at_lowest test cause left after x (job_above x.book.table after) (leaves_others test cause left) refl rises small

-- all of them end, and no other
pub all_ended : (test : ℕ → Bool) (cause : Stop) (x : Copies) → length x.book.table.jobs ≤ MOST_JOBS → Rises x.book.table.jobs
    → All (λ job. (0 < job.number) × (job.number ≤ x.book.table.made)) x.book.table.jobs
    → (end_all test cause x).book.table.jobs ≡ filter (λ job. not (test job.plan.client)) x.book.table.jobs
all_ended test cause x short rises given =
    let jobs = x.book.table.jobs in
    let n = few (λ j. is_above 0 j) jobs in
    leaves_others test cause MOST_JOBS 0 x rises (omega arith)
    ∙ alike (λ j. not (falls test 0 j)) (λ j. not (test j.plan.client)) jobs
    (λ i d inside. let g = given i d inside in ap (λ (b : Bool). not b) (and_true (is_above 0 (get_or jobs i d)) (test (get_or jobs i d).plan.client) (lt-ltb 0 (get_or jobs i d).number g.0)))
