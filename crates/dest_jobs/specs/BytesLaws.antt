-- What becomes of the bytes of all jobs where one gets another log, where one's place ends, and where one is new.
use Rattle.std.proofs.Common.{◌≡◌, ℕ, suc, ◌+◌, ◌<◌, Bool, true, false, List, [], ◌∷◌, ◌++◌, get_or, Some, refl, ap, sym, ◌∙◌, arith}
use Rattle.std.specs.Prelude.{◌==◌, ◌&&◌, ◌||◌, not, find, filter, sum_by, All, AllPairs, IsSome, if◌then◌else◌}
use Rattle.std.proofs.lemmas.Bool.{eqb-false, eqb-true, ne_eqb}
use Rattle.std.proofs.lemmas.List.Elements.{All-head, All-tail}
use Rattle.std.proofs.lemmas.List.Sums.{sum_by-cons, sum_by_push}
use Rattle.copy_model.specs.Job.{Entry, bytes_landed, landed_bytes}
use Rattle.job_book.specs.Book.{BookView, book_bytes, id_of, landed_at, named, retired}
use Rattle.job_book.specs.Working.{with_its}
use Rattle.job_log.specs.Log.{JobView}
use Rattle.job_table.specs.Table.{changed, is_job, new_job, with_job}
use Rattle.job_table.specs.declared.job.Job.{Job}
use Rattle.job_table.specs.declared.job.Plan.{Plan}
use Rattle.nfs_base.specs.declared.job.JobName.{JobName}
use Rattle.dest_jobs.specs.Counting.{bytes_of, none_seen, unseen_bytes, with_seen}

-- ---- what was seen

abbrev Alike : (ℕ → Bool) → (ℕ → Bool) → Type 0
Alike seen other = (n : ℕ) → seen n ≡ other n

more_alike : (number : ℕ) (seen other : ℕ → Bool) → Alike seen other → Alike (with_seen number seen) (with_seen number other)
more_alike number seen other alike n = ap (λ (b : Bool). (number == n) || b) (alike n)

same_bytes : (seen other : ℕ → Bool) (jobs : List Job) → Alike seen other → unseen_bytes seen jobs ≡ unseen_bytes other jobs
same_bytes seen other [] alike = refl
same_bytes seen other (x ∷ xs) alike =
    ap (λ (b : Bool). (if b then 0 else landed_bytes x.log.entries) + unseen_bytes (with_seen x.number seen) xs) (alike x.number)
    ∙ ap (λ (n : ℕ). (if other x.number then 0 else landed_bytes x.log.entries) + n)
    (same_bytes (with_seen x.number seen) (with_seen x.number other) xs (more_alike x.number seen other alike))

once : (b c : Bool) → (b || (b || c)) ≡ (b || c)
once true c = refl
once false c = refl

either_first : (a b c : Bool) → (a || (b || c)) ≡ (b || (a || c))
either_first true true c = refl
either_first true false c = refl
either_first false b c = refl

-- ---- one job has another log

abbrev relogged : (JobView → JobView) → Job → Job
relogged f job = record job { log = f job.log }

kept_at : (f : JobView → JobView) (seen : ℕ → Bool) (x : Job) (xs ys : List Job) (b : Bool)
    → landed_bytes (f x.log).entries ≡ landed_bytes x.log.entries
    → unseen_bytes (with_seen x.number seen) ys ≡ unseen_bytes (with_seen x.number seen) xs
    → unseen_bytes seen (if b then relogged f x ∷ xs else x ∷ ys) ≡ unseen_bytes seen (x ∷ xs)
kept_at f seen x xs ys true here rest =
    ap (λ (n : ℕ). (if seen x.number then 0 else n) + unseen_bytes (with_seen x.number seen) xs) here
kept_at f seen x xs ys false here rest = ap (λ (n : ℕ). (if seen x.number then 0 else landed_bytes x.log.entries) + n) rest

kept_bytes : (test : Job → Bool) (f : JobView → JobView) (seen : ℕ → Bool) (jobs : List Job)
    → ((log : JobView) → landed_bytes (f log).entries ≡ landed_bytes log.entries)
    → unseen_bytes seen (changed test (relogged f) jobs) ≡ unseen_bytes seen jobs
kept_bytes test f seen [] same = refl
kept_bytes test f seen (x ∷ xs) same =
    kept_at f seen x xs (changed test (relogged f) xs) (test x) (same x.log) (kept_bytes test f (with_seen x.number seen) xs same)

-- nothing landed by that
pub its_keep_bytes : (name : JobName) (f : JobView → JobView) (b : BookView)
    → ((log : JobView) → landed_bytes (f log).entries ≡ landed_bytes log.entries) → bytes_of (with_its name f b) ≡ bytes_of b
its_keep_bytes name f b same = ap (λ (n : ℕ). b.past + n) (kept_bytes (is_job b.table.boot (id_of name)) f none_seen b.table.jobs same)

-- an entry more
pub more_bytes : (es : List Entry) (e : Entry) → landed_bytes (es ++ e ∷ []) ≡ landed_bytes es + bytes_landed e
more_bytes es e = sum_by_push bytes_landed es e

-- an entry of so many bytes more, in the first job of a number that wasn't seen
grown_at : (f : JobView → JobView) (len number : ℕ) (seen : ℕ → Bool) (x : Job) (xs ys : List Job) (b : Bool) → (number == x.number) ≡ b
    → landed_bytes (f x.log).entries ≡ landed_bytes x.log.entries + len → seen number ≡ false
    → IsSome (if b then Some x else find (λ (job : Job). number == job.number) xs)
    → (with_seen x.number seen number ≡ false → IsSome (find (λ (job : Job). number == job.number) xs)
    → unseen_bytes (with_seen x.number seen) ys ≡ unseen_bytes (with_seen x.number seen) xs + len)
    → unseen_bytes seen (if b then relogged f x ∷ xs else x ∷ ys) ≡ unseen_bytes seen (x ∷ xs) + len
grown_at f len number seen x xs ys true is here unseen there rest =
    let fresh : seen x.number ≡ false = ap seen (sym (eqb-true number x.number is)) ∙ unseen in
    rw fresh (omega (arith, here))
grown_at f len number seen x xs ys false is here unseen there rest =
    let other : (x.number == number) ≡ false = ne_eqb x.number number (λ e. eqb-false number x.number is (sym e)) in
    let more = rest (rw other unseen) there in
    omega (arith, more)

grown_bytes : (f : JobView → JobView) (len number : ℕ) (seen : ℕ → Bool) (jobs : List Job)
    → ((log : JobView) → landed_bytes (f log).entries ≡ landed_bytes log.entries + len) → seen number ≡ false
    → IsSome (find (λ (job : Job). number == job.number) jobs)
    → unseen_bytes seen (changed (λ (job : Job). number == job.number) (relogged f) jobs) ≡ unseen_bytes seen jobs + len
grown_bytes f len number seen [] more unseen there = absurd (cc)
grown_bytes f len number seen (x ∷ xs) more unseen there =
    grown_at f len number seen x xs (changed (λ (job : Job). number == job.number) (relogged f) xs) (number == x.number) refl (more x.log) unseen there
    (λ fresh found. grown_bytes f len number (with_seen x.number seen) xs more fresh found)

none_named : (jobs : List Job) → IsSome (find (λ (job : Job). false) jobs) → ⊥
none_named [] there = cc
none_named (x ∷ xs) there = none_named xs there

grown_by : (f : JobView → JobView) (len number : ℕ) (here : Bool) (jobs : List Job)
    → ((log : JobView) → landed_bytes (f log).entries ≡ landed_bytes log.entries + len)
    → IsSome (find (λ (job : Job). here && (number == job.number)) jobs)
    → unseen_bytes none_seen (changed (λ (job : Job). here && (number == job.number)) (relogged f) jobs) ≡ unseen_bytes none_seen jobs + len
grown_by f len number true jobs more there = grown_bytes f len number none_seen jobs more refl there
grown_by f len number false jobs more there = absurd (none_named jobs there)

-- so many bytes landed in a job that is there
pub its_grow_bytes : (name : JobName) (f : JobView → JobView) (len : ℕ) (b : BookView) → IsSome (named b.table name)
    → ((log : JobView) → landed_bytes (f log).entries ≡ landed_bytes log.entries + len) → bytes_of (with_its name f b) ≡ bytes_of b + len
its_grow_bytes name f len b there more =
    let grown = grown_by f len name.number (name.boot == b.table.boot) b.table.jobs more there in
    omega (arith, grown)

-- ---- a job's place ends

passed_at : (number : ℕ) (seen : ℕ → Bool) (x : Job) (xs ys : List Job) (b : Bool) → (number == x.number) ≡ b
    → ((other : ℕ → Bool) → unseen_bytes other ys ≡ unseen_bytes (with_seen number other) xs)
    → unseen_bytes seen (if not b then x ∷ ys else ys) ≡ unseen_bytes (with_seen number seen) (x ∷ xs)
passed_at number seen x xs ys true is rest =
    let same = eqb-true number x.number is in
    rest seen
    ∙ same_bytes (with_seen number seen) (with_seen x.number (with_seen number seen)) xs
    (λ n. sym (ap (λ (m : ℕ). (m == n) || ((number == n) || seen n)) (sym same) ∙ once (number == n) (seen n)))
    ∙ rw is (omega arith)
passed_at number seen x xs ys false is rest =
    let swapped = same_bytes (with_seen number (with_seen x.number seen)) (with_seen x.number (with_seen number seen)) xs
    (λ n. either_first (number == n) (x.number == n) (seen n)) in
    rw is (ap (λ (n : ℕ). (if seen x.number then 0 else landed_bytes x.log.entries) + n) (rest (with_seen x.number seen) ∙ swapped))

-- the jobs of a number are passed over where that was seen
passed_over : (number : ℕ) (jobs : List Job) (seen : ℕ → Bool)
    → unseen_bytes seen (filter (λ (job : Job). not (number == job.number)) jobs) ≡ unseen_bytes (with_seen number seen) jobs
passed_over number [] seen = refl
passed_over number (x ∷ xs) seen =
    passed_at number seen x xs (filter (λ (job : Job). not (number == job.number)) xs) (number == x.number) refl (passed_over number xs)

gone_at : (number : ℕ) (seen : ℕ → Bool) (x : Job) (xs : List Job) (b : Bool) → (number == x.number) ≡ b → seen number ≡ false
    → (with_seen x.number seen number ≡ false
    → unseen_bytes (with_seen x.number seen) (filter (λ (job : Job). not (number == job.number)) xs) + landed_at (find (λ (job : Job). number == job.number) xs)
    ≡ unseen_bytes (with_seen x.number seen) xs)
    → unseen_bytes seen (if not b then x ∷ filter (λ (job : Job). not (number == job.number)) xs else filter (λ (job : Job). not (number == job.number)) xs)
    + landed_at (if b then Some x else find (λ (job : Job). number == job.number) xs) ≡ unseen_bytes seen (x ∷ xs)
gone_at number seen x xs true is unseen rest =
    let same = eqb-true number x.number is in
    let fresh : seen x.number ≡ false = ap seen (sym same) ∙ unseen in
    let passed = passed_over number xs seen in
    let as_seen : unseen_bytes (with_seen number seen) xs ≡ unseen_bytes (with_seen x.number seen) xs =
    ap (λ (n : ℕ). unseen_bytes (with_seen n seen) xs) same in
    rw fresh (omega (arith, passed, as_seen))
gone_at number seen x xs false is unseen rest =
    let other : (x.number == number) ≡ false = ne_eqb x.number number (λ e. eqb-false number x.number is (sym e)) in
    let more = rest (rw other unseen) in
    omega (arith, more)

gone_bytes : (number : ℕ) (jobs : List Job) (seen : ℕ → Bool) → seen number ≡ false
    → unseen_bytes seen (filter (λ (job : Job). not (number == job.number)) jobs) + landed_at (find (λ (job : Job). number == job.number) jobs)
    ≡ unseen_bytes seen jobs
gone_bytes number [] seen unseen = omega arith
gone_bytes number (x ∷ xs) seen unseen =
    gone_at number seen x xs (number == x.number) refl unseen (λ fresh. gone_bytes number xs (with_seen x.number seen) fresh)

all_left : (jobs : List Job) (seen : ℕ → Bool)
    → unseen_bytes seen (filter (λ (job : Job). true) jobs) + landed_at (find (λ (job : Job). false) jobs) ≡ unseen_bytes seen jobs
all_left [] seen = omega arith
all_left (x ∷ xs) seen = let rest = all_left xs (with_seen x.number seen) in omega (arith, rest)

gone_by : (number : ℕ) (here : Bool) (jobs : List Job)
    → unseen_bytes none_seen (filter (λ (job : Job). not (here && (number == job.number))) jobs) + landed_at (find (λ (job : Job). here && (number == job.number)) jobs)
    ≡ unseen_bytes none_seen jobs
gone_by number true jobs = gone_bytes number jobs none_seen refl
gone_by number false jobs = all_left jobs none_seen

-- what it landed stays counted
pub retiring_keeps_bytes : (name : JobName) (b : BookView) → bytes_of (retired name b) ≡ bytes_of b
retiring_keeps_bytes name b =
    let gone = gone_by name.number (name.boot == b.table.boot) b.table.jobs in
    omega (arith, gone)

-- ---- a new job

nothing_at : (seen : Bool) (bytes : ℕ) → bytes ≡ 0 → (if seen then 0 else bytes) + 0 ≡ 0
nothing_at true bytes none = omega arith
nothing_at false bytes none = omega (arith, none)

joined_bytes : (job : Job) (jobs : List Job) (seen : ℕ → Bool) → landed_bytes job.log.entries ≡ 0
    → unseen_bytes seen (jobs ++ job ∷ []) ≡ unseen_bytes seen jobs
joined_bytes job [] seen none = nothing_at (seen job.number) (landed_bytes job.log.entries) none
joined_bytes job (x ∷ xs) seen none =
    ap (λ (n : ℕ). (if seen x.number then 0 else landed_bytes x.log.entries) + n) (joined_bytes job xs (with_seen x.number seen) none)

pub joining_keeps_bytes : (plan : Plan) (b : BookView) → bytes_of (record b { table = with_job b.table plan }) ≡ bytes_of b
joining_keeps_bytes plan b =
    ap (λ (n : ℕ). b.past + n) (joined_bytes (new_job (b.table.made + 1) plan) b.table.jobs none_seen refl)

-- ---- in a book each number has one job, so these are the bytes that the book tells

rest_rises : (x : Job) (xs : List Job) → AllPairs (λ (a b : Job). a.number < b.number) (x ∷ xs) → AllPairs (λ (a b : Job). a.number < b.number) xs
rest_rises x xs rises i j d lt inside = rises (suc i) (suc j) d (omega arith) (omega arith)

higher : (x : Job) (xs : List Job) → AllPairs (λ (a b : Job). a.number < b.number) (x ∷ xs) → All (λ (y : Job). x.number < y.number) xs
higher x xs rises i d inside = rises 0 (suc i) d (omega arith) (omega arith)

abbrev AreUnseen : (ℕ → Bool) → List Job → Type 0
AreUnseen seen jobs = All (λ (job : Job). seen job.number ≡ false) jobs

still_unseen : (x : Job) (xs : List Job) (seen : ℕ → Bool) → All (λ (y : Job). x.number < y.number) xs → AreUnseen seen xs → AreUnseen (with_seen x.number seen) xs
still_unseen x xs seen up unseen i d inside =
    let above = up i d inside in
    rw (ne_eqb x.number (get_or xs i d).number (λ e. omega (arith, e, above))) (unseen i d inside)

all_bytes : (jobs : List Job) (seen : ℕ → Bool) → AllPairs (λ (a b : Job). a.number < b.number) jobs → AreUnseen seen jobs
    → unseen_bytes seen jobs ≡ sum_by (λ (job : Job). landed_bytes job.log.entries) jobs
all_bytes [] seen rises unseen = refl
all_bytes (x ∷ xs) seen rises unseen =
    let fresh = All-head (λ (job : Job). seen job.number ≡ false) x xs unseen in
    let rest = all_bytes xs (with_seen x.number seen) (rest_rises x xs rises)
    (still_unseen x xs seen (higher x xs rises) (All-tail (λ (job : Job). seen job.number ≡ false) x xs unseen)) in
    rw fresh (omega (arith, rest, sum_by-cons (λ (job : Job). landed_bytes job.log.entries) x xs))

pub bytes_are : (b : BookView) → AllPairs (λ (a b : Job). a.number < b.number) b.table.jobs → bytes_of b ≡ book_bytes b
bytes_are b rises = ap (λ (n : ℕ). b.past + n) (all_bytes b.table.jobs none_seen rises (λ i d inside. refl))
