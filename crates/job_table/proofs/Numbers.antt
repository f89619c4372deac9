-- The numbers of jobs rise, so a name is that of one job at most.
use Rattle.std.proofs.Common.{◌≡◌, ℕ, suc, ◌+◌, ◌<◌, Bool, true, false, List, [], ◌∷◌, length, get_or, Some, refl, ap, arith}
use Rattle.std.specs.Prelude.{◌==◌, ◌&&◌, not, find, filter, IsSome, All, AllPairs, if◌then◌else◌}
use Rattle.std.proofs.lemmas.Bool.{eqb-true, ne_eqb}
use Rattle.std.proofs.lemmas.List.Elements.{All-head, All-tail}
use Rattle.job_table.specs.declared.job.Job.{Job}
use Rattle.job_table.specs.declared.job.JobId.{JobId}
use Rattle.job_table.specs.Table.{is_job}

kept_at : (p : Job → Bool) (x : Job) (xs : List Job) (b : Bool) → p x ≡ b → b ≡ true → length (filter p xs) ≡ length xs
    → length (if b then x ∷ filter p xs else filter p xs) ≡ suc (length xs)
kept_at p x xs true is passes ih = ap (λ (n : ℕ). suc n) ih
kept_at p x xs false is passes ih = absurd (cc)

all_kept : (p : Job → Bool) (xs : List Job) → All (λ x. p x ≡ true) xs → length (filter p xs) ≡ length xs
all_kept p [] all = refl
all_kept p (x ∷ xs) all =
    kept_at p x xs (p x) refl (All-head (λ x. p x ≡ true) x xs all) (all_kept p xs (All-tail (λ x. p x ≡ true) x xs all))

second : (a b : Bool) → (a && b) ≡ true → b ≡ true
second true b e = e
second false b e = absurd (cc)

fails : (a b : Bool) → b ≡ false → not (a && b) ≡ true
fails true b e = ap (λ (x : Bool). not x) e
fails false b e = refl

-- a job with a higher number has another name
is_other : (boot : ℕ) (id : JobId) (x y : Job) → is_job boot id x ≡ true → x.number < y.number → not (is_job boot id y) ≡ true
is_other boot id x y is lt =
    let same : id.number ≡ x.number = eqb-true id.number x.number (second (id.boot == boot) (id.number == x.number) is) in
    fails (id.boot == boot) (id.number == y.number) (ne_eqb id.number y.number (λ e. omega (arith, same, e, lt)))

above : (x : Job) (xs : List Job) → AllPairs (λ a b. a.number < b.number) (x ∷ xs) → All (λ y. x.number < y.number) xs
above x xs rising i d lt = rising 0 (suc i) d (omega arith) (omega arith)

rest : (x : Job) (xs : List Job) → AllPairs (λ a b. a.number < b.number) (x ∷ xs) → AllPairs (λ a b. a.number < b.number) xs
rest x xs rising i j d lt inside = rising (suc i) (suc j) d (omega arith) (omega arith)

gone_at : (boot : ℕ) (id : JobId) (x : Job) (xs : List Job) (b : Bool) → is_job boot id x ≡ b
    → IsSome (if b then Some x else find (is_job boot id) xs) → All (λ y. x.number < y.number) xs
    → (IsSome (find (is_job boot id) xs) → length (filter (λ job. not (is_job boot id job)) xs) + 1 ≡ length xs)
    → length (if not b then x ∷ filter (λ job. not (is_job boot id job)) xs else filter (λ job. not (is_job boot id job)) xs) + 1 ≡ suc (length xs)
gone_at boot id x xs true is there higher ih =
    let all : length (filter (λ job. not (is_job boot id job)) xs) ≡ length xs =
    all_kept (λ job. not (is_job boot id job)) xs (λ i d lt. is_other boot id x (get_or xs i d) is (higher i d lt)) in
    omega arith
gone_at boot id x xs false is there higher ih = let less = ih there in omega arith

-- without the job of a name that is there, there is one job less
pub one_gone : (boot : ℕ) (id : JobId) (jobs : List Job) → IsSome (find (is_job boot id) jobs) → AllPairs (λ a b. a.number < b.number) jobs
    → length (filter (λ job. not (is_job boot id job)) jobs) + 1 ≡ length jobs
one_gone boot id [] there rising = absurd (cc)
one_gone boot id (x ∷ xs) there rising =
    gone_at boot id x xs (is_job boot id x) refl there (above x xs rising) (λ h. one_gone boot id xs h (rest x xs rising))
