-- A chunk that is claimed and given back leaves all as it was.
use Rattle.std.proofs.Common.{◌≡◌, ℕ, zero, suc, ◌+◌, ◌*◌, ◌/◌, ◌%◌, Bool, true, false, List, [], ◌∷◌, set, refl, sym, ap, subst, ◌∙◌, arith}
use Rattle.std.specs.Prelude.{◌==◌, ◌&&◌, ◌||◌, if◌then◌else◌, Option, Some, None, option_map, find}
use Rattle.copy_model.specs.Job.{chunk_size, chunks_of, has_ended}
use Rattle.job_log.specs.Bits.{flag}
use Rattle.job_log.specs.Log.{JobView, given_back, is_claimed, total, with_claim}
use Rattle.job_log.specs.declared.chunk.Chunk.{Chunk}
use Rattle.job_table.specs.Table.{JobTable, changed, is_job, job_of, with_log}
use Rattle.job_table.specs.declared.job.Job.{Job}
use Rattle.job_table.specs.declared.job.JobId.{JobId}
use Rattle.job_book.specs.Working.{chunk_at, first_free, is_taken, next_chunk, next_unless}

-- ---- the chunk that is next isn't taken

if_some : (b : Bool) (x y : Option ℕ) (m : ℕ) {P : Type 0} → (if b then x else y) ≡ Some m → (b ≡ true → x ≡ Some m → P) → (b ≡ false → y ≡ Some m → P) → P
if_some true x y m is holds fails = holds refl is
if_some false x y m is holds fails = fails refl is

free_at : (taken : ℕ → Bool) (left from m : ℕ) → first_free taken left from ≡ Some m → taken m ≡ false
free_at taken zero from m is = absurd (cc)
free_at taken (suc left) from m is = if_some (taken from) _ _ m is
    (λ (b : taken from ≡ true) more. free_at taken left (from + 1) m more)
    (λ (b : taken from ≡ false) (here : Some from ≡ Some m). subst (λ (n : ℕ). taken n ≡ false) (cc) b)

-- ---- its claim is the only change

set_back : (xs : List Bool) (n : ℕ) → flag xs n ≡ false → set (set xs n true) n false ≡ xs
set_back [] n is = refl
set_back (x ∷ xs) zero is = ap (λ (b : Bool). b ∷ xs) (sym is)
set_back (x ∷ xs) (suc n) is = ap (λ (bs : List Bool). x ∷ bs) (set_back xs n is)

set_none : (xs : List Bool) (n : ℕ) → flag (set xs n true) n ≡ false → set xs n true ≡ xs
set_none [] n is = refl
set_none (x ∷ xs) zero is = absurd (cc)
set_none (x ∷ xs) (suc n) is = ap (λ (bs : List Bool). x ∷ bs) (set_none xs n is)

all_three : (a b c : Bool) → a ≡ true → c ≡ true → (a && (b && c)) ≡ b
all_three true true true is more = refl
all_three true false true is more = refl
all_three true b false is more = absurd (cc)
all_three false b c is more = absurd (cc)

either_false : (a b : Bool) → (a || b) ≡ false → a ≡ false
either_false false b is = refl
either_false true b is = absurd (cc)

abbrev with_claims : JobView → List Bool → JobView
with_claims v claims = record v { claims = claims }

back_if : (v : JobView) (n : ℕ) (claimed : Bool) → flag (set v.claims n true) n ≡ claimed → flag v.claims n ≡ false
    → (if claimed then with_claims v (set (set v.claims n true) n false) else with_claims v (set v.claims n true)) ≡ v
back_if v n true there free = ap (λ (bs : List Bool). record v { claims = bs }) (set_back v.claims n free)
back_if v n false there free = ap (λ (bs : List Bool). record v { claims = bs }) (set_none v.claims n there)

-- a chunk by its number: where it begins, and how long it is
start_of : (number : ℕ) → (number * chunk_size) % chunk_size ≡ 0
start_of number = omega arith

number_of : (number : ℕ) → (number * chunk_size) / chunk_size ≡ number
number_of number = omega arith

same_number : (m n : ℕ) → m ≡ n → (m == n) ≡ true
same_number m n is = grind arith

-- whether it is claimed then is whether there is a flag for it
claimed_then : (v : JobView) (number : ℕ) → is_claimed (with_claim v (chunk_at v number) true) (chunk_at v number) ≡ flag (set v.claims number true) number
claimed_then v number =
    let chunk = chunk_at v number in
    all_three _ _ _ (same_number _ _ (start_of number)) (same_number _ _ refl)
    ∙ ap (λ (n : ℕ). flag (set v.claims n true) n) (number_of number)

back_at : (v : JobView) (number : ℕ) → flag v.claims number ≡ false → given_back (with_claim v (chunk_at v number) true) (chunk_at v number) ≡ v
back_at v number free =
    let chunk = chunk_at v number in
    let n = chunk.off / chunk_size in
    let at : flag v.claims n ≡ false = subst (λ (k : ℕ). flag v.claims k ≡ false) (sym (number_of number)) free in
    let is : is_claimed (with_claim v chunk true) chunk ≡ flag (set v.claims n true) n =
    claimed_then v number ∙ ap (λ (k : ℕ). flag (set v.claims k true) k) (sym (number_of number)) in
    ap (λ (b : Bool). if b then with_claims v (set (set v.claims n true) n false) else with_claims v (set v.claims n true)) is
    ∙ back_if v n (flag (set v.claims n true) n) refl at

next_at : (v : JobView) (number : Option ℕ) (chunk : Chunk) → first_free (is_taken v) (chunks_of (total v.entries)) 0 ≡ number
    → option_map (chunk_at v) number ≡ Some chunk → given_back (with_claim v chunk true) chunk ≡ v
next_at v None chunk found is = absurd (cc)
next_at v (Some number) chunk found is =
    let here : chunk_at v number ≡ chunk = cc in
    subst (λ (c : Chunk). given_back (with_claim v c true) c ≡ v) here
    (back_at v number (either_false _ _ (free_at (is_taken v) (chunks_of (total v.entries)) 0 number found)))

next_back : (v : JobView) (chunk : Chunk) (ended : Bool) → next_unless ended v ≡ Some chunk → given_back (with_claim v chunk true) chunk ≡ v
next_back v chunk true is = absurd (cc)
next_back v chunk false is = next_at v (first_free (is_taken v) (chunks_of (total v.entries)) 0) chunk refl is

-- ---- the first job of a name, twice changed

if_true : {X : Type 0} (b : Bool) (x y : X) → b ≡ true → (if b then x else y) ≡ x
if_true true x y is = refl
if_true false x y is = absurd (cc)

if_false : {X : Type 0} (b : Bool) (x y : X) → b ≡ false → (if b then x else y) ≡ y
if_false false x y is = refl
if_false true x y is = absurd (cc)

changed_at : (test : Job → Bool) (f g : Job → Job) (x : Job) (xs : List Job) (b : Bool) → test x ≡ b → ((y : Job) → test (f y) ≡ test y)
    → ((y : Job) → (if b then Some x else find test xs) ≡ Some y → g (f y) ≡ y) → (b ≡ false → changed test g (changed test f xs) ≡ xs)
    → changed test g (if b then f x ∷ xs else x ∷ changed test f xs) ≡ x ∷ xs
changed_at test f g x xs true is keeps back rest = if_true (test (f x)) _ _ (keeps x ∙ is) ∙ ap (λ (y : Job). y ∷ xs) (back x refl)
changed_at test f g x xs false is keeps back rest = if_false (test x) _ _ is ∙ ap (λ (ys : List Job). x ∷ ys) (rest refl)

changed_twice : (test : Job → Bool) (f g : Job → Job) (xs : List Job) → ((x : Job) → test (f x) ≡ test x)
    → ((x : Job) → find test xs ≡ Some x → g (f x) ≡ x) → changed test g (changed test f xs) ≡ xs
changed_twice test f g [] keeps back = refl
changed_twice test f g (x ∷ xs) keeps back = changed_at test f g x xs (test x) refl keeps back
    (λ (other : test x ≡ false). changed_twice test f g xs keeps (λ y found. back y (if_false (test x) _ _ other ∙ found)))

pub table_back : (t : JobTable) (id : JobId) (chunk : Chunk) → next_chunk (job_of t id) ≡ Some chunk
    → with_log (with_log t id (λ log. with_claim log chunk true)) id (λ log. given_back log chunk) ≡ t
table_back t id chunk next =
    let f : Job → Job = λ job. record job { log = with_claim job.log chunk true } in
    let g : Job → Job = λ job. record job { log = given_back job.log chunk } in
    ap (λ (jobs : List Job). record t { jobs = jobs }) (changed_twice (is_job t.boot id) f g t.jobs (λ x. refl)
    (λ y found. ap (λ (log : JobView). record y { log = log }) (next_back y.log chunk (has_ended y.log.entries)
    (sym (ap (λ (job : Option Job). next_chunk job) found) ∙ next))))
