-- What is found of a name once the table has another log of some job, one job less, or one more.
use Rattle.std.proofs.Common.{◌≡◌, ℕ, ◌+◌, ◌≤◌, Bool, true, false, List, [], ◌∷◌, ◌++◌, Option, Some, None, refl, sym, ap, ◌∙◌, arith}
use Rattle.std.proofs.lemmas.Bool.{eq-eqb, eqb-true}
use Rattle.std.specs.Prelude.{◌==◌, ◌&&◌, not, if◌then◌else◌, find, filter, option_map}
use Rattle.dest_tasks.specs.Posts.{is_same}
use Rattle.job_book.specs.Book.{id_of}
use Rattle.job_table.specs.Table.{changed, is_job, new_job}
use Rattle.job_table.specs.declared.job.Job.{Job}
use Rattle.job_table.specs.declared.job.Plan.{Plan}
use Rattle.nfs_base.specs.declared.job.JobName.{JobName}

-- ---- names

both_so : (a b : Bool) → (a && b) ≡ true → (a ≡ true) × (b ≡ true)
both_so true b is = (refl, is)
both_so false b is = absurd cc

join : (a b : Bool) → a ≡ true → b ≡ true → (a && b) ≡ true
join true b is more = more
join false b is more = absurd cc

abbrev a_name : (boot number : ℕ) → JobName
a_name boot number = record { boot = boot; number = number }

pub same_name : (job name : JobName) → is_same job name ≡ true → job ≡ name
same_name job name is =
    let parts = both_so (job.boot == name.boot) (job.number == name.number) is in
    let boots : job.boot ≡ name.boot = eqb-true job.boot name.boot parts.0 in
    let numbers : job.number ≡ name.number = eqb-true job.number name.number parts.1 in
    let first : job ≡ a_name name.boot job.number = ap (λ (b : ℕ). a_name b job.number) boots in
    let second : a_name name.boot job.number ≡ name = ap (λ (n : ℕ). a_name name.boot n) numbers in
    first ∙ second

pub two_names : (boot : ℕ) (job name : JobName) (x : Job) → is_same job name ≡ false → is_job boot (id_of job) x ≡ true → is_job boot (id_of name) x ≡ true → ⊥
two_names boot job name x other first second =
    let a = both_so (job.boot == boot) (job.number == x.number) first in
    let b = both_so (name.boot == boot) (name.number == x.number) second in
    let boots : job.boot ≡ name.boot = eqb-true job.boot boot a.0 ∙ sym (eqb-true name.boot boot b.0) in
    let numbers : job.number ≡ name.number = eqb-true job.number x.number a.1 ∙ sym (eqb-true name.number x.number b.1) in
    let same : is_same job name ≡ true = join (job.boot == name.boot) (job.number == name.number) (eq-eqb job.boot name.boot boots) (eq-eqb job.number name.number numbers) in
    absurd cc

pub number_of : (boot : ℕ) (name : JobName) (x : Job) → is_job boot (id_of name) x ≡ true → name.number ≡ x.number
number_of boot name x is = eqb-true name.number x.number (both_so (name.boot == boot) (name.number == x.number) is).1

-- ---- one of them changes

found_at : (p : Job → Bool) (f : Job → Job) (x : Job) (xs : List Job) (b : Bool) → p x ≡ b → p (f x) ≡ p x
    → find p (changed p f xs) ≡ option_map f (find p xs)
    → find p (if b then f x ∷ xs else x ∷ changed p f xs) ≡ option_map f (if b then Some x else find p xs)
found_at p f x xs true is keeps rest = rw (keeps, is) refl
found_at p f x xs false is keeps rest = rw is rest

pub find_changed : (p : Job → Bool) (f : Job → Job) (xs : List Job) → ((x : Job) → p (f x) ≡ p x) → find p (changed p f xs) ≡ option_map f (find p xs)
find_changed p f [] keeps = refl
find_changed p f (x ∷ xs) keeps = found_at p f x xs (p x) refl (keeps x) (find_changed p f xs keeps)

not_this : (q : Job → Bool) (f : Job → Job) (x : Job) (xs : List Job) (b : Bool) → q x ≡ b → q (f x) ≡ q x → (b ≡ true → ⊥)
    → find q (f x ∷ xs) ≡ find q (x ∷ xs)
not_this q f x xs true is keeps never = absurd (never refl)
not_this q f x xs false is keeps never = rw (keeps, is) refl

other_at : (p q : Job → Bool) (f : Job → Job) (x : Job) (xs : List Job) (b : Bool) → p x ≡ b → q (f x) ≡ q x → (p x ≡ true → q x ≡ true → ⊥)
    → find q (changed p f xs) ≡ find q xs → find q (if b then f x ∷ xs else x ∷ changed p f xs) ≡ find q (x ∷ xs)
other_at p q f x xs true is keeps apart rest = not_this q f x xs (q x) refl keeps (λ here. apart is here)
other_at p q f x xs false is keeps apart rest = ap (λ (o : Option Job). if q x then Some x else o) rest

pub find_other : (p q : Job → Bool) (f : Job → Job) (xs : List Job) → ((x : Job) → q (f x) ≡ q x) → ((x : Job) → p x ≡ true → q x ≡ true → ⊥)
    → find q (changed p f xs) ≡ find q xs
find_other p q f [] keeps apart = refl
find_other p q f (x ∷ xs) keeps apart = other_at p q f x xs (p x) refl (keeps x) (apart x) (find_other p q f xs keeps apart)

-- ---- one of them goes

passed_over : (q : Job → Bool) (x : Job) (xs : List Job) (b : Bool) → q x ≡ b → (b ≡ true → ⊥) → find q xs ≡ find q (x ∷ xs)
passed_over q x xs true is never = absurd (never refl)
passed_over q x xs false is never = rw is refl

without_at : (p q : Job → Bool) (x : Job) (xs : List Job) (b : Bool) → p x ≡ b → (p x ≡ true → q x ≡ true → ⊥)
    → find q (filter (λ y. not (p y)) xs) ≡ find q xs
    → find q (if not b then x ∷ filter (λ y. not (p y)) xs else filter (λ y. not (p y)) xs) ≡ find q (x ∷ xs)
without_at p q x xs true is apart rest = rest ∙ passed_over q x xs (q x) refl (λ here. apart is here)
without_at p q x xs false is apart rest = ap (λ (o : Option Job). if q x then Some x else o) rest

pub find_without : (p q : Job → Bool) (xs : List Job) → ((x : Job) → p x ≡ true → q x ≡ true → ⊥) → find q (filter (λ y. not (p y)) xs) ≡ find q xs
find_without p q [] apart = refl
find_without p q (x ∷ xs) apart = without_at p q x xs (p x) refl (apart x) (find_without p q xs apart)

none_at : (p : Job → Bool) (x : Job) (xs : List Job) (b : Bool) → p x ≡ b → find p (filter (λ y. not (p y)) xs) ≡ None
    → find p (if not b then x ∷ filter (λ y. not (p y)) xs else filter (λ y. not (p y)) xs) ≡ None
none_at p x xs true is rest = rest
none_at p x xs false is rest = rw is rest

-- none is left that has the name
pub none_left : (p : Job → Bool) (xs : List Job) → find p (filter (λ y. not (p y)) xs) ≡ None
none_left p [] = refl
none_left p (x ∷ xs) = none_at p x xs (p x) refl (none_left p xs)

-- ---- one more

pub find_behind : (p : Job → Bool) (xs : List Job) (y : Job) → p y ≡ false → find p (xs ++ y ∷ []) ≡ find p xs
find_behind p [] y other = rw other refl
find_behind p (x ∷ xs) y other = ap (λ (o : Option Job). if p x then Some x else o) (find_behind p xs y other)

number_apart : (boot : ℕ) (name : JobName) (x : Job) (b : Bool) → is_job boot (id_of name) x ≡ b → (name.number ≡ x.number → ⊥) → b ≡ false
number_apart boot name x true is apart = absurd (apart (number_of boot name x is))
number_apart boot name x false is apart = refl

pub is_older : (boot made : ℕ) (name : JobName) (plan : Plan) → name.number ≤ made → is_job boot (id_of name) (new_job (made + 1) plan) ≡ false
is_older boot made name plan given =
    number_apart boot name (new_job (made + 1) plan) (is_job boot (id_of name) (new_job (made + 1) plan)) refl (λ same. omega (arith, same, given))
