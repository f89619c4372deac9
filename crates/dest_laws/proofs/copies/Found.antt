-- What a table has of a job that is seen.
use Rattle.std.proofs.Common.{◌≡◌, ◌⊎◌, ⊎_elim, ℕ, zero, suc, ◌<◌, Bool, true, false, List, [], ◌∷◌, ◌++◌, Option, Some, None, length, refl, sym, ap, subst, ◌∙◌, arith}
use Rattle.std.proofs.Math.Seq.{get_or-append_seam, take-append_seam}
use Rattle.std.proofs.lemmas.Bool.{and_parts, cases_order, eqb-true}
use Rattle.std.proofs.lemmas.List.{length-append}
use Rattle.std.proofs.lemmas.List.Elements.{All-head, All-tail}
use Rattle.std.proofs.lemmas.Option.{slice_get-get_or}
use Rattle.std.specs.Prelude.{◌==◌, All, AllPairs, find, if◌then◌else◌, slice_get, slice_index_or, unwrap_or}
use Rattle.copy_model.specs.Job.{Allows, Entry, IsLawful}
use Rattle.dest_laws.specs.Histories.Seen.{Seen, seen, seen_in}
use Rattle.job_book.specs.Book.{IsSound, id_of, named}
use Rattle.job_table.specs.Table.{AreApart, JobTable, is_job}
use Rattle.job_table.specs.declared.job.Job.{Job}
use Rattle.job_table.specs.declared.job.Plan.{Plan}
use Rattle.nfs_base.specs.declared.job.JobName.{JobName}

-- ---- a job that is seen is there

pub record JobOf (found : Option Job) (s : Seen) : Type 0 where
  pub job : Job
  pub there : found ≡ Some job
  pub plan : job.plan ≡ s.plan
  pub entries : job.log.entries ≡ s.entries

some_is : (s t : Seen) → Some s ≡ Some t → s ≡ t
some_is s t is = ap (λ (o : Option Seen). unwrap_or o s) is

pub job_of_seen : (found : Option Job) (s : Seen) → seen found ≡ Some s → JobOf found s
job_of_seen None s is = absurd (cc)
job_of_seen (Some job) s is =
    let same = some_is (record { plan = job.plan; entries = job.log.entries }) s is in
    record { job = job; there = refl; plan = ap (λ (x : Seen). x.plan) same; entries = ap (λ (x : Seen). x.entries) same }

-- ---- what holds of each job holds of the one that is found

found_by : (P : Job → Type 0) (p : Job → Bool) (y : Job) (ys : List Job) (job : Job) (b : Bool) → (if b then Some y else find p ys) ≡ Some job → P y
    → (find p ys ≡ Some job → P job) → P job
found_by P p y ys job true is here rest = subst P (ap (λ (o : Option Job). unwrap_or o y) is) here
found_by P p y ys job false is here rest = rest is

pub found_has : (P : Job → Type 0) (p : Job → Bool) (jobs : List Job) (job : Job) → All P jobs → find p jobs ≡ Some job → P job
found_has P p [] job all is = absurd (cc)
found_has P p (y ∷ ys) job all is =
    found_by P p y ys job (p y) is (All-head P y ys all) (λ rest. found_has P p ys job (All-tail P y ys all) rest)

passes_by : (p : Job → Bool) (y : Job) (ys : List Job) (job : Job) (b : Bool) → p y ≡ b → (if b then Some y else find p ys) ≡ Some job
    → (find p ys ≡ Some job → p job ≡ true) → p job ≡ true
passes_by p y ys job true here is rest = subst (λ (x : Job). p x ≡ true) (ap (λ (o : Option Job). unwrap_or o y) is) here
passes_by p y ys job false here is rest = rest is

found_passes : (p : Job → Bool) (jobs : List Job) (job : Job) → find p jobs ≡ Some job → p job ≡ true
found_passes p [] job is = absurd (cc)
found_passes p (y ∷ ys) job is = passes_by p y ys job (p y) refl is (λ rest. found_passes p ys job rest)

-- ---- what holds of each two holds of two that are found

pub record PlaceOf (jobs : List Job) (job : Job) : Type 0 where
  pub place : ℕ
  pub within : place < length jobs
  pub is : slice_index_or jobs place job ≡ job

place_by : (p : Job → Bool) (y : Job) (ys : List Job) (job : Job) (b : Bool) → (if b then Some y else find p ys) ≡ Some job
    → (find p ys ≡ Some job → PlaceOf ys job) → PlaceOf (y ∷ ys) job
place_by p y ys job true is rest = record { place = 0; within = omega arith; is = ap (λ (o : Option Job). unwrap_or o y) is }
place_by p y ys job false is rest =
    let found = rest is in
    let low = found.within in
    record { place = suc found.place; within = omega (arith, low); is = found.is }

place_of : (p : Job → Bool) (jobs : List Job) (job : Job) → find p jobs ≡ Some job → PlaceOf jobs job
place_of p [] job is = absurd (cc)
place_of p (y ∷ ys) job is = place_by p y ys job (p y) is (λ rest. place_of p ys job rest)

-- an element that is there is that by any other in its stead
elsewhere : (jobs : List Job) (i : ℕ) (d e : Job) → i < length jobs → slice_index_or jobs i d ≡ slice_index_or jobs i e
elsewhere [] i d e low = absurd (omega (arith, low))
elsewhere (y ∷ ys) zero d e low = refl
elsewhere (y ∷ ys) (suc i) d e low = elsewhere ys i d e (omega (arith, low))

module _ (R : Job → Job → Type 0) (other_way : (x y : Job) → R x y → R y x) where
  pub pair_found : (p q : Job → Bool) (jobs : List Job) (a b : Job) → AllPairs R jobs → find p jobs ≡ Some a → find q jobs ≡ Some b
      → (a.number ≡ b.number → ⊥) → R a b
  pair_found p q jobs a b all first second apart =
      let i = place_of p jobs a first in
      let j = place_of q jobs b second in
      let at_b : slice_index_or jobs j.place a ≡ b = elsewhere jobs j.place a b j.within ∙ j.is in
      ⊎_elim
      (λ (same : i.place ≡ j.place).
      let e = sym i.is ∙ ap (λ (n : ℕ). slice_index_or jobs n a) same ∙ at_b in absurd (apart (ap (λ (x : Job). x.number) e)))
      (λ (order : (i.place < j.place) ⊎ (j.place < i.place)).
      ⊎_elim
      (λ (before : i.place < j.place).
      subst (λ (y : Job). R a y) at_b (subst (λ (x : Job). R x (slice_index_or jobs j.place a)) i.is (all i.place j.place a before j.within)))
      (λ (after : j.place < i.place).
      other_way b a
      (subst (λ (x : Job). R b x) i.is (subst (λ (y : Job). R y (slice_index_or jobs i.place a)) at_b (all j.place i.place a after i.within))))
      order)
      (cases_order i.place j.place)

-- ---- of two jobs that run, of different names

other_way : (capacity : ℕ) (x y : Job) → AreApart capacity x y → AreApart capacity y x
other_way capacity x y apart file live other byte first second = apart (sym file) other live byte second first

number_of : (boot : ℕ) (name : JobName) (x : Job) → is_job boot (id_of name) x ≡ true → name.number ≡ x.number
number_of boot name x is = eqb-true name.number x.number (and_parts (name.boot == boot) (name.number == x.number) is).1

pub are_apart : (t : JobTable) (one other : JobName) (a b : Job) → IsSound t → named t one ≡ Some a → named t other ≡ Some b
    → (one.number ≡ other.number → ⊥) → AreApart t.capacity a b
are_apart t one other a b sound first second differ =
    let p = is_job t.boot (id_of one) in
    let q = is_job t.boot (id_of other) in
    pair_found (AreApart t.capacity) (other_way t.capacity) p q t.jobs a b sound.apart first second
    (λ same. differ (number_of t.boot one a (found_passes p t.jobs a first) ∙ same ∙ sym (number_of t.boot other b (found_passes q t.jobs b second))))

-- ---- the last entry of a lawful log is allowed after those before it

last_there : (old : List Entry) (entry : Entry) → slice_get (old ++ entry ∷ []) (length old) ≡ Some entry
last_there old entry =
    let long = length-append old (entry ∷ []) in
    slice_get-get_or (old ++ entry ∷ []) (length old) entry (omega (arith, long)) ∙ ap (λ (e : Entry). Some e) (get_or-append_seam old entry [] entry)

pub last_allowed : (consecutive : Bool) (old new : List Entry) (entry : Entry) → IsLawful consecutive new → new ≡ old ++ entry ∷ [] → Allows consecutive old entry
last_allowed consecutive old new entry lawful is =
    let here = subst (IsLawful consecutive) is lawful in
    subst (λ (es : List Entry). Allows consecutive es entry) (take-append_seam old (entry ∷ [])) (here (length old) entry (last_there old entry))

pub seen_lawful : (t : JobTable) (name : JobName) (s : Seen) → IsSound t → seen_in t name ≡ Some s → IsLawful s.plan.consecutive s.entries
seen_lawful t name s sound is =
    let found = job_of_seen (named t name) s is in
    let lawful = found_has (λ (job : Job). IsLawful job.plan.consecutive job.log.entries) (is_job t.boot (id_of name)) t.jobs found.job sound.lawful found.there in
    let first = subst (λ (es : List Entry). IsLawful found.job.plan.consecutive es) found.entries lawful in
    subst (λ (p : Plan). IsLawful p.consecutive s.entries) found.plan first
