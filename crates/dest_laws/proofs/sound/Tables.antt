-- A table that is kept goes on to be, with another log of a job, with a job less and with one more.
use Rattle.std.proofs.Common.{◌≡◌, ℕ, suc, ◌+◌, ◌<◌, ◌≤◌, Bool, true, false, List, [], ◌∷◌, Option, Some, None, length, refl, sym, ap, subst, ◌∙◌, arith}
use Rattle.std.proofs.lemmas.Bool.{and_from, eq-eqb, lt-ltb, ltb-true}
use Rattle.std.proofs.lemmas.List.{length-append}
use Rattle.std.proofs.lemmas.List.Elements.{All-cons, All-filter, All-head, All-nil, All-push, All-tail, All-weaker}
use Rattle.std.proofs.lemmas.List.Kept.{AllPairs-cons, AllPairs-filter}
use Rattle.std.proofs.lemmas.List.Quantifiers.{all_pairs_push}
use Rattle.std.specs.Prelude.{◌==◌, ◌&&◌, not, max, min, nat_lt, All, AllPairs, filter, find, if◌then◌else◌, slice_index_or, unwrap_or}
use Rattle.copy_model.specs.Job.{IsLawful, has_ended}
use Rattle.dest_laws.proofs.sound.Logs.{Follows, IsGood}
use Rattle.dest_laws.specs.Sound.Kept.{IsKept}
use Rattle.job_book.specs.Book.{BookView, accept_answer, accept_apart, after_accept, id_of, named, next_of, retired}
use Rattle.job_book.specs.Working.{with_its}
use Rattle.job_book.specs.declared.acceptance.Acceptance.TheVariants as answers
use Rattle.job_log.specs.Log.{ClaimsAreNew, JobView}
use Rattle.job_table.specs.Table.{AreApart, JobTable, changed, end_of, is_job, is_live, job_end, new_job, overlapped, overlaps, with_job}
use Rattle.job_table.specs.declared.job.Job.{Job}
use Rattle.job_table.specs.declared.job.Plan.{Plan}
use Rattle.nfs_base.specs.declared.job.JobName.{JobName}
use Rattle.nfs_base.specs.declared.limits.TheConstants.{MOST_JOBS}

-- ---- one element is another

some_of : (x y : Job) → Some x ≡ Some y → x ≡ y
some_of x y is = ap (λ (o : Option Job). unwrap_or o x) is

module _ (p : Job → Bool) (g : Job → Job) where
  first_found : (x : Job) (xs : List Job) → p x ≡ true → find p (x ∷ xs) ≡ Some x
  first_found x xs is = ap (λ (b : Bool). if b then Some x else find p xs) is

  later_found : (x : Job) (xs : List Job) (y : Job) → p x ≡ false → find p xs ≡ Some y → find p (x ∷ xs) ≡ Some y
  later_found x xs y is found = ap (λ (b : Bool). if b then Some x else find p xs) is ∙ found

  found_by : (P : Job → Type 0) (x : Job) (xs : List Job) (y : Job) (b : Bool) → (if b then Some x else find p xs) ≡ Some y → P x
      → (find p xs ≡ Some y → P y) → P y
  found_by P x xs y true is here rest = subst P (some_of x y is) here
  found_by P x xs y false is here rest = rest is

  pub found_has : (P : Job → Type 0) (xs : List Job) (y : Job) → All P xs → find p xs ≡ Some y → P y
  found_has P [] y all is = absurd (cc)
  found_has P (x ∷ xs) y all is = found_by P x xs y (p x) is (All-head P x xs all) (λ rest. found_has P xs y (All-tail P x xs all) rest)

  all_by : (P : Job → Type 0) (x : Job) (xs : List Job) (b : Bool) → p x ≡ b → P x → All P xs → ((y : Job) → find p (x ∷ xs) ≡ Some y → P (g y))
      → (((y : Job) → find p xs ≡ Some y → P (g y)) → All P (changed p g xs)) → All P (if b then g x ∷ xs else x ∷ changed p g xs)
  all_by P x xs true is here all given rest = All-cons P (g x) xs (given x (first_found x xs is)) all
  all_by P x xs false is here all given rest = All-cons P x (changed p g xs) here (rest (λ y found. given y (later_found x xs y is found)))

  pub all_changed : (P : Job → Type 0) (xs : List Job) → All P xs → ((y : Job) → find p xs ≡ Some y → P (g y)) → All P (changed p g xs)
  all_changed P [] all given = All-nil P
  all_changed P (x ∷ xs) all given =
      all_by P x xs (p x) refl (All-head P x xs all) (All-tail P x xs all) given (λ later. all_changed P xs (All-tail P x xs all) later)

  module _ (R : Job → Job → Type 0) where
    heads : (x : Job) (xs : List Job) → AllPairs R (x ∷ xs) → All (R x) xs
    heads x xs all k d low = all 0 (suc k) d (omega arith) (omega (arith, low))

    tails : (x : Job) (xs : List Job) → AllPairs R (x ∷ xs) → AllPairs R xs
    tails x xs all i j d less low = all (suc i) (suc j) d (omega (arith, less)) (omega (arith, low))

    pairs_by : (x : Job) (xs : List Job) (b : Bool) → p x ≡ b → All (R x) xs → AllPairs R xs
        → ((y z : Job) → find p (x ∷ xs) ≡ Some y → R y z → R (g y) z) → ((y z : Job) → find p (x ∷ xs) ≡ Some y → R z y → R z (g y))
        → (((y z : Job) → find p xs ≡ Some y → R y z → R (g y) z) → ((y z : Job) → find p xs ≡ Some y → R z y → R z (g y)) → AllPairs R (changed p g xs))
        → ((y : Job) → find p xs ≡ Some y → R x y) → AllPairs R (if b then g x ∷ xs else x ∷ changed p g xs)
    pairs_by x xs true is here all first second rest seen =
        AllPairs-cons R (g x) xs (All-weaker (R x) (R (g x)) (λ z r. first x z (first_found x xs is) r) xs here) all
    pairs_by x xs false is here all first second rest seen =
        AllPairs-cons R x (changed p g xs)
        (all_changed (R x) xs here (λ y found. second y x (later_found x xs y is found) (seen y found)))
        (rest (λ y z found. first y z (later_found x xs y is found)) (λ y z found. second y z (later_found x xs y is found)))

    pub pairs_changed : (xs : List Job) → AllPairs R xs → ((y z : Job) → find p xs ≡ Some y → R y z → R (g y) z)
        → ((y z : Job) → find p xs ≡ Some y → R z y → R z (g y)) → AllPairs R (changed p g xs)
    pairs_changed [] all first second = all
    pairs_changed (x ∷ xs) all first second =
        pairs_by x xs (p x) refl (heads x xs all) (tails x xs all) first second (λ f s. pairs_changed xs (tails x xs all) f s)
        (λ y found. found_has (R x) xs y (heads x xs all) found)

  long_by : (x : Job) (xs : List Job) (b : Bool) → length (changed p g xs) ≡ length xs → length (if b then g x ∷ xs else x ∷ changed p g xs) ≡ suc (length xs)
  long_by x xs true same = refl
  long_by x xs false same = ap suc same

  pub same_length : (xs : List Job) → length (changed p g xs) ≡ length xs
  same_length [] = refl
  same_length (x ∷ xs) = long_by x xs (p x) (same_length xs)

-- ---- a job has another log

abbrev pub IsGoodJob : Job → Type 0
IsGoodJob job = IsGood job.plan job.log

pub good_job : (t : JobTable) (name : JobName) (job : Job) → IsKept t → named t name ≡ Some job → IsGoodJob job
good_job t name job kept is =
    let p = is_job t.boot (id_of name) in
    record {
      lawful = found_has p (λ x. x) (λ (x : Job). IsLawful x.plan.consecutive x.log.entries) t.jobs job kept.sound.lawful is;
      claims = found_has p (λ x. x) (λ (x : Job). ClaimsAreNew x.log) t.jobs job kept.sound.claims is;
      order = found_has p (λ x. x) (λ (x : Job). x.log.consecutive ≡ x.plan.consecutive) t.jobs job kept.same_order is;
    }

module _ (f : JobView → JobView) where
  abbrev relogged : Job → Job
  relogged job = record job { log = f job.log }

  runs_if : (v w : Bool) → (w ≡ false → v ≡ false) → not w ≡ true → not v ≡ true
  runs_if v false runs is = ap not (runs refl)
  runs_if v true runs is = absurd (cc)

  apart_first : (capacity : ℕ) (y z : Job) → Follows capacity y.plan y.log (f y.log) → AreApart capacity y z → AreApart capacity (relogged y) z
  apart_first capacity y z follows apart file live other byte here there =
      apart file (runs_if (has_ended y.log.entries) (has_ended (f y.log).entries) follows.runs live) other byte (here.0, follows.covers byte here.1) there

  apart_second : (capacity : ℕ) (y z : Job) → Follows capacity y.plan y.log (f y.log) → AreApart capacity z y → AreApart capacity z (relogged y)
  apart_second capacity y z follows apart file other live byte there here =
      apart file other (runs_if (has_ended y.log.entries) (has_ended (f y.log).entries) follows.runs live) byte there (here.0, follows.covers byte here.1)

  pub log_keeps : (name : JobName) (b : BookView) → IsKept b.table
      → ((job : Job) → named b.table name ≡ Some job → Follows b.table.capacity job.plan job.log (f job.log)) → IsKept (with_its name f b).table
  log_keeps name b kept follows =
      let t = b.table in
      let p = is_job t.boot (id_of name) in
      let sound = kept.sound in
      let few = sound.few in
      record {
        sound = record {
          lawful = all_changed p relogged (λ (x : Job). IsLawful x.plan.consecutive x.log.entries) t.jobs sound.lawful (λ y is. (follows y is).good.lawful);
          claims = all_changed p relogged (λ (x : Job). ClaimsAreNew x.log) t.jobs sound.claims (λ y is. (follows y is).good.claims);
          apart = pairs_changed p relogged (AreApart t.capacity) t.jobs sound.apart (λ y z is r. apart_first t.capacity y z (follows y is) r)
              (λ y z is r. apart_second t.capacity y z (follows y is) r);
          few = let same = same_length p relogged t.jobs in omega (arith, same, few);
          rising = pairs_changed p relogged (λ (x y : Job). x.number < y.number) t.jobs sound.rising (λ y z is r. r) (λ y z is r. r);
          given = all_changed p relogged (λ (x : Job). (0 < x.number) × (x.number ≤ t.made)) t.jobs sound.given
              (λ y is. found_has p relogged (λ (x : Job). (0 < x.number) × (x.number ≤ t.made)) t.jobs y sound.given is);
        };
        same_order = all_changed p relogged (λ (x : Job). x.log.consecutive ≡ x.plan.consecutive) t.jobs kept.same_order (λ y is. (follows y is).good.order);
      }

-- ---- a job less

shorter_by : (q : Job → Bool) (x : Job) (xs : List Job) (b : Bool) → length (filter q xs) ≤ length xs → length (if b then x ∷ filter q xs else filter q xs) ≤ suc (length xs)
shorter_by q x xs true less = omega (arith, less)
shorter_by q x xs false less = omega (arith, less)

shorter : (q : Job → Bool) (xs : List Job) → length (filter q xs) ≤ length xs
shorter q [] = omega arith
shorter q (x ∷ xs) = shorter_by q x xs (q x) (shorter q xs)

pub end_keeps : (name : JobName) (b : BookView) → IsKept b.table → IsKept (retired name b).table
end_keeps name b kept =
    let t = b.table in
    let q : Job → Bool = λ job. not (is_job t.boot (id_of name) job) in
    let sound = kept.sound in
    let few = sound.few in
    record {
      sound = record {
        lawful = All-filter q (λ (x : Job). IsLawful x.plan.consecutive x.log.entries) t.jobs sound.lawful;
        claims = All-filter q (λ (x : Job). ClaimsAreNew x.log) t.jobs sound.claims;
        apart = AllPairs-filter (AreApart t.capacity) q t.jobs sound.apart;
        few = let less = shorter q t.jobs in omega (arith, less, few);
        rising = AllPairs-filter (λ (x y : Job). x.number < y.number) q t.jobs sound.rising;
        given = All-filter q (λ (x : Job). (0 < x.number) × (x.number ≤ t.made)) t.jobs sound.given;
      };
      same_order = All-filter q (λ (x : Job). x.log.consecutive ≡ x.plan.consecutive) t.jobs kept.same_order;
    }

-- ---- one more

none_by : (q : Job → Bool) (x : Job) (xs : List Job) (b : Bool) → q x ≡ b → (if b then Some x else find q xs) ≡ None
    → (find q xs ≡ None → All (λ y. q y ≡ false) xs) → All (λ y. q y ≡ false) (x ∷ xs)
none_by q x xs true is none rest = absurd (cc)
none_by q x xs false is none rest = All-cons (λ (y : Job). q y ≡ false) x xs is (rest none)

none_found : (q : Job → Bool) (xs : List Job) → find q xs ≡ None → All (λ y. q y ≡ false) xs
none_found q [] none = All-nil (λ (y : Job). q y ≡ false)
none_found q (x ∷ xs) none = none_by q x xs (q x) refl none (none_found q xs)

-- the highest of two that are below the lowest of two
between : (a b c d byte : ℕ) → a ≤ byte → byte < c → b ≤ byte → byte < d → max a b < min c d
between a b c d byte la hc lb hd = grind (arith, la, hc, lb, hd)

apart_new : (capacity made : ℕ) (plan : Plan) (job : Job) → overlaps capacity plan job ≡ false → AreApart capacity job (new_job (made + 1) plan)
apart_new capacity made plan job none file live other byte here there =
    let less = between plan.dst_off job.plan.dst_off (end_of capacity plan None) (job_end capacity job) byte there.0 there.1 here.0 here.1 in
    let meets : overlaps capacity plan job ≡ true =
    and_from (is_live job) ((plan.file == job.plan.file) && nat_lt (max plan.dst_off job.plan.dst_off) (min (end_of capacity plan None) (job_end capacity job))) live
    (and_from (plan.file == job.plan.file) (nat_lt (max plan.dst_off job.plan.dst_off) (min (end_of capacity plan None) (job_end capacity job)))
    (eq-eqb plan.file job.plan.file (sym file)) (lt-ltb (max plan.dst_off job.plan.dst_off) (min (end_of capacity plan None) (job_end capacity job)) less)) in
    absurd (cc)

no_entry : (consecutive : Bool) → IsLawful consecutive []
no_entry consecutive i e is = absurd (cc)

no_claim : (made : ℕ) (plan : Plan) → ClaimsAreNew (new_job (made + 1) plan).log
no_claim made plan j is = absurd (cc)

with_keeps : (plan : Plan) (t : JobTable) → overlapped t plan ≡ None → length t.jobs < MOST_JOBS → IsKept t → IsKept (with_job t plan)
with_keeps plan t none room kept =
    let new = new_job (t.made + 1) plan in
    let sound = kept.sound in
    let alone = none_found (overlaps t.capacity plan) t.jobs none in
    record {
      sound = record {
        lawful = All-push (λ (x : Job). IsLawful x.plan.consecutive x.log.entries) t.jobs new sound.lawful (no_entry plan.consecutive);
        claims = All-push (λ (x : Job). ClaimsAreNew x.log) t.jobs new sound.claims (no_claim t.made plan);
        apart = all_pairs_push (AreApart t.capacity) t.jobs new sound.apart
            (λ k d low. apart_new t.capacity t.made plan (slice_index_or t.jobs k d) (alone k d low));
        few = let long = length-append t.jobs (new ∷ []) in omega (arith, long, room);
        rising = all_pairs_push (λ (x y : Job). x.number < y.number) t.jobs new sound.rising
            (λ k d low. let most = (sound.given k d low).1 in omega (arith, most));
        given = All-push (λ (x : Job). (0 < x.number) × (x.number ≤ t.made + 1)) t.jobs new
            (All-weaker (λ (x : Job). (0 < x.number) × (x.number ≤ t.made)) (λ (x : Job). (0 < x.number) × (x.number ≤ t.made + 1))
            (λ x h. let most = h.1 in (h.0, omega (arith, most))) t.jobs sound.given)
            (omega arith, omega arith);
      };
      same_order = All-push (λ (x : Job). x.log.consecutive ≡ x.plan.consecutive) t.jobs new kept.same_order refl;
    }

room_keeps : (plan : Plan) (b : BookView) (room : Bool) → overlapped b.table plan ≡ None → nat_lt (length b.table.jobs) MOST_JOBS ≡ room → IsKept b.table
    → IsKept (after_accept (if room then answers.Accepted (next_of b.table) else answers.Full) plan b).table
room_keeps plan b true none is kept = with_keeps plan b.table none (ltb-true (length b.table.jobs) MOST_JOBS is) kept
room_keeps plan b false none is kept = kept

apart_keeps : (plan : Plan) (b : BookView) (found : Option Job) → overlapped b.table plan ≡ found → IsKept b.table
    → IsKept (after_accept (accept_apart found b.table) plan b).table
apart_keeps plan b (Some job) is kept = kept
apart_keeps plan b None is kept = room_keeps plan b (nat_lt (length b.table.jobs) MOST_JOBS) is refl kept

far_keeps : (plan : Plan) (b : BookView) (far : Bool) → IsKept b.table
    → IsKept (after_accept (if far then answers.TooFar else accept_apart (overlapped b.table plan) b.table) plan b).table
far_keeps plan b true kept = kept
far_keeps plan b false kept = apart_keeps plan b (overlapped b.table plan) refl kept

pub accept_keeps : (plan : Plan) (b : BookView) → IsKept b.table → IsKept (after_accept (accept_answer b.table plan) plan b).table
accept_keeps plan b kept = far_keeps plan b (nat_lt b.table.capacity (plan.dst_off + plan.count)) kept
