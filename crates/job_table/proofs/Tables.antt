-- Each call keeps what holds of every table.
use Rattle.std.proofs.Common.{◌≡◌, ℕ, ◌+◌, ◌≤◌, ◌<◌, Bool, true, false, List, [], ◌∷◌, ◌++◌, length, get_or, set, Option, Some, None, inl, inr, refl, ap, sym, ◌∙◌, subst, arith, length-set, length-append}
use Rattle.std.specs.Prelude.{◌⊎◌, ◌==◌, ◌&&◌, ◌||◌, not, max, min, nat_lt, All, find, filter, IfSome, IfNone, Result, Ok, Err, OnOk, if◌then◌else◌}
use Rattle.std.proofs.lemmas.Bool.{lt-ltb, both_ways, eq-eqb}
use Rattle.std.proofs.lemmas.List.Elements.{All-nil, All-cons, All-append, All-set, All-filter}
use Rattle.std.proofs.lemmas.List.Kept.{AllPairs-filter}
use Rattle.std.proofs.lemmas.List.Quantifiers.{all_pairs_push}
use Rattle.std.proofs.lemmas.List.Folds.{list_any-append}
use Rattle.copy_model.specs.Job.{Entry, Sized, Landed, size_of, is_end, has_ended}
use Rattle.job_log.specs.declared.chunk.Chunk.{Chunk}
use Rattle.job_log.specs.declared.chunk.Landing.{Landing}
use Rattle.job_log.specs.declared.chunk.Landing.TheVariants.{Landed as has_come, Held, Late}
use Rattle.job_log.specs.Log.{JobView, is_claimed, with_claim, given_back, after_landing}
use Rattle.job_table.specs.declared.job.Plan.{Plan}
use Rattle.job_table.specs.declared.job.Job.{Job}
use Rattle.job_table.specs.Table.{is_live, open_end, end_of, job_end, AreApart, overlaps, IsTable, CanSize, changed}
use Rattle.job_table.proofs.Lists.{AllPairs-set, seat, none_passes}

abbrev pub relogged : Job → JobView → Job
relogged job log = record job { log = log }

-- a log that may follow: the job covers no further byte, and doesn't run again
pub record Follows (capacity : ℕ) (job : Job) (log : JobView) : Type 0 where
  pub order : log.consecutive ≡ job.log.consecutive
  pub ends : has_ended log.entries ≡ false → has_ended job.log.entries ≡ false
  pub shrinks : end_of capacity job.plan (size_of log.entries) ≤ job_end capacity job

running : (b : Bool) → not b ≡ true → b ≡ false
running true e = sym e
running false e = refl

runs : (b : Bool) → b ≡ false → not b ≡ true
runs b e = ap (λ (x : Bool). not x) e

apart_left : (capacity : ℕ) (x : Job) (log : JobView) → Follows capacity x log → (z : Job) → AreApart capacity x z → AreApart capacity (relogged x log) z
apart_left capacity x log f z apart file live other byte here there =
    let s = f.shrinks in
    let h = here.0 in
    let k = here.1 in
    apart file (runs _ (f.ends (running _ live))) other byte (h, omega arith) there

apart_right : (capacity : ℕ) (x : Job) (log : JobView) → Follows capacity x log → (z : Job) → AreApart capacity z x → AreApart capacity z (relogged x log)
apart_right capacity x log f z apart file other live byte there here =
    let s = f.shrinks in
    let h = here.0 in
    let k = here.1 in
    apart file other (runs _ (f.ends (running _ live))) byte there (h, omega arith)

at_place : {X : Type 0} (P : X → Type 0) (xs : List X) (at : ℕ) (x : X) → All P xs → at < length xs → x ≡ get_or xs at x → P x
at_place {X} P xs at x all lt is = subst (λ (v : X). P v) (sym is) (all at x lt)

-- a table in which one job has another log
pub table_set : (capacity made : ℕ) (jobs : List Job) (at : ℕ) (x : Job) (log : JobView) → IsTable capacity made jobs → at < length jobs
    → x ≡ get_or jobs at x → Follows capacity x log → IsTable capacity made (set jobs at (relogged x log))
table_set capacity made jobs at x log t lt is f =
    let n = length-set jobs at (relogged x log) in
    let few = t.few in
    let fit = at_place (λ (j : Job). (j.plan.dst_off + j.plan.count ≤ capacity) × (job_end capacity j ≤ capacity)) jobs at x t.fits lt is in
    let shrinks = f.shrinks in
    record {
      rising = AllPairs-set (λ (a b : Job). a.number < b.number) jobs at x (relogged x log) is lt (λ z h. h) (λ z h. h) t.rising;
      given = All-set (λ (j : Job). (0 < j.number) × (j.number ≤ made)) jobs at (relogged x log) (at_place (λ (j : Job). (0 < j.number) × (j.number ≤ made)) jobs at x t.given lt is) t.given;
      few = omega arith;
      same_order = All-set (λ (j : Job). j.log.consecutive ≡ j.plan.consecutive) jobs at (relogged x log) (f.order ∙ at_place (λ (j : Job). j.log.consecutive ≡ j.plan.consecutive) jobs at x t.same_order lt is) t.same_order;
      fits = All-set (λ (j : Job). (j.plan.dst_off + j.plan.count ≤ capacity) × (job_end capacity j ≤ capacity)) jobs at (relogged x log) (fit.0, (let e = fit.1 in omega arith)) t.fits;
      apart = AllPairs-set (AreApart capacity) jobs at x (relogged x log) is lt (apart_left capacity x log f) (apart_right capacity x log f) t.apart;
    }

-- a table in which the job that is found has another log
pub table_changed : (capacity made : ℕ) (jobs : List Job) (test : Job → Bool) (x : Job) (log : JobView) → IsTable capacity made jobs → find test jobs ≡ Some x
    → Follows capacity x log → IsTable capacity made (changed test (λ job. relogged job log) jobs)
table_changed capacity made jobs test x log t found f =
    let s = seat test (λ job. relogged job log) jobs x found in
    rw s.changes (table_set capacity made jobs s.at x log t s.within s.value f)

-- ---- which logs follow

same_size : (capacity : ℕ) (x : Job) (a : Option ℕ) → a ≡ size_of x.log.entries → end_of capacity x.plan a ≤ job_end capacity x
same_size capacity x a e = let h = ap (λ (o : Option ℕ). end_of capacity x.plan o) e in omega arith

pub follows_claims : (capacity : ℕ) (x : Job) (log : JobView) → log.consecutive ≡ x.log.consecutive → log.entries ≡ x.log.entries → Follows capacity x log
follows_claims capacity x log order same =
    record {
      order = order;
      ends = λ e. sym (ap (λ (es : List Entry). has_ended es) same) ∙ e;
      shrinks = same_size capacity x _ (ap (λ (es : List Entry). size_of es) same);
    }

-- what the laws of logs say of the size
pub record SizeLaws : Type 0 where
  pub sized : (es : List Entry) (e : Entry) (len : ℕ) → size_of es ≡ Some len → size_of (es ++ e ∷ []) ≡ Some len
  pub size : (es : List Entry) (e : Entry) (len : ℕ) → size_of (es ++ e ∷ []) ≡ Some len
      → (size_of es ≡ Some len) ⊎ ((size_of es ≡ None) × (e ≡ Sized len))

-- an entry that gives none leaves it as it was
size_stays : SizeLaws → (es : List Entry) (e : Entry) → size_of (e ∷ []) ≡ None → size_of (es ++ e ∷ []) ≡ size_of es
size_stays laws es e none = by (size_of es) (size_of (es ++ e ∷ [])) refl refl
  where
    new : (len : ℕ) → size_of es ≡ None → (size_of es ≡ Some len) ⊎ ((size_of es ≡ None) × (e ≡ Sized len)) → ⊥
    new len was (inl is) = cc
    new len was (inr is) = let gives : size_of (e ∷ []) ≡ Some len = ap (λ (x : Entry). size_of (x ∷ [])) is.1 in cc

    by : (was now : Option ℕ) → size_of es ≡ was → size_of (es ++ e ∷ []) ≡ now → size_of (es ++ e ∷ []) ≡ size_of es
    by (Some len) now was_is now_is = laws.sized es e len was_is ∙ sym was_is
    by None None was_is now_is = now_is ∙ sym was_is
    by None (Some len) was_is now_is = absurd (new len was_is (laws.size es e len now_is))

left_false : (a b : Bool) → (a || b) ≡ false → a ≡ false
left_false true b e = e
left_false false b e = refl

still_ran : (es : List Entry) (e : Entry) → has_ended (es ++ e ∷ []) ≡ false → has_ended es ≡ false
still_ran es e h = left_false (has_ended es) _ (sym (list_any-append is_end es (e ∷ [])) ∙ h)

pub follows_entry : SizeLaws → (capacity : ℕ) (x : Job) (log : JobView) (e : Entry) → log.consecutive ≡ x.log.consecutive → log.entries ≡ x.log.entries ++ e ∷ []
    → size_of (e ∷ []) ≡ None → Follows capacity x log
follows_entry laws capacity x log e order more sizes =
    record {
      order = order;
      ends = λ h. still_ran x.log.entries e (sym (ap (λ (es : List Entry). has_ended es) more) ∙ h);
      shrinks = same_size capacity x _ (ap (λ (es : List Entry). size_of es) more ∙ size_stays laws x.log.entries e sizes);
    }

follows_if : (capacity : ℕ) (x : Job) (log : JobView) (chunk : Chunk) (b : Bool) → log ≡ (if b then with_claim x.log chunk false else x.log) → Follows capacity x log
follows_if capacity x log chunk true is = follows_claims capacity x log (ap (λ (v : JobView). v.consecutive) is) (ap (λ (v : JobView). v.entries) is)
follows_if capacity x log chunk false is = follows_claims capacity x log (ap (λ (v : JobView). v.consecutive) is) (ap (λ (v : JobView). v.entries) is)

pub follows_back : (capacity : ℕ) (x : Job) (log : JobView) (chunk : Chunk) → log ≡ given_back x.log chunk → Follows capacity x log
follows_back capacity x log chunk is = follows_if capacity x log chunk (is_claimed x.log chunk) is

pub follows_landing : SizeLaws → (capacity : ℕ) (x : Job) (log : JobView) (chunk : Chunk) (answer : Landing) → log ≡ after_landing x.log chunk answer → Follows capacity x log
follows_landing laws capacity x log chunk has_come is =
    follows_entry laws capacity x log (Landed chunk.off chunk.len) (ap (λ (v : JobView). v.consecutive) is) (ap (λ (v : JobView). v.entries) is) refl
follows_landing laws capacity x log chunk Held is = follows_claims capacity x log (ap (λ (v : JobView). v.consecutive) is) (ap (λ (v : JobView). v.entries) is)
follows_landing laws capacity x log chunk Late is = follows_claims capacity x log (ap (λ (v : JobView). v.consecutive) is) (ap (λ (v : JobView). v.entries) is)

sized_end : (capacity : ℕ) (plan : Plan) (len : ℕ) (b : Bool) → (plan.count == 0) ≡ b → plan.dst_off + len ≤ capacity
    → (if b then open_end capacity plan.dst_off (Some len) else plan.dst_off + plan.count) ≤ (if b then open_end capacity plan.dst_off None else plan.dst_off + plan.count)
sized_end capacity plan len true is fits = fits
sized_end capacity plan len false is fits = omega arith

pub follows_size : (capacity : ℕ) (x : Job) (log : JobView) (len : ℕ) → log.consecutive ≡ x.log.consecutive → size_of log.entries ≡ Some len
    → CanSize capacity x len → Follows capacity x log
follows_size capacity x log len order now can =
    let a = ap (λ (o : Option ℕ). end_of capacity x.plan o) now in
    let b = ap (λ (o : Option ℕ). end_of capacity x.plan o) can.not_sized in
    let c = sized_end capacity x.plan len (x.plan.count == 0) refl can.fits in
    record {
      order = order;
      ends = λ h. can.running;
      shrinks = omega arith;
    }

-- ---- claims

pub follows_claimed : (capacity : ℕ) (x : Job) (log : JobView) (r : Option Chunk) → IfSome r (λ chunk. log ≡ with_claim x.log chunk true) → IfNone r (log ≡ x.log)
    → Follows capacity x log
follows_claimed capacity x log None some none = follows_claims capacity x log (ap (λ (v : JobView). v.consecutive) none) (ap (λ (v : JobView). v.entries) none)
follows_claimed capacity x log (Some chunk) some none = follows_claims capacity x log (ap (λ (v : JobView). v.consecutive) some) (ap (λ (v : JobView). v.entries) some)

-- ---- fewer and more jobs

filter_le_at : (p : Job → Bool) (x : Job) (xs : List Job) (b : Bool) → p x ≡ b → length (filter p xs) ≤ length xs → length (if b then x ∷ filter p xs else filter p xs) ≤ length (x ∷ xs)
filter_le_at p x xs true is h = omega arith
filter_le_at p x xs false is h = omega arith

filter_le : (p : Job → Bool) (xs : List Job) → length (filter p xs) ≤ length xs
filter_le p [] = omega arith
filter_le p (x ∷ xs) = filter_le_at p x xs (p x) refl (filter_le p xs)

-- a table without some jobs
pub table_filter : (capacity made : ℕ) (jobs : List Job) (p : Job → Bool) → IsTable capacity made jobs → IsTable capacity made (filter p jobs)
table_filter capacity made jobs p t =
    let n = filter_le p jobs in
    let few = t.few in
    record {
      rising = AllPairs-filter (λ (a b : Job). a.number < b.number) p jobs t.rising;
      given = All-filter p (λ (j : Job). (0 < j.number) × (j.number ≤ made)) jobs t.given;
      few = omega arith;
      same_order = All-filter p (λ (j : Job). j.log.consecutive ≡ j.plan.consecutive) jobs t.same_order;
      fits = All-filter p (λ (j : Job). (j.plan.dst_off + j.plan.count ≤ capacity) × (job_end capacity j ≤ capacity)) jobs t.fits;
      apart = AllPairs-filter (AreApart capacity) p jobs t.apart;
    }

no_lt : (a b : ℕ) → nat_lt a b ≡ false → a < b → ⊥
no_lt a b isnt lt = both_ways (nat_lt a b) isnt (lt-ltb a b lt)

misses : (live same meets : Bool) → (live && (same && meets)) ≡ false → live ≡ true → same ≡ true → meets ≡ false
misses true true meets e l s = e
misses true false meets e l s = absurd (cc)
misses false same meets e l s = absurd (cc)

apart_new : (capacity : ℕ) (y z : Job) → size_of y.log.entries ≡ None → overlaps capacity y.plan z ≡ false → AreApart capacity z y
apart_new capacity y z unsized none file live other byte there here =
    let meets = misses (is_live z) (y.plan.file == z.plan.file) _ none live (eq-eqb y.plan.file z.plan.file (sym file)) in
    let e = ap (λ (o : Option ℕ). end_of capacity y.plan o) unsized in
    let a = there.0 in
    let b = there.1 in
    let c = here.0 in
    let d = here.1 in
    no_lt (max y.plan.dst_off z.plan.dst_off) (min (end_of capacity y.plan None) (job_end capacity z)) meets (omega arith)

new_end : (capacity : ℕ) (plan : Plan) (b : Bool) → plan.dst_off + plan.count ≤ capacity
    → (if b then open_end capacity plan.dst_off None else plan.dst_off + plan.count) ≤ capacity
new_end capacity plan true fits = omega arith
new_end capacity plan false fits = fits

-- a table with one job more
pub table_push : (capacity made : ℕ) (jobs : List Job) (y : Job) → IsTable capacity made jobs → length jobs < 16 → y.number ≡ made + 1
    → y.log.consecutive ≡ y.plan.consecutive → size_of y.log.entries ≡ None → y.plan.dst_off + y.plan.count ≤ capacity
    → find (overlaps capacity y.plan) jobs ≡ None → IsTable capacity (made + 1) (jobs ++ y ∷ [])
table_push capacity made jobs y t few number order unsized fits apart =
    let n = length-append jobs (y ∷ []) in
    let e = ap (λ (o : Option ℕ). end_of capacity y.plan o) unsized in
    let f = new_end capacity y.plan (y.plan.count == 0) fits in
    let G : Job → Type 0 = λ j. (0 < j.number) × (j.number ≤ made + 1) in
    let O : Job → Type 0 = λ j. j.log.consecutive ≡ j.plan.consecutive in
    let F : Job → Type 0 = λ j. (j.plan.dst_off + j.plan.count ≤ capacity) × (job_end capacity j ≤ capacity) in
    record {
      rising = all_pairs_push (λ (a b : Job). a.number < b.number) jobs y t.rising (λ k d lt. let g = (t.given k d lt).1 in omega arith);
      given = All-append G jobs (y ∷ []) (λ k d lt. let g = t.given k d lt in (g.0, (let h = g.1 in omega arith))) (All-cons G y [] (omega arith, omega arith) (All-nil G));
      few = omega arith;
      same_order = All-append O jobs (y ∷ []) t.same_order (All-cons O y [] order (All-nil O));
      fits = All-append F jobs (y ∷ []) t.fits (All-cons F y [] (fits, omega arith) (All-nil F));
      apart = all_pairs_push (AreApart capacity) jobs y t.apart (λ k d lt. apart_new capacity y (get_or jobs k d) unsized (none_passes (overlaps capacity y.plan) jobs apart k d lt));
    }

pub on_ok : {A E : Type 0} (r : Result A E) (P Q : Type 0) → OnOk r P → (P → Q) → OnOk r Q
on_ok (Ok a) P Q h f = f h
on_ok (Err e) P Q h f = h
