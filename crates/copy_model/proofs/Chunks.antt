-- Where the first chunk begins that has not landed, for any log: nothing here knows of a cursor.
use Rattle.std.proofs.Common.{◌≡◌, ℕ, zero, suc, ◌+◌, ◌*◌, ◌<◌, ◌≤◌, Bool, true, false, Option, None, Some, List, refl, ap, arith, inl, inr, subst}
use Rattle.std.specs.Prelude.{◌⊎◌, if◌then◌else◌}
use Rattle.std.proofs.lemmas.Bool.{cases_eq, cases_order, both_ways}
use Rattle.copy_model.specs.Job.{Entry, FirstUnlanded, has_landed, chunk_size, chunks_of, IsChunk, unlanded_from, unlanded}

-- of n chunks from the k-th on, the first that has not landed begins at off
record Found (es : List Entry) (k n off : ℕ) : Type 0 where
  number : ℕ
  from : k ≤ number
  below : number < k + n
  start : off ≡ number * chunk_size
  is_new : has_landed es off ≡ false
  earlier : (i : ℕ) → k ≤ i → i < number → has_landed es (i * chunk_size) ≡ true

landed_at : (es : List Entry) (at : ℕ) → has_landed es at ≡ true → (i : ℕ) → at ≡ i * chunk_size → has_landed es (i * chunk_size) ≡ true
landed_at es at landed i e = let P : ℕ → Type 0 = λ n. has_landed es n ≡ true in subst P e landed

earlier_at : (es : List Entry) (k at off n : ℕ) → at ≡ k * chunk_size → has_landed es at ≡ true → (f : Found es (k + 1) n off)
    → (i : ℕ) → k ≤ i → i < f.number → (k ≡ i) ⊎ (k ≡ i → ⊥) → has_landed es (i * chunk_size) ≡ true
earlier_at es k at off n s l f i ge lt (inl e) = landed_at es at l i (omega arith)
earlier_at es k at off n s l f i ge lt (inr ne) = f.earlier i (omega arith) lt

found_at : (es : List Entry) (n k at off : ℕ) (b : Bool) → at ≡ k * chunk_size → has_landed es at ≡ b
    → (if b then unlanded_from es (at + chunk_size) n else Some at) ≡ Some off
    → (unlanded_from es (at + chunk_size) n ≡ Some off → Found es (k + 1) n off)
    → Found es k (suc n) off
found_at es n k at off true s l e rest =
    let f = rest e in
    record {
      number = f.number;
      from = let g = f.from in omega arith;
      below = let g = f.below in omega arith;
      start = f.start;
      is_new = f.is_new;
      earlier = λ i ge lt. earlier_at es k at off n s l f i ge lt (cases_eq k i);
    }
found_at es n k at off false s l e rest =
    let same : at ≡ off = cc in
    let P : ℕ → Type 0 = λ o. has_landed es o ≡ false in
    record {
      number = k;
      from = omega arith;
      below = omega arith;
      start = omega arith;
      is_new = subst P same l;
      earlier = λ i ge lt. absurd (omega arith);
    }

found : (es : List Entry) (n k at off : ℕ) → at ≡ k * chunk_size → unlanded_from es at n ≡ Some off → Found es k n off
found es zero k at off s e = absurd (cc)
found es (suc n) k at off s e =
    found_at es n k at off (has_landed es at) s refl e (λ h. found es n (k + 1) (at + chunk_size) off (omega arith) h)

-- the chunk that unlanded gives is the first that has not landed
pub unlanded-Some : (es : List Entry) (total off : ℕ) → unlanded es total ≡ Some off → FirstUnlanded es total off
unlanded-Some es total off e =
    let f = found es (chunks_of total) 0 0 off (omega arith) e in
    record {
      chunk = record { number = f.number; start = f.start; within = let b = f.below in let s = f.start in omega arith };
      is_new = f.is_new;
      earlier = λ start c lt.
          let P : ℕ → Type 0 = λ n. has_landed es n ≡ true in
          let s : c.number * chunk_size ≡ start = (let t = c.start in omega arith) in
          subst P s (f.earlier c.number (omega arith) (let t = f.start in omega arith));
    }

none_at : (es : List Entry) (n k at : ℕ) (b : Bool) → at ≡ k * chunk_size → has_landed es at ≡ b
    → (if b then unlanded_from es (at + chunk_size) n else Some at) ≡ None
    → (unlanded_from es (at + chunk_size) n ≡ None → (i : ℕ) → k + 1 ≤ i → i < (k + 1) + n → has_landed es (i * chunk_size) ≡ true)
    → (i : ℕ) → k ≤ i → i < k + suc n → (k ≡ i) ⊎ (k ≡ i → ⊥) → has_landed es (i * chunk_size) ≡ true
none_at es n k at false s l e rest i ge lt here = absurd (cc)
none_at es n k at true s l e rest i ge lt (inl same) = landed_at es at l i (omega arith)
none_at es n k at true s l e rest i ge lt (inr other) = rest e i (omega arith) (omega arith)

none : (es : List Entry) (n k at : ℕ) → at ≡ k * chunk_size → unlanded_from es at n ≡ None
    → (i : ℕ) → k ≤ i → i < k + n → has_landed es (i * chunk_size) ≡ true
none es zero k at s e i ge lt = absurd (omega arith)
none es (suc n) k at s e i ge lt =
    none_at es n k at (has_landed es at) s refl e (λ h. none es n (k + 1) (at + chunk_size) (omega arith) h) i ge lt (cases_eq k i)

-- where unlanded gives no chunk, every chunk has landed
pub unlanded-None : (es : List Entry) (total : ℕ) → unlanded es total ≡ None → (off : ℕ) → IsChunk total off → has_landed es off ≡ true
unlanded-None es total e off c =
    let P : ℕ → Type 0 = λ n. has_landed es n ≡ true in
    let s : c.number * chunk_size ≡ off = (let t = c.start in omega arith) in
    subst P s (none es (chunks_of total) 0 0 (omega arith) e c.number (omega arith) (let t = c.start in let w = c.within in omega arith))

same_first : (es : List Entry) (total a b : ℕ) → FirstUnlanded es total a → FirstUnlanded es total b
    → (a ≡ b) ⊎ ((a < b) ⊎ (b < a)) → a ≡ b
same_first es total a b f g (inl same) = same
same_first es total a b f g (inr (inl before)) = absurd (both_ways (has_landed es a) f.is_new (g.earlier a f.chunk before))
same_first es total a b f g (inr (inr after)) = absurd (both_ways (has_landed es b) g.is_new (f.earlier b g.chunk after))

first_of_all : (es : List Entry) (total off : ℕ) (o : Option ℕ) → unlanded es total ≡ o → FirstUnlanded es total off → o ≡ Some off
first_of_all es total off None e f = absurd (both_ways (has_landed es off) f.is_new (unlanded-None es total e off f.chunk))
first_of_all es total off (Some at) e f =
    ap (λ (n : ℕ). Some n) (same_first es total at off (unlanded-Some es total at e) f (cases_order at off))

-- only one chunk is the first that has not landed
pub unlanded-FirstUnlanded : (es : List Entry) (total off : ℕ) → FirstUnlanded es total off → unlanded es total ≡ Some off
unlanded-FirstUnlanded es total off f = first_of_all es total off (unlanded es total) refl f

none_of_all : (es : List Entry) (total : ℕ) (o : Option ℕ) → unlanded es total ≡ o
    → ((off : ℕ) → IsChunk total off → has_landed es off ≡ true) → o ≡ None
none_of_all es total None e all = refl
none_of_all es total (Some at) e all =
    let f = unlanded-Some es total at e in
    absurd (both_ways (has_landed es at) f.is_new (all at f.chunk))

-- where every chunk has landed, unlanded gives none
pub unlanded-all_landed : (es : List Entry) (total : ℕ) → ((off : ℕ) → IsChunk total off → has_landed es off ≡ true) → unlanded es total ≡ None
unlanded-all_landed es total all = none_of_all es total (unlanded es total) refl all
