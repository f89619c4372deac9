-- Lists of which the first element that passes a test is changed, and what holds of their pairs.
use Rattle.std.proofs.Common.{◌≡◌, ℕ, zero, suc, ◌<◌, Bool, true, false, List, [], ◌∷◌, length, get_or, set, Some, None, refl, ap, sym, ◌∙◌, subst, arith, inl, inr, length-set}
use Rattle.std.specs.Prelude.{◌≢◌, ◌⊎◌, find, AllPairs, if◌then◌else◌}
use Rattle.std.proofs.lemmas.Bool.{cases_eq}
use Rattle.std.proofs.lemmas.Grind.{common_steps}
use Rattle.std.proofs.lemmas.List.{get_or-set_same, get_or-set_other}
use Rattle.job_table.specs.Table.{changed}

-- the first value that passes stands at a place, and a change of it is a write there
pub record IsSeat {X : Type 0} (test : X → Bool) (f : X → X) (xs : List X) (x : X) : Type 0 where
  pub at : ℕ
  pub within : at < length xs
  pub value : x ≡ get_or xs at x
  pub changes : changed test f xs ≡ set xs at (f x)
  pub hits : test x ≡ true

seat_step : {X : Type 0} (test : X → Bool) (f : X → X) (x y : X) (xs : List X) (b : Bool) → test y ≡ b → (if b then Some y else find test xs) ≡ Some x
    → (find test xs ≡ Some x → IsSeat test f xs x) → IsSeat test f (y ∷ xs) x
seat_step test f x y xs true is found ih =
    let same : y ≡ x = cc in
    record {
      at = 0;
      within = omega arith;
      value = sym same;
      changes = ap (λ (c : Bool). if c then f y ∷ xs else y ∷ changed test f xs) is ∙ ap (λ v. f v ∷ xs) same;
      hits = ap test (sym same) ∙ is;
    }
seat_step test f x y xs false is found ih =
    let h = ih found in
    let within = h.within in
    record {
      at = suc h.at;
      within = omega arith;
      value = h.value;
      changes = ap (λ (c : Bool). if c then f y ∷ xs else y ∷ changed test f xs) is ∙ ap (λ ys. y ∷ ys) h.changes;
      hits = h.hits;
    }

-- where the value that is found stands
pub seat : {X : Type 0} (test : X → Bool) (f : X → X) (xs : List X) (x : X) → find test xs ≡ Some x → IsSeat test f xs x
seat test f [] x found = absurd (cc)
seat test f (y ∷ xs) x found = seat_step test f x y xs (test y) refl found (λ h. seat test f xs x h)

none_step : {X : Type 0} (test : X → Bool) (f : X → X) (y : X) (xs : List X) (b : Bool) → test y ≡ b → (if b then Some y else find test xs) ≡ None
    → (find test xs ≡ None → changed test f xs ≡ xs) → changed test f (y ∷ xs) ≡ y ∷ xs
none_step test f y xs true is none ih = absurd (cc)
none_step test f y xs false is none ih = ap (λ (c : Bool). if c then f y ∷ xs else y ∷ changed test f xs) is ∙ ap (λ ys. y ∷ ys) (ih none)

-- where none is found nothing changes
pub changed_none : {X : Type 0} (test : X → Bool) (f : X → X) (xs : List X) → find test xs ≡ None → changed test f xs ≡ xs
changed_none test f [] none = refl
changed_none test f (y ∷ xs) none = none_step test f y xs (test y) refl none (λ h. changed_none test f xs h)

same_default : {X : Type 0} (xs : List X) (i : ℕ) (d e : X) → i < length xs → get_or xs i d ≡ get_or xs i e
same_default [] i d e lt = absurd (omega arith)
same_default (x ∷ xs) zero d e lt = refl
same_default (x ∷ xs) (suc i) d e lt = same_default xs i d e (omega arith)

pair_at : {X : Type 0} (R : X → X → Type 0) (xs : List X) (at : ℕ) (x y : X) → x ≡ get_or xs at x → at < length xs
    → ((z : X) → R x z → R y z) → ((z : X) → R z x → R z y) → AllPairs R xs
    → (i j : ℕ) (d : X) → i < j → j < length xs → (i ≡ at) ⊎ (i ≢ at) → (j ≡ at) ⊎ (j ≢ at)
    → R (get_or (set xs at y) i d) (get_or (set xs at y) j d)
pair_at {X} R xs at x y is within left right pairs i j d lt inside (inl a) (inl b) = absurd (omega arith)
pair_at {X} R xs at x y is within left right pairs i j d lt inside (inl a) (inr b) =
    let first : get_or (set xs at y) i d ≡ y = ap (λ (k : ℕ). get_or (set xs at y) k d) a ∙ get_or-set_same xs at y d within in
    let second : get_or (set xs at y) j d ≡ get_or xs j d = get_or-set_other xs at j y d b in
    let was : get_or xs i x ≡ x = ap (λ (k : ℕ). get_or xs k x) a ∙ sym is in
    let whole : R x (get_or xs j d) = subst (λ (v : X). R v (get_or xs j d)) was (subst (λ (v : X). R (get_or xs i x) v) (same_default xs j x d inside) (pairs i j x lt inside)) in
    subst (λ (v : X). R v (get_or (set xs at y) j d)) (sym first) (subst (λ (v : X). R y v) (sym second) (left _ whole))
pair_at {X} R xs at x y is within left right pairs i j d lt inside (inr a) (inl b) =
    let first : get_or (set xs at y) i d ≡ get_or xs i d = get_or-set_other xs at i y d a in
    let second : get_or (set xs at y) j d ≡ y = ap (λ (k : ℕ). get_or (set xs at y) k d) b ∙ get_or-set_same xs at y d within in
    let was : get_or xs j x ≡ x = ap (λ (k : ℕ). get_or xs k x) b ∙ sym is in
    let whole : R (get_or xs i d) x = subst (λ (v : X). R (get_or xs i d) v) was (subst (λ (v : X). R v (get_or xs j x)) (same_default xs i x d (omega arith)) (pairs i j x lt inside)) in
    subst (λ (v : X). R v (get_or (set xs at y) j d)) (sym first) (subst (λ (v : X). R (get_or xs i d) v) (sym second) (right _ whole))
pair_at {X} R xs at x y is within left right pairs i j d lt inside (inr a) (inr b) =
    let first : get_or (set xs at y) i d ≡ get_or xs i d = get_or-set_other xs at i y d a in
    let second : get_or (set xs at y) j d ≡ get_or xs j d = get_or-set_other xs at j y d b in
    subst (λ (v : X). R v (get_or (set xs at y) j d)) (sym first) (subst (λ (v : X). R (get_or xs i d) v) (sym second) (pairs i j d lt inside))

-- what holds of all pairs holds after a write that keeps it
pub AllPairs-set : {X : Type 0} (R : X → X → Type 0) (xs : List X) (at : ℕ) (x y : X) → x ≡ get_or xs at x → at < length xs
    → ((z : X) → R x z → R y z) → ((z : X) → R z x → R z y) → AllPairs R xs → AllPairs R (set xs at y)
AllPairs-set R xs at x y is within left right pairs i j d lt inside =
    let n = length-set xs at y in
    pair_at R xs at x y is within left right pairs i j d lt (omega arith) (cases_eq i at) (cases_eq j at)

-- where none passes, each fails
pub none_passes : {X : Type 0} (test : X → Bool) (xs : List X) → find test xs ≡ None → (k : ℕ) (d : X) → k < length xs → test (get_or xs k d) ≡ false
none_passes test [] none k d lt = absurd (omega arith)
none_passes test (x ∷ xs) none k d lt = grind (arith, common_steps, none_passes test xs)
