-- A row of keys, and the list of the values that are found under them.
use Rattle.std.proofs.Common.{◌≡◌, ℕ, suc, Bool, true, false, List, [], ◌∷◌, ◌++◌, length, Option, Some, None, refl, ap, sym, ◌∙◌, subst, arith}
use Rattle.std.specs.Prelude.{◌≢◌, not, IsSome, find, filter, All, AllPairs, if◌then◌else◌, option_and_then}
use Rattle.std.specs.List.{filter_map, cons_option}
use Rattle.std.proofs.lemmas.List.Elements.{All-nil, All-cons, All-head, All-tail, All-push, filter_map-append}
use Rattle.std.proofs.lemmas.List.Quantifiers.{all_pairs_push}
use Rattle.job_table.specs.Table.{changed, passes}

hit_step : (p : ℕ → Bool) (k key : ℕ) (r : Option ℕ) (b : Bool) → p k ≡ b → (r ≡ Some key → p key ≡ true) → (if b then Some k else r) ≡ Some key → p key ≡ true
hit_step p k key r true is ih e = let same : k ≡ key = cc in ap p (sym same) ∙ is
hit_step p k key r false is ih e = ih e

-- the key that is found passes
pub hit : (p : ℕ → Bool) (ks : List ℕ) (key : ℕ) → find p ks ≡ Some key → p key ≡ true
hit p [] key e = absurd (cc)
hit p (k ∷ ks) key e = hit_step p k key (find p ks) (p k) refl (hit p ks key) e

later : (k : ℕ) (ks : List ℕ) → AllPairs (λ a b. a ≢ b) (k ∷ ks) → All (λ j. j ≢ k) ks
later k ks apart i d lt = λ e. apart 0 (suc i) d (omega arith) (omega arith) (sym e)

rest : (k : ℕ) (ks : List ℕ) → AllPairs (λ a b. a ≢ b) (k ∷ ks) → AllPairs (λ a b. a ≢ b) ks
rest k ks apart i j d lt inside = apart (suc i) (suc j) d (omega arith) (omega arith)

all_step : (P : ℕ → Type 0) (k : ℕ) (ks : List ℕ) (b : Bool) → (b ≡ true → P k) → All P ks → All P (if b then k ∷ ks else ks)
all_step P k ks true here all = All-cons P k ks (here refl) all
all_step P k ks false here all = all

-- what each key that passes has, where it is so of all, holds of the keys that are left
pub all_left : (P Q : ℕ → Type 0) (p : ℕ → Bool) (ks : List ℕ) → ((k : ℕ) → p k ≡ true → P k → Q k) → All P ks → All Q (filter p ks)
all_left P Q p [] gives all = All-nil Q
all_left P Q p (k ∷ ks) gives all = all_step Q k (filter p ks) (p k) (λ e. gives k e (All-head P k ks all)) (all_left P Q p ks gives (All-tail P k ks all))

module _ {X : Type 0} where
  -- ---- a search

  find_step : (test : X → Bool) (g : ℕ → Option X) (k : ℕ) (xs : List X) (r : Option ℕ) (o : Option X) → g k ≡ o → find test xs ≡ option_and_then g r
      → find test (cons_option o xs) ≡ option_and_then g (if passes test o then Some k else r)
  find_step test g k xs r None is ih = ih
  find_step test g k xs r (Some x) is ih = find_hit (test x)
    where
      find_hit : (b : Bool) → (if b then Some x else find test xs) ≡ option_and_then g (if b then Some k else r)
      find_hit true = sym is
      find_hit false = ih

  -- a search of the values is a search of the keys
  pub find_key : (test : X → Bool) (g : ℕ → Option X) (ks : List ℕ) → find test (filter_map g ks) ≡ option_and_then g (find (λ k. passes test (g k)) ks)
  find_key test g [] = refl
  find_key test g (k ∷ ks) = find_step test g k (filter_map g ks) _ (g k) refl (find_key test g ks)

  pub hit_some : (test : X → Bool) (o : Option X) → passes test o ≡ true → IsSome o
  hit_some test None e = absurd (cc)
  hit_some test (Some x) e = refl

  -- ---- one value is changed

  -- the values under these keys are as they were
  pub same_values : (g now : ℕ → Option X) (ks : List ℕ) → All (λ k. now k ≡ g k) ks → filter_map now ks ≡ filter_map g ks
  same_values g now [] all = refl
  same_values g now (k ∷ ks) all =
      ap (λ (o : Option X). cons_option o (filter_map now ks)) (All-head (λ k. now k ≡ g k) k ks all)
      ∙ ap (λ (xs : List X). cons_option (g k) xs) (same_values g now ks (All-tail (λ k. now k ≡ g k) k ks all))

  change_step : (test : X → Bool) (f : X → X) (g now : ℕ → Option X) (key : ℕ) (x : X) (k : ℕ) (ks : List ℕ) (o : Option X) (b : Bool)
      → g key ≡ Some x → test x ≡ true → now key ≡ Some (f x) → ((j : ℕ) → j ≢ key → now j ≡ g j) → AllPairs (λ a b. a ≢ b) (k ∷ ks)
      → (find (λ k. passes test (g k)) ks ≡ Some key → filter_map now ks ≡ changed test f (filter_map g ks))
      → g k ≡ o → passes test o ≡ b → (if b then Some k else find (λ k. passes test (g k)) ks) ≡ Some key
      → cons_option (now k) (filter_map now ks) ≡ changed test f (cons_option o (filter_map g ks))
  change_step test f g now key x k ks None true here passed new others apart ih is which e = absurd (cc)
  change_step test f g now key x k ks None false here passed new others apart ih is which e =
      let differs : k ≢ key = λ same. (let a : Some x ≡ None = sym here ∙ ap g (sym same) ∙ is in cc) in
      ap (λ (o : Option X). cons_option o (filter_map now ks)) (others k differs ∙ is) ∙ ih e
  change_step test f g now key x k ks (Some z) true here passed new others apart ih is which e =
      let same : k ≡ key = cc in
      let one : Some z ≡ Some x = sym is ∙ ap g same ∙ here in
      let value : z ≡ x = cc in
      ap (λ (o : Option X). cons_option o (filter_map now ks)) (ap now same ∙ new)
      ∙ ap (λ (xs : List X). f x ∷ xs) (same_values g now ks (λ i d lt. others _ (λ e2. later k ks apart i d lt (e2 ∙ sym same))))
      ∙ ap (λ (v : X). f v ∷ filter_map g ks) (sym value)
      ∙ ap (λ (c : Bool). if c then f z ∷ filter_map g ks else z ∷ changed test f (filter_map g ks)) (sym which)
  change_step test f g now key x k ks (Some z) false here passed new others apart ih is which e =
      let differs : k ≢ key = λ same. (let one : Some z ≡ Some x = sym is ∙ ap g same ∙ here in let value : z ≡ x = cc in let t : test z ≡ test x = ap test value in cc) in
      ap (λ (o : Option X). cons_option o (filter_map now ks)) (others k differs ∙ is)
      ∙ ap (λ (xs : List X). z ∷ xs) (ih e)
      ∙ ap (λ (c : Bool). if c then f z ∷ filter_map g ks else z ∷ changed test f (filter_map g ks)) (sym which)

  -- where the value under the key that is found is changed, the first value that passes is
  pub change_key : (test : X → Bool) (f : X → X) (g now : ℕ → Option X) (ks : List ℕ) (key : ℕ) (x : X)
      → find (λ k. passes test (g k)) ks ≡ Some key → g key ≡ Some x → test x ≡ true → now key ≡ Some (f x)
      → ((j : ℕ) → j ≢ key → now j ≡ g j) → AllPairs (λ a b. a ≢ b) ks
      → filter_map now ks ≡ changed test f (filter_map g ks)
  change_key test f g now [] key x e here passed new others apart = absurd (cc)
  change_key test f g now (k ∷ ks) key x e here passed new others apart =
      change_step test f g now key x k ks (g k) (passes test (g k)) here passed new others apart
      (λ h. change_key test f g now ks key x h here passed new others (rest k ks apart)) refl refl e

  -- ---- fewer keys

  drop_step : (test : X → Bool) (k : ℕ) (ks : List ℕ) (g : ℕ → Option X) (o : Option X) (xs : List X) (b : Bool) → g k ≡ o → passes test o ≡ b
      → filter_map g ks ≡ filter (λ x. not (test x)) xs
      → filter_map g (if not b then k ∷ ks else ks) ≡ filter (λ x. not (test x)) (cons_option o xs)
  drop_step test k ks g None xs true is which ih = absurd (cc)
  drop_step test k ks g None xs false is which ih = ap (λ (o : Option X). cons_option o (filter_map g ks)) is ∙ ih
  drop_step test k ks g (Some x) xs true is which ih =
      ih ∙ ap (λ (c : Bool). if not c then x ∷ filter (λ x. not (test x)) xs else filter (λ x. not (test x)) xs) (sym which)
  drop_step test k ks g (Some x) xs false is which ih =
      ap (λ (o : Option X). cons_option o (filter_map g ks)) is ∙ ap (λ (ys : List X). x ∷ ys) ih
      ∙ ap (λ (c : Bool). if not c then x ∷ filter (λ x. not (test x)) xs else filter (λ x. not (test x)) xs) (sym which)

  -- without the keys whose values pass, the values that pass are gone
  pub drop_keys : (test : X → Bool) (g : ℕ → Option X) (ks : List ℕ) → filter_map g (filter (λ k. not (passes test (g k))) ks) ≡ filter (λ x. not (test x)) (filter_map g ks)
  drop_keys test g [] = refl
  drop_keys test g (k ∷ ks) = drop_step test k (filter (λ k. not (passes test (g k))) ks) g (g k) (filter_map g ks) (passes test (g k)) refl refl (drop_keys test g ks)

  -- ---- one key more

  length_step : (o : Option X) (xs : List X) (n : ℕ) → IsSome o → length xs ≡ n → length (cons_option o xs) ≡ suc n
  length_step None xs n some e = absurd (cc)
  length_step (Some x) xs n some e = omega arith

  -- there are as many values as keys
  pub length_values : (g : ℕ → Option X) (ks : List ℕ) → All (λ k. IsSome (g k)) ks → length (filter_map g ks) ≡ length ks
  length_values g [] all = refl
  length_values g (k ∷ ks) all = length_step (g k) (filter_map g ks) (length ks) (All-head (λ k. IsSome (g k)) k ks all) (length_values g ks (All-tail (λ k. IsSome (g k)) k ks all))

  -- a key that has no value is none of those that have one
  pub is_other : (g : ℕ → Option X) (key k : ℕ) → g key ≡ None → IsSome (g k) → k ≢ key
  is_other g key k none some same = let e : g k ≡ None = ap g same ∙ none in cc

  pub push_key : (g now : ℕ → Option X) (ks : List ℕ) (key : ℕ) (y : X) → All (λ k. IsSome (g k)) ks → g key ≡ None → now key ≡ Some y
      → ((j : ℕ) → j ≢ key → now j ≡ g j) → filter_map now (ks ++ key ∷ []) ≡ filter_map g ks ++ y ∷ []
  push_key g now ks key y filled none new others =
      filter_map-append now ks (key ∷ [])
      ∙ ap (λ (xs : List X). xs ++ filter_map now (key ∷ [])) (same_values g now ks (λ i d lt. others _ (is_other g key _ none (filled i d lt))))
      ∙ ap (λ (o : Option X). filter_map g ks ++ cons_option o []) new

  pub push_distinct : (g : ℕ → Option X) (ks : List ℕ) (key : ℕ) → All (λ k. IsSome (g k)) ks → g key ≡ None → AllPairs (λ a b. a ≢ b) ks → AllPairs (λ a b. a ≢ b) (ks ++ key ∷ [])
  push_distinct g ks key filled none apart = all_pairs_push (λ a b. a ≢ b) ks key apart (λ k d lt. is_other g key _ none (filled k d lt))

  pub push_filled : (g now : ℕ → Option X) (ks : List ℕ) (key : ℕ) (y : X) → All (λ k. IsSome (g k)) ks → g key ≡ None → now key ≡ Some y
      → ((j : ℕ) → j ≢ key → now j ≡ g j) → All (λ k. IsSome (now k)) (ks ++ key ∷ [])
  push_filled g now ks key y filled none new others =
      All-push (λ k. IsSome (now k)) ks key (λ i d lt. let same = others _ (is_other g key _ none (filled i d lt)) in subst (λ (o : Option X). IsSome o) (sym same) (filled i d lt))
      (subst (λ (o : Option X). IsSome o) (sym new) refl)
