-- Contexts that are held: what a wire sees of them stays where a call is numbered, and goes with them where they are taken out.
use Rattle.std.proofs.Common.{◌≡◌, ◌⊎◌, inl, inr, ℕ, Bool, true, false, cond, List, [], ◌∷◌, ◌++◌, Some, None, refl, sym, ap, subst, ◌∙◌}
use Rattle.std.specs.Prelude.{◌==◌, ◌||◌, ◌&&◌, filter, option_map}
use Rattle.std.proofs.lemmas.Bool.{eqb-true, eq-eqb, or_cases, or_left, or_right, and_parts, and_from, false≢true}
use Rattle.gss_ctx.specs.Calls.{Side}
use Rattle.mount.specs.Sending.{numbered_once}
use Rattle.mount.specs.State.{context_of}
use Rattle.mount.specs.declared.state.Context as held
use Rattle.wire_model.specs.Spelling.{Context}
use Rattle.caller_laws.specs.View.{Face, face, face_of, handle_named, has_in, is_held, is_same}

pub some_is : {A : Type 0} (x y : A) → Some x ≡ Some y → x ≡ y
some_is x y h = cc

-- ---- a call is numbered: its context keeps its face

module _ (name : ℕ) (side : Side) where
  pub numbered_face : (contexts : List held.Context) (c : held.Context) (n : ℕ) → context_of name contexts ≡ Some c
      → side.owner ≡ c.caller.owner → side.handle ≡ c.caller.handle
      → face_of n (numbered_once name side contexts) ≡ face_of n contexts
  numbered_face [] c n there owner handle = refl
  numbered_face (x ∷ xs) c n there owner handle = by (x.name == name) there (λ h. numbered_face xs c n h owner handle)
    where
      same_face : x ≡ c → (b : Bool) → option_map face (cond b (Some (record x { caller = side })) (context_of n xs)) ≡ option_map face (cond b (Some x) (context_of n xs))
      same_face is true =
          let o : side.owner ≡ x.caller.owner = owner ∙ ap (λ (k : held.Context). k.caller.owner) (sym is) in
          let h : side.handle ≡ x.caller.handle = handle ∙ ap (λ (k : held.Context). k.caller.handle) (sym is) in
          cc
      same_face is false = refl

      later : (b : Bool) → face_of n (numbered_once name side xs) ≡ face_of n xs
          → option_map face (cond b (Some x) (context_of n (numbered_once name side xs))) ≡ option_map face (cond b (Some x) (context_of n xs))
      later true h = refl
      later false h = h

      by : (b : Bool) → cond b (Some x) (context_of name xs) ≡ Some c
          → (context_of name xs ≡ Some c → face_of n (numbered_once name side xs) ≡ face_of n xs)
          → face_of n (cond b (record x { caller = side } ∷ xs) (x ∷ numbered_once name side xs)) ≡ face_of n (x ∷ xs)
      by true h rest = same_face (some_is x c h) (x.name == n)
      by false h rest = later (x.name == n) (rest h)

  pub numbered_has : (contexts : List held.Context) (c : held.Context) (context root : Context) → context_of name contexts ≡ Some c
      → side.handle ≡ c.caller.handle
      → has_in (numbered_once name side contexts) context root ≡ has_in contexts context root
  numbered_has [] c context root there handle = refl
  numbered_has (x ∷ xs) c context root there handle = by (x.name == name) there (λ h. numbered_has xs c context root h handle)
    where
      by : (b : Bool) → cond b (Some x) (context_of name xs) ≡ Some c
          → (context_of name xs ≡ Some c → has_in (numbered_once name side xs) context root ≡ has_in xs context root)
          → has_in (cond b (record x { caller = side } ∷ xs) (x ∷ numbered_once name side xs)) context root ≡ has_in (x ∷ xs) context root
      by true h rest =
          let is : side.handle ≡ x.caller.handle = handle ∙ ap (λ (k : held.Context). k.caller.handle) (sym (some_is x c h)) in
          ap (λ (hs : List ℕ). (is_same (handle_named hs) context && is_same (handle_named x.root) root) || has_in xs context root) is
      by false h rest = ap (λ (b : Bool). is_held context root x || b) (rest h)

-- ---- contexts are taken out

pub kept_face : (used : ℕ → Bool) (contexts : List held.Context) (n : ℕ) → used n ≡ true → face_of n (filter (λ c. used c.name) contexts) ≡ face_of n contexts
kept_face used [] n u = refl
kept_face used (x ∷ xs) n u = by (used x.name) refl (kept_face used xs n u)
  where
    here : (b : Bool) → face_of n (filter (λ c. used c.name) xs) ≡ face_of n xs
        → option_map face (cond b (Some x) (context_of n (filter (λ c. used c.name) xs))) ≡ option_map face (cond b (Some x) (context_of n xs))
    here true h = refl
    here false h = h

    gone : used x.name ≡ false → (b : Bool) → (x.name == n) ≡ b → face_of n (filter (λ c. used c.name) xs) ≡ face_of n xs
        → face_of n (filter (λ c. used c.name) xs) ≡ option_map face (cond b (Some x) (context_of n xs))
    gone unused true is h = absurd (false≢true (sym unused ∙ ap used (eqb-true x.name n is) ∙ u))
    gone unused false is h = h

    by : (b : Bool) → used x.name ≡ b → face_of n (filter (λ c. used c.name) xs) ≡ face_of n xs
        → face_of n (cond b (x ∷ filter (λ c. used c.name) xs) (filter (λ c. used c.name) xs)) ≡ face_of n (x ∷ xs)
    by true is rest = here (x.name == n) rest
    by false unused rest = gone unused (x.name == n) refl rest

-- a name that is taken out isn't found any more
no_face : (used : ℕ → Bool) (contexts : List held.Context) (n : ℕ) → used n ≡ false → face_of n (filter (λ c. used c.name) contexts) ≡ None
no_face used [] n out = refl
no_face used (x ∷ xs) n out = by (used x.name) refl (no_face used xs n out)
  where
    passed : used x.name ≡ true → (b : Bool) → (x.name == n) ≡ b → face_of n (filter (λ c. used c.name) xs) ≡ None
        → option_map face (cond b (Some x) (context_of n (filter (λ c. used c.name) xs))) ≡ None
    passed in_use true is h = absurd (false≢true (sym out ∙ ap used (sym (eqb-true x.name n is)) ∙ in_use))
    passed in_use false is h = h

    by : (b : Bool) → used x.name ≡ b → face_of n (filter (λ c. used c.name) xs) ≡ None
        → face_of n (cond b (x ∷ filter (λ c. used c.name) xs) (filter (λ c. used c.name) xs)) ≡ None
    by true in_use rest = passed in_use (x.name == n) refl rest
    by false unused rest = rest

pub face_was : (used : ℕ → Bool) (contexts : List held.Context) (n : ℕ) (f : Face) → face_of n (filter (λ c. used c.name) contexts) ≡ Some f → face_of n contexts ≡ Some f
face_was used contexts n f there = by (used n) refl
  where
    by : (b : Bool) → used n ≡ b → face_of n contexts ≡ Some f
    by true in_use = sym (kept_face used contexts n in_use) ∙ there
    by false out = let none : face_of n (filter (λ c. used c.name) contexts) ≡ None = no_face used contexts n out in absurd cc

pub has_was : (used : ℕ → Bool) (contexts : List held.Context) (context root : Context) → has_in (filter (λ c. used c.name) contexts) context root ≡ true → has_in contexts context root ≡ true
has_was used [] context root h = h
has_was used (x ∷ xs) context root h = by (used x.name) h (λ later. has_was used xs context root later)
  where
    by : (b : Bool) → has_in (cond b (x ∷ filter (λ c. used c.name) xs) (filter (λ c. used c.name) xs)) context root ≡ true
        → (has_in (filter (λ c. used c.name) xs) context root ≡ true → has_in xs context root ≡ true) → has_in (x ∷ xs) context root ≡ true
    by true t rest =
        elim (or_cases (is_held context root x) (has_in (filter (λ c. used c.name) xs) context root) t) [
          | inl first ↦ or_left (is_held context root x) (has_in xs context root) first
          | inr later ↦ or_right (is_held context root x) (has_in xs context root) (rest later)
        ]
    by false t rest = or_right (is_held context root x) (has_in xs context root) (rest t)

-- ---- a context more

pub face_stays : (contexts : List held.Context) (c : held.Context) (n : ℕ) (f : Face) → face_of n contexts ≡ Some f → face_of n (contexts ++ c ∷ []) ≡ Some f
face_stays [] c n f h = absurd cc
face_stays (x ∷ xs) c n f h = by (x.name == n) h (λ later. face_stays xs c n f later)
  where
    by : (b : Bool) → option_map face (cond b (Some x) (context_of n xs)) ≡ Some f → (face_of n xs ≡ Some f → face_of n (xs ++ c ∷ []) ≡ Some f)
        → option_map face (cond b (Some x) (context_of n (xs ++ c ∷ []))) ≡ Some f
    by true h rest = h
    by false h rest = rest h

pub face_new : (contexts : List held.Context) (c : held.Context) → face_of c.name contexts ≡ None → face_of c.name (contexts ++ c ∷ []) ≡ Some (face c)
face_new [] c h = ap (λ (b : Bool). option_map face (cond b (Some c) None)) (eq-eqb c.name c.name refl)
face_new (x ∷ xs) c h = by (x.name == c.name) h (λ later. face_new xs c later)
  where
    by : (b : Bool) → option_map face (cond b (Some x) (context_of c.name xs)) ≡ None → (face_of c.name xs ≡ None → face_of c.name (xs ++ c ∷ []) ≡ Some (face c))
        → option_map face (cond b (Some x) (context_of c.name (xs ++ c ∷ []))) ≡ Some (face c)
    by true h rest = absurd cc
    by false h rest = rest h

pub face_other : (contexts : List held.Context) (c : held.Context) (n : ℕ) (f : Face) → face_of n (contexts ++ c ∷ []) ≡ Some f
    → (face_of n contexts ≡ Some f) ⊎ ((c.name ≡ n) × (face c ≡ f))
face_other [] c n f h = by (c.name == n) refl h
  where
    by : (b : Bool) → (c.name == n) ≡ b → option_map face (cond b (Some c) None) ≡ Some f → (face_of n [] ≡ Some f) ⊎ ((c.name ≡ n) × (face c ≡ f))
    by true is h = inr (eqb-true c.name n is, some_is (face c) f h)
    by false is h = absurd cc
face_other (x ∷ xs) c n f h = by (x.name == n) h (λ later. face_other xs c n f later)
  where
    by : (b : Bool) → option_map face (cond b (Some x) (context_of n (xs ++ c ∷ []))) ≡ Some f
        → (face_of n (xs ++ c ∷ []) ≡ Some f → (face_of n xs ≡ Some f) ⊎ ((c.name ≡ n) × (face c ≡ f)))
        → (option_map face (cond b (Some x) (context_of n xs)) ≡ Some f) ⊎ ((c.name ≡ n) × (face c ≡ f))
    by true h rest = inl h
    by false h rest = rest h

pub has_more : (contexts : List held.Context) (c : held.Context) (context root : Context) → has_in (contexts ++ c ∷ []) context root ≡ true
    → (has_in contexts context root ≡ true) ⊎ (is_held context root c ≡ true)
has_more [] c context root h =
    elim (or_cases (is_held context root c) false h) [
      | inl first ↦ inr first
      | inr never ↦ inl never
    ]
has_more (x ∷ xs) c context root h =
    elim (or_cases (is_held context root x) (has_in (xs ++ c ∷ []) context root) h) [
      | inl first ↦ inl (or_left (is_held context root x) (has_in xs context root) first)
      | inr later ↦ elim (has_more xs c context root later) [
        | inl was ↦ inl (or_right (is_held context root x) (has_in xs context root) was)
        | inr new ↦ inr new
      ]
    ]

-- ---- a context that is found is held

pub same_itself : (c : Context) → is_same c c ≡ true
same_itself c = and_from (c.boot == c.boot) (c.number == c.number) (eq-eqb c.boot c.boot refl) (eq-eqb c.number c.number refl)

abbrev numbered : ℕ → ℕ → Context
numbered boot number = record { boot = boot; number = number }

pub same_are : (a b : Context) → is_same a b ≡ true → a ≡ b
same_are a b h =
    let parts = and_parts (a.boot == b.boot) (a.number == b.number) h in
    ap (λ (n : ℕ). numbered n a.number) (eqb-true a.boot b.boot parts.0) ∙ ap (λ (n : ℕ). numbered b.boot n) (eqb-true a.number b.number parts.1)

pub held_found : (contexts : List held.Context) (n : ℕ) (f : Face) → face_of n contexts ≡ Some f → has_in contexts (handle_named f.handle) (handle_named f.root) ≡ true
held_found [] n f h = absurd cc
held_found (x ∷ xs) n f h = by (x.name == n) h (λ later. held_found xs n f later)
  where
    by : (b : Bool) → option_map face (cond b (Some x) (context_of n xs)) ≡ Some f
        → (face_of n xs ≡ Some f → has_in xs (handle_named f.handle) (handle_named f.root) ≡ true)
        → has_in (x ∷ xs) (handle_named f.handle) (handle_named f.root) ≡ true
    by true h rest =
        let is : face x ≡ f = some_is (face x) f h in
        subst (λ (g : Face). has_in (x ∷ xs) (handle_named g.handle) (handle_named g.root) ≡ true) is
        (or_left (is_held (handle_named x.caller.handle) (handle_named x.root) x) (has_in xs (handle_named x.caller.handle) (handle_named x.root))
        (and_from (is_same (handle_named x.caller.handle) (handle_named x.caller.handle)) (is_same (handle_named x.root) (handle_named x.root)) (same_itself (handle_named x.caller.handle)) (same_itself (handle_named x.root))))
    by false h rest = or_right (is_held (handle_named f.handle) (handle_named f.root) x) (has_in xs (handle_named f.handle) (handle_named f.root)) (rest h)
