-- The entries of a log with one more at the end.
use Rattle.std.proofs.Common.{◌≡◌, ◌⊎◌, inl, inr, ⊎_elim, ℕ, zero, suc, Bool, true, false, ◌||◌, None, Some, List, [], ◌∷◌, ◌++◌, take, slice_get, refl, sym, ap, subst}
use Rattle.std.specs.List.{list_any}
use Rattle.std.proofs.lemmas.Bool.{or_cases, or_left, or_right}
use Rattle.copy_model.specs.Job.{Entry, Sized, Landed, Stopped, Committed, Reported, size_of, Allows, IsLawful}

-- a test that an entry passed goes on to be passed
pub any_keeps : (p : Entry → Bool) (es : List Entry) (e : Entry) → list_any p es ≡ true → list_any p (es ++ e ∷ []) ≡ true
any_keeps p [] e h = absurd (cc)
any_keeps p (x ∷ es) e h =
    ⊎_elim
    (λ here. or_left (p x) (list_any p (es ++ e ∷ [])) here)
    (λ later. or_right (p x) (list_any p (es ++ e ∷ [])) (any_keeps p es e later))
    (or_cases (p x) (list_any p es) h)

pub any_new : (p : Entry → Bool) (es : List Entry) (e : Entry) → p e ≡ true → list_any p (es ++ e ∷ []) ≡ true
any_new p [] e h = or_left (p e) false h
any_new p (x ∷ es) e h = or_right (p x) (list_any p (es ++ e ∷ [])) (any_new p es e h)

pub any_cases : (p : Entry → Bool) (es : List Entry) (e : Entry) → list_any p (es ++ e ∷ []) ≡ true → (list_any p es ≡ true) ⊎ (p e ≡ true)
any_cases p [] e h = ⊎_elim (λ here. inr here) (λ never. absurd (cc)) (or_cases (p e) false h)
any_cases p (x ∷ es) e h =
    ⊎_elim
    (λ here. inl (or_left (p x) (list_any p es) here))
    (λ later. ⊎_elim (λ old. inl (or_right (p x) (list_any p es) old)) (λ new. inr new) (any_cases p es e later))
    (or_cases (p x) (list_any p (es ++ e ∷ [])) h)

-- an entry that fails the test changes nothing
pub any_other : (p : Entry → Bool) (es : List Entry) (e : Entry) → p e ≡ false → list_any p (es ++ e ∷ []) ≡ list_any p es
any_other p [] e h = ap (λ b. b || false) h
any_other p (x ∷ es) e h = ap (λ b. p x || b) (any_other p es e h)

-- where one test implies another
pub any_implies : (p r : Entry → Bool) → ((e : Entry) → p e ≡ true → r e ≡ true) → (es : List Entry) → list_any p es ≡ true → list_any r es ≡ true
any_implies p r each [] h = h
any_implies p r each (x ∷ es) h =
    ⊎_elim
    (λ here. or_left (r x) (list_any r es) (each x here))
    (λ later. or_right (r x) (list_any r es) (any_implies p r each es later))
    (or_cases (p x) (list_any p es) h)

-- the size is that of the first entry that gives one
pub size_kept : (es : List Entry) (e : Entry) (total : ℕ) → size_of es ≡ Some total → size_of (es ++ e ∷ []) ≡ Some total
size_kept [] e total h = absurd (cc)
size_kept (Sized len ∷ es) e total h = h
size_kept (Landed off len ∷ es) e total h = size_kept es e total h
size_kept (Stopped ∷ es) e total h = size_kept es e total h
size_kept (Committed ∷ es) e total h = size_kept es e total h
size_kept (Reported ∷ es) e total h = size_kept es e total h

-- one that gives none leaves the size as it was
pub size_same : (es : List Entry) (e : Entry) → size_of (e ∷ []) ≡ None → size_of (es ++ e ∷ []) ≡ size_of es
size_same [] e h = h
size_same (Sized len ∷ es) e h = refl
size_same (Landed off len ∷ es) e h = size_same es e h
size_same (Stopped ∷ es) e h = size_same es e h
size_same (Committed ∷ es) e h = size_same es e h
size_same (Reported ∷ es) e h = size_same es e h

pub size_first : (es : List Entry) (e : Entry) → size_of es ≡ None → size_of (es ++ e ∷ []) ≡ size_of (e ∷ [])
size_first [] e h = refl
size_first (Sized len ∷ es) e h = absurd (cc)
size_first (Landed off len ∷ es) e h = size_first es e h
size_first (Stopped ∷ es) e h = size_first es e h
size_first (Committed ∷ es) e h = size_first es e h
size_first (Reported ∷ es) e h = size_first es e h

-- an entry is the last one, after all others, or one of the others
push_cases : (es : List Entry) (new : Entry) (i : ℕ) (e : Entry) → slice_get (es ++ new ∷ []) i ≡ Some e
    → ((slice_get es i ≡ Some e) × (take i (es ++ new ∷ []) ≡ take i es)) ⊎ ((new ≡ e) × (take i (es ++ new ∷ []) ≡ es))
push_cases [] new zero e h = inr (cc, refl)
push_cases [] new (suc i) e h = absurd (cc)
push_cases (x ∷ es) new zero e h = inl (h, refl)
push_cases (x ∷ es) new (suc i) e h =
    ⊎_elim
    (λ old. inl (old.0, ap (λ l. x ∷ l) old.1))
    (λ last. inr (last.0, ap (λ l. x ∷ l) last.1))
    (push_cases es new i e h)

-- lawful entries go on to be lawful with one that they allow
pub lawful_push : (consecutive : Bool) (es : List Entry) (new : Entry) → IsLawful consecutive es → Allows consecutive es new
    → IsLawful consecutive (es ++ new ∷ [])
lawful_push consecutive es new lawful allowed i e at =
    ⊎_elim
    (λ old. subst (λ l. Allows consecutive l e) (sym old.1) (lawful i e old.0))
    (λ last. subst (λ l. Allows consecutive l e) (sym last.1) (subst (Allows consecutive es) last.0 allowed))
    (push_cases es new i e at)

pub lawful_none : (consecutive : Bool) → IsLawful consecutive []
lawful_none consecutive i e at = absurd (cc)
