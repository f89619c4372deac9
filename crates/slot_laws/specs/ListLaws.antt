-- Sessions found by their numbers, where some are taken out, changed or added behind.
use Rattle.std.proofs.Common.{◌≡◌, ◌⊎◌, inl, inr, ℕ, zero, suc, ◌≤◌, Bool, true, false, cond, List, [], ◌∷◌, ◌++◌, Option, Some, None, refl, sym, ap, subst, ◌∙◌, arith}
use Rattle.std.specs.Prelude.{◌==◌, filter, option_map, if◌then◌else◌, replicate}
use Rattle.std.proofs.lemmas.Bool.{eqb-true, ne_eqb}
use Rattle.nfs_base.specs.Changed.{changed}
use Rattle.sess_slots.specs.declared.session.Session.{Session}
use Rattle.sess_slots.specs.Slots.{fresh_slot, slot_at}
use Rattle.sess_slots.specs.Table.{session_numbered}
use Rattle.slot_laws.specs.Sound.{AreRising}

-- ---- numbers that rise

pub rising_top : (low : ℕ) (xs : List Session) (made : ℕ) → AreRising low xs made → low ≤ suc made
rising_top low [] made h = h
rising_top low (x ∷ xs) made h =
    let top : suc x.number ≤ suc made = rising_top (suc x.number) xs made h.1 in
    omega (arith, h.0, top)

pub rising_from : (low more : ℕ) (xs : List Session) (made : ℕ) → low ≤ more → AreRising more xs made → AreRising low xs made
rising_from low more [] made below h = omega (arith, below, h)
rising_from low more (x ∷ xs) made below h = (omega (arith, below, h.0), h.1)

pub rising_filter : (test : Session → Bool) (low : ℕ) (xs : List Session) (made : ℕ) → AreRising low xs made → AreRising low (filter test xs) made
rising_filter test low [] made h = h
rising_filter test low (x ∷ xs) made h =
    let rest : AreRising (suc x.number) (filter test xs) made = rising_filter test (suc x.number) xs made h.1 in
    elim (test x) as (λ b. AreRising low (cond b (x ∷ filter test xs) (filter test xs)) made) [
      | true ↦ (h.0, rest)
      | false ↦ rising_from low (suc x.number) (filter test xs) made (omega (arith, h.0)) rest
    ]

pub rising_append : (low : ℕ) (xs : List Session) (made next : ℕ) (x : Session) → x.number ≡ next → next ≡ suc made → AreRising low xs made → AreRising low (xs ++ x ∷ []) next
rising_append low [] made next x same is h = (omega (arith, h, same, is), omega (arith, same))
rising_append low (y ∷ ys) made next x same is h = (h.0, rising_append (suc y.number) ys made next x same is h.1)

pub rising_changed : (test : Session → Bool) (f : Session → Session) → ((s : Session) → (f s).number ≡ s.number)
    → (low : ℕ) (xs : List Session) (made : ℕ) → AreRising low xs made → AreRising low (changed test f xs) made
rising_changed test f same low [] made h = h
rising_changed test f same low (x ∷ xs) made h =
    elim (test x) as (λ b. AreRising low (if b then f x ∷ xs else x ∷ changed test f xs) made) [
      | true ↦ (omega (arith, h.0, same x), subst (λ n. AreRising (suc n) xs made) (sym (same x)) h.1)
      | false ↦ (h.0, rising_changed test f same (suc x.number) xs made h.1)
    ]

-- ---- what is found

-- a session that is found by a number has it
pub found_number : (n : ℕ) (xs : List Session) (s : Session) → session_numbered xs n ≡ Some s → s.number ≡ n
found_number n [] s h = absurd cc
found_number n (x ∷ xs) s h = by (x.number == n) refl (found_number n xs s)
  where
    by : (b : Bool) → (x.number == n) ≡ b → (session_numbered xs n ≡ Some s → s.number ≡ n) → s.number ≡ n
    by true e later =
        let here : Some x ≡ Some s = rw e at h in
        let same : x ≡ s = cc in
        sym (ap (λ (y : Session). y.number) same) ∙ eqb-true x.number n e
    by false e later = later (rw e at h)

-- where numbers rise it is within them
pub found_within : (low n : ℕ) (xs : List Session) (made : ℕ) (s : Session) → AreRising low xs made → session_numbered xs n ≡ Some s → (low ≤ n) × (n ≤ made)
found_within low n [] made s r h = absurd cc
found_within low n (x ∷ xs) made s r h = by (x.number == n) refl (found_within (suc x.number) n xs made s r.1)
  where
    by : (b : Bool) → (x.number == n) ≡ b → (session_numbered xs n ≡ Some s → (suc x.number ≤ n) × (n ≤ made)) → (low ≤ n) × (n ≤ made)
    by true e later =
        let is : x.number ≡ n = eqb-true x.number n e in
        let top : suc x.number ≤ suc made = rising_top (suc x.number) xs made r.1 in
        (omega (arith, r.0, is), omega (arith, is, top))
    by false e later =
        let rest : (suc x.number ≤ n) × (n ≤ made) = later (rw e at h) in
        (omega (arith, r.0, rest.0), rest.1)

-- what is found among those that stay was found before
pub filter_found : (test : Session → Bool) (low n : ℕ) (xs : List Session) (made : ℕ) (s : Session) → AreRising low xs made
    → session_numbered (filter test xs) n ≡ Some s → session_numbered xs n ≡ Some s
filter_found test low n [] made s r h = h
filter_found test low n (x ∷ xs) made s r h = by (test x) (x.number == n) refl refl (filter_found test (suc x.number) n xs made s r.1)
  where
    by : (stays here : Bool) → test x ≡ stays → (x.number == n) ≡ here
        → (session_numbered (filter test xs) n ≡ Some s → session_numbered xs n ≡ Some s)
        → cond (x.number == n) (Some x) (session_numbered xs n) ≡ Some s
    by true true stays here rest =
        let kept : cond (x.number == n) (Some x) (session_numbered (filter test xs) n) ≡ Some s = rw stays at h in
        let found : Some x ≡ Some s = rw here at kept in
        rw here found
    by true false stays here rest =
        let kept : cond (x.number == n) (Some x) (session_numbered (filter test xs) n) ≡ Some s = rw stays at h in
        let later : session_numbered (filter test xs) n ≡ Some s = rw here at kept in
        rw here (rest later)
    by false true stays here rest =
        let later : session_numbered (filter test xs) n ≡ Some s = rw stays at h in
        let above : (suc x.number ≤ n) × (n ≤ made) = found_within (suc x.number) n (filter test xs) made s (rising_filter test (suc x.number) xs made r.1) later in
        absurd (omega (arith, above.0, eqb-true x.number n here))
    by false false stays here rest =
        let later : session_numbered (filter test xs) n ≡ Some s = rw stays at h in
        rw here (rest later)

-- with one more behind, what is found was found before or is that one
pub append_found : (n : ℕ) (xs : List Session) (x s : Session) → session_numbered (xs ++ x ∷ []) n ≡ Some s
    → (session_numbered xs n ≡ Some s) ⊎ ((x.number ≡ n) × (x ≡ s))
append_found n [] x s h = by (x.number == n) refl
  where
    by : (b : Bool) → (x.number == n) ≡ b → (session_numbered [] n ≡ Some s) ⊎ ((x.number ≡ n) × (x ≡ s))
    by true e = let here : Some x ≡ Some s = rw e at h in inr (eqb-true x.number n e, cc)
    by false e = let none : ◌≡◌ {A = Option Session} None (Some s) = rw e at h in absurd cc
append_found n (y ∷ ys) x s h = by (y.number == n) refl (append_found n ys x s)
  where
    by : (b : Bool) → (y.number == n) ≡ b
        → (session_numbered (ys ++ x ∷ []) n ≡ Some s → (session_numbered ys n ≡ Some s) ⊎ ((x.number ≡ n) × (x ≡ s)))
        → (cond (y.number == n) (Some y) (session_numbered ys n) ≡ Some s) ⊎ ((x.number ≡ n) × (x ≡ s))
    by true e later = let here : Some y ≡ Some s = rw e at h in inl (rw e here)
    by false e later = elim (later (rw e at h)) [
      | inl before ↦ inl (rw e before)
      | inr new ↦ inr new
    ]

-- a session of another number is found as before where one is changed
pub changed_other : (m n : ℕ) (f : Session → Session) → ((s : Session) → (f s).number ≡ s.number) → (m ≡ n → ⊥) → (xs : List Session)
    → session_numbered (changed (λ s. s.number == m) f xs) n ≡ session_numbered xs n
changed_other m n f same apart [] = refl
changed_other m n f same apart (x ∷ xs) = by (x.number == m) refl (changed_other m n f same apart xs)
  where
    by : (b : Bool) → (x.number == m) ≡ b → session_numbered (changed (λ s. s.number == m) f xs) n ≡ session_numbered xs n
        → session_numbered (if b then f x ∷ xs else x ∷ changed (λ s. s.number == m) f xs) n ≡ cond (x.number == n) (Some x) (session_numbered xs n)
    by true e rest =
        let is : x.number ≡ m = eqb-true x.number m e in
        let other : (x.number == n) ≡ false = ne_eqb x.number n (λ y. apart (sym is ∙ y)) in
        let other_now : ((f x).number == n) ≡ false = ap (λ k. k == n) (same x) ∙ other in
        rw (other, other_now) refl
    by false e rest = ap (λ (o : Option Session). cond (x.number == n) (Some x) o) rest

-- the one that is changed is found as it is changed
pub changed_same : (m : ℕ) (f : Session → Session) → ((s : Session) → (f s).number ≡ s.number) → (xs : List Session)
    → session_numbered (changed (λ s. s.number == m) f xs) m ≡ option_map f (session_numbered xs m)
changed_same m f same [] = refl
changed_same m f same (x ∷ xs) = by (x.number == m) refl (changed_same m f same xs)
  where
    by : (b : Bool) → (x.number == m) ≡ b → session_numbered (changed (λ s. s.number == m) f xs) m ≡ option_map f (session_numbered xs m)
        → session_numbered (if b then f x ∷ xs else x ∷ changed (λ s. s.number == m) f xs) m ≡ option_map f (cond b (Some x) (session_numbered xs m))
    by true e rest =
        let here : ((f x).number == m) ≡ true = ap (λ k. k == m) (same x) ∙ e in
        rw here refl
    by false e rest = rw e rest

-- ---- slots

-- of slots that were just made each is fresh, and so is what stands past them
pub fresh_at : (count slot : ℕ) → slot_at (replicate count fresh_slot) slot ≡ fresh_slot
fresh_at zero slot = refl
fresh_at (suc count) zero = refl
fresh_at (suc count) (suc slot) = fresh_at count slot
