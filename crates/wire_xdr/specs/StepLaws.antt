-- How steps of reading follow one another.
use Rattle.std.proofs.Common.{◌≡◌, ℕ, ◌+◌, Bool, true, false, cond, List, ◌++◌, take, drop, Result, Ok, Err, ◌⊎◌, inl, inr, length, refl, sym, ap, ◌∙◌, append_assoc, arith}
use Rattle.std.proofs.lemmas.Bool.{cases_lt}
use Rattle.std.proofs.lemmas.List.{get_or-drop, get_or-take, get_or_past, length-append, length-take}
use Rattle.wire_xdr.specs.declared.fault.XdrFault.{XdrFault}
use Rattle.wire_xdr.specs.declared.fault.XdrFault.TheVariants.{Short, BadPad, BadFlag, TooLong}
use Rattle.wire_xdr.specs.Cursor.{Cursor, IsBytes, ◌>>=◌}
use Rattle.wire_xdr.specs.Form.{Passes, IsWithin, place, placed}

pub IsBytes-drop : (n : ℕ) (bytes : List ℕ) → IsBytes bytes → IsBytes (drop n bytes)
IsBytes-drop n bytes h i = rw get_or-drop (h (n + i))

pub IsBytes-take : (n : ℕ) (bytes : List ℕ) → IsBytes bytes → IsBytes (take n bytes)
IsBytes-take n bytes h i =
    elim (cases_lt i n) [
      | inl lt ↦ rw (get_or-take n bytes i 0 lt) (h i)
      | inr le ↦ rw (get_or_past (take n bytes) i 0 (omega (arith, length-take n bytes))) (omega arith)
    ]

-- a chain that was not refused
pub bind_ok : {A B E : Type 0} (r : Result A E) (f : A → Result B E) (y : B) → (r >>= f) ≡ Ok y → (x : A) × (r ≡ Ok x) × (f x ≡ Ok y)
bind_ok (Ok x) f y e = (x, refl, e)
bind_ok (Err d) f y e = absurd cc

-- a test that did not refuse
pub guard_ok : {A E : Type 0} (b : Bool) (d : E) (r : Result A E) (y : A) → cond b (Err d) r ≡ Ok y → (b ≡ false) × (r ≡ Ok y)
guard_ok true d r y e = absurd cc
guard_ok false d r y e = (refl, e)

pub test_ok : {A E : Type 0} (b : Bool) (x y : A) (d : E) → cond b (Ok x) (Err d) ≡ Ok y → (b ≡ true) × (x ≡ y)
test_ok true x y d e = (refl, cc)
test_ok false x y d e = absurd cc

pub placed_ok : {A : Type 0} (c : Cursor) (r : Result A XdrFault) (x : A) → placed c r ≡ Ok x → r ≡ Ok x
placed_ok c (Ok y) x e = cc
placed_ok c (Err (Short n m)) x e = absurd cc
placed_ok c (Err (BadPad n)) x e = absurd cc
placed_ok c (Err (BadFlag n)) x e = absurd cc
placed_ok c (Err (TooLong n m)) x e = absurd cc

-- what was answered, told apart by the answer
pub ok_is : {A E : Type 0} (x y : A) → ◌≡◌ {A = Result A E} (Ok x) (Ok y) → x ≡ y
ok_is x y e = cc

pub Passes-then : (old : Cursor) (x : List ℕ) (mid : Cursor) (y : List ℕ) (new : Cursor) → Passes old x mid → Passes mid y new → Passes old (x ++ y) new
Passes-then old x mid y new p q = record {
  parts = p.parts ∙ ap (λ (t : List ℕ). x ++ t) q.parts ∙ sym (append_assoc x y new.rest);
  by = omega (arith, p.by, q.by, length-append x y);
  bytes = q.bytes;
}

-- behind a text that is all there, the cursor stands where the rest begins
pub same_place : (at n m : ℕ) (rest : List ℕ) → n ≡ m → ◌≡◌ {A = Cursor} (record { at = at + n; rest = rest }) (record { at = at + m; rest = rest })
same_place at n m rest e = ap (λ (k : ℕ). record { at = at + k; rest = rest }) e

-- ---- refusals

-- a chain that was refused
pub bind_err : {A B E : Type 0} (r : Result A E) (f : A → Result B E) (d : E) → (r >>= f) ≡ Err d → (r ≡ Err d) ⊎ ((x : A) × (r ≡ Ok x) × (f x ≡ Err d))
bind_err (Ok x) f d e = inr (x, refl, e)
bind_err (Err c) f d e = inl cc

-- a test that may have refused
pub guard_err : {A E : Type 0} (b : Bool) (c : E) (r : Result A E) (d : E) → cond b (Err c) r ≡ Err d → (c ≡ d) ⊎ ((b ≡ false) × (r ≡ Err d))
guard_err true c r d e = inl cc
guard_err false c r d e = inr (refl, e)

pub test_err : {A E : Type 0} (b : Bool) (x : A) (c d : E) → cond b (Ok x) (Err c) ≡ Err d → c ≡ d
test_err true x c d e = absurd cc
test_err false x c d e = cc

pub not_err : {A E : Type 0} (x : A) (d : E) → ◌≡◌ {A = Result A E} (Ok x) (Err d) → ⊥
not_err x d e = cc

pub placed_err : {A : Type 0} (c : Cursor) (r : Result A XdrFault) (p : ℕ) → placed c r ≡ Err p → (d : XdrFault) × (r ≡ Err d) × (place c.at d ≡ p)
placed_err c (Ok y) p e = absurd cc
placed_err c (Err d) p e = (d, refl, cc)

-- where a text begins lies within it
pub at_start : (c : Cursor) (p : ℕ) → c.at ≡ p → IsWithin c p
at_start c p e = record { start = omega (arith, e); end = omega (arith, e) }

-- a place behind what was passed lies within the whole
pub place_behind : (old : Cursor) (x : List ℕ) (mid : Cursor) (p : ℕ) → Passes old x mid → IsWithin mid p → IsWithin old p
place_behind old x mid p passes within =
    let len : length old.rest ≡ length x + length mid.rest = ap length passes.parts ∙ length-append x mid.rest in
    record { start = omega (arith, passes.by, within.start); end = omega (arith, passes.by, within.end, len) }
