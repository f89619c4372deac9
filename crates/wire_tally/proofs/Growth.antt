-- A text of so many bytes has no more lines, and what each says that landed is below 2^32.
use Rattle.std.proofs.Common.{ℕ, suc, ◌+◌, ◌-◌, ◌*◌, ◌^◌, ◌<◌, ◌≤◌, eqb, ltb, Option, None, Some, IfSome, unwrap_or, List, [], ◌∷◌, ◌++◌, length, codes, arith, ltb-true}
use Rattle.std.specs.Char.{is_ascii_digit}
use Rattle.wire_tally.specs.declared.tally.Tally.{Tally}
use Rattle.wire_tally.specs.Tally.{amount, amount_from, begins_with, by_line, digit_next, tallied, tally_from, with_digit}
use Rattle.wire_tally.proofs.Tests.{by_test}

abbrev IsShort : Option ℕ → Type 0
IsShort so_far = IfSome so_far (λ n. n < 2 ^ 32)

with_digit-short : (so_far : Option ℕ) (digit : ℕ) → IsShort (with_digit so_far digit)
with_digit-short None digit = tt
with_digit-short (Some n) digit = by_test IsShort (ltb (n * 10 + digit) (2 ^ 32)) _ _ (λ below. ltb-true _ _ below) (λ _. tt)

digit_next-short : (so_far : Option ℕ) (byte : ℕ) → IsShort (digit_next so_far byte)
unfolding digit_next
digit_next-short so_far byte =
    by_test IsShort (eqb byte 32) _ _ (λ _. omega arith) (λ _.
    by_test IsShort (is_ascii_digit byte) _ _ (λ _. with_digit-short so_far (byte - 48)) (λ _. tt))

amount_from-short : (so_far : Option ℕ) (line : List ℕ) → IsShort so_far → IsShort (amount_from so_far line)
amount_from-short so_far [] short = short
amount_from-short so_far (byte ∷ bytes) short = amount_from-short (digit_next so_far byte) bytes (digit_next-short so_far byte)

or_none : (so_far : Option ℕ) → IsShort so_far → unwrap_or so_far 0 < 2 ^ 32
or_none None short = omega arith
or_none (Some n) short = short

pub amount-short : (line : List ℕ) → amount line < 2 ^ 32
unfolding amount
amount-short line = or_none (amount_from None line) (amount_from-short None line tt)

-- has grown by no more than so many lines
pub record GrewBy (n : ℕ) (old new : Tally) : Type 0 where
  pub stable : new.stable ≤ old.stable + n
  pub exact : new.exact ≤ old.exact + n
  pub landed : new.landed ≤ old.landed + n * 2 ^ 32

pub by_line-grows : (line : List ℕ) (t : Tally) → GrewBy 1 t (by_line line t)
unfolding by_line
by_line-grows line t =
    let P : Tally → Type 0 = λ new. GrewBy 1 t new in
    by_test P (begins_with (codes "stable ") line) _ _ (λ _. record { stable = omega arith; exact = omega arith; landed = omega arith }) (λ _.
    by_test P (begins_with (codes "exact ") line) _ _ (λ _. record { stable = omega arith; exact = omega arith; landed = omega arith }) (λ _.
    by_test P (begins_with (codes "landed ") line) _ _
    (λ _. record { stable = omega arith; exact = omega arith; landed = omega (arith, amount-short line) })
    (λ _. record { stable = omega arith; exact = omega arith; landed = omega arith })))

one_byte : (n : ℕ) (t mid new : Tally) → GrewBy 1 t mid → GrewBy n mid new → GrewBy (suc n) t new
one_byte n t mid new first rest = record {
  stable = omega (arith, first.stable, rest.stable);
  exact = omega (arith, first.exact, rest.exact);
  landed = omega (arith, first.landed, rest.landed);
}

no_line : (n : ℕ) (t new : Tally) → GrewBy n t new → GrewBy (suc n) t new
no_line n t new rest = record {
  stable = omega (arith, rest.stable);
  exact = omega (arith, rest.exact);
  landed = omega (arith, rest.landed);
}

grows_from : (line text : List ℕ) (t : Tally) → GrewBy (length text) t (tally_from line text t)
grows_from line [] t = record { stable = omega arith; exact = omega arith; landed = omega arith }
grows_from line (byte ∷ bytes) t =
    let P : Tally → Type 0 = λ new. GrewBy (suc (length bytes)) t new in
    by_test P (eqb byte 10) _ _
    (λ _. one_byte (length bytes) t (by_line line t) _ (by_line-grows line t) (grows_from [] bytes (by_line line t)))
    (λ _. no_line (length bytes) t _ (grows_from (line ++ byte ∷ []) bytes t))

pub grows : (text : List ℕ) (t : Tally) → GrewBy (length text) t (tallied text t)
unfolding tallied
grows text t = grows_from [] text t

pub grew_none : (t : Tally) → GrewBy 0 t t
grew_none t = record { stable = omega arith; exact = omega arith; landed = omega arith }

pub grew_line : (n : ℕ) (first old new : Tally) → GrewBy n first old → GrewBy 1 old new → GrewBy (n + 1) first new
grew_line n first old new before line = record {
  stable = omega (arith, before.stable, line.stable);
  exact = omega (arith, before.exact, line.exact);
  landed = omega (arith, before.landed, line.landed);
}

pub grew_byte : (n : ℕ) (first old : Tally) → GrewBy n first old → GrewBy (n + 1) first old
grew_byte n first old before = record {
  stable = omega (arith, before.stable);
  exact = omega (arith, before.exact);
  landed = omega (arith, before.landed);
}
