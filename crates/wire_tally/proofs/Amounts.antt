-- The number behind the last space of a line is the one that was written there.
use Rattle.std.proofs.Common.{◌≡◌, ℕ, ◌+◌, ◌-◌, ◌*◌, ◌^◌, ◌<◌, ◌≤◌, true, Some, None, Option, unwrap_or, List, [], ◌∷◌, ◌++◌, codes, decimal, refl, ap, ◌∙◌, append_assoc, arith, rules, leb-true, lt-ltb, ne_eqb}
use Rattle.std.specs.Char.{is_ascii_digit}
use Rattle.std.specs.Str.{all_ascii_digits}
use Rattle.std.proofs.lemmas.Bool.{and_parts}
use Rattle.std.proofs.lemmas.Str.Parse.{IsNumeralModel, numerals_by_fold, tells_all_ascii_digits}
use Rattle.std.proofs.lemmas.Fmt.{digits_decimal, digits_value-decimal}
use Rattle.wire_tally.specs.Tally.{amount, amount_from, digit_next}

-- the value of digits behind a number
abbrev read_on : ℕ → List ℕ → ℕ
read_on n [] = n
read_on n (c ∷ cs) = read_on (n * 10 + (c - 48)) cs

own : IsNumeralModel (λ ds. all_ascii_digits ds ≡ true) (read_on 0)
own = numerals_by_fold _ tells_all_ascii_digits read_on (search rules)

read_on-grows : (ds : List ℕ) (n : ℕ) → n ≤ read_on n ds
read_on-grows [] n = omega arith
read_on-grows (c ∷ cs) n = omega (arith, read_on-grows cs (n * 10 + (c - 48)))

digit-goes_on : (n c : ℕ) → is_ascii_digit c ≡ true → n * 10 + (c - 48) < 2 ^ 32 → digit_next (Some n) c ≡ Some (n * 10 + (c - 48))
unfolding digit_next
digit-goes_on n c digit short =
    let low : 48 ≤ c = leb-true 48 c (and_parts _ _ digit).0 in
    rw (ne_eqb c 32 (λ space. omega arith), digit, lt-ltb (n * 10 + (c - 48)) (2 ^ 32) short) refl

digits-read : (ds : List ℕ) (n : ℕ) → all_ascii_digits ds ≡ true → read_on n ds < 2 ^ 32 → amount_from (Some n) ds ≡ Some (read_on n ds)
digits-read [] n digits short = refl
digits-read (c ∷ cs) n digits short =
    let tests : (is_ascii_digit c ≡ true) × (all_ascii_digits cs ≡ true) = and_parts _ _ digits in
    let below : n * 10 + (c - 48) < 2 ^ 32 = omega (arith, read_on-grows cs (n * 10 + (c - 48))) in
    ap (λ so_far. amount_from so_far cs) (digit-goes_on n c tests.0 below)
    ∙ digits-read cs (n * 10 + (c - 48)) tests.1 short

decimal-read : (n : ℕ) → n < 2 ^ 32 → amount_from (Some 0) (decimal n) ≡ Some n
decimal-read n short =
    let small : n < 2 ^ 64 = omega arith in
    let value : read_on 0 (decimal n) ≡ n = digits_value-decimal own n small in
    digits-read (decimal n) 0 (digits_decimal own n small) (rw value short) ∙ ap (λ k. Some k) value

-- what stands before the last space doesn't count
last_word : (so_far : Option ℕ) (front word : List ℕ) → amount_from so_far (front ++ 32 ∷ word) ≡ amount_from (Some 0) word
unfolding digit_next
last_word so_far [] word = refl
last_word so_far (byte ∷ bytes) word = last_word (digit_next so_far byte) bytes word

-- a number that stands behind a space at the end of a line is its amount
pub amount-last : (front : List ℕ) (n : ℕ) → n < 2 ^ 32 → amount (front ++ codes " " ++ decimal n) ≡ n
unfolding amount
amount-last front n short =
    ap (λ (read : Option ℕ). unwrap_or read 0)
    (ap (λ (line : List ℕ). amount_from None line) (append_assoc front (codes " ") (decimal n))
    ∙ last_word None front (decimal n)
    ∙ decimal-read n short)
