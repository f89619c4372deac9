-- A number's word is its decimal digits, and no other word.
use Rattle.std.proofs.Common.{◌≡◌, ℕ, ◌+◌, ◌-◌, ◌*◌, ◌^◌, ◌<◌, ◌≤◌, List, [], ◌∷◌, length, get_or, None, Some, Bool, true, false, cond, refl, sym, ap, ◌∙◌, arith, decimal, ltb, eqb, rules, zero, suc}
use Rattle.std.specs.Str.{all_ascii_digits}
use Rattle.std.proofs.lemmas.Bool.{ltb-true, eqb-false, ne_eqb, lt-ltb, and_parts, and_from}
use Rattle.std.proofs.lemmas.Option.{cond_some, option_and_then_some, same_Some}
use Rattle.std.proofs.lemmas.Str.Parse.{IsNumeralModel, numerals_by_fold, tells_all_ascii_digits}
use Rattle.std.proofs.lemmas.Fmt.{digits_decimal, digits_value-decimal, decimal-digits_value, decimal_nonempty, decimal_digit, first_decimal}
use Rattle.wire_schedule.specs.Admission.{is_between}
use Rattle.wire_schedule.specs.Numerals.{with_digit, number_from, number_of, number_below}

-- the value of digits after the number so far
abbrev read_on : ℕ → List ℕ → ℕ
read_on n [] = n
read_on n (c ∷ cs) = read_on (n * 10 + (c - 48)) cs

own : IsNumeralModel (λ ds. all_ascii_digits ds ≡ true) (read_on 0)
own = numerals_by_fold _ tells_all_ascii_digits read_on (search rules)

-- what a digit gives
digit_gives : (n c m : ℕ) → with_digit n c ≡ Some m → (is_between 48 57 c ≡ true) × (n * 10 + (c - 48) ≡ m) × (m < 2 ^ 64)
unfolding with_digit
digit_gives n c m is =
    let both = cond_some _ _ _ is in
    let tests = and_parts _ _ both.0 in
    let below : n * 10 + (c - 48) < 2 ^ 64 = ltb-true _ _ tests.1 in
    (tests.0, both.1, rw (sym both.1) below)

digit_from : (n c : ℕ) → is_between 48 57 c ≡ true → n * 10 + (c - 48) < 2 ^ 64 → with_digit n c ≡ Some (n * 10 + (c - 48))
unfolding with_digit
digit_from n c digit small = rw (digit, lt-ltb _ _ small) refl

-- what digits give
digits_give : (ds : List ℕ) (n m : ℕ) → n < 2 ^ 64 → number_from n ds ≡ Some m → (all_ascii_digits ds ≡ true) × (read_on n ds ≡ m) × (m < 2 ^ 64)
digits_give [] n m small is = let same = same_Some n m is in (refl, same, rw (sym same) small)
digits_give (c ∷ cs) n m small is =
    option_and_then_some (λ more. number_from more cs) (with_digit n c) m is (λ more first rest.
    let one = digit_gives n c more first in
    let others = digits_give cs more m one.2 rest in
    (and_from _ _ one.0 others.0, rw one.1 others.1, others.2))

grows : (ds : List ℕ) (n : ℕ) → n ≤ read_on n ds
grows [] n = omega arith
grows (c ∷ cs) n = omega (arith, grows cs (n * 10 + (c - 48)))

digits_from : (ds : List ℕ) (n : ℕ) → all_ascii_digits ds ≡ true → read_on n ds < 2 ^ 64 → number_from n ds ≡ Some (read_on n ds)
digits_from [] n digits small = refl
digits_from (c ∷ cs) n digits small =
    let tests : (is_between 48 57 c ≡ true) × (all_ascii_digits cs ≡ true) = and_parts _ _ digits in
    let below : n * 10 + (c - 48) < 2 ^ 64 = omega (arith, grows cs (n * 10 + (c - 48))) in
    rw (digit_from n c tests.0 below) (digits_from cs (n * 10 + (c - 48)) tests.1 small)

word_from : (ds : List ℕ) → all_ascii_digits ds ≡ true → 0 < length ds → (get_or ds 0 0 ≡ 48 → length ds ≡ 1) → read_on 0 ds < 2 ^ 64 → number_of ds ≡ Some (read_on 0 ds)
unfolding number_of
word_from [] digits some lead small = absurd (omega arith)
word_from (c ∷ []) digits some lead small = digit_from 0 c (and_parts _ _ digits).0 small
word_from (c ∷ d ∷ cs) digits some lead small =
    let no_zero : c ≡ 48 → ⊥ = λ zero. let one = lead zero in omega arith in
    rw (ne_eqb c 48 no_zero) (digits_from (c ∷ d ∷ cs) 0 digits small)

-- a number is written in digits
pub plain_digits : (n : ℕ) → n < 2 ^ 64 → all_ascii_digits (decimal n) ≡ true
plain_digits n small = digits_decimal own n small

-- a number's digits read as the number
pub number_of-decimal : (n : ℕ) → n < 2 ^ 64 → number_of (decimal n) ≡ Some n
number_of-decimal n small =
    let value = digits_value-decimal own n small in
    let lead : get_or (decimal n) 0 0 ≡ 48 → length (decimal n) ≡ 1 =
    elim n as (λ k. k < 2 ^ 64 → get_or (decimal k) 0 0 ≡ 48 → length (decimal k) ≡ 1) [
      | zero ↦ λ _ _. ap length (decimal_digit 0 (omega arith))
      | suc k ↦ λ fits zero_first. absurd (omega (arith, first_decimal (suc k) (omega arith) fits))
    ] small in
    word_from (decimal n) (digits_decimal own n small) (decimal_nonempty n small) lead (rw value small) ∙ ap (λ k. Some k) value

word_gives : (word : List ℕ) (n : ℕ) → number_of word ≡ Some n → (all_ascii_digits word ≡ true) × (read_on 0 word ≡ n) × (n < 2 ^ 64) × (0 < length word) × (get_or word 0 0 ≡ 48 → length word ≡ 1)
unfolding number_of
word_gives [] n is = absurd (cc is)
word_gives (c ∷ []) n is = let one = digit_gives 0 c n is in (and_from _ _ one.0 refl, one.1, one.2, omega arith, λ _. refl)
word_gives (c ∷ d ∷ cs) n is =
    let by_test : (test : Bool) → eqb c 48 ≡ test → cond test None (number_from 0 (c ∷ d ∷ cs)) ≡ Some n → (all_ascii_digits (c ∷ d ∷ cs) ≡ true) × (read_on 0 (c ∷ d ∷ cs) ≡ n) × (n < 2 ^ 64) × (0 < length (c ∷ d ∷ cs)) × (c ≡ 48 → length (c ∷ d ∷ cs) ≡ 1) =
    λ test. elim test as (λ b. eqb c 48 ≡ b → cond b None (number_from 0 (c ∷ d ∷ cs)) ≡ Some n → (all_ascii_digits (c ∷ d ∷ cs) ≡ true) × (read_on 0 (c ∷ d ∷ cs) ≡ n) × (n < 2 ^ 64) × (0 < length (c ∷ d ∷ cs)) × (c ≡ 48 → length (c ∷ d ∷ cs) ≡ 1)) [
      | true ↦ λ zero given. absurd (cc given)
      | false ↦ λ other given.
          let digits = digits_give (c ∷ d ∷ cs) 0 n (omega arith) given in
          (digits.0, digits.1, digits.2, omega arith, λ zero. absurd (eqb-false c 48 other zero))
    ] in
    by_test (eqb c 48) refl is

-- a word that reads as a number is its digits
pub decimal-number_of : (word : List ℕ) (n : ℕ) → number_of word ≡ Some n → (n < 2 ^ 64) × (word ≡ decimal n)
decimal-number_of word n is =
    let gives = word_gives word n is in
    let small : read_on 0 word < 2 ^ 64 = rw gives.1 gives.2 in
    (gives.2, sym (decimal-digits_value own word gives.0 gives.3 gives.4 small) ∙ ap decimal gives.1)

-- the same of a number below a limit
pub number_below-decimal : (limit n : ℕ) → n < limit → n < 2 ^ 64 → number_below limit (decimal n) ≡ Some n
unfolding number_below
number_below-decimal limit n below small = rw (number_of-decimal n small, lt-ltb n limit below) refl

pub decimal-number_below : (limit : ℕ) (word : List ℕ) (n : ℕ) → number_below limit word ≡ Some n → (n < limit) × (word ≡ decimal n)
unfolding number_below
decimal-number_below limit word n is =
    option_and_then_some (λ k. cond (ltb k limit) (Some k) None) (number_of word) n is (λ k reads test.
    let both = cond_some _ _ _ test in
    let below : k < limit = ltb-true k limit both.0 in
    (rw (sym both.1) below, rw (sym both.1) (decimal-number_of word k reads).1))
