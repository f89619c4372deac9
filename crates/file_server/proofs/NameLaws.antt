-- The names of files are their numbers in decimal.
use Rattle.std.proofs.Common.{◌≡◌, ℕ, ◌+◌, ◌*◌, ◌-◌, ◌/◌, ◌%◌, ◌<◌, ◌≤◌, Bool, true, false, List, [], ◌∷◌, ◌++◌, refl, sym, ap, ◌∙◌, arith, ◌⊎◌, inl, inr}
use Rattle.std.specs.Prelude.{decimal, ◌==◌, ◌||◌, nat_le, if◌then◌else◌, Ok, Err}
use Rattle.std.proofs.lemmas.Bool.{cases_lt}
use Rattle.std.proofs.lemmas.Bool.Decides.{nat_tests}
use Rattle.std.proofs.lemmas.Fmt.{decimal_digit, decimal_step}
use Rattle.nfs_base.specs.declared.status.Status.{Status}
use Rattle.nfs_base.specs.declared.status.TheConstants.Status.{NOENT}
use Rattle.nfs_base.specs.declared.limits.TheConstants.{MOST_FILES}
use Rattle.file_server.specs.Names.{number_named, file_numbered, file_named}

one_digit : (d : ℕ) → d < 10 → number_named ((48 + d) ∷ []) ≡ d
one_digit d lt = grind (arith, nat_tests)

two_digits : (d e : ℕ) → 0 < d → d < 10 → e < 10 → number_named ((48 + d) ∷ (48 + e) ∷ []) ≡ d * 10 + e
two_digits d e some lt le = grind (arith, nat_tests)

two_decimal : (n : ℕ) → 10 ≤ n → n < 100 → decimal n ≡ (48 + n / 10) ∷ (48 + n % 10) ∷ []
two_decimal n two lt =
    decimal_step n two (omega arith)
    ∙ ap (λ (front : List ℕ). front ++ ((48 + n % 10) ∷ [])) (decimal_digit (n / 10) (omega arith))

number_of_decimal : (n : ℕ) → n < 100 → n < 10 ⊎ 10 ≤ n → number_named (decimal n) ≡ n
number_of_decimal n lt (inl one) = ap number_named (decimal_digit n one) ∙ one_digit n one
number_of_decimal n lt (inr two) =
    let split : n / 10 * 10 + n % 10 ≡ n = omega arith in
    ap number_named (two_decimal n two lt) ∙ two_digits (n / 10) (n % 10) (omega arith) (omega arith) (omega arith) ∙ split

numbered : (files file : ℕ) → 1 ≤ file → file < files → file_numbered files file ≡ Ok file
numbered files file some there = grind (arith, nat_tests)

pub found_by_decimal : (files file : ℕ) → 1 ≤ file → file < files → file ≤ MOST_FILES → file_named files (decimal file) ≡ Ok file
found_by_decimal files file some there few =
    ap (λ (n : ℕ). file_numbered files n) (number_of_decimal file (omega arith) (cases_lt file 10)) ∙ numbered files file some there

-- ---- and no other name

one_alone : (d n : ℕ) → number_named (d ∷ []) ≡ n → 1 ≤ n → d ∷ [] ≡ decimal n
one_alone d n is some =
    let small : n < 10 = grind (arith, nat_tests) in
    let same : d ≡ 48 + n = grind (arith, nat_tests) in
    ap (λ (x : ℕ). x ∷ []) same ∙ sym (decimal_digit n small)

-- what is known of two digits
record AreDigits (d e n : ℕ) : Type 0 where
  first : 48 < d
  first_most : d ≤ 57
  second : 48 ≤ e
  second_most : e ≤ 57
  is : (d - 48) * 10 + (e - 48) ≡ n

are_digits : (d e n : ℕ) → number_named (d ∷ e ∷ []) ≡ n → 1 ≤ n → AreDigits d e n
are_digits d e n is some = record {
  first = grind (arith, nat_tests);
  first_most = grind (arith, nat_tests);
  second = grind (arith, nat_tests);
  second_most = grind (arith, nat_tests);
  is = grind (arith, nat_tests);
}

two_alone : (d e n : ℕ) → number_named (d ∷ e ∷ []) ≡ n → 1 ≤ n → d ∷ e ∷ [] ≡ decimal n
two_alone d e n is some =
    let digits = are_digits d e n is some in
    let first : d ≡ 48 + n / 10 = omega arith in
    let second : e ≡ 48 + n % 10 = omega arith in
    ap (λ (x : ℕ). x ∷ e ∷ []) first ∙ ap (λ (x : ℕ). (48 + n / 10) ∷ x ∷ []) second ∙ sym (two_decimal n (omega arith) (omega arith))

named_alone : (name : List ℕ) (n : ℕ) → number_named name ≡ n → 1 ≤ n → name ≡ decimal n
named_alone [] n is some = absurd (omega arith)
named_alone (d ∷ []) n is some = one_alone d n is some
named_alone (d ∷ e ∷ []) n is some = two_alone d e n is some
named_alone (d ∷ e ∷ f ∷ more) n is some = absurd (omega arith)

numbered_test : (refused : Bool) (n file : ℕ) (status : Status) → (if refused then Err status else Ok n) ≡ Ok file → (refused ≡ false) × (n ≡ file)
numbered_test true n file status e = absurd cc
numbered_test false n file status e = (refl, cc)

at_least : (files n : ℕ) → ((n == 0) || nat_le files n) ≡ false → 1 ≤ n
at_least files n e = grind (arith, nat_tests)

pub found_alone : (files file : ℕ) (name : List ℕ) → file_named files name ≡ Ok file → name ≡ decimal file
found_alone files file name e =
    let n = number_named name in
    let told = numbered_test ((n == 0) || nat_le files n) n file NOENT e in
    let some = at_least files n told.0 in
    named_alone name file told.1 (omega arith)
