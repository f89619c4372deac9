-- Cutting a text at its separators.
use Rattle.std.proofs.Common.{◌≡◌, ℕ, ◌+◌, ◌<◌, ◌==◌, true, false, cond, List, [], ◌∷◌, ◌++◌, length, get_or, take, drop, All, refl, sym, ap, ◌∙◌, take-append-drop, arith, ◌≤◌, ◌≢◌, get_or-take, length-take}
use Rattle.std.specs.List.{slice_split, onto_first}
use Rattle.std.proofs.lemmas.List.{drop_more, drop_all}
use Rattle.std.proofs.lemmas.List.Splits.{slice_split_at, slice_split_none}
use Rattle.std.proofs.Math.Seq.{take-length}
use Rattle.std.proofs.lemmas.Bool.{ne_eqb}
use Rattle.std.proofs.lemmas.Bool.Decides.{nat_tests}
use Rattle.std.proofs.lemmas.Grind.{get_or_default_zero}
use Rattle.wire_schedule.specs.Words.{without_empty_end, words_of, lines_of}

-- no byte before this place is the separator
abbrev pub Lacks : ℕ → List ℕ → ℕ → Type 0
Lacks separator text at = (k : ℕ) → k < at → get_or text k 0 ≢ separator

all-lack : (separator : ℕ) (text : List ℕ) (at : ℕ) → at ≤ length text → Lacks separator text at → All (λ b. (b == separator) ≡ false) (take at text)
all-lack separator text at within before k d lt =
    let below : k < at = omega (arith, lt, length-take at text) in
    let inside : k < length text = omega arith in
    rw (get_or-take, get_or_default_zero text k d inside) (ne_eqb _ _ (before k below))

-- the first part ends at the first separator
pub split-read : (separator : ℕ) (text : List ℕ) (at : ℕ) → at < length text → get_or text at 0 ≡ separator → Lacks separator text at → slice_split (λ b. b == separator) text ≡ take at text ∷ slice_split (λ b. b == separator) (drop (at + 1) text)
split-read separator text at lt is before =
    let parts : text ≡ take at text ++ get_or text at 0 ∷ drop (at + 1) text =
    sym (take-append-drop at text) ∙ ap (λ rest. take at text ++ rest) (drop_more text at 0 lt) in
    ap (slice_split (λ b. b == separator)) parts
    ∙ slice_split_at (λ b. b == separator) (take at text) (get_or text at 0) (drop (at + 1) text) (all-lack separator text at (omega arith) before) (grind (arith, nat_tests))

-- where there is no separator, all is one part
pub split-none : (separator : ℕ) (text : List ℕ) → Lacks separator text (length text) → slice_split (λ b. b == separator) text ≡ text ∷ []
split-none separator text before =
    slice_split_none (λ b. b == separator) text (rw take-length at (all-lack separator text (length text) (omega arith) before))

-- a line with lines after it
onto-lines : (line first : List ℕ) (rest : List (List ℕ)) → without_empty_end (line ∷ first ∷ rest) ≡ line ∷ without_empty_end (first ∷ rest)
onto-lines [] first rest = refl
onto-lines (b ∷ bs) first rest = refl

-- there is a first part
pub split-first : (separator : ℕ) (text : List ℕ) → (first : List ℕ) × (rest : List (List ℕ)) × (slice_split (λ b. b == separator) text ≡ first ∷ rest)
split-first separator [] = ([], [], refl)
split-first separator (b ∷ text) =
    let more = split-first separator text in
    elim (b == separator) as (λ is. (first : List ℕ) × (rest : List (List ℕ)) × (cond is ([] ∷ slice_split (λ c. c == separator) text) (onto_first b (slice_split (λ c. c == separator) text)) ≡ first ∷ rest)) [
      | true ↦ ([], slice_split (λ c. c == separator) text, refl)
      | false ↦ (b ∷ more.0, more.1, ap (onto_first b) more.2)
    ]

-- a line that ends with a newline
pub lines-more : (text line rest : List ℕ) → slice_split (λ b. b == 10) text ≡ line ∷ slice_split (λ b. b == 10) rest → lines_of text ≡ line ∷ lines_of rest
unfolding lines_of
lines-more text line rest cut =
    let parts = split-first 10 rest in
    rw (cut, parts.2) (onto-lines line parts.0 parts.1)

-- the last line, which lacks it
pub lines-last : (text line : List ℕ) → 0 < length text → line ≡ text → slice_split (λ b. b == 10) text ≡ line ∷ [] → lines_of text ≡ line ∷ lines_of (drop (length text) text)
unfolding lines_of
lines-last [] line some same cut = absurd (omega arith)
lines-last (b ∷ text) line some same cut =
    rw (drop_all (length (b ∷ text)) (b ∷ text) (omega arith), cut, same) refl

-- a line has a word, which may be empty
pub no-words : (line : List ℕ) → words_of line ≡ [] → ⊥
no-words line none = let parts = split-first 32 line in cc (none, parts.2)
