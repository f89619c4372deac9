-- What notes tell of a copy, counted as notes.
use Rattle.std.proofs.Common.{◌≡◌, ◌∙◌, ℕ, ◌+◌, ◌≤◌, Bool, true, false, List, [], ◌∷◌, ◌++◌, refl, sym, ap, subst, arith}
use Rattle.std.specs.Prelude.{◌==◌, ◌||◌, cond, count_by}
use Rattle.std.specs.List.{list_any}
use Rattle.std.proofs.lemmas.List.Folds.{list_any-append}
use Rattle.std.proofs.lemmas.List.Recursion.{is_count_by}
use Rattle.std.proofs.lemmas.List.Sums.{sum_by-cons}
use Rattle.client_copies.specs.Words.{is_final, is_stable_word}
use Rattle.client_copies.specs.declared.told.Word.{Word}
use Rattle.client_copies.specs.declared.told.Word.TheVariants as words
use Rattle.outbox.specs.declared.note.Note.{Note}
use Rattle.outbox.specs.declared.note.Note.TheVariants as notes
use Rattle.client_laws.proofs.Changed.{words_append}
use Rattle.client_laws.specs.Telling.{tells_stable, word_if, words_in, words_of}

-- a word in front, where it is told of this copy
counts_one : (word : Word) (ws : List Word) → count_by is_stable_word (word ∷ ws) ≡ cond (is_stable_word word) 1 0 + count_by is_stable_word ws
counts_one word ws = sum_by-cons (λ (w : Word). cond (is_stable_word w) 1 0) word ws

stable_more : (b : Bool) (ws : List Word)
    → count_by is_stable_word (word_if b words.Stable ++ ws) ≡ cond b (1 + count_by is_stable_word ws) (count_by is_stable_word ws)
stable_more true ws = counts_one words.Stable ws
stable_more false ws = refl

other_more : (b : Bool) (word : Word) (ws : List Word) → is_stable_word word ≡ false → count_by is_stable_word (word_if b word ++ ws) ≡ count_by is_stable_word ws
other_more true word ws other =
    let one = counts_one word ws in
    one ∙ ap (λ (t : Bool). cond t 1 0 + count_by is_stable_word ws) other ∙ omega arith
other_more false word ws other = refl

note_counts : (j : ℕ) (note : Note) (ws : List Word)
    → count_by is_stable_word (words_in j note ++ ws) ≡ cond (tells_stable j note) (1 + count_by is_stable_word ws) (count_by is_stable_word ws)
note_counts j (notes.Stable copy) ws = stable_more (copy == j) ws
note_counts j (notes.Started copy) ws = other_more (copy == j) words.Started ws refl
note_counts j (notes.Copied copy n) ws = other_more (copy == j) (words.Copied n) ws refl
note_counts j (notes.Failed copy status) ws = other_more (copy == j) (words.Failed status) ws refl
note_counts j (notes.Exact copy) ws = other_more (copy == j) words.Exact ws refl
note_counts j (notes.Unsure copy) ws = other_more (copy == j) words.Unsure ws refl
note_counts j (notes.Cancelled copy) ws = other_more (copy == j) words.Cancelled ws refl
note_counts j _ ws = refl

pub notes_count : (j : ℕ) (told : List Note) → count_by is_stable_word (words_of j told) ≡ count_by (tells_stable j) told
notes_count j told =
    is_count_by (λ (ns : List Note). count_by is_stable_word (words_of j ns)) (tells_stable j) refl (λ note more. note_counts j note (words_of j more)) told

pub told_once : (j : ℕ) (told : List Note) → count_by is_stable_word (words_of j told) ≤ 1 → count_by (tells_stable j) told ≤ 1
told_once j told once = subst (λ (n : ℕ). n ≤ 1) (notes_count j told) once

-- ---- behind a final word nothing more is told

same_copy : (j : ℕ) → (j == j) ≡ true
same_copy j = grind arith

stable_told : (b : Bool) → list_any is_stable_word (word_if b words.Stable) ≡ b
stable_told true = refl
stable_told false = refl

other_told : (b : Bool) (word : Word) → is_stable_word word ≡ false → list_any is_stable_word (word_if b word) ≡ false
other_told true word other = ap (λ (t : Bool). t || false) other
other_told false word other = refl

note_told : (j : ℕ) (note : Note) → list_any is_stable_word (words_in j note) ≡ tells_stable j note
note_told j (notes.Stable copy) = stable_told (copy == j)
note_told j (notes.Started copy) = other_told (copy == j) words.Started refl
note_told j (notes.Copied copy n) = other_told (copy == j) (words.Copied n) refl
note_told j (notes.Failed copy status) = other_told (copy == j) (words.Failed status) refl
note_told j (notes.Exact copy) = other_told (copy == j) words.Exact refl
note_told j (notes.Unsure copy) = other_told (copy == j) words.Unsure refl
note_told j (notes.Cancelled copy) = other_told (copy == j) words.Cancelled refl
note_told j _ = refl

any_told : (j : ℕ) (told : List Note) → list_any (tells_stable j) told ≡ list_any is_stable_word (words_of j told)
any_told j [] = refl
any_told j (note ∷ more) =
    ap (λ (b : Bool). b || list_any (tells_stable j) more) (sym (note_told j note))
    ∙ ap (λ (b : Bool). list_any is_stable_word (words_in j note) || b) (any_told j more)
    ∙ sym (list_any-append is_stable_word (words_in j note) (words_of j more))

pub silent_behind : (j : ℕ) (told : List Note)
    → ((before : List Word) (word : Word) (more : List Word) → is_final word ≡ true → words_of j told ≡ before ++ word ∷ more → more ≡ [])
    → (before after : List Note) → told ≡ before ++ notes.Cancelled j ∷ after → list_any (tells_stable j) after ≡ false
silent_behind j told last before after is =
    let at : words_of j told ≡ words_of j before ++ words.Cancelled ∷ words_of j after =
    ap (words_of j) is ∙ words_append j before (notes.Cancelled j ∷ after)
    ∙ ap (λ (b : Bool). words_of j before ++ (word_if b words.Cancelled ++ words_of j after)) (same_copy j) in
    any_told j after ∙ ap (list_any is_stable_word) (last (words_of j before) words.Cancelled (words_of j after) refl at)
