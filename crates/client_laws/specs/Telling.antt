-- What notes tell of a copy, by its number.
use Rattle.std.specs.Prelude.{ℕ, ◌==◌, Bool, true, false, List, [], ◌∷◌}
use Rattle.std.specs.List.{flat_map}
use Rattle.client_copies.specs.declared.told.Word.{Word}
use Rattle.client_copies.specs.declared.told.Word.TheVariants as words
use Rattle.outbox.specs.declared.note.Note.{Note}
use Rattle.outbox.specs.declared.note.Note.TheVariants as notes

abbrev pub word_if : Bool → Word → List Word
word_if true word = word ∷ []
word_if false word = []

abbrev pub words_in : ℕ → Note → List Word
words_in j (notes.Started copy) = word_if (copy == j) words.Started
words_in j (notes.Copied copy count) = word_if (copy == j) (words.Copied count)
words_in j (notes.Stable copy) = word_if (copy == j) words.Stable
words_in j (notes.Failed copy status) = word_if (copy == j) (words.Failed status)
words_in j (notes.Exact copy) = word_if (copy == j) words.Exact
words_in j (notes.Unsure copy) = word_if (copy == j) words.Unsure
words_in j (notes.Cancelled copy) = word_if (copy == j) words.Cancelled
words_in j _ = []

abbrev pub words_of : ℕ → List Note → List Word
words_of j told = flat_map (words_in j) told

-- a note that a copy is stable
abbrev pub tells_stable : ℕ → Note → Bool
tells_stable j (notes.Stable copy) = copy == j
tells_stable j _ = false
