-- Lines of few words.
use Rattle.std.proofs.Common.{◌≡◌, ℕ, List, [], ◌∷◌, Option, None, Some, refl, option_and_then}
use Rattle.wire_schedule.specs.declared.event.Event.{Event}
use Rattle.wire_schedule.specs.Numerals.{number_below}
use Rattle.wire_schedule.specs.Words.{words_of}
use Rattle.wire_schedule.specs.Grammar.{copy_of, copy_spec_of, directive_of, lone_of, more_of}
use Rattle.wire_schedule.proofs.WordsLemmas.{split-first}

-- a line of one word
pub directive_of_one : (kind : List ℕ) → directive_of (kind ∷ []) ≡ lone_of kind
unfolding directive_of
directive_of_one kind = refl

-- a line of more
pub directive_of_more : (kind text : List ℕ) → directive_of (kind ∷ words_of text) ≡ more_of kind (words_of text)
unfolding directive_of
directive_of_more kind text =
    let parts = split-first 32 text in
    rw parts.2 refl

abbrev no_event : Option Event
no_event = None

nothing : {A : Type 0} (value : Option A) → option_and_then (λ _. no_event) value ≡ no_event
nothing None = refl
nothing (Some x) = refl

-- no copy is spelled by its number alone
pub copy_of_one : (copy : List ℕ) → copy_of (copy ∷ []) ≡ None
unfolding copy_of copy_spec_of
copy_of_one copy = nothing (number_below 256 copy)
