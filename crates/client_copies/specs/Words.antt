-- What is told of a copy over its life, and where whoever hears it knows the copy to be.
use Rattle.std.specs.Prelude.{List, [], ◌∷◌, ◌++◌, Bool, true, false, Option, Some, None, option_and_then}
use Rattle.client_copies.specs.declared.copy.ClientCopy.{ClientCopy}
use Rattle.client_copies.specs.declared.copy.Stage.{Stage}
use Rattle.client_copies.specs.declared.copy.Stage.TheVariants.{Due, Asked, Accepted, Over}
use Rattle.client_copies.specs.declared.event.Event.{Event}
use Rattle.client_copies.specs.declared.told.Said.{Said}
use Rattle.client_copies.specs.declared.told.Said.TheVariants.{Nothing, One, Two}
use Rattle.client_copies.specs.declared.told.Word.{Word}
use Rattle.client_copies.specs.declared.told.Word.TheVariants as words
use Rattle.client_copies.specs.Copies.{is_stable}
use Rattle.client_copies.specs.Steps.{after}

-- what is told at once, in its order
abbrev pub told : Said → List Word
told Nothing = []
told (One word) = word ∷ []
told (Two first second) = first ∷ second ∷ []

-- ---- a run of events

abbrev pub ran : List Event → ClientCopy → ClientCopy
ran [] c = c
ran (event ∷ events) c = ran events (after event c).1

abbrev pub told_by_run : List Event → ClientCopy → List Word
told_by_run [] c = []
told_by_run (event ∷ events) c = told (after event c).0 ++ told_by_run events (after event c).1

-- ---- where a copy is, as far as it is told: nothing is told yet, it was started, it is stable, or nothing more is told

pub data Phase : Type 0 where
  Silent : Phase
  Going : Phase
  Safe : Phase
  Done : Phase

abbrev pub phase_by : Bool → Phase
phase_by true = Safe
phase_by false = Silent

abbrev pub phase_of : Stage → Phase
phase_of (Due step) = phase_by (is_stable step)
phase_of (Asked step) = phase_by (is_stable step)
phase_of Accepted = Going
phase_of (Over verdict) = Done

-- Which word may be told where, and where the copy is behind it. No other word is told there.
abbrev pub behind : Phase → Word → Option Phase
behind Silent words.Started = Some Going
behind Silent (words.Failed status) = Some Done
behind Going (words.Copied count) = Some Going
behind Going words.Stable = Some Safe
behind Going (words.Failed status) = Some Done
behind Going words.Cancelled = Some Done
behind Safe words.Exact = Some Done
behind Safe words.Unsure = Some Done
behind _ _ = None

-- where a copy is behind these words; None: they aren't told of a copy in this order
abbrev pub behind_all : List Word → Phase → Option Phase
behind_all [] phase = Some phase
behind_all (word ∷ more) phase = option_and_then (behind_all more) (behind phase word)

-- ---- words

abbrev pub is_stable_word : Word → Bool
is_stable_word words.Stable = true
is_stable_word _ = false

abbrev pub is_exact_word : Word → Bool
is_exact_word words.Exact = true
is_exact_word _ = false

-- nothing is told behind it
abbrev pub is_final : Word → Bool
is_final (words.Failed status) = true
is_final words.Exact = true
is_final words.Unsure = true
is_final words.Cancelled = true
is_final _ = false
