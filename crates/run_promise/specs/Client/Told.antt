-- What the client of a run tells: the notes that its part of each small step gives, in the order of the steps. Own definitions.
use Rattle.std.specs.Prelude.{ℕ, ◌==◌, Bool, false, List, slice_get}
use Rattle.std.specs.List.{flat_map}
use Rattle.client_core.specs.State.{ClientState, new_client}
use Rattle.client_laws.specs.Turns.{IsRun, Turn}
use Rattle.client_steps.specs.declared.setting.Setting.{Setting}
use Rattle.outbox.specs.declared.note.Note.{Note}
use Rattle.outbox.specs.declared.note.Note.TheVariants as notes
use Rattle.run_ends.specs.Ends.{RunStep, Words, ways}
use Rattle.run_promise.specs.Client.Along.{part_by}

-- in a small step
abbrev pub notes_in : {M : Type 0} → RunStep M → List Note
notes_in s = s.parts.client.out.notes

-- in all of them
abbrev pub notes_along : {M : Type 0} → List (RunStep M) → List Note
notes_along steps = flat_map notes_in steps

-- in the step from a moment; nothing past the last one
abbrev pub notes_at : {M : Type 0} → List (RunStep M) → ℕ → List Note
notes_at steps k = (part_by (slice_get steps k)).out.notes

-- a note that a copy is exact
abbrev pub tells_exact : ℕ → Note → Bool
tells_exact j (notes.Exact copy) = copy == j
tells_exact j _ = false

-- it is told in a run of turns, from a new client to this one
pub record IsToldInTurns {M : Type 0} (words : Words M ℕ) (s : Setting M) (last : ClientState M) (told : List Note) : Type 0 where
  pub turns : List Turn
  pub run : IsRun (ways words (new_client s)) words.gives turns (new_client s) last told
