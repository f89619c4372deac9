-- What a turn of a client does to its copies, and what is told of them.
use Rattle.std.specs.Prelude.{ℕ, ◌≡◌, ◌⊎◌, List, length, Option, Some, None}
use Rattle.client_copies.specs.Table.{Copies, copy_at, with_begun}
use Rattle.client_copies.specs.Words.{Phase, phase_of}
use Rattle.client_copies.specs.Words as phases
use Rattle.client_copies.specs.declared.copy.ClientCopy.{ClientCopy}
use Rattle.outbox.specs.declared.outgoing.Outbox.{Outbox}
use Rattle.client_core.specs.Endings.{Ways}
use Rattle.client_core.specs.State.{ClientState}
use Rattle.client_laws.specs.Causes.{Cause}
use Rattle.client_laws.specs.Changes.{Changes}
use Rattle.client_laws.specs.Telling.{words_of}
use Rattle.client_laws.specs.Turns.{Turn, Begins}

-- the copies with which a turn begins: those that there are, and the one that it begins
abbrev pub IsStart : Turn → Copies → Copies → Type 0
IsStart (Begins j spec now) before start = (start ≡ before) ⊎ ((secret : List ℕ) × (start ≡ with_begun j spec secret before))
IsStart _ before start = start ≡ before

-- Each copy is what events made of it, each with its cause, and what is told of it is what they tell.
pub record TurnChanges {M : Type 0} (ways : Ways) (turn : Turn) (c d : ClientState M) (out : Outbox) : Type 0 where
  pub start : Copies
  pub begins : IsStart turn c.copies start
  pub many : length d.copies.copies ≡ length c.copies.copies
  pub each : (j : ℕ) → Changes (Cause ways turn c j) (copy_at j start) (copy_at j d.copies) (words_of j out.notes)

-- where a copy is, as far as it is told; nothing is told of one that wasn't begun
abbrev pub phase_told : Option ClientCopy → Phase
phase_told None = phases.Silent
phase_told (Some c) = phase_of c.stage

abbrev pub phase_at : {M : Type 0} → ℕ → ClientState M → Phase
phase_at j c = phase_told (copy_at j c.copies)
