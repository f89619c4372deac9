-- What a small step of a run is to its destination: the destination acts in it, or rests. Own definitions.
use Rattle.std.specs.Prelude.{◌≡◌, ◌⊎◌, ℕ}
use Rattle.wire_lines.specs.declared.letters.Speaker.{Speaker}
use Rattle.wire_lines.specs.declared.letters.Speaker.TheVariants as speakers
use Rattle.wire_machine.specs.Ends.{DestAct}
use Rattle.wire_machine.specs.Ends as acts
use Rattle.wire_machine.specs.World.{Parts, idle}
use Rattle.run_ends.specs.Ends.{RunWorld, Words, dest_goes}
use Rattle.run_ends.specs.Handling.{dest_took}

-- who tells of an act: what comes from the source is a worker's
abbrev pub speaker_of : DestAct → Speaker
speaker_of (acts.Hears worker bytes) = speakers.Worker
speaker_of act = speakers.Dest

-- The second of an act is that of the clock, which moves on before the destination looks at it.
abbrev pub IsSecond : DestAct → (clock now : ℕ) → Type 0
IsSecond acts.DestTicks clock now = Unit {0}
IsSecond act clock now = now ≡ clock

module _ {M : Type 0} (words : Words M ℕ) where
  -- It acts so, in this second and with these draws, and leaves those.
  pub record DestActs (before : RunWorld M) (parts : Parts) (after : RunWorld M) : Type 0 where
    pub act : DestAct
    pub now : ℕ
    pub second : IsSecond act before.clock now
    pub draws : ℕ
    pub left : ℕ
    pub goes : dest_goes words act now before.dest draws after.dest left parts.dest.out
    pub took : parts.dest.took ≡ dest_took act
    pub speaker : parts.dest.speaker ≡ speaker_of act

  pub record DestRests (before : RunWorld M) (parts : Parts) (after : RunWorld M) : Type 0 where
    pub same : after.dest ≡ before.dest
    pub part : parts.dest ≡ idle speakers.Dest

  abbrev pub DestDid : RunWorld M → Parts → RunWorld M → Type 0
  DestDid before parts after = DestActs before parts after ⊎ DestRests before parts after
