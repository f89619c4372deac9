-- What stands before a destination's own work in a step.
use Rattle.std.specs.Prelude.{ℕ, List, Option}
use Rattle.dest_core.specs.Stepping.{DestState, without_lapsed}
use Rattle.dest_laws.specs.Deeds.{GoesWithin}
use Rattle.dest_laws.specs.Own.Going.{jobs_in}
use Rattle.dest_steps.specs.Copier.{Around, Codes}
use Rattle.dest_steps.specs.Turning.{IsTurnOf}
use Rattle.dest_steps.specs.declared.copier.Copier.{Copier}
use Rattle.dest_steps.specs.declared.turning.Turn.{Turn}
use Rattle.streams.specs.declared.draws.Drawn.{Drawn}

-- No copy is taken and no job gets an entry while a worker finds what is due, nor where clients' leases lapse.
pub record BeginsQuietly (M : Type 0) {W : Type 0} (gives : W → Drawn → W → Type 0) : Type 0 where
  pub due : (started : List ℕ → List ℕ → Option (List ℕ)) (codes : Codes) (around : Around) (place : ℕ) (x : Copier) (before after : W) (t : Turn × Copier)
      → IsTurnOf gives started codes around place x before after t → GoesWithin 0 0 x.copies.book t.1.copies.book
  pub lapsed : (s : DestState M) → GoesWithin 0 0 (jobs_in s) (jobs_in (without_lapsed s))
