-- A system that shows a destination at every moment. Own definitions.
use Rattle.std.specs.Prelude.{◌≡◌, ℕ, suc, List, Option}
use Rattle.dest_core.specs.Stepping.{DestState, DestStep}
use Rattle.dest_laws.specs.Copies.Story.{Story}
use Rattle.dest_laws.specs.Own.Going.{jobs_in}
use Rattle.dest_laws.specs.View.Steps.{ShowsStep, table_in}
use Rattle.job_book.specs.Book.{IsSound}
use Rattle.wire_lines.specs.declared.letters.Speaker.{Speaker}
use Rattle.wire_model.specs.Meaning.{Meaning}
use Rattle.wire_model.specs.Spelling.{Spelling}
use Rattle.wire_model.specs.System.{System}
use Rattle.wire_model.specs.Wire.{Executed}

-- At each moment it shows the destination that is there then, whose table is sound, and which goes on by the step at that moment;
-- each step has a story.
pub record ShowsRun {M : Type 0} (spell : Spelling) (meaning : Meaning) (s : System) (host : ℕ → DestState M) (step : ℕ → DestStep M) : Type 0 where
  pub took : ℕ → Option (List ℕ)
  pub speaker : ℕ → Speaker
  pub executed : ℕ → Option Executed
  pub shows : (k : ℕ) → ShowsStep spell meaning s k (took k) (speaker k) (executed k) (host k) (step k)
  pub goes_on : (k : ℕ) → (step k).host ≡ host (suc k)
  pub story : (k : ℕ) → Story (jobs_in (host k)) (jobs_in (step k).host) (step k).out.used
  pub sound : (k : ℕ) → IsSound (table_in (host k))
