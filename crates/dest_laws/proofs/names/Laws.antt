-- The laws of names and reports from their parts.
use Rattle.std.proofs.Common.{◌≡◌, ℕ, ◌<◌, List, Option, Some, None, sym, ap, ◌∙◌}
use Rattle.std.specs.Prelude.{suc}
use Rattle.dest_core.specs.Stepping.{DestState, DestStep}
use Rattle.dest_laws.specs.Names.Holding.{CopiesRight, ReportsRight, StatusRight}
use Rattle.dest_laws.specs.View.Steps.{ShowsStep}
use Rattle.nfs_base.specs.declared.seal.End.TheVariants.{Dest}
use Rattle.wire_lines.specs.declared.letters.Speaker.{Speaker}
use Rattle.wire_model.specs.Meaning.{Meaning}
use Rattle.wire_model.specs.NameLaws.{NameLaws}
use Rattle.wire_model.specs.Spelling.{Spelling}
use Rattle.wire_model.specs.System.{System}
use Rattle.wire_model.specs.Wire.{Acts}

abbrev pub Stays : System → ℕ → Type 0
Stays s k = (j : ℕ) → s.name (suc k) j ≡ s.name k j

abbrev pub AreOne : System → ℕ → Type 0
AreOne s k = (j l : ℕ) → j < l → s.name (suc k) j ≡ s.name (suc k) l → ⊥

pub whole : (spell : Spelling) (mean : Meaning) (s : System) (k : ℕ) → Stays s k → AreOne s k → CopiesRight mean s k → StatusRight mean s k → ReportsRight spell mean s k → NameLaws spell mean s k
whole spell mean s k stays one copied status reports = record {
  stays = λ j below. stays j;
  one = λ j l below new there same. one j l below same;
  tells = λ ops results executed. record {
    copied = λ plan name asks named. copied ops results plan name executed asks named;
    status = λ name asks complete. status ops results name executed asks complete;
  };
  reports = reports;
}

-- a step that executes nothing tells nothing
pub silent : {M : Type 0} (spell : Spelling) (mean : Meaning) (s : System) (k : ℕ) (took : Option (List ℕ)) (speaker : Speaker) (d : DestState M) (t : DestStep M)
    → ShowsStep spell mean s k took speaker None d t → Stays s k → AreOne s k → ReportsRight spell mean s k → NameLaws spell mean s k
silent spell mean s k took speaker d t shows stays one reports =
    whole spell mean s k stays one (λ ops results plan name executed asks named. absurd (never ops results executed)) (λ ops results name executed asks complete. absurd (never ops results executed)) reports
  where
    never : (ops results : List ℕ) → (s.acts Dest k).executed ≡ Some (record { ops = ops; results = results }) → ⊥
    never ops results executed = let wrong : None ≡ Some (record { ops = ops; results = results }) = sym (ap (λ (a : Acts). a.executed) shows.acts) ∙ executed in cc
