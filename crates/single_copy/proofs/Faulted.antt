-- A failed draw is answered only where the draws' count of faults rose.
use Rattle.std.proofs.Common.{◌≡◌, ℕ, Bool, true, false, Option, refl, sym, ap, ◌∙◌}
use Rattle.std.proofs.lemmas.Bool.{false≢true}
use Rattle.outcome.specs.Causes.{Rose}
use Rattle.client_copies.specs.declared.copy.Report.{Report}
use Rattle.single_copy.specs.Answers.{answer_of, copied_by, stopped}
use Rattle.single_copy.specs.Drawing.{DrawHasCause}
use Rattle.single_copy.specs.LastReports.{is_stable}
use Rattle.single_copy.specs.declared.answers.Copied.{Copied}
use Rattle.single_copy.specs.declared.answers.Copied.TheVariants.{Stable, Failed, LinkFault, DrawFault}
use Rattle.single_copy.specs.declared.answers.LastReport.{LastReport}
use Rattle.single_copy.specs.declared.answers.LastReport.TheVariants as lasts
use Rattle.single_copy.specs.declared.phases.Phase.{Phase}
use Rattle.single_copy.specs.declared.phases.Phase.TheVariants.{Fresh, Asking, Told, Parted, Undrawn}

abbrev is_draw : Copied → Bool
is_draw (Stable exact) = false
is_draw (Failed status) = false
is_draw (LinkFault stable) = false
is_draw DrawFault = true

stopped_undrawn : (stable faulty : Bool) → is_draw (stopped stable faulty) ≡ false
stopped_undrawn stable true = refl
stopped_undrawn true false = refl
stopped_undrawn false false = refl

copied_undrawn : (last : LastReport) → is_draw (copied_by last) ≡ false
copied_undrawn (lasts.Stable exact) = refl
copied_undrawn (lasts.Failed status) = refl

no_draw : {P : Type 0} (copied : Copied) → is_draw copied ≡ false → copied ≡ DrawFault → P
no_draw copied other is = absurd (false≢true (sym other ∙ ap is_draw is))

pub draw_faulted : (before now : ℕ) (phase : Phase) (report : Option Report) (faulty : Bool) → DrawHasCause before now phase
    → answer_of phase report faulty ≡ DrawFault → Rose before now
draw_faulted before now Fresh report faulty cause is = no_draw (stopped (is_stable report) faulty) (stopped_undrawn (is_stable report) faulty) is
draw_faulted before now Asking report faulty cause is = no_draw (stopped (is_stable report) faulty) (stopped_undrawn (is_stable report) faulty) is
draw_faulted before now (Told last) report faulty cause is = no_draw (copied_by last) (copied_undrawn last) is
draw_faulted before now (Parted last) report faulty cause is = no_draw (copied_by last) (copied_undrawn last) is
draw_faulted before now (Undrawn last) report faulty cause is = cause
