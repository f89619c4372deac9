-- What is answered of a copy: its last report, or why it has none.
use Rattle.std.specs.Prelude.{Bool, false, if◌then◌else◌, Option, Some, None}
use Rattle.client_copies.specs.declared.copy.Report.{Report}
use Rattle.nfs_base.specs.declared.status.TheConstants.Status.{BADSESSION}
use Rattle.single_copy.specs.LastReports.{is_stable}
use Rattle.single_copy.specs.declared.answers.Copied.{Copied}
use Rattle.single_copy.specs.declared.answers.Copied.TheVariants.{Stable, Failed, LinkFault, DrawFault}
use Rattle.single_copy.specs.declared.answers.LastReport.{LastReport}
use Rattle.single_copy.specs.declared.answers.LastReport.TheVariants as lasts
use Rattle.single_copy.specs.declared.phases.Phase.{Phase}
use Rattle.single_copy.specs.declared.phases.Phase.TheVariants.{Fresh, Asking, Told, Parted, Undrawn}

abbrev pub copied_by : LastReport → Copied
copied_by (lasts.Stable exact) = Stable exact
copied_by (lasts.Failed status) = Failed status

-- The links brought no last report. A call of one failed; or one counts as ended: the session is gone, and so is what would have
-- told whether a stable copy is exact.
abbrev pub stopped : (stable faulty : Bool) → Copied
stopped stable faulty = if faulty then LinkFault stable else (if stable then Stable false else Failed BADSESSION)

abbrev pub undrawn_of : Option LastReport → Copied
undrawn_of None = DrawFault
undrawn_of (Some last) = copied_by last

abbrev pub answer_of : Phase → Option Report → (faulty : Bool) → Copied
answer_of Fresh report faulty = stopped (is_stable report) faulty
answer_of Asking report faulty = stopped (is_stable report) faulty
answer_of (Told last) report faulty = copied_by last
answer_of (Parted last) report faulty = copied_by last
answer_of (Undrawn last) report faulty = undrawn_of last
