-- The reports of a copy behind which none comes.
use Rattle.std.specs.Prelude.{Bool, true, false, Option, Some, None}
use Rattle.client_copies.specs.declared.copy.Report.{Report}
use Rattle.client_copies.specs.declared.copy.Report.TheVariants as reports
use Rattle.single_copy.specs.declared.answers.LastReport.{LastReport}
use Rattle.single_copy.specs.declared.answers.LastReport.TheVariants as lasts

-- A client that cancels nothing reports nothing as cancelled.
abbrev pub last_by : Report → Option LastReport
last_by reports.Stable = None
last_by (reports.Failed status) = Some (lasts.Failed status)
last_by reports.Exact = Some (lasts.Stable true)
last_by reports.Unsure = Some (lasts.Stable false)
last_by reports.Cancelled = None

abbrev pub last_of : Option Report → Option LastReport
last_of None = None
last_of (Some report) = last_by report

-- it is stable, and whether it is exact isn't known yet
abbrev pub is_stable : Option Report → Bool
is_stable (Some reports.Stable) = true
is_stable _ = false
