-- How far a copy is, and what can be asked of it (RFC 7862 section 4).
use Rattle.std.specs.Prelude.{ℕ, ◌==◌, ◌&&◌, ◌-◌, nat_le, Bool, true, false, if◌then◌else◌, List, Option, Some, None}
use Rattle.nfs_base.specs.declared.copy_spec.CopySpec.{CopySpec}
use Rattle.nfs_base.specs.declared.side.Side.{Side}
use Rattle.nfs_base.specs.declared.side.Side.TheVariants.{Source, Dest}
use Rattle.nfs_base.specs.declared.state_id.StateId.{StateId}
use Rattle.client_copies.specs.declared.copy.Asking.{Asking}
use Rattle.client_copies.specs.declared.copy.Asking.TheVariants.{Busy, Idle, Ready}
use Rattle.client_copies.specs.declared.copy.ClientCopy.{ClientCopy}
use Rattle.client_copies.specs.declared.copy.Query.{Query}
use Rattle.client_copies.specs.declared.copy.Report.{Report}
use Rattle.client_copies.specs.declared.copy.Report.TheVariants as reports
use Rattle.client_copies.specs.declared.copy.Stage.{Stage}
use Rattle.client_copies.specs.declared.copy.Stage.TheVariants.{Due, Asked, Accepted, Over}
use Rattle.client_copies.specs.declared.copy.Step.{Step}
use Rattle.client_copies.specs.declared.copy.Step.TheVariants as steps
use Rattle.client_copies.specs.declared.copy.TheConstants.{STATUS_AFTER}
use Rattle.client_copies.specs.declared.copy.Verdict.{Verdict}
use Rattle.client_copies.specs.declared.copy.Verdict.TheVariants as verdicts
use Rattle.client_copies.specs.declared.told.Word.{Word}
use Rattle.client_copies.specs.declared.told.Word.TheVariants as words

-- a copy that was just begun
abbrev pub begun : CopySpec → List ℕ → ClientCopy
begun spec secret = record {
  spec = spec;
  secret = secret;
  stage = Due steps.OpenSource;
  query = None;
  first = None;
  id = None;
  asked_at = 0;
}

-- ---- steps

-- to which server a step belongs
abbrev pub side_of : Step → Side
side_of steps.OpenSource = Source
side_of steps.AllowSource = Source
side_of steps.Notify = Source
side_of steps.OpenDest = Dest
side_of steps.AllowDest = Dest
side_of steps.Copy = Dest
side_of steps.OpenAgain = Source
side_of steps.Last = Source

-- the copy is stable
abbrev pub is_stable : Step → Bool
is_stable steps.OpenSource = false
is_stable steps.AllowSource = false
is_stable steps.Notify = false
is_stable steps.OpenDest = false
is_stable steps.AllowDest = false
is_stable steps.Copy = false
is_stable steps.OpenAgain = true
is_stable steps.Last = true

abbrev pub due : Stage → Option Step
due (Due step) = Some step
due (Asked step) = None
due Accepted = None
due (Over verdict) = None

-- ---- what is said of it

abbrev pub word_of : Verdict → Word
word_of (verdicts.Failed status) = words.Failed status
word_of verdicts.Exact = words.Exact
word_of verdicts.Unsure = words.Unsure
word_of verdicts.Cancelled = words.Cancelled

abbrev pub report_of : Verdict → Report
report_of (verdicts.Failed status) = reports.Failed status
report_of verdicts.Exact = reports.Exact
report_of verdicts.Unsure = reports.Unsure
report_of verdicts.Cancelled = reports.Cancelled

abbrev pub reported_in : Step → Option Report
reported_in step = if is_stable step then Some reports.Stable else None

abbrev pub reported : Stage → Option Report
reported (Due step) = reported_in step
reported (Asked step) = reported_in step
reported Accepted = None
reported (Over verdict) = Some (report_of verdict)

-- ---- what can be asked of it

abbrev pub asking_in : Stage → Asking
asking_in (Due step) = Idle
asking_in (Asked step) = Busy
asking_in Accepted = Ready
asking_in (Over verdict) = Idle

-- a call that awaits its answer comes first
abbrev pub asking_by : Option Query → Stage → Asking
asking_by (Some query) stage = Busy
asking_by None stage = asking_in stage

abbrev pub asking : ClientCopy → Asking
asking c = asking_by c.query c.stage

abbrev pub is_ready : Asking → Bool
is_ready Busy = false
is_ready Idle = false
is_ready Ready = true

abbrev pub is_overdue : ℕ → ClientCopy → Bool
is_overdue now c = is_ready (asking c) && nat_le STATUS_AFTER (now - c.asked_at)

-- ---- its stateid

abbrev pub is_same_id : StateId → StateId → Bool
is_same_id a b = (a.seqid == b.seqid) && (a.kind == b.kind) && (a.boot == b.boot) && (a.number == b.number)

abbrev pub is_called : StateId → Option StateId → Bool
is_called id None = false
is_called id (Some own) = is_same_id own id
