-- What an answer comes to (RFC 7862 section 4, RFC 8881 sections 18.16, 18.32 and 18.3): first as a word, by what was
-- asked and what is told, then by what it does.
use Rattle.std.specs.Prelude.{ℕ, ◌==◌, ◌||◌, ◌&&◌, is_some, Bool, true, false, List, Option, Some, None}
use Rattle.call_results.specs.Results as results
use Rattle.call_results.specs.declared.copies.Granted.{Granted}
use Rattle.call_results.specs.declared.files.Opened.{Opened}
use Rattle.call_results.specs.declared.files.Written.{Written}
use Rattle.copy_ops.specs.declared.results.OffloadProgress.{OffloadProgress}
use Rattle.nfs_base.specs.declared.side.Side.{Side}
use Rattle.nfs_base.specs.declared.side.Side.TheVariants.{Source, Dest}
use Rattle.nfs_base.specs.declared.state_id.StateId.{StateId}
use Rattle.nfs_base.specs.declared.status.Status.{Status}
use Rattle.nfs_base.specs.declared.status.TheConstants.Status as statuses
use Rattle.nfs_compound.specs.declared.reply.Reply.{Reply}
use Rattle.nfs_compound.specs.declared.res.Res.{Res}
use Rattle.rpc_msg.specs.Heads.{stat_case}
use Rattle.wire_xdr.specs.Arms.{number_of}
use Rattle.client_copies.specs.Copies.{side_of}
use Rattle.client_copies.specs.Refusals.{refused_with}
use Rattle.client_copies.specs.Steps.{is_side}
use Rattle.client_copies.specs.declared.copy.ClientCopy.{ClientCopy}
use Rattle.client_copies.specs.declared.copy.First.{First}
use Rattle.client_copies.specs.declared.copy.Query.{Query}
use Rattle.client_copies.specs.declared.copy.Query.TheVariants as queries
use Rattle.client_copies.specs.declared.copy.Session.{Session}
use Rattle.client_copies.specs.declared.copy.Stage.{Stage}
use Rattle.client_copies.specs.declared.copy.Stage.TheVariants as stages
use Rattle.client_copies.specs.declared.copy.Step.{Step}
use Rattle.client_copies.specs.declared.copy.Step.TheVariants as steps
use Rattle.client_copies.specs.declared.event.Event.TheVariants as events
use Rattle.client_copies.specs.declared.refusal.Refusal.{Refusal}
use Rattle.client_copies.specs.declared.refusal.Refusal.TheVariants as refusals
use Rattle.client_site.specs.Sites.{session_at}
use Rattle.client_site.specs.declared.site.OpenFile.{OpenFile}
use Rattle.mount.specs.Taking.{is_lost}
use Rattle.mount.specs.declared.taking.Told.{Told}
use Rattle.mount.specs.declared.taking.Told.TheVariants as tells
use Rattle.write_queue.specs.Queue.{Queued, file_of, first}
use Rattle.write_queue.specs.declared.queue.Head.{Head}
use Rattle.write_queue.specs.declared.queue.Head.TheVariants as heads
use Rattle.write_queue.specs.declared.work.QueueEvent.TheVariants as works
use Rattle.write_queue.specs.declared.work.Work.{Work}
use Rattle.client_steps.specs.CopySteps.{copy_in, file_on}
use Rattle.client_steps.specs.CopySteps as files
use Rattle.client_steps.specs.declared.deeds.Deed.{Deed}
use Rattle.client_steps.specs.declared.deeds.Deed.TheVariants as deeds
use Rattle.client_steps.specs.declared.desk.Desk.{Desk}

-- ---- a call of a setup was answered: it goes on, or it goes down with this status

abbrev pub failed : ℕ → Status
failed accept_stat = refused_with (refusals.Failed accept_stat)

abbrev pub setup_deed : Told → Deed
setup_deed tells.Rooted = deeds.Goes
setup_deed tells.Stepped = deeds.Goes
setup_deed (tells.Refused major) = deeds.Falls statuses.ACCESS
setup_deed (tells.Stopped status) = deeds.Falls status
setup_deed tells.Misspelt = deeds.Falls (failed 0)
setup_deed (tells.Failed stat) = deeds.Falls (failed (number_of stat_case stat))
setup_deed (tells.Denied why) = deeds.Falls statuses.BADSESSION
setup_deed tells.Unmatched = deeds.Rests
setup_deed (tells.Child child) = deeds.Rests
setup_deed (tells.Answer reply) = deeds.Rests

-- ---- a queue's first work

abbrev pub refuse_work : Refusal → Deed
refuse_work why = deeds.Queue (works.Refused (refused_with why))

abbrev pub work_opened : Option Opened → Option Work → Deed
work_opened (Some opened) (Some work) = deeds.Opens (record { file = file_of work; handle = opened.handle; id = opened.id })
work_opened _ _ = refuse_work (refusals.Failed 0)

abbrev pub work_committed : Option (List ℕ) → Deed
work_committed None = refuse_work (refusals.Failed 0)
work_committed (Some verifier) = deeds.Queue (works.Committed verifier)

abbrev pub work_done : Option Written → List Res → Deed
work_done (Some written) told = deeds.Queue (works.Written written.count written.verifier)
work_done None told = work_committed (results.at 2 results.told_committed told)

abbrev pub work_told : Head → Option Work → List Res → Deed
work_told heads.Opening work told = work_opened (results.open_in told) work
work_told heads.Due work told = work_done (results.at 2 results.told_written told) told
work_told heads.Asked work told = work_done (results.at 2 results.told_written told) told

abbrev pub work_answered : Bool → Bool → Reply → Head → Option Work → Deed
work_answered true ok reply head work = deeds.Falls statuses.BADSESSION
work_answered false false reply head work = refuse_work (refusals.Answered reply.status)
work_answered false true reply head work = work_told head work reply.results

abbrev pub is_ok : Status → Bool
is_ok status = status.number == 0

abbrev pub work_deed : Told → Queued → Deed
work_deed (tells.Answer reply) q = work_answered (is_lost reply.status) (is_ok reply.status) reply q.head (first q.works)
work_deed tells.Misspelt q = refuse_work (refusals.Failed 0)
work_deed (tells.Failed stat) q = refuse_work (refusals.Failed (number_of stat_case stat))
work_deed (tells.Denied why) q = deeds.Falls statuses.BADSESSION
work_deed (tells.Refused major) q = refuse_work refusals.NotAllowed
work_deed _ q = deeds.Rests

-- ---- a copy's call: the destination is asked how far it is, or the call is that of a step

abbrev pub query_of : Side → ClientCopy → Option Query
query_of Source c = None
query_of Dest c = c.query

abbrev pub refuse_call : Option Query → Refusal → Deed
refuse_call None why = deeds.Copy (events.Refused why)
refuse_call (Some query) why = deeds.Copy (events.QueryRefused why)

abbrev pub progressed : Option OffloadProgress → ℕ → Deed
progressed None sent_at = deeds.Copy (events.QueryRefused (refusals.Failed 0))
progressed (Some progress) sent_at = deeds.Copy (events.Progressed progress.count progress.complete sent_at)

abbrev pub query_told : Query → List Res → ℕ → Deed
query_told queries.Status told sent_at = progressed (results.at 2 results.told_progress told) sent_at
query_told queries.Cancel told sent_at = deeds.Copy events.Cancelled

abbrev pub refuse_step : Deed
refuse_step = deeds.Copy (events.Refused (refusals.Failed 0))

abbrev pub copy_opened : Side → ClientCopy → Option Opened → Deed
copy_opened side c None = refuse_step
copy_opened side c (Some opened) = deeds.Opens (record { file = files.file_of side c.spec; handle = opened.handle; id = opened.id })

abbrev pub granted_by : Option Granted → Option Session → Option OpenFile → Deed
granted_by (Some granted) (Some session) (Some opened_file) =
    deeds.Copy (events.Granted (record { file = opened_file.handle; change = granted.change; session = session; grant = granted.id }))
granted_by _ _ _ = refuse_step

abbrev pub accepted_by : Option StateId → Deed
accepted_by None = refuse_step
accepted_by (Some id) = deeds.Starts id

abbrev pub last_told : Option ℕ → Option Session → Deed
last_told (Some change) (Some session) = deeds.Copy (events.Told change session)
last_told _ _ = refuse_step

abbrev pub step_told : Step → Side → ClientCopy → List Res → Desk → Deed
step_told steps.OpenSource side c told d = copy_opened side c (results.open_in told)
step_told steps.OpenDest side c told d = copy_opened side c (results.open_in told)
step_told steps.OpenAgain side c told d = copy_opened side c (results.open_in told)
step_told steps.Notify side c told d = granted_by (results.grant_in told) (session_at d.source) (file_on Source c.spec.src_file d)
step_told steps.Copy side c told d = accepted_by (results.at 4 results.told_accepted told)
step_told steps.Last side c told d = last_told (results.at 2 results.told_change told) (session_at d.source)
step_told steps.AllowSource side c told d = deeds.Rests
step_told steps.AllowDest side c told d = deeds.Rests

abbrev pub stage_told : Stage → Side → ClientCopy → List Res → Desk → Deed
stage_told (stages.Asked step) side c told d = step_told step side c told d
stage_told _ side c told d = deeds.Rests

abbrev pub copy_told : Option Query → Side → ClientCopy → List Res → ℕ → Desk → Deed
copy_told None side c told sent_at d = stage_told c.stage side c told d
copy_told (Some query) side c told sent_at d = query_told query told sent_at

abbrev pub copy_answered : Bool → Bool → Side → ClientCopy → Reply → ℕ → Desk → Deed
copy_answered true ok side c reply sent_at d = deeds.Falls statuses.BADSESSION
copy_answered false false side c reply sent_at d = refuse_call (query_of side c) (refusals.Answered reply.status)
copy_answered false true side c reply sent_at d = copy_told (query_of side c) side c reply.results sent_at d

-- a denial of CREATE refuses the copy, and any other takes the setup down
abbrev pub stage_creates : Side → Stage → Bool
stage_creates Source (stages.Asked steps.AllowSource) = true
stage_creates Dest (stages.Asked steps.AllowDest) = true
stage_creates _ _ = false

abbrev pub denied_by : Bool → Option Query → Deed
denied_by true query = refuse_call query refusals.NotAllowed
denied_by false query = deeds.Falls statuses.BADSESSION

abbrev pub copy_by : Told → Side → ClientCopy → ℕ → Desk → Deed
copy_by (tells.Answer reply) side c sent_at d = copy_answered (is_lost reply.status) (is_ok reply.status) side c reply sent_at d
copy_by (tells.Child child) side c sent_at d = deeds.Copy events.Allowed
copy_by (tells.Refused major) side c sent_at d = refuse_call (query_of side c) refusals.NotAllowed
copy_by tells.Misspelt side c sent_at d = refuse_call (query_of side c) (refusals.Failed 0)
copy_by (tells.Failed stat) side c sent_at d = refuse_call (query_of side c) (refusals.Failed (number_of stat_case stat))
copy_by (tells.Denied why) side c sent_at d = denied_by (stage_creates side c.stage) (query_of side c)
copy_by _ side c sent_at d = deeds.Rests

abbrev pub copy_deed : Told → Side → Option ClientCopy → ℕ → Desk → Deed
copy_deed told side None sent_at d = deeds.Rests
copy_deed told side (Some c) sent_at d = copy_by told side c sent_at d
