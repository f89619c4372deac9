-- What happens to a copy: what is said, and the copy afterwards. The rows of one event stand together; where no row
-- fits, nothing is said and the copy stays as it was (RFC 7862 sections 4, 15.2, 15.3, 15.8, 15.9 and 16.1).
use Rattle.std.specs.Prelude.{ℕ, ◌==◌, ◌&&◌, bytes_eq, Bool, true, false, Option, Some, None}
use Rattle.copy_ops.specs.declared.callback.OffloadEnd.{OffloadEnd}
use Rattle.copy_ops.specs.declared.callback.OffloadEnd.TheVariants as ends
use Rattle.nfs_base.specs.declared.side.Side.{Side}
use Rattle.nfs_base.specs.declared.side.Side.TheVariants.{Source, Dest}
use Rattle.nfs_base.specs.declared.state_id.StateId.{StateId}
use Rattle.nfs_base.specs.declared.status.Status.{Status}
use Rattle.nfs_base.specs.declared.written.Stability.{Stability}
use Rattle.nfs_base.specs.declared.written.Stability.TheVariants.{Unstable, DataSync, FileSync}
use Rattle.client_copies.specs.declared.copy.ClientCopy.{ClientCopy}
use Rattle.client_copies.specs.declared.copy.First.{First}
use Rattle.client_copies.specs.declared.copy.Query.{Query}
use Rattle.client_copies.specs.declared.copy.Session.{Session}
use Rattle.client_copies.specs.declared.copy.Stage.{Stage}
use Rattle.client_copies.specs.declared.copy.Stage.TheVariants.{Due, Asked, Accepted, Over}
use Rattle.client_copies.specs.declared.copy.Step.{Step}
use Rattle.client_copies.specs.declared.copy.Step.TheVariants as steps
use Rattle.client_copies.specs.declared.copy.Verdict.{Verdict}
use Rattle.client_copies.specs.declared.copy.Verdict.TheVariants as verdicts
use Rattle.client_copies.specs.declared.event.Event.{Event}
use Rattle.client_copies.specs.declared.event.Event.TheVariants as events
use Rattle.client_copies.specs.declared.told.Said.{Said}
use Rattle.client_copies.specs.declared.told.Said.TheVariants.{Nothing, One, Two}
use Rattle.client_copies.specs.declared.told.Word.TheVariants as words
use Rattle.client_copies.specs.Copies.{side_of, is_stable, word_of}
use Rattle.client_copies.specs.Refusals.{refused_with}

abbrev pub quiet : ClientCopy → Said × ClientCopy
quiet c = (Nothing, c)

abbrev pub moves : Option Step → ClientCopy → Said × ClientCopy
moves None c = (Nothing, c)
moves (Some step) c = (Nothing, record c { stage = Due step })

abbrev pub ends_with : Verdict → ClientCopy → Said × ClientCopy
ends_with verdict c = (One (word_of verdict), record c { stage = Over verdict })

-- ---- Opened: its file is open at a server

abbrev pub opened_to : Side → Step → Option Step
opened_to Source steps.OpenSource = Some steps.AllowSource
opened_to Source steps.OpenAgain = Some steps.Last
opened_to Dest steps.OpenDest = Some steps.AllowDest
opened_to _ _ = None

abbrev pub on_opened : Side → Stage → ClientCopy → Said × ClientCopy
on_opened side (Due step) c = moves (opened_to side step) c
on_opened side (Asked step) c = moves (opened_to side step) c
on_opened side Accepted c = quiet c
on_opened side (Over verdict) c = quiet c

-- ---- Sent: the call that was due went out

abbrev pub on_sent : Stage → ClientCopy → Said × ClientCopy
on_sent (Due step) c = (Nothing, record c { stage = Asked step })
on_sent (Asked step) c = quiet c
on_sent Accepted c = quiet c
on_sent (Over verdict) c = quiet c

-- ---- the step that awaits its answer

abbrev pub asked_step : Stage → Option Step
asked_step (Asked step) = Some step
asked_step _ = None

-- Allowed: CREATE was answered OK
abbrev pub on_allowed : Option Step → ClientCopy → Said × ClientCopy
on_allowed (Some steps.AllowSource) c = moves (Some steps.Notify) c
on_allowed (Some steps.AllowDest) c = moves (Some steps.Copy) c
on_allowed _ c = quiet c

-- Granted: COPY_NOTIFY was answered OK
abbrev pub on_granted : First → Option Step → ClientCopy → Said × ClientCopy
on_granted first (Some steps.Notify) c = (Nothing, record c { stage = Due steps.OpenDest; first = Some first })
on_granted first _ c = quiet c

-- Accepted: COPY was answered OK
abbrev pub on_accepted : StateId → ℕ → Option Step → ClientCopy → Said × ClientCopy
on_accepted id sent_at (Some steps.Copy) c = (One words.Started, record c { stage = Accepted; id = Some id; asked_at = sent_at })
on_accepted id sent_at _ c = quiet c

-- Told: the last GETATTR was answered OK. It is exact where the session and the change attribute are those of COPY_NOTIFY.
abbrev pub is_same_session : Session → Session → Bool
is_same_session a b = bytes_eq a.id b.id && bytes_eq a.root b.root

abbrev pub stood_still : ℕ → Session → Option First → Bool
stood_still change session None = false
stood_still change session (Some first) = is_same_session first.session session && (first.change == change)

abbrev pub told_by : Bool → Verdict
told_by true = verdicts.Exact
told_by false = verdicts.Unsure

abbrev pub on_told : ℕ → Session → Option Step → ClientCopy → Said × ClientCopy
on_told change session (Some steps.Last) c = ends_with (told_by (stood_still change session c.first)) c
on_told change session _ c = quiet c

-- Refused: a stable copy is stable for all that
abbrev pub lost_by : Bool → Status → Verdict
lost_by true status = verdicts.Unsure
lost_by false status = verdicts.Failed status

abbrev pub on_refused : Status → Option Step → ClientCopy → Said × ClientCopy
on_refused status None c = quiet c
on_refused status (Some step) c = ends_with (lost_by (is_stable step) status) c

-- ---- what is asked of the destination while the copy goes on there; once it is reported, an answer says nothing

abbrev pub is_going : Stage → Bool
is_going (Due step) = false
is_going (Asked step) = false
is_going Accepted = true
is_going (Over verdict) = false

abbrev pub stable : ClientCopy → ClientCopy
stable c = record c { stage = Due steps.OpenAgain }

abbrev pub on_queried : Query → Bool → ClientCopy → Said × ClientCopy
on_queried query true c = (Nothing, record c { query = Some query })
on_queried query false c = quiet c

-- Progressed: OFFLOAD_STATUS was answered OK. Status 0 means that all is stable.
abbrev pub completed : ℕ → Bool → Status → ClientCopy → Said × ClientCopy
completed count true status c = (Two (words.Copied count) words.Stable, stable c)
completed count false status c = (Two (words.Copied count) (words.Failed status), record c { stage = Over (verdicts.Failed status) })

abbrev pub progressed : ℕ → Option Status → ClientCopy → Said × ClientCopy
progressed count None c = (One (words.Copied count), c)
progressed count (Some status) c = completed count (status.number == 0) status c

abbrev pub on_progressed : ℕ → Option Status → Bool → ClientCopy → Said × ClientCopy
on_progressed count complete true c = progressed count complete c
on_progressed count complete false c = quiet c

-- Cancelled and QueryRefused
abbrev pub on_ended : Verdict → Bool → ClientCopy → Said × ClientCopy
on_ended verdict true c = ends_with verdict c
on_ended verdict false c = quiet c

-- Offloaded: only FILE_SYNC4 means that all is stable
abbrev pub synced : Stability → ClientCopy → Said × ClientCopy
synced FileSync c = (One words.Stable, stable c)
synced DataSync c = quiet c
synced Unstable c = quiet c

abbrev pub offloaded : OffloadEnd → ClientCopy → Said × ClientCopy
offloaded (ends.Done response) c = synced response.committed c
offloaded (ends.Failed status count) c = ends_with (verdicts.Failed status) c

abbrev pub on_offloaded : OffloadEnd → Bool → ClientCopy → Said × ClientCopy
on_offloaded end true c = offloaded end c
on_offloaded end false c = quiet c

-- ---- Down: the setup at a server went down, and what is awaited of it comes no more

abbrev pub is_side : Side → Side → Bool
is_side Source Source = true
is_side Source Dest = false
is_side Dest Source = false
is_side Dest Dest = true

abbrev pub fails_if : Bool → Verdict → ClientCopy → Said × ClientCopy
fails_if true verdict c = ends_with verdict c
fails_if false verdict c = quiet c

abbrev pub step_down : Side → Status → Step → ClientCopy → Said × ClientCopy
step_down side status step c = fails_if (is_side side (side_of step)) (lost_by (is_stable step) status) c

abbrev pub stage_down : Side → Status → Stage → ClientCopy → Said × ClientCopy
stage_down side status (Due step) c = step_down side status step c
stage_down side status (Asked step) c = step_down side status step c
stage_down side status Accepted c = fails_if (is_side side Dest) (verdicts.Failed status) c
stage_down side status (Over verdict) c = quiet c

abbrev pub query_down : Side → Option Query → Option Query
query_down Source query = query
query_down Dest query = None

abbrev pub on_down : Side → Status → ClientCopy → Said × ClientCopy
on_down side status c = stage_down side status c.stage (record c { query = query_down side c.query })

-- ---- all that happens

unfoldable pub after : Event → ClientCopy → Said × ClientCopy
after (events.Opened side) c = on_opened side c.stage c
after events.Sent c = on_sent c.stage c
after events.Allowed c = on_allowed (asked_step c.stage) c
after (events.Granted first) c = on_granted first (asked_step c.stage) c
after (events.Accepted id sent_at) c = on_accepted id sent_at (asked_step c.stage) c
after (events.Told change session) c = on_told change session (asked_step c.stage) c
after (events.Refused why) c = on_refused (refused_with why) (asked_step c.stage) c
after (events.Queried query) c = on_queried query (is_going c.stage) c
after (events.Progressed count complete sent_at) c =
    on_progressed count complete (is_going c.stage) (record c { query = None; asked_at = sent_at })
after events.Cancelled c = on_ended verdicts.Cancelled (is_going c.stage) (record c { query = None })
after (events.QueryRefused why) c = on_ended (verdicts.Failed (refused_with why)) (is_going c.stage) (record c { query = None })
after (events.Offloaded end) c = on_offloaded end (is_going c.stage) c
after (events.Down side status) c = on_down side status c
