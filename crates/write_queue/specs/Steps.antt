-- What happens to the first work: what is told of it, and the queue afterwards. Where no row fits, nothing is told and
-- the queue stays as it was (RFC 8881 sections 18.3, 18.16 and 18.32).
use Rattle.std.specs.Prelude.{ℕ, List, drop, Option, Some, None}
use Rattle.nfs_base.specs.declared.status.Status.{Status}
use Rattle.write_queue.specs.declared.queue.Head.{Head}
use Rattle.write_queue.specs.declared.queue.Head.TheVariants.{Due, Opening, Asked}
use Rattle.write_queue.specs.declared.work.Line.{Line}
use Rattle.write_queue.specs.declared.work.Line.TheVariants as lines
use Rattle.write_queue.specs.declared.work.QueueEvent.{QueueEvent}
use Rattle.write_queue.specs.declared.work.QueueEvent.TheVariants as events
use Rattle.write_queue.specs.declared.work.Work.{Work}
use Rattle.write_queue.specs.declared.work.Work.TheVariants.{Write, Commit}
use Rattle.write_queue.specs.Queue.{Queued, cleared, file_of, first, is_same, noted}

abbrev pub quiet : Queued → Option Line × Queued
quiet q = (None, q)

-- the first work was answered
abbrev pub answered : Queued → Queued
answered q = record q { works = drop 1 q.works; head = Due }

-- ---- OpenSent and Sent: what is due goes out

abbrev pub goes_out : Head → Head → Option Work → Queued → Option Line × Queued
goes_out to Due (Some work) q = (None, record q { head = to })
goes_out to Due None q = quiet q
goes_out to Opening work q = quiet q
goes_out to Asked work q = quiet q

-- ---- Opened: its file is open, and the work itself is due

abbrev pub on_opened : Head → Queued → Option Line × Queued
on_opened Due q = quiet q
on_opened Opening q = (None, record q { head = Due })
on_opened Asked q = quiet q

-- ---- what the work that went out did

abbrev pub asked : Head → Option Work → Option Work
asked Due work = None
asked Opening work = None
asked Asked work = work

abbrev pub on_written : ℕ → List ℕ → Option Work → Queued → Option Line × Queued
on_written count verifier (Some (Write file offset bytes)) q =
    (Some (lines.Written file count), record (answered q) { seen = noted file verifier q.seen })
on_written count verifier (Some (Commit file)) q = quiet q
on_written count verifier None q = quiet q

abbrev pub on_committed : List ℕ → Option Work → Queued → Option Line × Queued
on_committed verifier (Some (Commit file)) q =
    (Some (lines.Committed file (is_same file verifier q.seen)), record (answered q) { seen = cleared file q.seen })
on_committed verifier (Some (Write file offset bytes)) q = quiet q
on_committed verifier None q = quiet q

-- ---- Refused: the work, or the OPEN that it carried

abbrev pub awaited : Head → Option Work → Option Work
awaited Due work = None
awaited Opening work = work
awaited Asked work = work

abbrev pub on_refused : Status → Option Work → Queued → Option Line × Queued
on_refused status None q = quiet q
on_refused status (Some work) q = (Some (lines.Refused (file_of work) status), answered q)

-- ---- all that happens

unfoldable pub after : QueueEvent → Queued → Option Line × Queued
after events.OpenSent q = goes_out Opening q.head (first q.works) q
after events.Opened q = on_opened q.head q
after events.Sent q = goes_out Asked q.head (first q.works) q
after (events.Written count verifier) q = on_written count verifier (asked q.head (first q.works)) q
after (events.Committed verifier) q = on_committed verifier (asked q.head (first q.works)) q
after (events.Refused status) q = on_refused status (awaited q.head (first q.works)) q
