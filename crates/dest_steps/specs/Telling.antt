-- What is sent where a job ends (RFC 7862 section 16.1): CB_OFFLOAD with the level FILE_SYNC4 once all of it is committed, and
-- with a status where it was stopped by something that its client is told.
use Rattle.std.specs.Prelude.{ℕ, List, [], ◌∷◌, Option, Some, None}
use Rattle.copy_ops.specs.declared.callback.OffloadEnd.{OffloadEnd}
use Rattle.copy_ops.specs.declared.callback.OffloadEnd.TheVariants as offloads
use Rattle.copy_ops.specs.declared.operation.TheConstants.{OP_CB_OFFLOAD}
use Rattle.dest_back.specs.Callbacks.{CallbackTable}
use Rattle.dest_back.specs.Telling.{told}
use Rattle.dest_back.specs.declared.compound.Ended.{Ended}
use Rattle.dest_back.specs.declared.telling.CallAt.{CallAt}
use Rattle.dest_back.specs.declared.telling.Sent.{Sent}
use Rattle.dest_jobs.specs.Copying.{offload_id}
use Rattle.dest_tasks.specs.Seats.{seat_of}
use Rattle.file_server.specs.Handles.{file_handle}
use Rattle.job_book.specs.Book.{landed_at, named}
use Rattle.job_table.specs.Table.{status_of}
use Rattle.job_table.specs.declared.job.Job.{Job}
use Rattle.nfs_base.specs.declared.job.JobName.{JobName}
use Rattle.nfs_base.specs.declared.job.Stop.{Stop}
use Rattle.nfs_base.specs.declared.status.Status.{Status}
use Rattle.nfs_base.specs.declared.written.Stability.TheVariants.{FileSync}
use Rattle.outbox.specs.declared.label.CallLabel.TheVariants.{Callback}
use Rattle.outbox.specs.declared.label.Label.TheVariants.{Call}
use Rattle.outbox.specs.declared.outgoing.Outgoing.{Outgoing}
use Rattle.outbox.specs.declared.outgoing.To.TheVariants.{Conn}
use Rattle.wire_xdr.specs.Words.{hyper_bytes}
use Rattle.dest_steps.specs.Copier.{Around, Codes, xid_of}
use Rattle.dest_steps.specs.declared.copier.Copier.{Copier}
use Rattle.dest_steps.specs.declared.telling.Telling.{Telling}

-- ---- a callback that goes out

abbrev pub callback : Sent → Outgoing
callback call = record { to = Conn call.conn; bytes = call.bytes; seal = Some call.seal; label = Call (Callback OP_CB_OFFLOAD) }

abbrev pub callbacks : Option Sent → List Outgoing
callbacks None = []
callbacks (Some call) = callback call ∷ []

-- ---- it is told of the file here, by the job's stateid, on the back channel of the job's seat

abbrev pub call_at : Around → (seat xid : ℕ) → CallAt
call_at around seat xid = record { seat = seat; xid = xid; now = around.second; boot = around.boot }

abbrev pub ended_of : Around → JobName → Job → OffloadEnd → Ended
ended_of around name job end = record { file = file_handle around.tag job.plan.file; id = offload_id name; end = end }

abbrev pub telling_nothing : Copier → Telling
telling_nothing x = record { back = x.back; sent = [] }

abbrev pub telling_of : Option Sent × CallbackTable → Telling
telling_of outcome = record { back = outcome.1; sent = callbacks outcome.0 }

abbrev pub telling_at : Codes → Around → CallAt → Ended → Copier → Telling
telling_at codes around at ended x = telling_of (told codes.mic codes.derived around.sessions at ended x.back)

-- where a call is left, and the job is there and has a seat
abbrev pub telling_by : Codes → Around → JobName → OffloadEnd → (xid seat : Option ℕ) → Option Job → Copier → Telling
telling_by codes around name end None seat job x = telling_nothing x
telling_by codes around name end (Some xid) None job x = telling_nothing x
telling_by codes around name end (Some xid) (Some seat) None x = telling_nothing x
telling_by codes around name end (Some xid) (Some seat) (Some job) x =
    telling_at codes around (call_at around seat xid) (ended_of around name job end) x

abbrev pub telling : Codes → Around → JobName → OffloadEnd → Copier → Telling
telling codes around name end x =
    telling_by codes around name end (xid_of x.work.mount x.back) (seat_of name.number x.work.seats) (named x.copies.book.table name) x

-- ---- how it ended

abbrev pub landed_by : JobName → Copier → ℕ
landed_by name x = landed_at (named x.copies.book.table name)

-- all of it is safe
abbrev pub safe_end : (boot count : ℕ) → OffloadEnd
safe_end boot count = offloads.Done (record { callback_id = None; count = count; committed = FileSync; verifier = hyper_bytes boot })

abbrev pub commit_telling : Codes → Around → JobName → Copier → Telling
commit_telling codes around name x = telling codes around name (safe_end around.boot (landed_by name x)) x

abbrev pub stop_telling_by : Codes → Around → JobName → Option Status → Copier → Telling
stop_telling_by codes around name None x = telling_nothing x
stop_telling_by codes around name (Some status) x = telling codes around name (offloads.Failed status (landed_by name x)) x

abbrev pub stop_telling : Codes → Around → JobName → Stop → Copier → Telling
stop_telling codes around name cause x = stop_telling_by codes around name (status_of cause) x
