-- The operations of a copy in a compound: COPY, OFFLOAD_STATUS and OFFLOAD_CANCEL. What they decide is in crate dest_jobs.
-- RFC 7862 sections 15.2, 15.8 and 15.9.
use Rattle.std.specs.Prelude.{ℕ, Option, Some, None, option_map, Result, Ok, Err, List, []}
use Rattle.compound_server.specs.Serves.{Served, served}
use Rattle.copy_ops.specs.declared.args.CopyArgs.{CopyArgs}
use Rattle.copy_ops.specs.declared.res.CopyRes.TheVariants as results
use Rattle.copy_ops.specs.declared.results.CopyAnswer.{CopyAnswer}
use Rattle.copy_ops.specs.declared.results.CopyAnswer.TheVariants as answers
use Rattle.dest_jobs.specs.Copying.{copied}
use Rattle.dest_jobs.specs.Offloads.{after_cancel, cancel_status, name_in, own_job, status_told}
use Rattle.dest_jobs.specs.declared.carried.Carried.{Carried}
use Rattle.dest_steps.specs.Copier.{with_seat}
use Rattle.dest_steps.specs.declared.copier.Copier.{Copier}
use Rattle.nfs_base.specs.declared.job.JobName.{JobName}
use Rattle.dest_jobs.specs.declared.copies.Copies.{Copies}
use Rattle.dest_jobs.specs.declared.copying.CopyRoom.{CopyRoom}
use Rattle.dest_jobs.specs.declared.copying.Ends.{Ends}
use Rattle.file_server.specs.Answering.{meant_id, open_refusal}
use Rattle.file_server.specs.Handles.{byte_file}
use Rattle.file_server.specs.Machine.{Going, with_extra}
use Rattle.file_server.specs.declared.extension.Caller.{Caller}
use Rattle.job_table.specs.Table.{new_log}
use Rattle.nfs_base.specs.declared.state_id.StateId.{StateId}
use Rattle.nfs_base.specs.declared.status.Status.{Status}
use Rattle.nfs_base.specs.declared.status.TheConstants.Status.{NOFILEHANDLE}
use Rattle.server_volume.specs.Store.{Store}
use Rattle.state_ids.specs.declared.access.Access.TheVariants as access
use Rattle.dest_core.specs.declared.destination.Destination.{Destination}

abbrev pub with_copier : {M : Type 0} → Copier → Going (Destination M) → Going (Destination M)
with_copier copier g = with_extra (record g.machine.extra { copier = copier }) g

abbrev pub with_copies : {M : Type 0} → Copies → Going (Destination M) → Going (Destination M)
with_copies copies g = with_copier (record g.machine.extra.copier { copies = copies }) g

-- ---- COPY: between which files, the saved one of the source and the current one here, which isn't the root. The saved
-- handle is taken as it stands, since only the source knows what it means.

abbrev pub ends_at : (source : List ℕ) → Result ℕ Status → Result Ends Status
ends_at source (Err status) = Err status
ends_at source (Ok file) = Ok (record { source = source; file = file })

abbrev pub ends_of : Store → Option (List ℕ) → Option (List ℕ) → Result Ends Status
ends_of s None saved = Err NOFILEHANDLE
ends_of s (Some current) None = Err NOFILEHANDLE
ends_of s (Some current) (Some saved) = ends_at saved (byte_file s (Some current))

-- what a job keeps of the privilege under which it was asked for, and its log
abbrev pub secret_of : Option Carried → List ℕ
secret_of None = []
secret_of (Some carried) = carried.secret

abbrev pub user_of : Option Carried → List ℕ
user_of None = []
user_of (Some carried) = carried.user

abbrev pub room_of : Option Carried → CopyArgs → CopyRoom
room_of carry args = record { secret = secret_of carry; user = user_of carry; log = new_log args.consecutive }

-- A copy that was taken as a job gets a seat; who is told how it ends is the session on which it came, by the key of the root
-- context under which it came.
abbrev pub job_in : CopyAnswer → Option JobName
job_in (answers.Refused status) = None
job_in (answers.NoReqs consecutive synchronous) = None
job_in (answers.Done done) = option_map name_in done.response.callback_id

abbrev pub seated_for : (session : ℕ) → Option Carried → Option JobName → Copier → Copier
seated_for session None job x = x
seated_for session (Some carried) None x = x
seated_for session (Some carried) (Some job) x = with_seat job (record { session = session; key = carried.root }) x

-- what is left of the copies, and the answer
abbrev pub answered_by : {M : Type 0} → (session : ℕ) → Option Carried → Copies × CopyAnswer → Going (Destination M) → Served (Destination M)
answered_by session carry d g =
    served (with_copier (seated_for session carry (job_in d.1) (record g.machine.extra.copier { copies = d.0 })) g) (results.Copy d.1)

-- it is decided by the table of dest_jobs, over why the destination's stateid doesn't let write
abbrev pub copied_here : {M : Type 0} → Caller → Option Carried → CopyArgs → Ends → CopyRoom → Going (Destination M) → Copies × CopyAnswer
copied_here caller carry args ends room g =
    copied caller.client carry args ends room (open_refusal g.machine.opens (meant_id g.held.id args.dst_id) ends.file access.Write)
    g.machine.store.volume.boot g.machine.extra.copier.copies

abbrev pub copy_between : {M : Type 0} → Result Ends Status → Caller → Option Carried → CopyArgs → CopyRoom → Going (Destination M) → Served (Destination M)
copy_between (Err status) caller carry args room g = served g (results.Copy (answers.Refused status))
copy_between (Ok ends) caller carry args room g = answered_by caller.session carry (copied_here caller carry args ends room g) g

abbrev pub copy : {M : Type 0} → Caller → Option Carried → CopyArgs → Going (Destination M) → Served (Destination M)
copy caller carry args g =
    copy_between (ends_of g.machine.store g.held.current g.held.saved) caller carry args (room_of carry args) g

-- ---- OFFLOAD_STATUS and OFFLOAD_CANCEL, which look at no handle

abbrev pub offload_status : {M : Type 0} → (client : ℕ) → StateId → Going (Destination M) → Served (Destination M)
offload_status client id g =
    let t = g.machine.extra.copier.copies.book.table in served g (results.OffloadStatus (status_told t (own_job t client id)))

abbrev pub offload_cancel : {M : Type 0} → (client : ℕ) → StateId → Going (Destination M) → Served (Destination M)
offload_cancel client id g =
    let copies = g.machine.extra.copier.copies in
    let job = own_job copies.book.table client id in
    served (with_copies (after_cancel job copies) g) (results.OffloadCancel (cancel_status job))
