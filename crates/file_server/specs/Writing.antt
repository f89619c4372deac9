-- WRITE and COMMIT (RFC 8881 sections 18.32 and 18.3). Their tests in their order: the current handle, for a WRITE the
-- stateid, the volume.
use Rattle.std.specs.Prelude.{ℕ, Option, Some, None, Result, Ok, Err, List, length, take}
use Rattle.block_file.specs.declared.faults.ReadFault.{ReadFault}
use Rattle.block_file.specs.declared.faults.WriteFault.{WriteFault}
use Rattle.block_file.specs.declared.faults.WriteFault.TheVariants as fault
use Rattle.nfs_base.specs.declared.answer.Answer.TheVariants.{Done, Refused}
use Rattle.nfs_base.specs.declared.limits.TheConstants.{DATA_LIMIT}
use Rattle.nfs_base.specs.declared.status.Status.{Status}
use Rattle.nfs_base.specs.declared.status.TheConstants.Status.{IO, FBIG, SERVERFAULT}
use Rattle.nfs_base.specs.declared.written.Stability.{Stability}
use Rattle.nfs_base.specs.declared.written.Stability.TheVariants.{Unstable, DataSync, FileSync}
use Rattle.wire_xdr.specs.Words.{hyper_bytes}
use Rattle.file_ops.specs.declared.files.WriteArgs.{WriteArgs}
use Rattle.file_ops.specs.declared.results.FileRes.TheVariants as results
use Rattle.state_ids.specs.declared.access.Access.TheVariants as access
use Rattle.server_volume.specs.Choices.{Choice}
use Rattle.server_volume.specs.Calls.{write_call, commit_call}
use Rattle.file_server.specs.Handles.{byte_file}
use Rattle.file_server.specs.Machine.{Going, Answered, with_call}
use Rattle.file_server.specs.Answering.{answered, meant_id, open_refusal}

-- The write verifier is the number of the volume's opening (own): it changes where unstable data may have been lost.
abbrev pub verifier_of : {X : Type 0} → Going X → List ℕ
verifier_of g = hyper_bytes g.machine.store.volume.boot

-- ---- COMMIT

abbrev pub commit_refused : {X : Type 0} → Going X → Status → Answered X
commit_refused g status = answered g (results.Commit (Refused status))

abbrev pub commit_told : {X : Type 0} → Option ReadFault → Going X → Answered X
commit_told (Some fault) g = commit_refused g IO
commit_told None g = answered g (results.Commit (Done (verifier_of g)))

abbrev pub commit_file : {X : Type 0} → Choice → Result ℕ Status → Going X → Answered X
commit_file choice (Err status) g = commit_refused g status
commit_file choice (Ok file) g =
    let c = commit_call choice g.used g.machine.store file in commit_told c.fault (with_call c g)

-- a COMMIT makes all of the file safe, whatever range it names
unfoldable pub commit : {X : Type 0} → Choice → Going X → Answered X
commit choice g = commit_file choice (byte_file g.machine.store g.held.current) g

-- ---- WRITE

abbrev pub write_refused : {X : Type 0} → Going X → Status → Answered X
write_refused g status = answered g (results.Write (Refused status))

abbrev pub write_status : WriteFault → Status
write_status fault.TooFar = FBIG
write_status fault.Worn = SERVERFAULT
write_status fault.DiskFailed = IO
write_status fault.Broken = IO

abbrev pub write_done : {X : Type 0} → (count : ℕ) → Stability → Going X → Answered X
write_done count how g =
    answered g (results.Write (Done (record { count = count; committed = how; verifier = verifier_of g })))

abbrev pub write_synced : {X : Type 0} → Option ReadFault → (count : ℕ) → Going X → Answered X
write_synced (Some fault) count g = write_refused g IO
write_synced None count g = write_done count FileSync g

abbrev pub sync_written : {X : Type 0} → Choice → (file count : ℕ) → Going X → Answered X
sync_written choice file count g =
    let c = commit_call choice g.used g.machine.store file in write_synced c.fault count (with_call c g)

-- data that is to be safe is committed, and then all of it is, and what is needed to read it
abbrev pub write_settled : {X : Type 0} → Choice → (file count : ℕ) → Stability → Going X → Answered X
write_settled choice file count Unstable g = write_done count Unstable g
write_settled choice file count DataSync g = sync_written choice file count g
write_settled choice file count FileSync g = sync_written choice file count g

abbrev pub write_told : {X : Type 0} → Option WriteFault → Choice → (file count : ℕ) → Stability → Going X → Answered X
write_told (Some fault) choice file count how g = write_refused g (write_status fault)
write_told None choice file count how g = write_settled choice file count how g

-- of more than 65,536 bytes the first 65,536 are written
unfoldable pub taken_bytes : List ℕ → List ℕ
taken_bytes bytes = take DATA_LIMIT bytes

abbrev pub write_at : {X : Type 0} → Choice → (off : ℕ) → List ℕ → Stability → (file : ℕ) → Going X → Answered X
write_at choice off bytes how file g =
    let c = write_call choice g.used g.machine.store file off bytes in
    write_told c.fault choice file (length bytes) how (with_call c g)

abbrev pub write_unless : {X : Type 0} → Option Status → Choice → WriteArgs → (file : ℕ) → Going X → Answered X
write_unless (Some status) choice args file g = write_refused g status
write_unless None choice args file g = write_at choice args.offset (taken_bytes args.bytes) args.stable file g

abbrev pub write_file : {X : Type 0} → Choice → WriteArgs → Result ℕ Status → Going X → Answered X
write_file choice args (Err status) g = write_refused g status
write_file choice args (Ok file) g =
    write_unless (open_refusal g.machine.opens (meant_id g.held.id args.state_id) file access.Write) choice args file g

unfoldable pub write : {X : Type 0} → Choice → WriteArgs → Going X → Answered X
write choice args g = write_file choice args (byte_file g.machine.store g.held.current) g
