-- The operations on the current and the saved handle: PUTROOTFH, PUTFH, GETFH, SAVEFH and RESTOREFH (RFC 8881 sections
-- 18.21, 18.19, 18.8, 18.28 and 18.27). One that sets another current handle clears the current stateid (section
-- 16.2.3.1.2).
use Rattle.std.specs.Prelude.{ℕ, ◌==◌, Bool, true, false, Option, Some, None, Result, Ok, Err, List, length}
use Rattle.nfs_base.specs.declared.answer.Answer.TheVariants.{Done, Refused}
use Rattle.nfs_base.specs.declared.state_id.StateId.{StateId}
use Rattle.nfs_base.specs.declared.status.Status.{Status}
use Rattle.nfs_base.specs.declared.status.TheConstants.Status.{OK, NOFILEHANDLE}
use Rattle.file_ops.specs.declared.operation.TheConstants.{OP_SAVEFH}
use Rattle.file_ops.specs.declared.results.FileRes.TheVariants as results
use Rattle.file_server.specs.Handles.{file_handle, handle_file}
use Rattle.file_server.specs.Machine.{Going, Answered}
use Rattle.file_server.specs.Answering.{answered}

-- a handle becomes the current one, with this stateid
abbrev pub with_current : {X : Type 0} → List ℕ → Option StateId → Going X → Going X
with_current handle id g = record g { held = record g.held { current = Some handle; id = id } }

-- the root becomes the current file
unfoldable pub put_root : {X : Type 0} → Going X → Answered X
put_root g = answered (with_current (file_handle g.machine.store.tag 0) None g) (results.PutRootFh OK)

-- ---- PUTFH

abbrev pub put_told : {X : Type 0} → List ℕ → Result ℕ Status → Going X → Answered X
put_told handle (Err status) g = answered g (results.PutFh status)
put_told handle (Ok file) g = answered (with_current handle None g) (results.PutFh OK)

-- whether the operation behind it is SAVEFH
abbrev pub is_saved_next : Option ℕ → Bool
is_saved_next None = false
is_saved_next (Some number) = number == OP_SAVEFH

-- Where SAVEFH comes next any handle is taken: it may be of another server (RFC 7862 section 15.2).
abbrev pub put_tested : {X : Type 0} → Bool → List ℕ → Going X → Answered X
put_tested true handle g = put_told handle (Ok 0) g
put_tested false handle g = put_told handle (handle_file (length g.machine.store.volume.files) g.machine.store.tag handle) g

unfoldable pub put : {X : Type 0} → (next : Option ℕ) → List ℕ → Going X → Answered X
put next handle g = put_tested (is_saved_next next) handle g

-- ---- GETFH tells the current handle, tested as by each operation that uses it

abbrev pub get_refused : {X : Type 0} → Going X → Status → Answered X
get_refused g status = answered g (results.GetFh (Refused status))

abbrev pub get_told : {X : Type 0} → Result ℕ Status → List ℕ → Going X → Answered X
get_told (Err status) handle g = get_refused g status
get_told (Ok file) handle g = answered g (results.GetFh (Done handle))

abbrev pub get_current : {X : Type 0} → Option (List ℕ) → Going X → Answered X
get_current None g = get_refused g NOFILEHANDLE
get_current (Some handle) g = get_told (handle_file (length g.machine.store.volume.files) g.machine.store.tag handle) handle g

unfoldable pub get : {X : Type 0} → Going X → Answered X
get g = get_current g.held.current g

-- ---- SAVEFH and RESTOREFH, which take the stateid along

abbrev pub save_told : {X : Type 0} → Option (List ℕ) → Going X → Answered X
save_told None g = answered g (results.SaveFh NOFILEHANDLE)
save_told (Some handle) g =
    answered (record g { held = record g.held { saved = Some handle; saved_id = g.held.id } }) (results.SaveFh OK)

unfoldable pub save : {X : Type 0} → Going X → Answered X
save g = save_told g.held.current g

abbrev pub restore_told : {X : Type 0} → Option (List ℕ) → Going X → Answered X
restore_told None g = answered g (results.RestoreFh NOFILEHANDLE)
restore_told (Some handle) g = answered (with_current handle g.held.saved_id g) (results.RestoreFh OK)

unfoldable pub restore : {X : Type 0} → Going X → Answered X
restore g = restore_told g.held.saved g
