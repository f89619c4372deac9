-- CLOSE (RFC 8881 section 18.2). Its tests in their order: the current handle, the stateid. The seqid beside the stateid
-- isn't looked at (section 18.2.3).
use Rattle.std.specs.Prelude.{ℕ, Option, Some, None, Result, Ok, Err}
use Rattle.nfs_base.specs.declared.answer.Answer.TheVariants.{Done, Refused}
use Rattle.nfs_base.specs.declared.state_id.StateId.{StateId}
use Rattle.nfs_base.specs.declared.status.Status.{Status}
use Rattle.nfs_base.specs.declared.status.TheConstants.Status.{BAD_STATEID}
use Rattle.file_ops.specs.declared.files.CloseArgs.{CloseArgs}
use Rattle.file_ops.specs.declared.results.FileRes.TheVariants as results
use Rattle.state_ids.specs.Opens.{close_refusal, closed, closed_id}
use Rattle.file_server.specs.Handles.{current_file}
use Rattle.file_server.specs.Machine.{Going, Answered}
use Rattle.file_server.specs.Answering.{answered, meant_id}
use Rattle.file_server.specs.Opening.{with_opens}

abbrev pub close_refused : {X : Type 0} → Going X → Status → Answered X
close_refused g status = answered g (results.Close (Refused status))

-- the open is gone; the current stateid stays what it is
abbrev pub close_told : {X : Type 0} → Option Status → StateId → Going X → Answered X
close_told (Some status) id g = close_refused g status
close_told None id g = answered (with_opens (closed id.number g.machine.opens) g) (results.Close (Done closed_id))

abbrev pub close_meant : {X : Type 0} → Option StateId → (file : ℕ) → Going X → Answered X
close_meant None file g = close_refused g BAD_STATEID
close_meant (Some id) file g = close_told (close_refusal g.machine.opens id file) id g

abbrev pub close_file : {X : Type 0} → StateId → Result ℕ Status → Going X → Answered X
close_file id (Err status) g = close_refused g status
close_file id (Ok file) g = close_meant (meant_id g.held.id id) file g

unfoldable pub close : {X : Type 0} → CloseArgs → Going X → Answered X
close args g = close_file args.state_id (current_file g.machine.store g.held.current) g
