-- The calls of a server on its volume: when each is refused, and what it leaves where the disk goes through with it
-- and where it fails. RFC 8881 sections 18.3, 18.22 and 18.32.
use Rattle.std.specs.Prelude.{◌≡◌, ℕ, ◌-◌, Bool, true, false, Option, Some, None, Result, Ok, Err, List, length}
use Rattle.copy_model.specs.Volume.{Volume, write, commit, fail_write, fail_commit}
use Rattle.block_file.specs.Opened.{homes_by, turned, refusal_of}
use Rattle.block_file.specs.declared.faults.ReadFault.{ReadFault}
use Rattle.block_file.specs.declared.faults.ReadFault.TheVariants as reading
use Rattle.block_file.specs.declared.faults.WriteFault.{WriteFault}
use Rattle.block_file.specs.declared.faults.WriteFault.TheVariants as writing
use Rattle.server_volume.specs.declared.used.Used.{Used}
use Rattle.server_volume.specs.declared.used.CallAnswer.{CallAnswer}
use Rattle.server_volume.specs.declared.used.CallAnswer.TheVariants.{Done, DiskFailed, Refused}
use Rattle.server_volume.specs.declared.used.VolumeCall.{VolumeCall}
use Rattle.server_volume.specs.declared.used.VolumeCall.TheVariants as calls
use Rattle.server_volume.specs.Choices.{Fate, Went, Failed, Choice, Agrees, noted}
use Rattle.server_volume.specs.Store.{Store}

-- What is asked of a volume: so many bytes of a file from an offset on, a write of bytes there, or a commit of a file.
pub data Asked : Type 0 where
  Reads : (file off len : ℕ) → Asked
  Writes : (file off : ℕ) → (bytes : List ℕ) → Asked
  Commits : (file : ℕ) → Asked

-- how it is noted: a commit with the home whose table it puts, which isn't the one in force
abbrev pub call_of : Asked → Store → VolumeCall
call_of (Reads file off len) s = calls.Read file off len
call_of (Writes file off bytes) s = calls.Write file off (length bytes)
call_of (Commits file) s = calls.Commit file (1 - homes_by s.homes file)

-- what it leaves where it goes through
abbrev pub done_by : Asked → Store → Store
done_by (Reads file off len) s = s
done_by (Writes file off bytes) s = record s { volume = write s.volume file off bytes }
done_by (Commits file) s = record s { volume = commit s.volume file; homes = turned s.homes file }

-- what it leaves where the disk fails in it
abbrev pub failed_by : Asked → Store → Store
failed_by (Reads file off len) s = s
failed_by (Writes file off bytes) s = record s { volume = fail_write s.volume }
failed_by (Commits file) s = record s { volume = fail_commit s.volume file }

-- what it leaves, by what it answered
abbrev pub left_by : Asked → CallAnswer → Store → Store
left_by asked Done s = done_by asked s
left_by asked DiskFailed s = failed_by asked s
left_by asked Refused s = s

-- a broken volume refuses reads and commits
abbrev pub broken_fault : Bool → Option ReadFault
broken_fault true = Some reading.Broken
broken_fault false = None

-- why a write of these bytes is refused, if it is
abbrev pub write_fault : Volume → (off : ℕ) → List ℕ → Option WriteFault
write_fault v off bytes = refusal_of v.broken v.writes v.capacity off (length bytes)

-- What a call gives: the store after it, the calls of the step so far, and why it didn't go through, if so.
pub record Called (F : Type 0) : Type 0 where
  pub store : Store
  pub used : List Used
  pub fault : Option F

-- A call that is refused leaves the store; the fate decides on any other. `broke` is the fault of a disk that fails.
abbrev pub called : {F : Type 0} → Option F → (broke : F) → Fate → Asked → List Used → Store → Called F
called (Some fault) broke fate asked used s = record { store = s; used = noted used (call_of asked s) Refused; fault = Some fault }
called None broke Went asked used s = record { store = done_by asked s; used = noted used (call_of asked s) Done; fault = None }
called None broke Failed asked used s = record { store = failed_by asked s; used = noted used (call_of asked s) DiskFailed; fault = Some broke }

unfoldable pub read_call : Choice → List Used → Store → (file off len : ℕ) → Called ReadFault
read_call choice used s file off len =
    called (broken_fault s.volume.broken) reading.DiskFailed (choice (length used)) (Reads file off len) used s

unfoldable pub write_call : Choice → List Used → Store → (file off : ℕ) → List ℕ → Called WriteFault
write_call choice used s file off bytes =
    called (write_fault s.volume off bytes) writing.DiskFailed (choice (length used)) (Writes file off bytes) used s

unfoldable pub commit_call : Choice → List Used → Store → (file : ℕ) → Called ReadFault
commit_call choice used s file =
    called (broken_fault s.volume.broken) reading.DiskFailed (choice (length used)) (Commits file) used s

-- ---- what the code's call answers, beside the model's

abbrev pub fault_in : {A F : Type 0} → Result A F → Option F
fault_in (Ok done) = None
fault_in (Err fault) = Some fault

abbrev pub read_answer : {A : Type 0} → Result A ReadFault → CallAnswer
read_answer (Ok done) = Done
read_answer (Err reading.DiskFailed) = DiskFailed
read_answer (Err reading.Broken) = Refused

abbrev pub write_answer : {A : Type 0} → Result A WriteFault → CallAnswer
write_answer (Ok done) = Done
write_answer (Err writing.DiskFailed) = DiskFailed
write_answer (Err _) = Refused

-- At each choice that agrees with what is noted, the model's call gives this store and these calls, and the fault of
-- this answer.
abbrev pub Makes : {A F : Type 0} → (Choice → Called F) → Store → List Used → Result A F → Type 0
Makes told s used result = (choice : Choice) → Agrees choice used → told choice ≡ record { store = s; used = used; fault = fault_in result }
