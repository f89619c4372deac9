-- OPEN (RFC 8881 section 18.16). Its tests in their order: the current handle, which is the root's; access and denial; that
-- it opens a file that is there, by its name; the name; that there is room for an open.
use Rattle.std.specs.Prelude.{ℕ, ◌==◌, ◌&&◌, Bool, true, nat_le, Option, Some, None, Result, Ok, Err, [], length, bit_and, if◌then◌else◌}
use Rattle.nfs_base.specs.declared.answer.Answer.TheVariants.{Done, Refused}
use Rattle.nfs_base.specs.declared.state_id.StateId.{StateId}
use Rattle.nfs_base.specs.declared.status.Status.{Status}
use Rattle.nfs_base.specs.declared.status.TheConstants.Status.{INVAL, NOTSUPP, DELAY}
use Rattle.file_ops.specs.declared.opening.Claim.TheVariants.{Null, Other}
use Rattle.file_ops.specs.declared.opening.OpenArgs.{OpenArgs}
use Rattle.file_ops.specs.declared.opening.OpenDone.{OpenDone}
use Rattle.file_ops.specs.declared.opening.OpenHow.{OpenHow}
use Rattle.file_ops.specs.declared.opening.OpenHow.TheVariants.{NoCreate, Create}
use Rattle.file_ops.specs.declared.results.FileRes.TheVariants as results
use Rattle.file_ops.specs.declared.zero.Zero.TheVariants.{Word}
use Rattle.state_ids.specs.Opens.{OpenTable, open_answer, open_table}
use Rattle.state_ids.specs.declared.opens.Full.{Full}
use Rattle.file_server.specs.declared.opening.TheConstants.{ACCESS_BITS}
use Rattle.file_server.specs.declared.extension.Caller.{Caller}
use Rattle.file_server.specs.Handles.{file_handle, current_file}
use Rattle.file_server.specs.Machine.{Going, Answered}
use Rattle.file_server.specs.Answering.{answered}
use Rattle.file_server.specs.Names.{root_refusal, file_named}
use Rattle.file_server.specs.Placing.{with_current}

abbrev pub open_refused : {X : Type 0} → Going X → Status → Answered X
open_refused g status = answered g (results.Open (Refused status))

-- what is to be done with the file, without the bits that say which delegation is wanted
abbrev pub access_of : (word : ℕ) → ℕ
access_of word = bit_and word ACCESS_BITS

-- to read, to write or both; and nothing is denied to others
abbrev pub is_access : (access deny : ℕ) → Bool
is_access access deny = nat_le 1 (access_of access) && (nat_le (access_of access) 3 && (deny == 0))

-- the file that is to be opened, of so many with the root
abbrev pub file_claimed : (files : ℕ) → OpenHow → Result ℕ Status
file_claimed files (NoCreate (Null name)) = file_named files name
file_claimed files (NoCreate (Other claim)) = Err NOTSUPP
file_claimed files (Create mode) = Err NOTSUPP

abbrev pub file_opened : (files : ℕ) → OpenArgs → Result ℕ Status
file_opened files args = if is_access args.access args.deny then file_claimed files args.how else Err INVAL

-- what OPEN answers beside the stateid: nothing of the directory has changed, and there is no delegation
abbrev pub opened_as : StateId → OpenDone
opened_as id = record { state_id = id; atomic = true; before = 0; after = 0; flags = 0; attributes_set = []; delegation = Word }

abbrev pub with_opens : {X : Type 0} → OpenTable → Going X → Going X
with_opens table g = record g { machine = record g.machine { opens = table } }

-- the file becomes the current one, and its open's stateid too
abbrev pub open_told : {X : Type 0} → Result StateId Full → OpenTable → (file : ℕ) → Going X → Answered X
open_told (Err full) table file g = open_refused g DELAY
open_told (Ok id) table file g =
    answered (with_current (file_handle g.machine.store.tag file) (Some id) (with_opens table g)) (results.Open (Done (opened_as id)))

-- The owner is one of the calling client's: which client its arguments name isn't looked at (section 18.16.3).
abbrev pub open_file : {X : Type 0} → (client : ℕ) → OpenArgs → Result ℕ Status → Going X → Answered X
open_file client args (Err status) g = open_refused g status
open_file client args (Ok file) g =
    let opens = g.machine.opens in
    open_told (open_answer opens client args.owner file) (open_table opens client args.owner file (access_of args.access)) file g

abbrev pub open_unless : {X : Type 0} → Option Status → (client : ℕ) → OpenArgs → Going X → Answered X
open_unless (Some status) client args g = open_refused g status
open_unless None client args g = open_file client args (file_opened (length g.machine.store.volume.files) args) g

unfoldable pub open_by_name : {X : Type 0} → Caller → OpenArgs → Going X → Answered X
open_by_name caller args g = open_unless (root_refusal (current_file g.machine.store g.held.current)) caller.client args g
