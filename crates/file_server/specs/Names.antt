-- LOOKUP (RFC 8881 section 18.13), and what the files of a volume are called: the root is a directory that has each file
-- under its number in decimal (own). The tests in their order: the current handle, the name.
use Rattle.std.specs.Prelude.{ℕ, ◌+◌, ◌*◌, ◌-◌, ◌==◌, ◌&&◌, ◌||◌, Bool, nat_le, nat_lt, Option, Some, None, Result, Ok, Err, List, [], ◌∷◌, length, if◌then◌else◌}
use Rattle.nfs_base.specs.declared.status.Status.{Status}
use Rattle.nfs_base.specs.declared.status.TheConstants.Status.{OK, INVAL, NOENT}
use Rattle.file_ops.specs.declared.results.FileRes.TheVariants as results
use Rattle.file_server.specs.Handles.{file_handle, current_file}
use Rattle.file_server.specs.Machine.{Going, Answered}
use Rattle.file_server.specs.Answering.{answered}
use Rattle.file_server.specs.Placing.{with_current}

abbrev pub is_digit : ℕ → Bool
is_digit byte = nat_le 48 byte && nat_le byte 57

-- The number that a name is in decimal, without leading zeros. No volume has more than 64 files, so it has one digit or
-- two; any other name is 0, which no file under the root has.
abbrev pub number_named : List ℕ → ℕ
number_named [] = 0
number_named (d ∷ []) = if is_digit d then d - 48 else 0
number_named (d ∷ e ∷ []) = if nat_lt 48 d && (is_digit d && is_digit e) then (d - 48) * 10 + (e - 48) else 0
number_named (d ∷ e ∷ f ∷ more) = 0

-- the file with this number, of so many with the root
abbrev pub file_numbered : (files number : ℕ) → Result ℕ Status
file_numbered files number = if (number == 0) || nat_le files number then Err NOENT else Ok number

abbrev pub file_named : (files : ℕ) → List ℕ → Result ℕ Status
file_named files name = file_numbered files (number_named name)

-- why a name can't be looked up at the current file: names stand in the root alone
abbrev pub root_refusal : Result ℕ Status → Option Status
root_refusal (Err status) = Some status
root_refusal (Ok file) = if file == 0 then None else Some INVAL

abbrev pub lookup_told : {X : Type 0} → Result ℕ Status → Going X → Answered X
lookup_told (Err status) g = answered g (results.Lookup status)
lookup_told (Ok file) g = answered (with_current (file_handle g.machine.store.tag file) None g) (results.Lookup OK)

abbrev pub lookup_unless : {X : Type 0} → Option Status → List ℕ → Going X → Answered X
lookup_unless (Some status) name g = answered g (results.Lookup status)
lookup_unless None name g = lookup_told (file_named (length g.machine.store.volume.files) name) g

unfoldable pub lookup : {X : Type 0} → List ℕ → Going X → Answered X
lookup name g = lookup_unless (root_refusal (current_file g.machine.store g.held.current)) name g
