-- A call on a volume, and what all calls leave.
use Rattle.std.proofs.Common.{◌≡◌, ℕ, ◌<◌, Bool, true, false, List, [], ◌∷◌, Option, Some, None, Result, Ok, Err, length, refl, ap, ◌∙◌, sym, subst}
use Rattle.std.specs.Prelude.{◌==◌, nat_le, if◌then◌else◌}
use Rattle.std.proofs.lemmas.Bool.{leb-false}
use Rattle.std.proofs.lemmas.List.{length-set}
use Rattle.block_file.specs.Opened.{refusal_of}
use Rattle.copy_model.specs.Volume.{Volume, write}
use Rattle.file_server.specs.Handles.{byte_file, current_file, file_in, tag_in, unless_root}
use Rattle.nfs_base.specs.declared.status.Status.{Status}
use Rattle.nfs_base.specs.declared.status.TheConstants.Status.{BADHANDLE, STALE, ISDIR}
use Rattle.server_volume.specs.Calls as calls
use Rattle.server_volume.specs.Calls.{Asked, broken_fault, called, left_by, write_fault}
use Rattle.server_volume.specs.Choices.{Fate, Went, Failed}
use Rattle.server_volume.specs.Moments.{IsServed, Made, Serves, after_calls}
use Rattle.server_volume.specs.Store.{Store}
use Rattle.server_volume.specs.declared.used.CallAnswer.{CallAnswer}
use Rattle.server_volume.specs.declared.used.CallAnswer.TheVariants.{Done, DiskFailed, Refused}
use Rattle.server_volume.specs.declared.used.Used.{Used}
use Rattle.commit_laws.specs.Calling.{CameByCalls}

-- ---- one call

pub called_by : {F : Type 0} (why : Option F) (broke : F) (fate : Fate) (asked : Asked) (used : List Used) (s : Store) → (why ≡ None → Serves s asked)
    → CameByCalls s (called why broke fate asked used s).store used (called why broke fate asked used s).used
called_by (Some f) broke fate asked used s serves =
    record { calls = record { asked = asked; answer = Refused } ∷ []; noted = refl; taken = (tt, tt); store = refl }
called_by None broke Went asked used s serves =
    record { calls = record { asked = asked; answer = Done } ∷ []; noted = refl; taken = (serves refl, tt); store = refl }
called_by None broke Failed asked used s serves =
    record { calls = record { asked = asked; answer = DiskFailed } ∷ []; noted = refl; taken = (serves refl, tt); store = refl }

-- a volume that refuses no read isn't broken
pub whole_read : (broken : Bool) → broken_fault broken ≡ None → broken ≡ false
whole_read true none = absurd cc
whole_read false none = refl

whole_write : (broken : Bool) (writes capacity off len : ℕ) → refusal_of broken writes capacity off len ≡ None → broken ≡ false
whole_write true writes capacity off len none = absurd cc
whole_write false writes capacity off len none = refl

pub serves_file : (s : Store) (file : ℕ) → file < length s.volume.files → broken_fault s.volume.broken ≡ None → IsServed s file
serves_file s file there none = record { there = there; whole = whole_read s.volume.broken none }

pub serves_write : (s : Store) (file off : ℕ) (bytes : List ℕ) → file < length s.volume.files → write_fault s.volume off bytes ≡ None
    → Serves s (calls.Writes file off bytes)
serves_write s file off bytes there none =
    (record { there = there; whole = whole_write s.volume.broken s.volume.writes s.volume.capacity off (length bytes) none }, none)

-- ---- the file that is current is there

record Tested (big : Bool) (n file : ℕ) : Type 0 where
  small : big ≡ false
  is : n ≡ file

by_tests : (long big own : Bool) (n file : ℕ)
    → (if long then (if big then Err BADHANDLE else (if own then Ok n else Err STALE)) else Err BADHANDLE) ≡ Ok file → Tested big n file
by_tests true true own n file e = absurd cc
by_tests true false true n file e = record { small = refl; is = cc }
by_tests true false false n file e = absurd cc
by_tests false big own n file e = absurd cc

current_there : (s : Store) (current : Option (List ℕ)) (file : ℕ) → current_file s current ≡ Ok file → file < length s.volume.files
current_there s None file e = absurd cc
current_there s (Some bytes) file e =
    let t = by_tests (length bytes == 12) (nat_le (length s.volume.files) (file_in bytes)) (tag_in bytes == s.tag) (file_in bytes) file e in
    subst (λ n. n < length s.volume.files) t.is (leb-false (length s.volume.files) (file_in bytes) t.small)

root_test : (b : Bool) (n file : ℕ) → (if b then Err ISDIR else Ok n) ≡ Ok file → n ≡ file
root_test true n file e = absurd cc
root_test false n file e = cc

not_root : (r : Result ℕ Status) (file : ℕ) → unless_root r ≡ Ok file → r ≡ Ok file
not_root (Err status) file e = absurd cc
not_root (Ok n) file e = ap Ok (root_test (n == 0) n file e)

pub byte_there : (s : Store) (current : Option (List ℕ)) (file : ℕ) → byte_file s current ≡ Ok file → file < length s.volume.files
byte_there s current file e = current_there s current file (not_root (current_file s current) file e)

-- ---- calls leave as many files

written_files : (v : Volume) (file off : ℕ) (bytes : List ℕ) → length (write v file off bytes).files ≡ length v.files
written_files v file off [] = refl
written_files v file off (b ∷ bs) = length-set v.files file _

left_files : (asked : Asked) (answer : CallAnswer) (s : Store) → length (left_by asked answer s).volume.files ≡ length s.volume.files
left_files asked Refused s = refl
left_files (calls.Reads file off len) Done s = refl
left_files (calls.Reads file off len) DiskFailed s = refl
left_files (calls.Writes file off bytes) Done s = written_files s.volume file off bytes
left_files (calls.Writes file off bytes) DiskFailed s = refl
left_files (calls.Commits file) Done s = length-set s.volume.files file _
left_files (calls.Commits file) DiskFailed s = refl

after_files : (s : Store) (ms : List Made) → length (after_calls s ms).volume.files ≡ length s.volume.files
after_files s [] = refl
after_files s (m ∷ ms) = after_files (left_by m.asked m.answer s) ms ∙ left_files m.asked m.answer s

pub files_stay : (old new : Store) (used more : List Used) → CameByCalls old new used more → length new.volume.files ≡ length old.volume.files
files_stay old new used more came = ap (λ (s : Store). length s.volume.files) came.store ∙ after_files old came.calls

pub written_there : (s : Store) (file off : ℕ) (bytes : List ℕ) → file < length s.volume.files → file < length (write s.volume file off bytes).files
written_there s file off bytes there = subst (λ n. file < n) (sym (written_files s.volume file off bytes)) there
