-- What the model's calls answer, by what became of them.
use Rattle.std.proofs.Common.{◌≡◌, ℕ, zero, suc, ◌+◌, Bool, true, false, Option, Some, None, List, [], ◌∷◌, length, refl, arith, ◌==◌}
use Rattle.std.specs.Prelude.{nat_lt, if◌then◌else◌}
use Rattle.std.proofs.lemmas.Bool.{eqb-false, eqb-true, le-ltb, ltb-false}
use Rattle.block_file.specs.declared.faults.ReadFault.TheVariants as reading
use Rattle.block_file.specs.declared.faults.WriteFault.{WriteFault}
use Rattle.block_file.specs.declared.faults.WriteFault.TheVariants as writing
use Rattle.server_volume.specs.Calls as calls
use Rattle.server_volume.specs.Calls.{Asked, broken_fault, called, commit_call, read_call, write_call, write_fault}
use Rattle.server_volume.specs.Choices.{Choice, Failed, Fate, Went, choice_of, fate_of}
use Rattle.server_volume.specs.Moments.{failed_in, failures_in}
use Rattle.server_volume.specs.Store.{Store}
use Rattle.server_volume.specs.declared.used.CallAnswer.{CallAnswer}
use Rattle.server_volume.specs.declared.used.CallAnswer.TheVariants.{Done, DiskFailed, Refused}
use Rattle.server_volume.specs.declared.used.Used.{Used}
use Rattle.volume_laws.specs.Taking.{HasRoomFor}

-- ---- where none failed, each went through

first_went : (answer : CallAnswer) (others : ℕ) → failed_in answer + others ≡ 0 → fate_of answer ≡ Went
first_went Done others none = refl
first_went DiskFailed others none = absurd (omega (arith, none))
first_went Refused others none = refl

pub all_went : (step : List Used) (n : ℕ) → failures_in step ≡ 0 → choice_of step n ≡ Went
all_went [] n none = refl
all_went (u ∷ us) zero none = first_went u.answer (failures_in us) none
all_went (u ∷ us) (suc n) none = all_went us n (omega (arith, none))

-- ---- a call is refused, fails or goes through

went_fault : {F : Type 0} (fault : Option F) (broke : F) (fate : Fate) (asked : Asked) (used : List Used) (s : Store) → fate ≡ Went
    → (called fault broke fate asked used s).fault ≡ fault
went_fault (Some fault) broke fate asked used s went = refl
went_fault None broke Went asked used s went = refl
went_fault None broke Failed asked used s went = absurd cc

pub read_went : (step used : List Used) (s : Store) (file off len : ℕ) → failures_in step ≡ 0
    → (read_call (choice_of step) used s file off len).fault ≡ broken_fault s.volume.broken
unfolding read_call
read_went step used s file off len none =
    went_fault (broken_fault s.volume.broken) reading.DiskFailed (choice_of step (length used)) (calls.Reads file off len) used s (all_went step (length used) none)

pub write_went : (step used : List Used) (s : Store) (file off : ℕ) (bytes : List ℕ) → failures_in step ≡ 0
    → (write_call (choice_of step) used s file off bytes).fault ≡ write_fault s.volume off bytes
unfolding write_call
write_went step used s file off bytes none =
    went_fault (write_fault s.volume off bytes) writing.DiskFailed (choice_of step (length used)) (calls.Writes file off bytes) used s (all_went step (length used) none)

pub commit_went : (step used : List Used) (s : Store) (file : ℕ) → failures_in step ≡ 0
    → (commit_call (choice_of step) used s file).fault ≡ broken_fault s.volume.broken
unfolding commit_call
commit_went step used s file none =
    went_fault (broken_fault s.volume.broken) reading.DiskFailed (choice_of step (length used)) (calls.Commits file) used s (all_went step (length used) none)

-- ---- what a volume refuses

pub whole_goes : (broken : Bool) → broken ≡ false → broken_fault broken ≡ None
whole_goes true whole = absurd cc
whole_goes false whole = refl

refused_by : (broken far worn : Bool) → broken ≡ false → far ≡ false → worn ≡ false
    → (if broken then Some writing.Broken else (if far then Some writing.TooFar else (if worn then Some writing.Worn else None))) ≡ None
refused_by true far worn whole near fresh = absurd cc
refused_by false true worn whole near fresh = absurd cc
refused_by false false true whole near fresh = absurd cc
refused_by false false false whole near fresh = refl

other_if : (n m : ℕ) (same : Bool) → (n == m) ≡ same → (n ≡ m → ⊥) → same ≡ false
other_if n m true is other = absurd (other (eqb-true n m is))
other_if n m false is other = refl

other_number : (n m : ℕ) → (n ≡ m → ⊥) → (n == m) ≡ false
other_number n m other = other_if n m (n == m) refl other

pub room_goes : (s : Store) (off : ℕ) (bytes : List ℕ) → HasRoomFor s.volume off (length bytes) → write_fault s.volume off bytes ≡ None
room_goes s off bytes room =
    let v = s.volume in
    refused_by v.broken (nat_lt v.capacity (off + length bytes)) (v.writes == 4294967295) room.whole
    (le-ltb v.capacity (off + length bytes) room.within) (other_number v.writes 4294967295 room.numbered)

-- ---- a call that failed

-- it wasn't refused
taken_faults : {F : Type 0} (fault : Option F) (broke : F) (fate : Fate) (asked : Asked) (used : List Used) (s : Store)
    → (fault ≡ Some broke → ⊥) → (called fault broke fate asked used s).fault ≡ Some broke → (fate ≡ Failed) × (fault ≡ None)
taken_faults (Some fault) broke fate asked used s other is = absurd (other is)
taken_faults None broke Went asked used s other is = absurd cc
taken_faults None broke Failed asked used s other is = (refl, refl)

no_failure : (broken : Bool) → broken_fault broken ≡ Some reading.DiskFailed → ⊥
no_failure true is = absurd cc
no_failure false is = absurd cc

whole_is : (broken : Bool) → broken_fault broken ≡ None → broken ≡ false
whole_is true none = absurd cc
whole_is false none = refl

pub read_failed : (choice : Choice) (used : List Used) (s : Store) (file off len : ℕ) → (read_call choice used s file off len).fault ≡ Some reading.DiskFailed
    → (choice (length used) ≡ Failed) × (s.volume.broken ≡ false)
unfolding read_call
read_failed choice used s file off len is =
    let broken = s.volume.broken in
    let failed = taken_faults (broken_fault broken) reading.DiskFailed (choice (length used)) (calls.Reads file off len) used s (no_failure broken) is in
    (failed.0, whole_is broken failed.1)

pub commit_failed : (choice : Choice) (used : List Used) (s : Store) (file : ℕ) → (commit_call choice used s file).fault ≡ Some reading.DiskFailed
    → (choice (length used) ≡ Failed) × (s.volume.broken ≡ false)
unfolding commit_call
commit_failed choice used s file is =
    let broken = s.volume.broken in
    let failed = taken_faults (broken_fault broken) reading.DiskFailed (choice (length used)) (calls.Commits file) used s (no_failure broken) is in
    (failed.0, whole_is broken failed.1)

abbrev refusal_by : (broken far worn : Bool) → Option WriteFault
refusal_by broken far worn = if broken then Some writing.Broken else (if far then Some writing.TooFar else (if worn then Some writing.Worn else None))

no_write_failure : (broken far worn : Bool) → refusal_by broken far worn ≡ Some writing.DiskFailed → ⊥
no_write_failure true far worn is = absurd cc
no_write_failure false true worn is = absurd cc
no_write_failure false false true is = absurd cc
no_write_failure false false false is = absurd cc

none_refused : (broken far worn : Bool) → refusal_by broken far worn ≡ None → (broken ≡ false) × (far ≡ false) × (worn ≡ false)
none_refused true far worn is = absurd cc
none_refused false true worn is = absurd cc
none_refused false false true is = absurd cc
none_refused false false false is = (refl, refl, refl)

pub write_failed : (choice : Choice) (used : List Used) (s : Store) (file off : ℕ) (bytes : List ℕ)
    → (write_call choice used s file off bytes).fault ≡ Some writing.DiskFailed → (choice (length used) ≡ Failed) × HasRoomFor s.volume off (length bytes)
unfolding write_call
write_failed choice used s file off bytes is =
    let v = s.volume in
    let far = nat_lt v.capacity (off + length bytes) in
    let worn = v.writes == 4294967295 in
    let failed = taken_faults (write_fault v off bytes) writing.DiskFailed (choice (length used)) (calls.Writes file off bytes) used s
    (no_write_failure v.broken far worn) is in
    let none = none_refused v.broken far worn failed.1 in (
      failed.0,
      record {
        whole = none.0;
        within = ltb-false v.capacity (off + length bytes) none.1;
        numbered = eqb-false v.writes 4294967295 none.2;
      },
    )
