-- A volume's answers to its calls are those of the model's calls.
use Rattle.std.proofs.Common.{◌≡◌, ℕ, ◌+◌, ◌<◌, ◌≤◌, Bool, true, false, Option, Some, None, Result, Ok, Err, List, [], ◌∷◌, length, refl, sym, ap, subst, ◌∙◌, arith, get_or}
use Rattle.std.specs.Prelude.{◌↔◌, IsOk, IsErr, nat_lt, ◌==◌, if◌then◌else◌}
use Rattle.std.proofs.lemmas.List.{get_or_append_left, length-append}
use Rattle.std.proofs.Math.Seq.{get_or-append_seam}
use Rattle.outcome.specs.Causes.{Rose, RoseBy}
use Rattle.disk_model.specs.declared.fuse.Fuse.{Fuse}
use Rattle.disk_model.specs.Elapsed.{Timeline}
use Rattle.disk_model.specs.Passes.{Passes, passes_none}
use Rattle.block_file.specs.Opened.{refusal_of}
use Rattle.block_file.specs.declared.faults.ReadFault.{ReadFault}
use Rattle.block_file.specs.declared.faults.ReadFault.TheVariants as reading
use Rattle.block_file.specs.declared.faults.WriteFault.{WriteFault}
use Rattle.block_file.specs.declared.faults.WriteFault.TheVariants as writing
use Rattle.server_volume.specs.declared.used.Used.{Used}
use Rattle.server_volume.specs.declared.used.CallAnswer.{CallAnswer}
use Rattle.server_volume.specs.declared.used.CallAnswer.TheVariants.{Done, DiskFailed, Refused}
use Rattle.server_volume.specs.declared.used.VolumeCall.{VolumeCall}
use Rattle.server_volume.specs.Choices.{Choice, Agrees, Grows, noted, no_call, fate_of}
use Rattle.server_volume.specs.Store.{Store, Seat}
use Rattle.server_volume.specs.Calls.{Asked, Reads, Writes, Commits, Called, called, call_of, done_by, failed_by, left_by, broken_fault, fault_in, read_answer, write_answer, write_fault}
use Rattle.server_volume.specs.Moments.{Counted, Ran, failed_in, Serves, IsTaken, within, NowLeft, LeftBy, IsCovered}

-- ---- what is noted

-- what agrees with one call more agrees with those before it
pub grows_by : (used more : List Used) (call : VolumeCall) (answer : CallAnswer) → more ≡ noted used call answer → Grows used more
grows_by used more call answer is choice agrees n below =
    let last : Used = record { call = call; answer = answer } in
    let within_more : n < length more = omega (arith, ap (λ (us : List Used). length us) is, length-append used (last ∷ [])) in
    agrees n within_more ∙ ap (λ (us : List Used). fate_of (get_or us n no_call).answer) is
    ∙ ap (λ (u : Used). fate_of u.answer) (get_or_append_left used (last ∷ []) no_call n below)

-- and says of that call what became of it
agrees_last : (used more : List Used) (call : VolumeCall) (answer : CallAnswer) → more ≡ noted used call answer
    → (choice : Choice) → Agrees choice more → choice (length used) ≡ fate_of answer
agrees_last used more call answer is choice agrees =
    let last : Used = record { call = call; answer = answer } in
    let below : length used < length more = omega (arith, ap (λ (us : List Used). length us) is, length-append used (last ∷ [])) in
    agrees (length used) below ∙ ap (λ (us : List Used). fate_of (get_or us (length used) no_call).answer) is
    ∙ ap (λ (u : Used). fate_of u.answer) (get_or-append_seam used last [] no_call)

pub counted_by : (used more : List Used) (call : VolumeCall) (answer : CallAnswer) → more ≡ noted used call answer → length more ≡ length used + 1
counted_by used more call answer is =
    let last : Used = record { call = call; answer = answer } in
    omega (arith, ap (λ (us : List Used). length us) is, length-append used (last ∷ []))

abbrev given : {F : Type 0} → Store → List Used → Option F → Called F
given s used fault = record { store = s; used = used; fault = fault }

-- ---- reads and commits

-- a call that was refused leaves all of it, but that the disk's faults may have been counted on
pub record Stays (old new : Seat) : Type 0 where
  pub store : new.store ≡ old.store
  pub fuse : new.fuse ≡ old.fuse
  pub timeline : new.timeline ≡ old.timeline

-- what a volume says of a read or a commit
pub record ReadFacts {A : Type 0} (result : Result A ReadFault) (asked : Asked) (old new : Seat) : Type 0 where
  pub broken : (result ≡ Err reading.Broken) ↔ (old.store.volume.broken ≡ true)
  pub kept : result ≡ Err reading.Broken → Stays old new
  pub done : IsOk result → new.store ≡ done_by asked old.store
  pub failed : result ≡ Err reading.DiskFailed → new.store ≡ failed_by asked old.store
  pub serves : old.store.volume.broken ≡ false → Serves old.store asked
  pub moments : old.store.volume.broken ≡ false → (stores : List Store) → NowLeft old.timeline stores
      → IsCovered (within asked Done old.store ∷ []) stores → Passes old.fuse new.fuse old.timeline new.timeline (LeftBy stores)

read_cases : {A : Type 0} (b : Bool) (result : Result A ReadFault) (asked : Asked) (used : List Used) (s now : Store)
    → ((result ≡ Err reading.Broken) ↔ (b ≡ true)) → (result ≡ Err reading.Broken → now ≡ s)
    → (IsOk result → now ≡ done_by asked s) → (result ≡ Err reading.DiskFailed → now ≡ failed_by asked s)
    → called (broken_fault b) reading.DiskFailed (fate_of (read_answer result)) asked used s
    ≡ given now (noted used (call_of asked s) (read_answer result)) (fault_in result)
read_cases true (Ok a) asked used s now broken kept done failed = let e = broken.1 refl in absurd cc
read_cases true (Err reading.DiskFailed) asked used s now broken kept done failed = let e = broken.1 refl in absurd cc
read_cases true (Err reading.Broken) asked used s now broken kept done failed =
    ap (λ (x : Store). given x (noted used (call_of asked s) Refused) (Some reading.Broken)) (sym (kept refl))
read_cases false (Ok a) asked used s now broken kept done failed =
    ap (λ (x : Store). given x (noted used (call_of asked s) Done) None) (sym (done refl))
read_cases false (Err reading.DiskFailed) asked used s now broken kept done failed =
    ap (λ (x : Store). given x (noted used (call_of asked s) DiskFailed) (Some reading.DiskFailed)) (sym (failed refl))
read_cases false (Err reading.Broken) asked used s now broken kept done failed = let e = broken.0 refl in absurd cc

pub reads_make : {A : Type 0} (result : Result A ReadFault) (asked : Asked) (old new : Seat) (used more : List Used)
    → ReadFacts result asked old new → more ≡ noted used (call_of asked old.store) (read_answer result)
    → (choice : Choice) → Agrees choice more
    → called (broken_fault old.store.volume.broken) reading.DiskFailed (choice (length used)) asked used old.store
    ≡ given new.store more (fault_in result)
reads_make result asked old new used more facts is choice agrees =
    ap (λ fate. called (broken_fault old.store.volume.broken) reading.DiskFailed fate asked used old.store)
    (agrees_last used more (call_of asked old.store) (read_answer result) is choice agrees)
    ∙ read_cases old.store.volume.broken result asked used old.store new.store facts.broken
    (λ e. (facts.kept e).store) facts.done facts.failed
    ∙ ap (λ (us : List Used). given new.store us (fault_in result)) (sym is)

-- ---- writes

-- what a volume says of a write
pub record WriteFacts {A : Type 0} (result : Result A WriteFault) (file off : ℕ) (bytes : List ℕ) (old new : Seat) : Type 0 where
  pub tested : (fault : WriteFault) → write_fault old.store.volume off bytes ≡ Some fault → result ≡ Err fault
  pub passed : write_fault old.store.volume off bytes ≡ None → IsErr result → result ≡ Err writing.DiskFailed
  pub kept : IsErr result → (result ≡ Err writing.DiskFailed → ⊥) → Stays old new
  pub done : IsOk result → new.store ≡ done_by (Writes file off bytes) old.store
  pub failed : result ≡ Err writing.DiskFailed → new.store ≡ failed_by (Writes file off bytes) old.store
  pub there : file < length old.store.volume.files
  pub moments : old.store.volume.broken ≡ false → (stores : List Store) → NowLeft old.timeline stores
      → IsCovered (old.store ∷ []) stores → Passes old.fuse new.fuse old.timeline new.timeline (LeftBy stores)

later_tests : (far worn : Bool) → (if far then Some writing.TooFar else (if worn then Some writing.Worn else None)) ≡ Some writing.DiskFailed → ⊥
later_tests true worn e = cc
later_tests false true e = cc
later_tests false false e = cc

-- no test of a write says that the disk failed, and one that is passed says that the volume isn't broken
refusal_tests : (broken : Bool) (writes capacity off len : ℕ) → refusal_of broken writes capacity off len ≡ Some writing.DiskFailed → ⊥
refusal_tests true writes capacity off len e = cc
refusal_tests false writes capacity off len e = later_tests (nat_lt capacity (off + len)) (writes == 4294967295) e

pub whole_by : (broken : Bool) (writes capacity off len : ℕ) → refusal_of broken writes capacity off len ≡ None → broken ≡ false
whole_by true writes capacity off len e = absurd cc
whole_by false writes capacity off len e = refl

write_cases : {A : Type 0} (refusal : Option WriteFault) (result : Result A WriteFault) (asked : Asked) (used : List Used) (s now : Store)
    → (refusal ≡ Some writing.DiskFailed → ⊥)
    → ((fault : WriteFault) → refusal ≡ Some fault → result ≡ Err fault)
    → (refusal ≡ None → IsErr result → result ≡ Err writing.DiskFailed)
    → (IsErr result → (result ≡ Err writing.DiskFailed → ⊥) → now ≡ s)
    → (IsOk result → now ≡ done_by asked s) → (result ≡ Err writing.DiskFailed → now ≡ failed_by asked s)
    → called refusal writing.DiskFailed (fate_of (write_answer result)) asked used s
    ≡ given now (noted used (call_of asked s) (write_answer result)) (fault_in result)
write_cases (Some fault) (Ok a) asked used s now disk tested passed kept done failed = let e = tested fault refl in absurd cc
write_cases None (Ok a) asked used s now disk tested passed kept done failed =
    ap (λ (x : Store). given x (noted used (call_of asked s) Done) None) (sym (done refl))
write_cases (Some fault) (Err writing.DiskFailed) asked used s now disk tested passed kept done failed =
    let e : Err writing.DiskFailed ≡ Err fault = tested fault refl in absurd (disk cc)
write_cases None (Err writing.DiskFailed) asked used s now disk tested passed kept done failed =
    ap (λ (x : Store). given x (noted used (call_of asked s) DiskFailed) (Some writing.DiskFailed)) (sym (failed refl))
write_cases (Some fault) (Err writing.TooFar) asked used s now disk tested passed kept done failed =
    ap (λ (x : Store). given x (noted used (call_of asked s) Refused) (Some fault)) (sym (kept refl (λ e. cc)))
    ∙ ap (λ (f : Option WriteFault). given now (noted used (call_of asked s) Refused) f) (sym (ap fault_in (tested fault refl)))
write_cases None (Err writing.TooFar) asked used s now disk tested passed kept done failed = let e = passed refl refl in absurd cc
write_cases (Some fault) (Err writing.Worn) asked used s now disk tested passed kept done failed =
    ap (λ (x : Store). given x (noted used (call_of asked s) Refused) (Some fault)) (sym (kept refl (λ e. cc)))
    ∙ ap (λ (f : Option WriteFault). given now (noted used (call_of asked s) Refused) f) (sym (ap fault_in (tested fault refl)))
write_cases None (Err writing.Worn) asked used s now disk tested passed kept done failed = let e = passed refl refl in absurd cc
write_cases (Some fault) (Err writing.Broken) asked used s now disk tested passed kept done failed =
    ap (λ (x : Store). given x (noted used (call_of asked s) Refused) (Some fault)) (sym (kept refl (λ e. cc)))
    ∙ ap (λ (f : Option WriteFault). given now (noted used (call_of asked s) Refused) f) (sym (ap fault_in (tested fault refl)))
write_cases None (Err writing.Broken) asked used s now disk tested passed kept done failed = let e = passed refl refl in absurd cc

pub writes_make : {A : Type 0} (result : Result A WriteFault) (file off : ℕ) (bytes : List ℕ) (old new : Seat) (used more : List Used)
    → WriteFacts result file off bytes old new → more ≡ noted used (call_of (Writes file off bytes) old.store) (write_answer result)
    → (choice : Choice) → Agrees choice more
    → called (write_fault old.store.volume off bytes) writing.DiskFailed (choice (length used)) (Writes file off bytes) used old.store
    ≡ given new.store more (fault_in result)
writes_make result file off bytes old new used more facts is choice agrees =
    let v = old.store.volume in
    ap (λ fate. called (write_fault v off bytes) writing.DiskFailed fate (Writes file off bytes) used old.store)
    (agrees_last used more (call_of (Writes file off bytes) old.store) (write_answer result) is choice agrees)
    ∙ write_cases (write_fault v off bytes) result (Writes file off bytes) used old.store new.store
    (refusal_tests v.broken v.writes v.capacity off (length bytes)) facts.tested facts.passed
    (λ err other. (facts.kept err other).store) facts.done facts.failed
    ∙ ap (λ (us : List Used). given new.store us (fault_in result)) (sym is)

-- ---- what a crash inside a call may leave

still_passes : (old new : Seat) (stores : List Store) → Stays old new → NowLeft old.timeline stores
    → Passes old.fuse new.fuse old.timeline new.timeline (LeftBy stores)
still_passes old new stores same now =
    subst (λ (f : Fuse). Passes old.fuse f old.timeline new.timeline (LeftBy stores)) (sym same.fuse)
    (subst (λ (t : Timeline). Passes old.fuse old.fuse old.timeline t (LeftBy stores)) (sym same.timeline)
    (passes_none (LeftBy stores) old.fuse old.timeline now))

-- one call
ran_one : (asked : Asked) (answer : CallAnswer) (old new : Seat) (used more : List Used)
    → more ≡ noted used (call_of asked old.store) answer → IsTaken answer old.store asked → new.store ≡ left_by asked answer old.store
    → ((stores : List Store) → NowLeft old.timeline stores → IsCovered (within asked answer old.store ∷ []) stores
    → Passes old.fuse new.fuse old.timeline new.timeline (LeftBy stores))
    → Ran old new used more
ran_one asked answer old new used more is taken store moments = record {
  calls = record { asked = asked; answer = answer } ∷ [];
  noted = is;
  taken = (taken, tt);
  store = store;
  moments = moments;
}

within_same : (asked : Asked) (s : Store) → within asked DiskFailed s ≡ within asked Done s
within_same (Reads file off len) s = refl
within_same (Writes file off bytes) s = refl
within_same (Commits file) s = refl

whole_unless : {P : Type 0} (b : Bool) → (P ↔ (b ≡ true)) → (P → ⊥) → b ≡ false
whole_unless true is not = absurd (not (is.1 refl))
whole_unless false is not = refl

pub reads_ran : {A : Type 0} (result : Result A ReadFault) (asked : Asked) (old new : Seat) (used more : List Used)
    → ReadFacts result asked old new → more ≡ noted used (call_of asked old.store) (read_answer result) → Ran old new used more
reads_ran (Ok a) asked old new used more facts is =
    let whole = whole_unless old.store.volume.broken facts.broken (λ e. cc) in
    ran_one asked Done old new used more is (facts.serves whole) (facts.done refl) (facts.moments whole)
reads_ran (Err reading.DiskFailed) asked old new used more facts is =
    let whole = whole_unless old.store.volume.broken facts.broken (λ e. cc) in
    ran_one asked DiskFailed old new used more is (facts.serves whole) (facts.failed refl)
    (λ stores now covered. facts.moments whole stores now (subst (λ (s : Store). IsCovered (s ∷ []) stores) (within_same asked old.store) covered))
reads_ran (Err reading.Broken) asked old new used more facts is =
    ran_one asked Refused old new used more is tt (facts.kept refl).store
    (λ stores now covered. still_passes old new stores (facts.kept refl) now)

passed_by : {A : Type 0} (refusal : Option WriteFault) (result : Result A WriteFault)
    → ((fault : WriteFault) → refusal ≡ Some fault → (result ≡ Err fault → ⊥)) → ((fault : WriteFault) → refusal ≡ Some fault → result ≡ Err fault)
    → refusal ≡ None
passed_by None result not tested = refl
passed_by (Some fault) result not tested = absurd (not fault refl (tested fault refl))

pub writes_ran : {A : Type 0} (result : Result A WriteFault) (file off : ℕ) (bytes : List ℕ) (old new : Seat) (used more : List Used)
    → WriteFacts result file off bytes old new → more ≡ noted used (call_of (Writes file off bytes) old.store) (write_answer result)
    → Ran old new used more
writes_ran (Ok a) file off bytes old new used more facts is =
    let v = old.store.volume in
    let passed = passed_by (write_fault v off bytes) (Ok a) (λ fault e h. cc) facts.tested in
    let whole = whole_by v.broken v.writes v.capacity off (length bytes) passed in
    ran_one (Writes file off bytes) Done old new used more is (record { there = facts.there; whole = whole }, passed) (facts.done refl) (facts.moments whole)
writes_ran (Err writing.DiskFailed) file off bytes old new used more facts is =
    let v = old.store.volume in
    let passed = passed_by (write_fault v off bytes) (Err writing.DiskFailed)
    (λ fault e h. refusal_tests v.broken v.writes v.capacity off (length bytes) (e ∙ sym (ap fault_in h))) facts.tested in
    let whole = whole_by v.broken v.writes v.capacity off (length bytes) passed in
    ran_one (Writes file off bytes) DiskFailed old new used more is (record { there = facts.there; whole = whole }, passed) (facts.failed refl) (facts.moments whole)
writes_ran (Err writing.TooFar) file off bytes old new used more facts is =
    let same = facts.kept refl (λ e. cc) in
    ran_one (Writes file off bytes) Refused old new used more is tt same.store (λ stores now covered. still_passes old new stores same now)
writes_ran (Err writing.Worn) file off bytes old new used more facts is =
    let same = facts.kept refl (λ e. cc) in
    ran_one (Writes file off bytes) Refused old new used more is tt same.store (λ stores now covered. still_passes old new stores same now)
writes_ran (Err writing.Broken) file off bytes old new used more facts is =
    let same = facts.kept refl (λ e. cc) in
    ran_one (Writes file off bytes) Refused old new used more is tt same.store (λ stores now covered. still_passes old new stores same now)

-- ---- the disk's count of faults

pub reads_rise : {A : Type 0} (result : Result A ReadFault) (before now : ℕ) → before ≤ now → (result ≡ Err reading.DiskFailed → Rose before now)
    → RoseBy (failed_in (read_answer result) + 0) before now
reads_rise (Ok a) before now later cause = omega (arith, later)
reads_rise (Err reading.DiskFailed) before now later cause = omega (arith, cause refl)
reads_rise (Err reading.Broken) before now later cause = omega (arith, later)

pub writes_rise : {A : Type 0} (result : Result A WriteFault) (before now : ℕ) → before ≤ now → (result ≡ Err writing.DiskFailed → Rose before now)
    → RoseBy (failed_in (write_answer result) + 0) before now
writes_rise (Ok a) before now later cause = omega (arith, later)
writes_rise (Err writing.DiskFailed) before now later cause = omega (arith, cause refl)
writes_rise (Err writing.TooFar) before now later cause = omega (arith, later)
writes_rise (Err writing.Worn) before now later cause = omega (arith, later)
writes_rise (Err writing.Broken) before now later cause = omega (arith, later)

-- one call
pub counted_one : (told : Type 0) (call : VolumeCall) (answer : CallAnswer) (old new : Seat) (used more : List Used) → more ≡ noted used call answer
    → new.store.size ≡ old.store.size → RoseBy (failed_in answer + 0) old.faults new.faults → (told → Ran old new used more) → Counted told old new used more
counted_one told call answer old new used more is as_large rose ran = record {
  added = record { call = call; answer = answer } ∷ [];
  noted = is;
  as_large = as_large;
  rose = rose;
  ran = ran;
}
