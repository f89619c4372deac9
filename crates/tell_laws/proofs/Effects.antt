-- What one call at most does to a volume, as it is seen of the volume afterwards.
use Rattle.std.proofs.Common.{◌≡◌, ℕ, ◌+◌, ◌-◌, ◌<◌, ◌≤◌, ◌^◌, Bool, true, false, Some, None, List, [], ◌∷◌, length, refl, sym, ap, subst, ◌∙◌, ltb-false, arith}
use Rattle.std.specs.Prelude.{◌==◌, nat_lt, if◌then◌else◌}
use Rattle.std.proofs.lemmas.Bool.{eqb-false}
use Rattle.block_file.specs.Opened.{refusal_of}
use Rattle.block_file.specs.declared.faults.WriteFault.TheVariants as fault
use Rattle.copy_model.specs.Effect.{Rests}
use Rattle.copy_model.specs.Volume.{File, Volume, bytes_at, change_of, file_at, with_bytes_at, write, written}
use Rattle.server_volume.specs.Calls as calls
use Rattle.server_volume.specs.Calls.{Asked, call_of, left_by}
use Rattle.server_volume.specs.Moments.{AreTaken, IsTaken, Made, Ran, after_calls, uses_of}
use Rattle.server_volume.specs.Store.{Seat, Store}
use Rattle.server_volume.specs.declared.used.CallAnswer.{CallAnswer}
use Rattle.server_volume.specs.declared.used.CallAnswer.TheVariants.{Done, DiskFailed, Refused}
use Rattle.server_volume.specs.declared.used.Used.{Used}
use Rattle.commit_laws.specs.Calling.{CameByCalls}
use Rattle.wire_machine.specs.History.{effect_by, effect_of}
use Rattle.wire_model.specs.CopyLaws.{VolumeLaws}

-- ---- a write that is taken ends within the capacity, and has a number

pub record IsRoomy (writes capacity off len : ℕ) : Type 0 where
  pub within : off + len ≤ capacity
  pub numbered : writes ≡ 4294967295 → ⊥

roomy_test : (far worn : Bool) (writes capacity off len : ℕ) → nat_lt capacity (off + len) ≡ far → (writes == 4294967295) ≡ worn
    → (if far then Some fault.TooFar else (if worn then Some fault.Worn else None)) ≡ None → IsRoomy writes capacity off len
roomy_test true worn writes capacity off len is same e = absurd cc
roomy_test false true writes capacity off len is same e = absurd cc
roomy_test false false writes capacity off len is same e =
    let short = ltb-false capacity (off + len) is in
    record { within = omega (arith, short); numbered = eqb-false writes 4294967295 same }

pub roomy : (broken : Bool) (writes capacity off len : ℕ) → refusal_of broken writes capacity off len ≡ None → IsRoomy writes capacity off len
roomy true writes capacity off len e = absurd cc
roomy false writes capacity off len e = roomy_test (nat_lt capacity (off + len)) (writes == 4294967295) writes capacity off len refl refl e

pub next_below : (n : ℕ) → n < 2 ^ 32 → (n ≡ 4294967295 → ⊥) → n < 2 ^ 32 - 1
next_below n few other = omega (arith, other)

-- ---- what stands in a file, from the laws of files

abbrev pub ReadsBack : Type 0
ReadsBack = (bytes : List ℕ) (off : ℕ) (piece : List ℕ) → bytes_at (with_bytes_at bytes off piece) off (length piece) ≡ piece

abbrev pub WritesOne : Type 0
WritesOne = (v : Volume) (file off b : ℕ) (bs : List ℕ) → file < length v.files
    → file_at (write v file off (b ∷ bs)) file ≡ written (file_at v file) off (b ∷ bs) (change_of v.boot (v.writes + 1))

pub rests : (v : Volume) → VolumeLaws v v Rests
rests v = record { allowed = tt; goes_on = refl }

two_calls : (first second : Used) (rest : List Used) → length (first ∷ second ∷ rest) ≤ 1 → ⊥
two_calls first second rest few = omega (arith, few)

module _ (reads_back : ReadsBack) (writes_one : WritesOne) where
  -- the bytes that were written stand there
  seen_back : (v : Volume) (file off : ℕ) (bytes : List ℕ) → file < length v.files
      → bytes_at (file_at (write v file off bytes) file).now off (length bytes) ≡ bytes
  seen_back v file off [] there = refl
  seen_back v file off (b ∷ bs) there =
      ap (λ (f : File). bytes_at f.now off (length (b ∷ bs))) (writes_one v file off b bs there) ∙ reads_back (file_at v file).now off (b ∷ bs)

  one_lawful : (asked : Asked) (answer : CallAnswer) (s : Store) → s.volume.writes < 2 ^ 32 → IsTaken answer s asked
      → VolumeLaws s.volume (left_by asked answer s).volume (effect_by (left_by asked answer s).volume (call_of asked s) answer)
  one_lawful (calls.Reads file off len) Done s few taken = rests s.volume
  one_lawful (calls.Reads file off len) DiskFailed s few taken = rests s.volume
  one_lawful (calls.Reads file off len) Refused s few taken = rests s.volume
  one_lawful (calls.Writes file off bytes) Done s few taken =
      let v = s.volume in
      let room = roomy v.broken v.writes v.capacity off (length bytes) taken.1 in
      record {
        allowed = ((taken.0.whole, taken.0.there), next_below v.writes few room.numbered);
        goes_on = ap (λ (bs : List ℕ). write v file off bs) (sym (seen_back v file off bytes taken.0.there));
      }
  one_lawful (calls.Writes file off bytes) DiskFailed s few taken = record { allowed = taken.0.whole; goes_on = refl }
  one_lawful (calls.Writes file off bytes) Refused s few taken = rests s.volume
  one_lawful (calls.Commits file) Done s few taken = record { allowed = (taken.whole, taken.there); goes_on = refl }
  one_lawful (calls.Commits file) DiskFailed s few taken = record { allowed = (taken.whole, taken.there); goes_on = refl }
  one_lawful (calls.Commits file) Refused s few taken = rests s.volume

  -- the volume afterwards, and what was noted
  abbrev Lawful : Volume → Volume → List Used → Type 0
  Lawful v w used = VolumeLaws v w (effect_of w used)

  named : (s now left : Store) (used noted : List Used) → now ≡ left → used ≡ noted → Lawful s.volume left.volume noted → Lawful s.volume now.volume used
  named s now left used noted is same lawful =
      subst (λ (n : Store). Lawful s.volume n.volume used) (sym is) (subst (λ (us : List Used). Lawful s.volume left.volume us) (sym same) lawful)

  calls_lawful : (s : Store) (ms : List Made) (now : Store) (used : List Used) → s.volume.writes < 2 ^ 32 → AreTaken s ms → now ≡ after_calls s ms
      → used ≡ uses_of s ms → length used ≤ 1 → Lawful s.volume now.volume used
  calls_lawful s [] now used few taken is noted one = named s now s used [] is noted (rests s.volume)
  calls_lawful s (m ∷ []) now used few taken is noted one =
      named s now (left_by m.asked m.answer s) used (record { call = call_of m.asked s; answer = m.answer } ∷ []) is noted
      (one_lawful m.asked m.answer s few taken.0)
  calls_lawful s (m ∷ n ∷ ms) now used few taken is noted one =
      absurd (two_calls (record { call = call_of m.asked s; answer = m.answer })
      (record { call = call_of n.asked (left_by m.asked m.answer s); answer = n.answer }) (uses_of (left_by n.asked n.answer (left_by m.asked m.answer s)) ms)
      (subst (λ (us : List Used). length us ≤ 1) noted one))

  pub ran_lawful : (old new : Seat) (used : List Used) → Ran old new [] used → length used ≤ 1 → old.store.volume.writes < 2 ^ 32
      → VolumeLaws old.store.volume new.store.volume (effect_of new.store.volume used)
  ran_lawful old new used ran one few = calls_lawful old.store ran.calls new.store used few ran.taken ran.store ran.noted one

  pub came_lawful : (old new : Store) (used : List Used) → CameByCalls old new [] used → length used ≤ 1 → old.volume.writes < 2 ^ 32
      → VolumeLaws old.volume new.volume (effect_of new.volume used)
  came_lawful old new used came one few = calls_lawful old came.calls new used few came.taken came.store came.noted one
