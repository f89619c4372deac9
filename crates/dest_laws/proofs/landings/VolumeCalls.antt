-- What a worker's turn and an answer do to the volume is one effect that is allowed.
use Rattle.std.proofs.Common.{◌≡◌, ℕ, ◌+◌, ◌<◌, Bool, true, false, List, [], length, Option, Some, None, refl, sym, ap, arith}
use Rattle.std.specs.Prelude.{◌^◌, ◌==◌, ◌-◌, if◌then◌else◌, nat_lt}
use Rattle.std.proofs.lemmas.Bool.{eqb-false}
use Rattle.block_file.specs.Opened.{refusal_of}
use Rattle.block_file.specs.declared.faults.WriteFault.TheVariants as writing
use Rattle.copy_model.specs.Volume.{Volume, write}
use Rattle.dest_core.specs.Stepping.{DestState, DestStep, IsReply, IsWork}
use Rattle.dest_laws.specs.Landings.CallingLaws.{reply_comes, work_comes}
use Rattle.dest_laws.proofs.landings.Written.{stands}
use Rattle.dest_steps.specs.Copier.{Codes}
use Rattle.server_volume.specs.Calls as calls
use Rattle.server_volume.specs.Calls.{Asked, call_of, left_by}
use Rattle.server_volume.specs.Choices.{noted}
use Rattle.server_volume.specs.Moments.{IsTaken}
use Rattle.server_volume.specs.Store.{Store}
use Rattle.server_volume.specs.declared.used.CallAnswer.{CallAnswer}
use Rattle.server_volume.specs.declared.used.CallAnswer.TheVariants as answers
use Rattle.server_volume.specs.declared.used.Used.{Used}
use Rattle.server_volume.specs.declared.used.VolumeCall.TheVariants as asked
use Rattle.streams.specs.declared.draws.Drawn.{Drawn}
use Rattle.tell_laws.specs.Volumes.{file_called}
use Rattle.wire_machine.specs.History.{effect_of}
use Rattle.wire_model.specs.CopyLaws.{VolumeLaws}

-- a volume that was opened counts its writes by 32 bits
abbrev pub Lawful : Store → Store → List Used → Type 0
Lawful s left used = s.volume.writes < 2 ^ 32 → VolumeLaws s.volume left.volume (effect_of left.volume used)

-- ---- a write

numbered_by : (far worn : Bool) (writes : ℕ) → (writes == 4294967295) ≡ worn
    → (if far then Some writing.TooFar else (if worn then Some writing.Worn else None)) ≡ None → writes ≡ 4294967295 → ⊥
numbered_by true worn writes is none most = absurd cc
numbered_by false true writes is none most = absurd cc
numbered_by false false writes is none most = eqb-false writes 4294967295 is most

-- a write that isn't refused has a number
numbered : (broken : Bool) (writes capacity off len : ℕ) → refusal_of broken writes capacity off len ≡ None → writes ≡ 4294967295 → ⊥
numbered true writes capacity off len none most = absurd cc
numbered false writes capacity off len none most = numbered_by (nat_lt capacity (off + len)) (writes == 4294967295) writes refl none most

next_below : (n : ℕ) → n < 2 ^ 32 → (n ≡ 4294967295 → ⊥) → n < 2 ^ 32 - 1
next_below n few other = omega (arith, other)

written_lawful : (s : Store) (file off : ℕ) (bytes : List ℕ) (answer : CallAnswer) → IsTaken answer s (calls.Writes file off bytes)
    → Lawful s (left_by (calls.Writes file off bytes) answer s) (noted [] (asked.Write file off (length bytes)) answer)
written_lawful s file off bytes answers.Done taken few =
    let v = s.volume in
    record {
      allowed = ((taken.0.whole, taken.0.there), next_below v.writes few (numbered v.broken v.writes v.capacity off (length bytes) taken.1));
      goes_on = ap (λ (bs : List ℕ). write v file off bs) (sym (stands v file off bytes taken.0.there));
    }
written_lawful s file off bytes answers.DiskFailed taken few = record { allowed = taken.0.whole; goes_on = refl }
written_lawful s file off bytes answers.Refused taken few = record { allowed = tt; goes_on = refl }

-- ---- any call, and none

none_lawful : (s : Store) → Lawful s s []
none_lawful s few = record { allowed = tt; goes_on = refl }

one_lawful : (s : Store) (call : Asked) (answer : CallAnswer) → IsTaken answer s call → (file_called (call_of call s) ≡ 0 → ⊥)
    → Lawful s (left_by call answer s) (noted [] (call_of call s) answer)
one_lawful s (calls.Reads file off len) answers.Done taken off_root few = record { allowed = tt; goes_on = refl }
one_lawful s (calls.Reads file off len) answers.DiskFailed taken off_root few = record { allowed = tt; goes_on = refl }
one_lawful s (calls.Reads file off len) answers.Refused taken off_root few = record { allowed = tt; goes_on = refl }
one_lawful s (calls.Writes file off bytes) answer taken off_root few = written_lawful s file off bytes answer taken few
one_lawful s (calls.Commits file) answers.Done taken off_root few = record { allowed = (taken.whole, taken.there); goes_on = refl }
one_lawful s (calls.Commits file) answers.DiskFailed taken off_root few = record { allowed = (taken.whole, taken.there); goes_on = refl }
one_lawful s (calls.Commits file) answers.Refused taken off_root few = record { allowed = tt; goes_on = refl }

-- ---- whole steps

abbrev pub volume_in : {M : Type 0} → DestState M → Volume
volume_in s = s.state.machine.store.volume

abbrev pub StepGoes : {M : Type 0} → DestState M → DestStep M → Type 0
StepGoes s t = (volume_in s).writes < 2 ^ 32 → VolumeLaws (volume_in s) (volume_in t.host) (effect_of (volume_in t.host) t.out.used)

pub work_goes : {M W : Type 0} (gives : W → Drawn → W → Type 0) (started : List ℕ → List ℕ → Option (List ℕ)) (codes : Codes) (place now : ℕ)
    (s : DestState M) (before after : W) (t : DestStep M) → IsWork gives started codes place now s before after t → StepGoes s t
work_goes gives started codes place now s before after t work =
    work_comes Lawful none_lawful one_lawful gives started codes place now s before after t work

pub reply_goes : {M : Type 0} (codes : Codes) (finish : List ℕ → List ℕ → Option (List ℕ)) (place : ℕ) (message : List ℕ) (now : ℕ)
    (s : DestState M) (t : DestStep M) → IsReply codes finish place message now s t → StepGoes s t
reply_goes codes finish place message now s t reply = reply_comes Lawful none_lawful one_lawful codes finish place message now s t reply
