-- What a call of a volume leaves of a byte: the call is one effect.
use Rattle.std.proofs.Common.{◌≡◌, ℕ, ◌+◌, ◌-◌, ◌^◌, ◌<◌, Bool, true, false, List, [], ◌∷◌, Option, Some, None, length, refl, sym, ap, subst, ◌∙◌, arith}
use Rattle.std.specs.Prelude.{◌==◌, nat_lt, if◌then◌else◌}
use Rattle.std.proofs.lemmas.Bool.{eqb-false}
use Rattle.block_file.specs.Opened.{refusal_of}
use Rattle.block_file.specs.declared.faults.WriteFault.TheVariants as fault
use Rattle.copy_model.specs.Effect.{Effect, Rests, Writes, Commits, WriteFails, CommitFails, Crashes, IsAllowed, IsCrashOf, IsFirm, IsReady, WritesAt, after, committing}
use Rattle.copy_model.specs.Moment.{seen_dest}
use Rattle.copy_model.specs.Promise.{Shows}
use Rattle.copy_model.specs.Volume.{Kept, Volume, byte_at, file_at}
use Rattle.copy_model.specs.Volume as volumes
use Rattle.server_volume.specs.Calls as calls
use Rattle.server_volume.specs.Calls.{Asked, call_of, left_by}
use Rattle.server_volume.specs.Moments.{IsTaken}
use Rattle.server_volume.specs.Store.{Store}
use Rattle.server_volume.specs.declared.used.CallAnswer.{CallAnswer}
use Rattle.server_volume.specs.declared.used.CallAnswer.TheVariants.{Done, DiskFailed, Refused}
use Rattle.commit_laws.specs.Commits.{WritesByte}
use Rattle.commit_laws.proofs.Answered.{same_boot}

-- what is known of effects (`copy_model`'s `volume_effects`)
pub record EffectLaws : Type 0 where
  pub firm : (v b : Volume) (e : Effect) → IsFirm b → length v.files ≡ length b.files → IsAllowed v e → IsFirm (after b e)
  pub quiet : (v : Volume) (e : Effect) (file place : ℕ) → IsAllowed v e → (WritesAt e file place → ⊥) → (IsCrashOf e → ⊥)
      → (after v e).broken ≡ false
      → (v.broken ≡ false) × (byte_at (file_at (after v e) file).now place ≡ byte_at (file_at v file).now place)
  pub shown : (v : Volume) (e : Effect) (file place x : ℕ) → IsAllowed v e → (WritesAt e file place → ⊥)
      → Shows (seen_dest (after v e)) file place x → Shows (seen_dest v) file place x
  pub written : (v : Volume) (e : Effect) (file off : ℕ) (bytes : List ℕ) (place : ℕ) → e ≡ Writes file off bytes → IsAllowed v e
      → WritesAt e file place → byte_at (file_at (after v e) file).now place ≡ byte_at bytes (place - off)
  pub settles : (v : Volume) (file place x : ℕ) → IsFirm v → IsReady v file
      → Shows (seen_dest (after v (Commits file))) file place x → x ≡ byte_at (file_at v file).now place

-- what holds of the volume of a server at all times
pub record IsFit (v : Volume) : Type 0 where
  pub firm : IsFirm v
  pub few : v.writes < 2 ^ 32
  pub boot : v.boot < 2 ^ 32

-- a reader finds this value, as long as the volume can be read
abbrev pub Holds : Volume → (file place value : ℕ) → Type 0
Holds v file place value = v.broken ≡ false → byte_at (file_at v file).now place ≡ value

-- a reader finds nothing else, and a crash leaves nothing else
abbrev pub ShowsOnly : Volume → (file place value : ℕ) → Type 0
ShowsOnly v file place value = (x : ℕ) → Shows (seen_dest v) file place x → x ≡ value

-- ---- a call as an effect

abbrev pub effect_of : Asked → CallAnswer → Effect
effect_of asked Refused = Rests
effect_of (calls.Reads file off len) Done = Rests
effect_of (calls.Reads file off len) DiskFailed = Rests
effect_of (calls.Writes file off bytes) Done = Writes file off bytes
effect_of (calls.Writes file off bytes) DiskFailed = WriteFails
effect_of (calls.Commits file) Done = Commits file
effect_of (calls.Commits file) DiskFailed = CommitFails file

pub is_effect : (asked : Asked) (answer : CallAnswer) (s : Store) → (left_by asked answer s).volume ≡ after s.volume (effect_of asked answer)
is_effect asked Refused s = refl
is_effect (calls.Reads file off len) Done s = refl
is_effect (calls.Reads file off len) DiskFailed s = refl
is_effect (calls.Writes file off bytes) Done s = refl
is_effect (calls.Writes file off bytes) DiskFailed s = refl
is_effect (calls.Commits file) Done s = refl
is_effect (calls.Commits file) DiskFailed s = refl

pub no_crash : (asked : Asked) (answer : CallAnswer) → IsCrashOf (effect_of asked answer) → ⊥
no_crash asked Refused h = h
no_crash (calls.Reads file off len) Done h = h
no_crash (calls.Reads file off len) DiskFailed h = h
no_crash (calls.Writes file off bytes) Done h = h
no_crash (calls.Writes file off bytes) DiskFailed h = h
no_crash (calls.Commits file) Done h = h
no_crash (calls.Commits file) DiskFailed h = h

-- it writes only what is noted
pub writes_noted : (asked : Asked) (answer : CallAnswer) (s : Store) (file place : ℕ) → WritesAt (effect_of asked answer) file place
    → WritesByte (call_of asked s) answer file place
writes_noted asked Refused s file place h = absurd h
writes_noted (calls.Reads at off len) Done s file place h = h
writes_noted (calls.Reads at off len) DiskFailed s file place h = h
writes_noted (calls.Writes at off bytes) Done s file place h = h
writes_noted (calls.Writes at off bytes) DiskFailed s file place h = h
writes_noted (calls.Commits at) Done s file place h = h
writes_noted (calls.Commits at) DiskFailed s file place h = h

-- a write that is taken still has a number
numbered_test : (far worn : Bool) → (if far then Some fault.TooFar else (if worn then Some fault.Worn else None)) ≡ None → worn ≡ false
numbered_test true worn e = absurd cc
numbered_test false true e = absurd cc
numbered_test false false e = refl

numbered : (broken : Bool) (writes capacity off len : ℕ) → refusal_of broken writes capacity off len ≡ None → (writes == 4294967295) ≡ false
numbered true writes capacity off len e = absurd cc
numbered false writes capacity off len e = numbered_test (nat_lt capacity (off + len)) (writes == 4294967295) e

below : (n : ℕ) → n < 2 ^ 32 → (n == 4294967295) ≡ false → n < 2 ^ 32 - 1
below n few e =
    let other : n ≡ 4294967295 → ⊥ = eqb-false n 4294967295 e in
    omega (arith, other)

pub is_allowed : (asked : Asked) (answer : CallAnswer) (s : Store) → s.volume.writes < 2 ^ 32 → IsTaken answer s asked → IsAllowed s.volume (effect_of asked answer)
is_allowed asked Refused s few taken = tt
is_allowed (calls.Reads file off len) Done s few taken = tt
is_allowed (calls.Reads file off len) DiskFailed s few taken = tt
is_allowed (calls.Writes file off bytes) Done s few taken =
    let v = s.volume in
    ((taken.0.whole, taken.0.there), below v.writes few (numbered v.broken v.writes v.capacity off (length bytes) taken.1))
is_allowed (calls.Writes file off bytes) DiskFailed s few taken = taken.0.whole
is_allowed (calls.Commits file) Done s few taken = (taken.whole, taken.there)
is_allowed (calls.Commits file) DiskFailed s few taken = (taken.whole, taken.there)

-- ---- numbers

pub left_boot : (asked : Asked) (answer : CallAnswer) (s : Store) → (left_by asked answer s).volume.boot ≡ s.volume.boot
left_boot asked Refused s = refl
left_boot (calls.Reads file off len) Done s = refl
left_boot (calls.Reads file off len) DiskFailed s = refl
left_boot (calls.Writes file off bytes) Done s = same_boot s.volume file off bytes
left_boot (calls.Writes file off bytes) DiskFailed s = refl
left_boot (calls.Commits file) Done s = refl
left_boot (calls.Commits file) DiskFailed s = refl

written_few : (v : Volume) (file off : ℕ) (bytes : List ℕ) → v.writes < 2 ^ 32 - 1 → (volumes.write v file off bytes).writes < 2 ^ 32
written_few v file off [] few = omega (arith, few)
written_few v file off (b ∷ bs) few = omega (arith, few)

left_few : (asked : Asked) (answer : CallAnswer) (s : Store) → s.volume.writes < 2 ^ 32 → IsTaken answer s asked → (left_by asked answer s).volume.writes < 2 ^ 32
left_few asked Refused s few taken = few
left_few (calls.Reads file off len) Done s few taken = few
left_few (calls.Reads file off len) DiskFailed s few taken = few
left_few (calls.Writes file off bytes) Done s few taken =
    let v = s.volume in
    written_few v file off bytes (below v.writes few (numbered v.broken v.writes v.capacity off (length bytes) taken.1))
left_few (calls.Writes file off bytes) DiskFailed s few taken = few
left_few (calls.Commits file) Done s few taken = few
left_few (calls.Commits file) DiskFailed s few taken = few

committing_boot : (v : Volume) (under : Option ℕ) → (committing v under).boot ≡ v.boot
committing_boot v None = refl
committing_boot v (Some file) = refl

-- a crash raises the number of the opening
pub crash_boot : (v : Volume) (under : Option ℕ) (kept : Kept) → (after v (Crashes under kept)).boot ≡ v.boot + 1
crash_boot v under kept = ap (λ n. n + 1) (committing_boot v under)

module _ (laws : EffectLaws) where
  pub left_fit : (asked : Asked) (answer : CallAnswer) (s : Store) → IsTaken answer s asked → IsFit s.volume → IsFit (left_by asked answer s).volume
  left_fit asked answer s taken fit =
      let e = effect_of asked answer in
      record {
        firm = subst IsFirm (sym (is_effect asked answer s)) (laws.firm s.volume s.volume e fit.firm refl (is_allowed asked answer s fit.few taken));
        few = left_few asked answer s fit.few taken;
        boot = subst (λ n. n < 2 ^ 32) (sym (left_boot asked answer s)) fit.boot;
      }

  -- ---- a byte that a call doesn't write

  pub left_holds : (asked : Asked) (answer : CallAnswer) (s : Store) (file place value : ℕ) → IsTaken answer s asked → IsFit s.volume
      → (WritesByte (call_of asked s) answer file place → ⊥) → Holds s.volume file place value → Holds (left_by asked answer s).volume file place value
  left_holds asked answer s file place value taken fit out holds =
      let e = effect_of asked answer in
      let step : Holds (after s.volume e) file place value =
      λ whole.
      let q = laws.quiet s.volume e file place (is_allowed asked answer s fit.few taken) (λ w. out (writes_noted asked answer s file place w)) (no_crash asked answer) whole in
      q.1 ∙ holds q.0 in
      subst (λ (v : Volume). Holds v file place value) (sym (is_effect asked answer s)) step

  pub effect_shows : (v : Volume) (e : Effect) (file place value : ℕ) → IsAllowed v e → (WritesAt e file place → ⊥)
      → ShowsOnly v file place value → ShowsOnly (after v e) file place value
  effect_shows v e file place value allowed out only = λ x shows. only x (laws.shown v e file place x allowed out shows)

  pub left_shows : (asked : Asked) (answer : CallAnswer) (s : Store) (file place value : ℕ) → IsTaken answer s asked → IsFit s.volume
      → (WritesByte (call_of asked s) answer file place → ⊥) → ShowsOnly s.volume file place value → ShowsOnly (left_by asked answer s).volume file place value
  left_shows asked answer s file place value taken fit out only =
      subst (λ (v : Volume). ShowsOnly v file place value) (sym (is_effect asked answer s))
      (effect_shows s.volume (effect_of asked answer) file place value (is_allowed asked answer s fit.few taken) (λ w. out (writes_noted asked answer s file place w)) only)
