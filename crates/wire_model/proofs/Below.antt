-- What the promise's crate says of volumes and logs, as one record: its laws, passed on.
use Rattle.std.proofs.Common.{◌≡◌, ◌⊎◌, ℕ, ◌-◌, ◌<◌, ◌≤◌, Bool, true, false, None, Some, List, [], ◌∷◌, ◌++◌, length}
use Rattle.std.specs.List.{list_any}
use Rattle.copy_model.specs.Volume.{Volume, formatted, file_at, byte_at}
use Rattle.copy_model.specs.Moment.{seen_dest}
use Rattle.copy_model.specs.Promise.{Shows, IsAlike}
use Rattle.copy_model.specs.Job.{Entry, Sized, size_of, has_ended, AllowsCommit, Allows}
use Rattle.copy_model.specs.Marks.{len_of, has_byte, is_stopped, is_committed, AreSound}
use Rattle.copy_model.specs.Effect.{Effect, Writes, Commits, after, IsAllowed, IsReady, IsCrashOf, WritesAt, IsWriting, IsFirm, IsVolumeRun}

pub record Below : Type 0 where
  pub firm_start : (files capacity : ℕ) → IsFirm (formatted files capacity)
  pub firm : (v b : Volume) (e : Effect) → IsFirm b → length v.files ≡ length b.files → IsAllowed v e → IsFirm (after b e)
  pub files : (v : Volume) (e : Effect) → length (after v e).files ≡ length v.files
  pub quiet : (v : Volume) (e : Effect) (file place : ℕ) → IsAllowed v e → (WritesAt e file place → ⊥) → (IsCrashOf e → ⊥)
      → (after v e).broken ≡ false
      → (v.broken ≡ false) × (byte_at (file_at (after v e) file).now place ≡ byte_at (file_at v file).now place)
  pub shown : (v : Volume) (e : Effect) (file place x : ℕ) → IsAllowed v e → (WritesAt e file place → ⊥)
      → Shows (seen_dest (after v e)) file place x → Shows (seen_dest v) file place x
  pub written : (v : Volume) (e : Effect) (file off : ℕ) (bytes : List ℕ) (place : ℕ) → e ≡ Writes file off bytes → IsAllowed v e
      → WritesAt e file place → byte_at (file_at (after v e) file).now place ≡ byte_at bytes (place - off)
  pub settles : (v : Volume) (file place x : ℕ) → IsFirm v → IsReady v file
      → Shows (seen_dest (after v (Commits file))) file place x → x ≡ byte_at (file_at v file).now place
  pub zeros : (files capacity file place x : ℕ) → Shows (seen_dest (formatted files capacity)) file place x → x ≡ 0
  pub both : (v b : Volume) (e : Effect) (file place : ℕ) → IsFirm v → IsFirm b → length v.files ≡ length b.files → IsAllowed v e
      → IsAlike (seen_dest v) (seen_dest b) file place → IsAlike (seen_dest (after v e)) (seen_dest (after b e)) file place
  pub alone : (v b : Volume) (e : Effect) (file place : ℕ) → IsAllowed v e → IsWriting e → (WritesAt e file place → ⊥)
      → IsAlike (seen_dest v) (seen_dest b) file place → IsAlike (seen_dest (after v e)) (seen_dest b) file place
  pub same_change : (volume : ℕ → Volume) (effect : ℕ → Effect) → IsVolumeRun volume effect
      → (i k file place : ℕ) → (file_at (volume i) file).change ≡ (file_at (volume k) file).change
      → byte_at (file_at (volume i) file).now place ≡ byte_at (file_at (volume k) file).now place
  pub changes_rise : (volume : ℕ → Volume) (effect : ℕ → Effect) → IsVolumeRun volume effect
      → (i k file : ℕ) → i ≤ k → (volume i).boot ≡ (volume k).boot → (file_at (volume i) file).change ≤ (file_at (volume k) file).change
  pub boots_rise : (volume : ℕ → Volume) (effect : ℕ → Effect) → IsVolumeRun volume effect
      → (i k : ℕ) → i ≤ k → (volume i).boot ≤ (volume k).boot
  pub sound_none : (consecutive : Bool) → AreSound consecutive []
  pub sound : (consecutive : Bool) (es : List Entry) (e : Entry) → AreSound consecutive es → Allows consecutive es e
      → AreSound consecutive (es ++ e ∷ [])
  pub grows : (consecutive : Bool) (es : List Entry) (e : Entry) → Allows consecutive es e → len_of es ≤ len_of (es ++ e ∷ [])
  pub fixed : (consecutive : Bool) (es : List Entry) (e : Entry) → Allows consecutive es e → is_committed es ≡ true
      → len_of (es ++ e ∷ []) ≡ len_of es
  pub len : (es : List Entry) (e : Entry) → size_of (e ∷ []) ≡ None → len_of (es ++ e ∷ []) ≡ len_of es
  pub sized : (es : List Entry) (e : Entry) (len : ℕ) → size_of es ≡ Some len → size_of (es ++ e ∷ []) ≡ Some len
  pub size : (es : List Entry) (e : Entry) (len : ℕ) → size_of (es ++ e ∷ []) ≡ Some len
      → (size_of es ≡ Some len) ⊎ ((size_of es ≡ None) × (e ≡ Sized len))
  pub stays : (test : Entry → Bool) (es : List Entry) (e : Entry) → list_any test es ≡ true → list_any test (es ++ e ∷ []) ≡ true
  pub rises : (test : Entry → Bool) (es : List Entry) (e : Entry) → list_any test (es ++ e ∷ []) ≡ true
      → (list_any test es ≡ true) ⊎ (test e ≡ true)
  pub adds : (test : Entry → Bool) (es : List Entry) (e : Entry) → test e ≡ true → list_any test (es ++ e ∷ []) ≡ true
  pub stopped : (es : List Entry) → is_stopped es ≡ true → has_ended es ≡ true
  pub committed : (es : List Entry) → is_committed es ≡ true → has_ended es ≡ true
  pub landed : (consecutive : Bool) (es : List Entry) (q : ℕ) → AreSound consecutive es → AllowsCommit es → q < len_of es
      → has_byte es q ≡ true
