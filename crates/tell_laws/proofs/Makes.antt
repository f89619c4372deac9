-- Calls on a volume, counted; none of them goes to the root.
use Rattle.std.proofs.Common.{◌≡◌, ℕ, ◌+◌, ◌≤◌, Bool, true, false, List, [], ◌∷◌, ◌++◌, length, Option, Some, None, Result, Ok, Err, refl, sym, ap, ◌∙◌, append_assoc, append-nil, length-append, arith}
use Rattle.std.specs.Prelude.{◌==◌, if◌then◌else◌}
use Rattle.std.proofs.lemmas.Bool.{eqb-false}
use Rattle.file_server.specs.Handles.{byte_file, current_file, unless_root}
use Rattle.nfs_base.specs.declared.status.Status.{Status}
use Rattle.nfs_base.specs.declared.status.TheConstants.Status.{ISDIR}
use Rattle.server_volume.specs.Calls.{Asked, called, call_of}
use Rattle.server_volume.specs.Choices.{Fate, Went, Failed, noted}
use Rattle.server_volume.specs.Store.{Store}
use Rattle.server_volume.specs.declared.used.CallAnswer.{CallAnswer}
use Rattle.server_volume.specs.declared.used.Used.{Used}
use Rattle.server_volume.specs.declared.used.VolumeCall.{VolumeCall}
use Rattle.tell_laws.specs.Volumes.{AreOffRoot, file_called}

-- at most so many calls were made behind these
pub record Makes (most : ℕ) (used more : List Used) : Type 0 where
  pub calls : List Used
  pub noted_so : more ≡ used ++ calls
  pub few : length calls ≤ most
  pub off_root : AreOffRoot calls

pub makes_none : (most : ℕ) (used more : List Used) → more ≡ used → Makes most used more
makes_none most used more same = record { calls = []; noted_so = same ∙ sym (append-nil used); few = omega arith; off_root = tt }

pub makes_one : (used : List Used) (call : VolumeCall) (answer : CallAnswer) → (file_called call ≡ 0 → ⊥) → Makes 1 used (noted used call answer)
makes_one used call answer off = record { calls = record { call = call; answer = answer } ∷ []; noted_so = refl; few = omega arith; off_root = (off, tt) }

pub makes_more : (n m : ℕ) (used more : List Used) → n ≤ m → Makes n used more → Makes m used more
makes_more n m used more le makes = record { calls = makes.calls; noted_so = makes.noted_so; few = omega (arith, makes.few, le); off_root = makes.off_root }

off_both : (xs ys : List Used) → AreOffRoot xs → AreOffRoot ys → AreOffRoot (xs ++ ys)
off_both [] ys first second = second
off_both (x ∷ xs) ys first second = (first.0, off_both xs ys first.1 second)

pub makes_then : (n m : ℕ) (used some more : List Used) → Makes n used some → Makes m some more → Makes (n + m) used more
makes_then n m used some more first second = record {
  calls = first.calls ++ second.calls;
  noted_so = second.noted_so ∙ ap (λ (us : List Used). us ++ second.calls) first.noted_so ∙ append_assoc used first.calls second.calls;
  few = omega (arith, first.few, second.few, length-append first.calls second.calls);
  off_root = off_both first.calls second.calls first.off_root second.off_root;
}

-- ---- one call

pub called_makes : {F : Type 0} (fault : Option F) (broke : F) (fate : Fate) (asked : Asked) (used : List Used) (s : Store)
    → (file_called (call_of asked s) ≡ 0 → ⊥) → Makes 1 used (called fault broke fate asked used s).used
called_makes (Some f) broke fate asked used s off = makes_one used _ _ off
called_makes None broke Went asked used s off = makes_one used _ _ off
called_makes None broke Failed asked used s off = makes_one used _ _ off

-- a file that holds bytes isn't the root
rootless_test : (f : ℕ) (root : Bool) → (f == 0) ≡ root → (file : ℕ) → ◌≡◌ {A = Result ℕ Status} (if root then Err ISDIR else Ok f) (Ok file) → file ≡ 0 → ⊥
rootless_test f true e file h zero_is = absurd cc
rootless_test f false e file h zero_is =
    let same : f ≡ file = cc in
    let other : f ≡ 0 → ⊥ = eqb-false f 0 e in
    other (same ∙ zero_is)

rootless : (r : Result ℕ Status) (file : ℕ) → unless_root r ≡ Ok file → file ≡ 0 → ⊥
rootless (Ok f) file h zero_is = rootless_test f (f == 0) refl file h zero_is
rootless (Err status) file h zero_is = absurd cc

pub byte_rootless : (s : Store) (current : Option (List ℕ)) (file : ℕ) → byte_file s current ≡ Ok file → file ≡ 0 → ⊥
byte_rootless s current file h zero_is = rootless (current_file s current) file h zero_is
