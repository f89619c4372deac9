-- A server's volume along a run: it changes by calls that spare the root, and by crashes.
use Rattle.std.proofs.Common.{◌≡◌, inl, inr, ℕ, ◌+◌, ◌<◌, ◌≤◌, ◌^◌, List, [], ◌∷◌, length, Some, refl, sym, ap, subst, ◌∙◌}
use Rattle.std.proofs.lemmas.Bool.{false≢true}
use Rattle.std.proofs.lemmas.List.{length-set}
use Rattle.commit_laws.specs.Calling.{CameByCalls}
use Rattle.copy_model.specs.Effect.{IsAllowed, IsFirm, after}
use Rattle.copy_model.specs.Volume as volumes
use Rattle.copy_model.specs.Volume.{Doubt, Volume, crash, fail_commit, fail_write, file_at, formatted, write}
use Rattle.server_volume.specs.Calls as calls
use Rattle.server_volume.specs.Calls.{Asked, call_of, left_by}
use Rattle.server_volume.specs.Moments.{AreTaken, IsTaken, Made, after_calls, stores_within, uses_of, within}
use Rattle.server_volume.specs.Store.{Store}
use Rattle.server_volume.specs.declared.used.CallAnswer.{CallAnswer}
use Rattle.server_volume.specs.declared.used.CallAnswer.TheVariants.{Done, DiskFailed, Refused}
use Rattle.server_volume.specs.declared.used.Used.{Used}
use Rattle.server_volume.specs.declared.used.VolumeCall.{VolumeCall}
use Rattle.server_volume.specs.declared.used.VolumeCall.TheVariants as kinds
use Rattle.tell_laws.specs.Fitting.{IsFitting}
use Rattle.tell_laws.specs.Volumes.{AreOffRoot, file_called}
use Rattle.volume_stops.specs.Stops.{IsLeftBy, SparesRoot, StopsIn, crash_effect, under_by, under_in}
use Rattle.volume_stops.specs.declared.kept.Kept.{Kept}
use Rattle.wire_model.specs.CopyLaws.{VolumeLaws}

-- Nothing is in doubt unless the volume is broken, and what is in doubt is a file that is there, and not the root.
pub record IsSteady (v : Volume) : Type 0 where
  pub firm : IsFirm v
  pub off_root : (d : Doubt) → v.doubt ≡ Some d → d.file ≡ 0 → ⊥

-- a store that came to be another by calls alone, which are noted, and none of which goes to the root
pub record CameOffRoot (old new : Store) (used : List Used) : Type 0 where
  pub came : CameByCalls old new [] used
  pub off_root : AreOffRoot used

pub came_none : (s : Store) → CameOffRoot s s []
came_none s = record { came = record { calls = []; noted = refl; taken = tt; store = refl }; off_root = tt }

pub came_one : (s : Store) (asked : Asked) (answer : CallAnswer) → IsTaken answer s asked → (file_called (call_of asked s) ≡ 0 → ⊥)
    → CameOffRoot s (left_by asked answer s) (record { call = call_of asked s; answer = answer } ∷ [])
came_one s asked answer taken off_root = record {
  came = record { calls = record { asked = asked; answer = answer } ∷ []; noted = refl; taken = (taken, tt); store = refl };
  off_root = (off_root, tt);
}

-- ---- it is steady from its formatting on, over such calls

pub formatted_steady : (files capacity : ℕ) → IsSteady (formatted files capacity)
formatted_steady files capacity = record {
  firm = record { certain = λ whole. refl; there = λ d doubt. absurd (cc) };
  off_root = λ d doubt. absurd (cc);
}

-- with as many files, and as sure
same_steady : (v w : Volume) → w.doubt ≡ v.doubt → w.broken ≡ v.broken → length w.files ≡ length v.files → IsSteady v → IsSteady w
same_steady v w doubt broken many steady = record {
  firm = record {
    certain = λ whole. doubt ∙ steady.firm.certain (sym broken ∙ whole);
    there = λ d is. subst (λ (n : ℕ). d.file < n) (sym many) (steady.firm.there d (sym doubt ∙ is));
  };
  off_root = λ d is. steady.off_root d (sym doubt ∙ is);
}

written_steady : (v : Volume) (file off : ℕ) (bytes : List ℕ) → IsSteady v → IsSteady (write v file off bytes)
written_steady v file off [] steady = steady
written_steady v file off (b ∷ bs) steady = same_steady v (write v file off (b ∷ bs)) refl refl (length-set v.files file _) steady

broken_steady : (v : Volume) → IsSteady v → IsSteady (fail_write v)
broken_steady v steady = record {
  firm = record { certain = λ whole. absurd (false≢true (sym whole)); there = steady.firm.there };
  off_root = steady.off_root;
}

doubted_steady : (v : Volume) (file : ℕ) → file < length v.files → (file ≡ 0 → ⊥) → IsSteady (fail_commit v file)
doubted_steady v file there off_root = record {
  firm = record {
    certain = λ whole. absurd (false≢true (sym whole));
    there = λ d is. subst (λ (n : ℕ). n < length v.files) (named d is) there;
  };
  off_root = λ d is zero. off_root (named d is ∙ zero);
}
  where
    named : (d : Doubt) → (fail_commit v file).doubt ≡ Some d → file ≡ d.file
    named d is =
        let same : record { file = file; bytes = (file_at v file).now; change = (file_at v file).change } ≡ d = cc in
        ap (λ (x : Doubt). x.file) same

call_steady : (asked : Asked) (answer : CallAnswer) (s : Store) → IsTaken answer s asked → (file_called (call_of asked s) ≡ 0 → ⊥) → IsSteady s.volume
    → IsSteady (left_by asked answer s).volume
call_steady asked Refused s taken off_root steady = steady
call_steady (calls.Reads file off len) Done s taken off_root steady = steady
call_steady (calls.Reads file off len) DiskFailed s taken off_root steady = steady
call_steady (calls.Writes file off bytes) Done s taken off_root steady = written_steady s.volume file off bytes steady
call_steady (calls.Writes file off bytes) DiskFailed s taken off_root steady = broken_steady s.volume steady
call_steady (calls.Commits file) Done s taken off_root steady =
    same_steady s.volume (volumes.commit s.volume file) refl refl (length-set s.volume.files file _) steady
call_steady (calls.Commits file) DiskFailed s taken off_root steady = doubted_steady s.volume file taken.there off_root

calls_steady : (s : Store) (ms : List Made) → AreTaken s ms → AreOffRoot (uses_of s ms) → IsSteady s.volume → IsSteady (after_calls s ms).volume
calls_steady s [] taken off_root steady = steady
calls_steady s (m ∷ ms) taken off_root steady =
    calls_steady (left_by m.asked m.answer s) ms taken.1 off_root.1 (call_steady m.asked m.answer s taken.0 off_root.0 steady)

pub came_steady : (old new : Store) (used : List Used) → CameOffRoot old new used → IsSteady old.volume → IsSteady new.volume
came_steady old new used c steady =
    subst (λ (s : Store). IsSteady s.volume) (sym c.came.store) (calls_steady old c.came.calls c.came.taken (subst AreOffRoot c.came.noted c.off_root) steady)

-- ---- and over a stop

crashed_steady : (v : Volume) (side : volumes.Kept) → IsSteady (crash v side)
crashed_steady v side = record {
  firm = record { certain = λ whole. refl; there = λ d doubt. absurd (cc) };
  off_root = λ d doubt. absurd (cc);
}

left_steady : (ss : List Store) (t : Store) → IsLeftBy ss t → IsSteady t.volume
left_steady [] t none = absurd none
left_steady (s ∷ ss) t (inl of) = subst IsSteady (sym of.volume) (crashed_steady s.volume of.side)
left_steady (s ∷ ss) t (inr more) = left_steady ss t more

pub stop_steady : (s t : Store) (used : List Used) (kept : Kept) → StopsIn s used kept t → IsSteady t.volume
stop_steady s t used kept stops = left_steady (s ∷ stores_within s stops.calls) t stops.left

-- ---- a volume that fits stays so over a stop

-- what is known of volumes that fit (`tell_laws`'s `volumes_stay_fitting`)
pub record StayFitting : Type 0 where
  pub came : (old new : Store) (used : List Used) → CameByCalls old new [] used → AreOffRoot used → IsFitting old.volume → IsFitting new.volume
  pub under : (v : Volume) (file : ℕ) → (file ≡ 0 → ⊥) → IsFitting v → IsFitting (fail_commit v file)
  pub crash : (v : Volume) (side : volumes.Kept) → v.boot + 1 < 2 ^ 32 → IsFitting v → IsFitting (crash v side)

abbrev AllFit : List Store → Type 0
AllFit [] = Unit {0}
AllFit (s ∷ ss) = IsFitting s.volume × AllFit ss

module _ (known : StayFitting) where
  -- as a stop inside a call finds it
  within_fits : (asked : Asked) (answer : CallAnswer) (s : Store) → (file_called (call_of asked s) ≡ 0 → ⊥) → IsFitting s.volume
      → IsFitting (within asked answer s).volume
  within_fits (calls.Reads file off len) answer s off_root fits = fits
  within_fits (calls.Writes file off bytes) answer s off_root fits = fits
  within_fits (calls.Commits file) Done s off_root fits = known.under s.volume file off_root fits
  within_fits (calls.Commits file) DiskFailed s off_root fits = known.under s.volume file off_root fits
  within_fits (calls.Commits file) Refused s off_root fits = fits

  all_within_fit : (s : Store) (ms : List Made) → AreTaken s ms → AreOffRoot (uses_of s ms) → IsFitting s.volume → AllFit (stores_within s ms)
  all_within_fit s [] taken off_root fits = tt
  all_within_fit s (m ∷ ms) taken off_root fits =
      let next = left_by m.asked m.answer s in
      let one = came_one s m.asked m.answer taken.0 off_root.0 in (
        within_fits m.asked m.answer s off_root.0 fits,
        all_within_fit next ms taken.1 off_root.1
            (known.came s next (record { call = call_of m.asked s; answer = m.answer } ∷ []) one.came one.off_root fits),
      )

  left_fits : (ss : List Store) (t : Store) → AllFit ss → IsLeftBy ss t → t.volume.boot < 2 ^ 32 → IsFitting t.volume
  left_fits [] t fits none few = absurd none
  left_fits (s ∷ ss) t fits (inl of) few =
      subst IsFitting (sym of.volume) (known.crash s.volume of.side (subst (λ (v : Volume). v.boot < 2 ^ 32) of.volume few) fits.0)
  left_fits (s ∷ ss) t fits (inr more) few = left_fits ss t fits.1 more few

  pub stop_fits : (s t : Store) (used : List Used) (kept : Kept) → StopsIn s used kept t → AreOffRoot used → t.volume.boot < 2 ^ 32 → IsFitting s.volume
      → IsFitting t.volume
  stop_fits s t used kept stops off_root few fits =
      left_fits (s ∷ stores_within s stops.calls) t
      (fits, all_within_fit s stops.calls stops.taken (subst AreOffRoot stops.noted off_root) fits) stops.left few

-- ---- a stop where one call at most was made is one effect that is allowed

-- what is known of stops (`volume_stops`'s `one_stop_is_one_crash`)
pub record StopsAreCrashes : Type 0 where
  pub boot : (s t : Store) (used : List Used) (kept : Kept) → StopsIn s used kept t → t.volume.boot ≡ s.volume.boot + 1
  pub allowed : (s t : Store) (used : List Used) (kept : Kept) → StopsIn s used kept t → length used ≤ 1 → IsAllowed s.volume (crash_effect kept used)
  pub crashes : (s t : Store) (used : List Used) (kept : Kept) → StopsIn s used kept t → length used ≤ 1 → IsFirm s.volume → SparesRoot s used
      → t.volume ≡ after s.volume (crash_effect kept used)

under_called : (call : VolumeCall) (answer : CallAnswer) (file : ℕ) → under_by call answer ≡ Some file → file_called call ≡ file
under_called (kinds.Read at off len) answer file is = absurd (cc)
under_called (kinds.Write at off len) answer file is = absurd (cc)
under_called (kinds.Commit at home) Done file is = cc
under_called (kinds.Commit at home) DiskFailed file is = cc
under_called (kinds.Commit at home) Refused file is = absurd (cc)

under_spares : (used : List Used) (file : ℕ) → AreOffRoot used → under_in used ≡ Some file → file ≡ 0 → ⊥
under_spares [] file off_root is zero = absurd (cc)
under_spares (u ∷ us) file off_root is zero = off_root.0 (under_called u.call u.answer file is ∙ zero)

pub stop_lawful : StopsAreCrashes → (s t : Store) (used : List Used) (kept : Kept) → StopsIn s used kept t → length used ≤ 1 → IsSteady s.volume → AreOffRoot used
    → VolumeLaws s.volume t.volume (crash_effect kept used)
stop_lawful known s t used kept stops few steady off_root = record {
  allowed = known.allowed s t used kept stops few;
  goes_on = known.crashes s t used kept stops few steady.firm
      (record { doubt = steady.off_root; call = λ file is. under_spares used file off_root is });
}
