-- What a crash leaves of a disk that crashed, and what is opened of it.
use Rattle.std.proofs.Common.{◌≡◌, ℕ, List, [], ◌∷◌, length, Option, None, Some, refl, sym, ap, ◌∙◌, subst, arith, inl, inr}
use Rattle.std.specs.Prelude.{◌-◌, ◌<◌, ◌≤◌, ◌^◌}
use Rattle.block_file.specs.Opened.{CanBeOpened, Opened, StandsFor}
use Rattle.block_file.specs.Stored.{Place, flaw_of, reopened}
use Rattle.block_file.specs.declared.faults.OpenFault.{OpenFault}
use Rattle.block_file.specs.declared.faults.OpenFault.TheVariants.{DiskFailed, NotVolume}
use Rattle.copy_model.specs.Volume.{Volume}
use Rattle.disk_model.specs.Disk.{DiskState, Image, IsSettled, MayLeave}
use Rattle.disk_model.specs.Elapsed.{IsOut, Timeline, contents, crash_moment, present}
use Rattle.disk_model.specs.declared.fuse.Fuse.{Fuse}
use Rattle.disk_model.specs.declared.fuse.Fuse.TheVariants.{Unset}
use Rattle.run_ends.specs.Stops.Reopening.{IsReopened, IsUnopened, MayReopen, MadeCalls}
use Rattle.server_volume.specs.Moments.{Ran, stores_within}
use Rattle.server_volume.specs.Store.{Seat, Store, seat_of, store_of}
use Rattle.server_volume.specs.declared.used.Used.{Used}
use Rattle.volume_stops.specs.Stops.{IsCertain, IsOpenedFrom, StandsAs, StopsIn, in_doubt, kept_by, pending_after, pending_in, pending_within}
use Rattle.volume_stops.specs.declared.pending.Pending.{Pending}

-- a disk that crashed is settled: what another crash may leave of it the first may have left
pub after_crash : (s t : DiskState) (image : Image) → MayLeave s t.reads → IsSettled t → MayLeave t image → MayLeave s image
after_crash s t image left settled may = λ b closed. may b (settled b) ∙ left b closed

module _ {D : Type 0} (told : Type 0) (size : D → ℕ) (fuse : D → Fuse) (timeline : D → Timeline) (faults : D → ℕ) where
  abbrev seat : Opened D → Seat
  seat v = seat_of size fuse timeline faults v

  abbrev Opens : Type 0
  Opens = (old new : Seat) (used : List Used) (image : Image) → Ran old new [] used → StandsAs old → (IsOut old.fuse → ⊥)
      → MayLeave (new.timeline.state (crash_moment new.fuse new.timeline)) image → CanBeOpened old.store.size image

  pub may : Opens → (old new : Opened D) (used : List Used) → MadeCalls told size fuse timeline faults old new used → (told → IsOut (fuse old.disk) → ⊥)
      → MayReopen told size fuse timeline new.disk
  may opens old new used moved lit = λ t image left.
      subst (λ (n : ℕ). CanBeOpened n image) (sym moved.as_large) (opens (seat old) (seat new) used image (moved.ran t) (moved.stood t) (lit t) left)

  abbrev Stops : Type 0
  Stops = (old new : Seat) (used : List Used) (image : Image) (t : Store) → Ran old new [] used → StandsAs old → (IsOut old.fuse → ⊥)
      → MayLeave (new.timeline.state (crash_moment new.fuse new.timeline)) image → IsOpenedFrom image t → t.size ≡ old.store.size
      → StopsIn old.store used (kept_by (length t.volume.files) t.homes (pending_within (pending_in old.store) used)) t

  pub stops : Stops → (old new next : Opened D) (used : List Used) (pending : Option Pending) → told
      → MadeCalls told size fuse timeline faults old new used → (told → IsOut (fuse old.disk) → ⊥)
      → IsReopened told size fuse timeline faults new.disk next → pending ≡ pending_in (store_of size old)
      → StopsIn (store_of size old) used (kept_by (length next.volume.files) next.homes (pending_within pending used)) (store_of size next)
  stops law old new next used pending t moved lit re is =
      subst
      (λ (p : Option Pending). StopsIn (store_of size old) used (kept_by (length next.volume.files) next.homes (pending_within p used)) (store_of size next)) (sym is)
      (law (seat old) (seat new) used re.image (store_of size next) (moved.ran t) (moved.stood t) (lit t)
      (re.left t) (re.opened t) (re.as_large ∙ moved.as_large))

  abbrev Sound : Type 0
  Sound = (old new : Seat) (used : List Used) (image : Image) → Ran old new [] used → StandsAs old → (IsOut old.fuse → ⊥)
      → MayLeave (new.timeline.state (crash_moment new.fuse new.timeline)) image → old.store.volume.boot < 2 ^ 32 - 1
      → flaw_of old.store.size image ≡ None

  no_flaw : (o : Option Place) (place : Place) → o ≡ None → o ≡ Some place → ⊥
  no_flaw None place none some = cc
  no_flaw (Some x) place none some = cc

  pub fails : Sound → (old new : Opened D) (used : List Used) (now : D) (fault : OpenFault) → told
      → MadeCalls told size fuse timeline faults old new used → (told → IsOut (fuse old.disk) → ⊥)
      → old.volume.boot < 2 ^ 32 - 1 → IsUnopened told size fuse timeline faults new.disk now fault → fault ≡ DiskFailed
  fails sound old new used now DiskFailed t moved lit few un = refl
  fails sound old new used now (NotVolume block at) t moved lit few un =
      let why = un.why t in
      absurd (no_flaw (flaw_of (size new.disk) why.0) (record { block = block; at = at })
      (subst (λ (n : ℕ). flaw_of n why.0 ≡ None) (sym moved.as_large)
      (sound (seat old) (seat new) used why.0 (moved.ran t) (moved.stood t) (lit t) why.1 few)) why.2)

  abbrev Pends : Type 0
  Pends = (old new : Seat) (used : List Used) → Ran old new [] used → IsCertain old.store.volume
      → pending_in new.store ≡ pending_after (pending_in old.store) used

  pub noted : Pends → (old new : Opened D) (used : List Used) (pending : Option Pending) → told → MadeCalls told size fuse timeline faults old new used
      → pending ≡ pending_in (store_of size old) → pending_after pending used ≡ pending_in (store_of size new)
  noted law old new used pending t moved is =
      ap (λ (p : Option Pending). pending_after p used) is ∙ sym (law (seat old) (seat new) used (moved.ran t) moved.certain)

  -- a fuse that isn't set stays so
  pub unset : (old new : Opened D) (used : List Used) → told → MadeCalls told size fuse timeline faults old new used
      → fuse old.disk ≡ Unset → fuse new.disk ≡ Unset
  unset old new used t moved is =
      let ran = moved.ran t in
      let s = store_of size old in
      let stood = moved.stood t in
      let passes = ran.moments (s ∷ stores_within s ran.calls) (λ image may. inl (stood image may)) (λ image inside. inr inside) in
      passes.time.unset is

-- nothing of what was just opened is in doubt
reopened_certain : (homes : List ℕ) (image : Image) → in_doubt homes (reopened image).doubt ≡ None
unfolding reopened
reopened_certain homes image = refl

pub fresh : {D : Type 0} (told : Type 0) (size : D → ℕ) (fuse : D → Fuse) (timeline : D → Timeline) (faults : D → ℕ)
    (disk : D) (next : Opened D) → told → IsReopened told size fuse timeline faults disk next → pending_in (store_of size next) ≡ None
fresh told size fuse timeline faults disk next t re =
    let opened = re.opened t in
    ap (λ (v : Volume). in_doubt next.homes v.doubt) opened.volume ∙ reopened_certain next.homes re.image

-- no calls are made between two steps
pub between : {D : Type 0} (told : Type 0) (size : D → ℕ) (fuse : D → Fuse) (timeline : D → Timeline) (faults : D → ℕ) → ((s : Seat) → Ran s s [] [])
    → (v : Opened D) → (told → StandsFor timeline size v) → IsCertain v.volume
    → MadeCalls told size fuse timeline faults v v []
between told size fuse timeline faults law v stood certain =
    record { stood = stood; certain = certain; as_large = refl; ran = λ t. law (seat_of size fuse timeline faults v) }

-- ---- a disk that was given back, crashed, and was opened

module _ {D : Type 0} (told : Type 0) (size : D → ℕ) (fuse : D → Fuse) (timeline : D → Timeline) (disk closed crashed : D) where
  -- what its crash left
  abbrev Crashed : D → Type 0
  Crashed d = MayLeave ((timeline d).state (crash_moment (fuse d) (timeline d))) (contents (timeline crashed))

  pub may_open : closed ≡ disk → (told → Crashed closed) → (told → IsSettled (present (timeline crashed))) → size crashed ≡ size closed
      → MayReopen told size fuse timeline disk → told → (image : Image) → MayLeave (present (timeline crashed)) image → CanBeOpened (size crashed) image
  may_open is left settled same may = λ t image leaves.
      let s = (timeline disk).state (crash_moment (fuse disk) (timeline disk)) in
      subst (λ (n : ℕ). CanBeOpened n image) (sym (same ∙ ap size is))
      (may t image (after_crash s (present (timeline crashed)) image (subst Crashed is (left t)) (settled t) leaves))

  pub reopens : (faults : D → ℕ) (next : Opened D) (boot : ℕ) → closed ≡ disk → (told → Crashed closed) → size crashed ≡ size closed
      → faults crashed ≡ faults closed → fuse crashed ≡ Unset → (told → IsOpenedFrom (contents (timeline crashed)) (store_of size next))
      → (fuse crashed ≡ Unset → fuse next.disk ≡ Unset) → size next.disk ≡ size crashed → faults crashed ≤ faults next.disk → boot ≡ next.volume.boot → boot < 2 ^ 32
      → IsReopened told size fuse timeline faults disk next
  reopens faults next boot is left same count none opened unset as_large later boot_is few = record {
    image = contents (timeline crashed);
    left = λ t. subst Crashed is (left t);
    opened = opened;
    as_large = as_large ∙ (same ∙ ap size is);
    later = omega (arith, later, count, ap faults is);
    unset = unset none;
    numbered = subst (λ (n : ℕ). n < 2 ^ 32) boot_is few;
  }
