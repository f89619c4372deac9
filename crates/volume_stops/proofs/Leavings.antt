-- What a crash leaves of a volume whose machine hadn't stopped before some calls, and what is opened of that.
use Rattle.std.proofs.Common.{◌≡◌, ℕ, zero, suc, ◌+◌, ◌-◌, ◌<◌, ◌≤◌, ◌^◌, List, [], ◌∷◌, None, length, refl, sym, ap, subst, inl, inr, ◌∙◌, arith}
use Rattle.std.specs.Prelude.{◌==◌, if◌then◌else◌}
use Rattle.copy_model.specs.Volume.{Volume, no_file}
use Rattle.disk_model.specs.Disk.{Image, MayLeave}
use Rattle.disk_model.specs.Elapsed.{IsOut, crash_moment}
use Rattle.disk_model.specs.Passes.{crashed}
use Rattle.block_file.specs.Layout.{head_blocks, head_files, table_of}
use Rattle.block_file.specs.Lists.{numbered}
use Rattle.block_file.specs.Opened.{CanBeOpened, MayBeLeft, homes_by}
use Rattle.block_file.specs.Stored.{blocks_by, flaw_of, opened_file, reopened}
use Rattle.server_volume.specs.Moments.{LeftBy, LeftOf, Ran, stores_within}
use Rattle.server_volume.specs.Store.{Seat, Store}
use Rattle.server_volume.specs.declared.used.Used.{Used}
use Rattle.volume_stops.specs.Stops.{IsLeftBy, IsLeftOf, IsOpenedFrom, StandsAs, StopsIn, kept_by, pending_in, pending_within}
use Rattle.volume_stops.proofs.Along.{each}

-- ---- whatever a crash leaves is left by the store before the calls, or by one within them

pub found : (old new : Seat) (used : List Used) (image : Image) (ran : Ran old new [] used) → StandsAs old → (IsOut old.fuse → ⊥)
    → MayLeave (new.timeline.state (crash_moment new.fuse new.timeline)) image → LeftBy (old.store ∷ stores_within old.store ran.calls) image
found old new used image ran stands lit left =
    let stores : List Store = old.store ∷ stores_within old.store ran.calls in
    crashed (LeftBy stores) old.fuse new.fuse old.timeline new.timeline image
    (ran.moments stores (λ now may. inl (stands now may)) (λ inside may. inr may)) lit left

pub opens : ((size tag : ℕ) (homes : ℕ → ℕ) (v : Volume) (image : Image) → MayBeLeft size tag homes v image → CanBeOpened size image)
    → (old new : Seat) (used : List Used) (image : Image) → Ran old new [] used → StandsAs old → (IsOut old.fuse → ⊥)
    → MayLeave (new.timeline.state (crash_moment new.fuse new.timeline)) image → CanBeOpened old.store.size image
opens can old new used image ran stands lit left =
    each (CanBeOpened old.store.size image) old.store ran.calls image
    (λ t keeps of. subst (λ (n : ℕ). CanBeOpened n image) keeps.size_is (can t.size t.tag (homes_by t.homes) t.volume image of))
    (found old new used image ran stands lit left)

pub sound : (old new : Seat) (used : List Used) (image : Image) → Ran old new [] used → StandsAs old → (IsOut old.fuse → ⊥)
    → MayLeave (new.timeline.state (crash_moment new.fuse new.timeline)) image → old.store.volume.boot < 2 ^ 32 - 1
    → flaw_of old.store.size image ≡ None
sound old new used image ran stands lit left few =
    each (flaw_of old.store.size image ≡ None) old.store ran.calls image
    (λ t keeps of. subst (λ (n : ℕ). flaw_of n image ≡ None) keeps.size_is (of.1.sound (subst (λ (n : ℕ). n < 2 ^ 32 - 1) (sym keeps.boot) few)))
    (found old new used image ran stands lit left)

-- ---- what is opened of it

length-numbered : {A : Type 0} (n : ℕ) (f : ℕ → A) → length (numbered n f) ≡ n
length-numbered zero f = refl
length-numbered (suc n) f = ap suc (length-numbered n (λ j. f (suc j)))

reopened_length : (image : Image) → length (reopened image).files ≡ head_files (image 0) + 1
unfolding reopened
reopened_length image =
    length-numbered (head_files (image 0) + 1)
    (λ j. if j == 0 then no_file else opened_file (table_of image j) (blocks_by (head_files (image 0)) (head_blocks (image 0)) (table_of image j) image j))

below : (image : Image) (t : Store) (j : ℕ) → IsOpenedFrom image t → j < length t.volume.files → j ≤ head_files (image 0)
below image t j is there =
    let count : length t.volume.files ≡ head_files (image 0) + 1 = ap (λ (v : Volume). length v.files) is.volume ∙ reopened_length image in
    omega (arith, there, count)

of_one : (image : Image) (s t : Store) → IsOpenedFrom image t → LeftOf s image → IsLeftOf s t
of_one image s t is of = record {
  side = of.0;
  volume = is.volume ∙ of.1.opened;
  tag_is = is.tag_is ∙ of.1.tag_is;
  homes_are = λ j some there. is.homes_are j some there ∙ of.1.homes_are j some (below image t j is there);
}

of_some : (image : Image) (ss : List Store) (t : Store) → IsOpenedFrom image t → LeftBy ss image → IsLeftBy ss t
of_some image [] t is left = absurd left
of_some image (s ∷ ss) t is (inl here) = inl (of_one image s t is here)
of_some image (s ∷ ss) t is (inr later) = inr (of_some image ss t is later)

pub stops : (old new : Seat) (used : List Used) (image : Image) (t : Store) → Ran old new [] used → StandsAs old → (IsOut old.fuse → ⊥)
    → MayLeave (new.timeline.state (crash_moment new.fuse new.timeline)) image → IsOpenedFrom image t → t.size ≡ old.store.size
    → StopsIn old.store used (kept_by (length t.volume.files) t.homes (pending_within (pending_in old.store) used)) t
stops old new used image t ran stands lit left is size_is = record {
  calls = ran.calls;
  noted = ran.noted;
  taken = ran.taken;
  left = of_some image (old.store ∷ stores_within old.store ran.calls) t is (found old new used image ran stands lit left);
  size_is = size_is;
  kept_is = refl;
}
