-- The volume of a server behind a step: its machine goes on, or it stopped, and the volume is opened anew or is lost.
use Rattle.std.proofs.Common.{◌≡◌, ◌⊎◌, ℕ, ◌+◌, ◌-◌, ◌<◌, ◌^◌, List, length, Some, None, refl, sym, ◌∙◌, inl, inr, arith}
use Rattle.block_file.specs.Opened.{Opened}
use Rattle.block_file.specs.declared.faults.OpenFault.{OpenFault}
use Rattle.block_file.specs.declared.faults.OpenFault.TheVariants.{DiskFailed, NotVolume}
use Rattle.disk_model.specs.Elapsed.{IsOut, Timeline}
use Rattle.disk_model.specs.declared.fuse.Fuse.{Fuse}
use Rattle.disk_model.specs.declared.fuse.Fuse.TheVariants.{Unset}
use Rattle.run_ends.specs.Stops.Reopening.{IsReopened, IsUnopened, MadeCalls}
use Rattle.server_volume.specs.Store.{store_of}
use Rattle.server_volume.specs.declared.used.Used.{Used}
use Rattle.volume_stops.specs.Stops.{StopsIn, kept_by, pending_within}
use Rattle.wire_run.specs.Fresh.{unopened}
use Rattle.wire_run.specs.Running.{Later, LostFor}
use Rattle.wire_run.specs.Stage.{VolumeKeeps}
use Rattle.wire_run.specs.Stopping.{StopLaws}
use Rattle.wire_run.specs.Watching.{IsWatched, no_stop, noted}
use Rattle.wire_run.specs.declared.stage.Stop.{Stop}

never_out : (f : Fuse) → f ≡ Unset → IsOut f → ⊥
never_out f unset out = cc

module _ {D : Type 0} (told : Type 0) (size : D → ℕ) (fuse : D → Fuse) (timeline : D → Timeline) (faults : D → ℕ)
    (laws : StopLaws told size fuse timeline faults) where
  -- ---- it goes on

  still_lit : (old new : Opened D) (used : List Used) (stop : Stop) → MadeCalls told size fuse timeline faults old new used
      → IsWatched told size fuse old stop → (stop.armed ≡ None) ⊎ (IsOut (fuse new.disk) → ⊥) → told → IsOut (fuse new.disk) → ⊥
  still_lit old new used stop made w (inl none) t = never_out (fuse new.disk) (laws.unset old new used t made (w.unset t none))
  still_lit old new used stop made w (inr lit) t = lit

  pub watched_on : (old new : Opened D) (used : List Used) (stop : Stop) → MadeCalls told size fuse timeline faults old new used
      → IsWatched told size fuse old stop → (stop.armed ≡ None) ⊎ (IsOut (fuse new.disk) → ⊥) → IsWatched told size fuse new (noted used stop)
  watched_on old new used stop made w on = record {
    lit = still_lit old new used stop made w on;
    unset = λ t none. laws.unset old new used t made (w.unset t none);
    pending = λ t. laws.noted old new used stop.pending t made (w.pending t);
  }

  -- ---- it is opened anew

  pub watched_anew : (disk : D) (next : Opened D) → IsReopened told size fuse timeline faults disk next → IsWatched told size fuse next no_stop
  watched_anew disk next re = record {
    lit = λ t. never_out (fuse next.disk) re.unset;
    unset = λ t none. re.unset;
    pending = λ t. sym (laws.fresh disk next t re);
  }

  pub cut : (old new next : Opened D) (used : List Used) (stop : Stop) → MadeCalls told size fuse timeline faults old new used
      → IsWatched told size fuse old stop → IsReopened told size fuse timeline faults new.disk next → told
      → StopsIn (store_of size old) used (kept_by (length next.volume.files) next.homes (pending_within stop.pending used)) (store_of size next)
  cut old new next used stop made w re t = laws.stops old new next used stop.pending t made w.lit re (w.pending t)

  pub keeps_anew : (old new next : Opened D) (used : List Used) (stop : Stop) → MadeCalls told size fuse timeline faults old new used
      → IsWatched told size fuse old stop → IsReopened told size fuse timeline faults new.disk next → told → VolumeKeeps old next
  keeps_anew old new next used stop made w re t =
      let stops = cut old new next used stop made w re t in
      record { files = laws.files (store_of size old) (store_of size next) used _ stops; tag = laws.tag_is (store_of size old) (store_of size next) used _ stops }

  pub boot_anew : (old new next : Opened D) (used : List Used) (stop : Stop) → MadeCalls told size fuse timeline faults old new used
      → IsWatched told size fuse old stop → IsReopened told size fuse timeline faults new.disk next → told → next.volume.boot ≡ old.volume.boot + 1
  boot_anew old new next used stop made w re t =
      laws.boot (store_of size old) (store_of size next) used _ (cut old new next used stop made w re t)

  pub later_anew : (n : ℕ) (d e : D) (next : Opened D) → Later faults size n (Some d) (Some e) → IsReopened told size fuse timeline faults e next
      → Later faults size n (Some d) (Some next.disk)
  later_anew n d e next l re = record { there = refl; rose = omega (arith, l.rose, re.later); as_large = re.as_large ∙ l.as_large }

  -- ---- it is lost

  pub lost_for : (n : ℕ) (old new : Opened D) (used : List Used) (stop : Stop) (now : D) (fault : OpenFault) → MadeCalls told size fuse timeline faults old new used
      → IsWatched told size fuse old stop → (told → old.volume.boot < 2 ^ 32 - 1) → Later faults size n (Some old.disk) (Some new.disk)
      → IsUnopened told size fuse timeline faults new.disk now fault → LostFor told faults (Some old.disk) (Some now) (unopened fault)
  lost_for n old new used stop now DiskFailed made w few l un = omega (arith, l.rose, un.why)
  lost_for n old new used stop now (NotVolume block at) made w few l un = λ t.
      let is = laws.fails old new used now (NotVolume block at) t made w.lit (few t) un in cc

  pub later_lost : (n : ℕ) (d e now : D) (fault : OpenFault) → Later faults size n (Some d) (Some e)
      → IsUnopened told size fuse timeline faults e now fault → Later faults size 0 (Some d) (Some now)
  later_lost n d e now fault l un = record { there = refl; rose = omega (arith, l.rose, un.later); as_large = un.as_large ∙ l.as_large }
