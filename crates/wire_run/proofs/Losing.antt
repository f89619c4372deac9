-- A server that stopped is lost: its disk can't be opened anew.
use Rattle.std.proofs.Common.{◌≡◌, ℕ, ◌+◌, ◌-◌, ◌<◌, ◌≤◌, ◌^◌, Bool, true, false, List, Option, Some, None, refl, sym, ap, subst, ◌∙◌, arith}
use Rattle.block_file.specs.Opened.{Opened}
use Rattle.disk_model.specs.Elapsed.{Timeline}
use Rattle.disk_model.specs.declared.fuse.Fuse.{Fuse}
use Rattle.nfs_base.specs.declared.side.Side.{Side}
use Rattle.nfs_base.specs.declared.side.Side.TheVariants.{Source, Dest}
use Rattle.run_ends.specs.Stops.Reopening.{IsUnopened, MadeCalls}
use Rattle.server_volume.specs.declared.used.Used.{Used}
use Rattle.wire_machine.specs.Steps.{same_side}
use Rattle.wire_run.proofs.Later.{later_same}
use Rattle.wire_run.proofs.Stops.{later_lost, lost_for}
use Rattle.wire_run.specs.Cutting.{DiskLost, IsLostIn, LostAt, disk_at, disk_left}
use Rattle.wire_run.specs.Fresh.{unopened}
use Rattle.wire_run.specs.Running.{Later, LostFor}
use Rattle.wire_run.specs.Stopping.{StopLaws}
use Rattle.wire_run.specs.Watching.{IsWatched, no_stop, stopped_by}
use Rattle.wire_run.specs.declared.fresh.Unmade.{Unmade}
use Rattle.wire_run.specs.declared.stage.Lost.{Lost}
use Rattle.wire_run.specs.declared.stage.Stage.{Stage}
use Rattle.wire_run.specs.declared.stage.Stop.{Stop}

same_disk : {D : Type 0} (d e : D) → Some d ≡ Some e → d ≡ e
same_disk d e is = cc

pub few_boots : (boot : ℕ) → boot ≤ 67108862 + 1 → boot < 2 ^ 32 - 1
few_boots boot few = omega (arith, few)

-- the same, told by another name of its side
abbrev lost_as : {D : Type 0} → Side → Lost D → Lost D
lost_as side lost = record { side = side; disk = lost.disk; cause = lost.cause }

module _ {D : Type 0} (told : Type 0) (size : D → ℕ) (fuse : D → Fuse) (timeline : D → Timeline) (faults : D → ℕ)
    (laws : StopLaws told size fuse timeline faults) (was next : Opened D) (used : List Used) (stop : Stop) (n : ℕ) (old mid : Option D)
    (old_is : old ≡ Some was.disk) (mid_is : mid ≡ Some next.disk) (made : MadeCalls told size fuse timeline faults was next used) (w : IsWatched told size fuse was stop)
    (later : Later faults size n (Some was.disk) (Some next.disk)) (disk : D) (cause : Unmade) (l : DiskLost told size fuse timeline faults mid disk cause) where
  unopened_of : IsUnopened told size fuse timeline faults next.disk disk l.fault
  unopened_of =
      subst (λ (d : D). IsUnopened told size fuse timeline faults d disk l.fault) (same_disk l.disk next.disk (sym l.was_is ∙ mid_is)) l.unopened

  pub lost_why : (told → was.volume.boot < 2 ^ 32 - 1) → LostFor told faults old (Some disk) cause
  lost_why few =
      subst (λ (u : Unmade). LostFor told faults old (Some disk) u) (sym l.cause_is)
      (subst (λ (o : Option D). LostFor told faults o (Some disk) (unopened l.fault)) (sym old_is)
      (lost_for told size fuse timeline faults laws n was next used stop disk l.fault made w few later unopened_of))

  pub lost_later : Later faults size 0 old (Some disk)
  lost_later =
      subst (λ (o : Option D). Later faults size 0 o (Some disk)) (sym old_is)
      (later_lost told size fuse timeline faults laws n was.disk next.disk disk l.fault later unopened_of)

-- ---- a small step in which one is lost

later_kept : {D : Type 0} (faults size : D → ℕ) (old new : Option D) → new ≡ old → Later faults size 0 old new
later_kept {D} faults size old new same = subst (λ (o : Option D). Later faults size 0 old o) (sym same) (later_same faults size old)

module _ {D M : Type 0} (told : Type 0) (size : D → ℕ) (fuse : D → Fuse) (timeline : D → Timeline) (faults : D → ℕ) where
  lost_at : (side : Side) (old mid new : Stage D M) (lost : Lost D) (text_old text_new : List ℕ) → LostAt told size fuse timeline faults side mid new lost
      → LostFor told faults (disk_at side old) (Some lost.disk) lost.cause → Later faults size 0 (disk_at side old) (Some lost.disk)
      → ((other : Side) → same_side other side ≡ false → disk_at other mid ≡ disk_at other old) → mid.choices.items ≡ old.choices.items → text_new ≡ text_old
      → IsLostIn told faults size (lost_as side lost) old new text_old text_new
  lost_at Source old mid new lost text_old text_new l why later others choices text = record {
    why = why;
    away = ap (λ (x : Stage D M). x.source) l.rest;
    text = text;
    choices = ap (λ (x : Stage D M). x.choices.items) l.rest ∙ choices;
    later = at_source;
  }
    where
      at_source : (side : Side) → Later faults size 0 (disk_at side old) (disk_left side (lost_as Source lost) new)
      at_source Source = later
      at_source Dest = later_kept faults size (disk_at Dest old) (disk_at Dest new) (ap (λ (x : Stage D M). disk_at Dest x) l.rest ∙ others Dest refl)
  lost_at Dest old mid new lost text_old text_new l why later others choices text = record {
    why = why;
    away = ap (λ (x : Stage D M). x.dest) l.rest;
    text = text;
    choices = ap (λ (x : Stage D M). x.choices.items) l.rest ∙ choices;
    later = at_dest;
  }
    where
      at_dest : (side : Side) → Later faults size 0 (disk_at side old) (disk_left side (lost_as Dest lost) new)
      at_dest Dest = later
      at_dest Source = later_kept faults size (disk_at Source old) (disk_at Source new) (ap (λ (x : Stage D M). disk_at Source x) l.rest ∙ others Source refl)

  -- asked to stop, by whatever says so
  pub lost_in : (side : Side) (asked : Side → Bool) (old mid new : Stage D M) (lost : Lost D) (text_old text_new : List ℕ) → LostAt told size fuse timeline faults side mid new lost
      → LostFor told faults (disk_at side old) (Some lost.disk) lost.cause → Later faults size 0 (disk_at side old) (Some lost.disk)
      → ((other : Side) → same_side other side ≡ false → disk_at other mid ≡ disk_at other old) → mid.choices.items ≡ old.choices.items → text_new ≡ text_old
      → asked side ≡ true → (asked lost.side ≡ true) × IsLostIn told faults size lost old new text_old text_new
  lost_in side asked old mid new lost text_old text_new l why later others choices text is =
      subst (λ (x : Lost D). (asked x.side ≡ true) × IsLostIn told faults size x old new text_old text_new)
      (ap (λ (s : Side). lost_as s lost) (sym l.side_is))
      (is, lost_at side old mid new lost text_old text_new l why later others choices text)
