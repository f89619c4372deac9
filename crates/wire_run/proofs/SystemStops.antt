-- What is known of a system's stops: before the first event, where a server is made, and where one is lost.
use Rattle.std.proofs.Common.{◌≡◌, ℕ, ◌+◌, ◌≤◌, Bool, true, false, List, Option, Some, None, refl, sym, ap, ◌∙◌, subst, arith}
use Rattle.std.specs.Prelude.{◌||◌}
use Rattle.block_file.specs.Opened.{Opened}
use Rattle.copy_model.specs.Volume.{Doubt, Volume, formatted}
use Rattle.disk_model.specs.declared.fuse.Fuse.{Fuse}
use Rattle.disk_model.specs.declared.fuse.Fuse.TheVariants.{Out, Unset}
use Rattle.disk_model.specs.Elapsed.{IsOut}
use Rattle.nfs_base.specs.declared.side.Side.{Side}
use Rattle.nfs_base.specs.declared.side.Side.TheVariants.{Source, Dest}
use Rattle.server_volume.specs.Store.{store_of}
use Rattle.volume_stops.specs.Stops.{in_doubt, pending_in}
use Rattle.volume_stops.specs.declared.pending.Pending.{Pending}
use Rattle.wire_run.specs.Fresh.{dest_with, source_with}
use Rattle.wire_run.specs.System.{dest_state, source_state}
use Rattle.wire_run.specs.Watching.{AreNumbered, AreWatched, DestNumbered, DestWatched, IsWatched, SourceNumbered, SourceWatched, no_stop}
use Rattle.wire_run.specs.declared.ends.DestEnd.{DestEnd}
use Rattle.wire_run.specs.declared.ends.DestEnd.TheVariants as dest_end
use Rattle.wire_run.specs.declared.ends.SourceEnd.{SourceEnd}
use Rattle.wire_run.specs.declared.ends.SourceEnd.TheVariants as source_end
use Rattle.wire_run.specs.declared.stage.Stage.{Stage}
use Rattle.wire_run.specs.declared.stage.Stop.{Stop}

-- ---- how often the volumes were opened

source_numbered_more : {D M : Type 0} (n k : ℕ) (end : SourceEnd D M) → n ≤ k → SourceNumbered n end → SourceNumbered k end
source_numbered_more n k (source_end.Open core) le few = omega (arith, le, few)
source_numbered_more n k source_end.Away le few = tt
source_numbered_more n k (source_end.Disk disk) le few = tt

dest_numbered_more : {D M : Type 0} (n k : ℕ) (end : DestEnd D M) → n ≤ k → DestNumbered n end → DestNumbered k end
dest_numbered_more n k (dest_end.Open core) le few = omega (arith, le, few)
dest_numbered_more n k dest_end.Away le few = tt
dest_numbered_more n k (dest_end.Disk disk) le few = tt

pub numbered_more : {D M : Type 0} (told : Type 0) (n k : ℕ) (s : Stage D M) → n ≤ k → AreNumbered told n s → AreNumbered told k s
numbered_more told n k s le few = record {
  source = λ t. source_numbered_more n k s.source le (few.source t);
  dest = λ t. dest_numbered_more n k s.dest le (few.dest t);
}

-- disks alone have no volumes that were opened
source_unnumbered : (D M : Type 0) (n : ℕ) (disk : Option D) → SourceNumbered {D = D} {M = M} n (source_with disk)
source_unnumbered D M n None = tt
source_unnumbered D M n (Some d) = tt

dest_unnumbered : (D M : Type 0) (n : ℕ) (disk : Option D) → DestNumbered {D = D} {M = M} n (dest_with disk)
dest_unnumbered D M n None = tt
dest_unnumbered D M n (Some d) = tt

pub numbered_none : {D M : Type 0} (told : Type 0) (n : ℕ) (s : Stage D M) (a b : Option D) → s.source ≡ source_with a → s.dest ≡ dest_with b → AreNumbered told n s
numbered_none {D} {M} told n s a b p q = record {
  source = λ t. subst (λ (e : SourceEnd D M). SourceNumbered n e) (sym p) (source_unnumbered D M n a);
  dest = λ t. subst (λ (e : DestEnd D M). DestNumbered n e) (sym q) (dest_unnumbered D M n b);
}

-- ---- servers that are watched

module _ {D : Type 0} (told : Type 0) (size : D → ℕ) (fuse : D → Fuse) where
  source_unwatched : (M : Type 0) (disk : Option D) (stop : Stop) → stop ≡ no_stop → SourceWatched told size fuse {M = M} (source_with disk) stop
  source_unwatched M None stop is = is
  source_unwatched M (Some d) stop is = is

  dest_unwatched : (M : Type 0) (disk : Option D) (stop : Stop) → stop ≡ no_stop → DestWatched told size fuse {M = M} (dest_with disk) stop
  dest_unwatched M None stop is = is
  dest_unwatched M (Some d) stop is = is

  pub watched_none : {M : Type 0} (s : Stage D M) (a b : Option D) → s.source ≡ source_with a → s.dest ≡ dest_with b → s.stops.source ≡ no_stop → s.stops.dest ≡ no_stop
      → AreWatched told size fuse s
  watched_none {M} s a b p q source dest = record {
    source = subst (λ (e : SourceEnd D M). SourceWatched told size fuse e s.stops.source) (sym p) (source_unwatched M a s.stops.source source);
    dest = subst (λ (e : DestEnd D M). DestWatched told size fuse e s.stops.dest) (sym q) (dest_unwatched M b s.stops.dest dest);
  }

  -- ---- a server that was just made

  not_out : (f : Fuse) → f ≡ Unset → IsOut f → ⊥
  not_out f unset out = cc

  none_pending : (homes : List ℕ) (d : Option Doubt) → d ≡ None → in_doubt homes d ≡ None
  none_pending homes d none = ap (λ (x : Option Doubt). in_doubt homes x) none

  pub watched_new : (v : Opened D) (stop : Stop) (files capacity : ℕ) → stop ≡ no_stop → fuse v.disk ≡ Unset → (told → v.volume ≡ formatted files capacity)
      → IsWatched told size fuse v stop
  watched_new v stop files capacity rests unset fresh = record {
    lit = λ t out. not_out (fuse v.disk) unset out;
    unset = λ t none. unset;
    pending = λ t.
        ap (λ (x : Stop). x.pending) rests
        ∙ sym (none_pending v.homes v.volume.doubt (ap (λ (x : Volume). x.doubt) (fresh t)));
  }

  -- an end that isn't a server has no stop
  pub source_rests : {M : Type 0} (end : SourceEnd D M) (disk : D) (stop : Stop) → end ≡ source_end.Disk disk → SourceWatched told size fuse end stop → stop ≡ no_stop
  source_rests {M} end disk stop is watched = subst (λ (e : SourceEnd D M). SourceWatched told size fuse e stop) is watched

  pub dest_rests : {M : Type 0} (end : DestEnd D M) (disk : D) (stop : Stop) → end ≡ dest_end.Disk disk → DestWatched told size fuse end stop → stop ≡ no_stop
  dest_rests {M} end disk stop is watched = subst (λ (e : DestEnd D M). DestWatched told size fuse e stop) is watched

  pub source_gone : {M : Type 0} (end : SourceEnd D M) (stop : Stop) → source_state size end ≡ None → SourceWatched told size fuse end stop → stop ≡ no_stop
  source_gone (source_end.Open core) stop gone watched = absurd (cc)
  source_gone source_end.Away stop gone watched = watched
  source_gone (source_end.Disk disk) stop gone watched = watched

  pub dest_gone : {M : Type 0} (end : DestEnd D M) (stop : Stop) → dest_state size end ≡ None → DestWatched told size fuse end stop → stop ≡ no_stop
  dest_gone (dest_end.Open core) stop gone watched = absurd (cc)
  dest_gone dest_end.Away stop gone watched = watched
  dest_gone (dest_end.Disk disk) stop gone watched = watched
