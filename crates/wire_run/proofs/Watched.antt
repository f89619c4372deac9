-- What is known of a server's stops, where its volume and the fuse of its disk are as they were.
use Rattle.std.proofs.Common.{◌≡◌, ℕ, ◌+◌, ◌≤◌, Bool, true, false, Option, None, Some, List, [], ◌∷◌, ◌++◌, refl, sym, ap, subst, ◌∙◌, arith}
use Rattle.std.specs.Prelude.{◌||◌, is_some}
use Rattle.block_file.specs.Opened.{Opened}
use Rattle.dest_core.specs.Stepping.{DestStep}
use Rattle.disk_model.specs.Elapsed.{Timeline}
use Rattle.disk_model.specs.declared.fuse.Fuse.{Fuse}
use Rattle.nfs_base.specs.declared.side.Side.{Side}
use Rattle.nfs_base.specs.declared.side.Side.TheVariants.{Source, Dest}
use Rattle.outbox.specs.declared.outgoing.Outbox.{Outbox}
use Rattle.run_ends.specs.Ends.{Words, machines}
use Rattle.run_ends.specs.Stops.Reopening.{MadeCalls}
use Rattle.server_volume.specs.Moments.{Made, after_calls, uses_of}
use Rattle.server_volume.specs.Store.{Store, store_of}
use Rattle.server_volume.specs.declared.used.Used.{Used}
use Rattle.session_server.specs.Host.{HostState}
use Rattle.volume_stops.specs.Stops.{pending_in}
use Rattle.wire_machine.specs.Ends as acts
use Rattle.wire_run.specs.Cutting.{DestCalls, SourceCalls, disk_at}
use Rattle.wire_run.specs.Stage.{DestActs, DestHost, DestPeeks, Peeks, SettleKeeps, SourceActs, SourceHost, SourcePeeks, dest_disk, later_clock, source_disk}
use Rattle.wire_run.specs.Watching.{AreNumbered, AreWatched, DestNumbered, DestWatched, IsWatched, KeepsStops, SourceNumbered, SourceWatched, fuse_in, is_armed, no_side, stop_at}
use Rattle.wire_run.specs.declared.ends.DestEnd.{DestEnd}
use Rattle.wire_run.specs.declared.ends.DestEnd.TheVariants as dest_end
use Rattle.wire_run.specs.declared.ends.SourceEnd.{SourceEnd}
use Rattle.wire_run.specs.declared.ends.SourceEnd.TheVariants as source_end
use Rattle.wire_run.specs.declared.stage.Stage.{Stage}
use Rattle.wire_run.specs.declared.stage.Stop.{Stop}
use Rattle.wire_run.specs.declared.stage.Stops.{Stops}
use Rattle.wire_run.specs.declared.system.Peeked.{Peeked}

pub or_left : (a b : Bool) → a ≡ true → (a || b) ≡ true
or_left true b is = refl
or_left false b is = absurd cc

or_more : (a b : Bool) → (a || false) ≡ true → (a || b) ≡ true
or_more true b is = refl
or_more false b is = absurd cc

-- ---- a server is numbered by more openings too

source_more : {D M : Type 0} (n k : ℕ) (end : SourceEnd D M) → n ≤ k → SourceNumbered n end → SourceNumbered k end
source_more n k (source_end.Open core) le is = omega (arith, le, is)
source_more n k source_end.Away le is = tt
source_more n k (source_end.Disk disk) le is = tt

dest_more : {D M : Type 0} (n k : ℕ) (end : DestEnd D M) → n ≤ k → DestNumbered n end → DestNumbered k end
dest_more n k (dest_end.Open core) le is = omega (arith, le, is)
dest_more n k dest_end.Away le is = tt
dest_more n k (dest_end.Disk disk) le is = tt

-- two stages with the same servers
pub numbered_at : {D M : Type 0} (told : Type 0) (n k : ℕ) (old new : Stage D M) → n ≤ k → new.source ≡ old.source → new.dest ≡ old.dest
    → AreNumbered told n old → AreNumbered told k new
numbered_at {D} {M} told n k old new le source dest a = record {
  source = λ t. source_more n k new.source le (subst (λ (e : SourceEnd D M). SourceNumbered n e) (sym source) (a.source t));
  dest = λ t. dest_more n k new.dest le (subst (λ (e : DestEnd D M). DestNumbered n e) (sym dest) (a.dest t));
}

-- ---- a volume and its disk's fuse are as they were

module _ {D : Type 0} (told : Type 0) (size : D → ℕ) (fuse : D → Fuse) where
  pub record VolumeRests (old new : Opened D) : Type 0 where
    pub store : told → store_of size new ≡ store_of size old
    pub fuse_is : fuse new.disk ≡ fuse old.disk

  still_watched : (old new : Opened D) (stop : Stop) → VolumeRests old new → IsWatched told size fuse old stop → IsWatched told size fuse new stop
  still_watched old new stop rests w = record {
    lit = λ t out. w.lit t (sym rests.fuse_is ∙ out);
    unset = λ t none. rests.fuse_is ∙ w.unset t none;
    pending = λ t. w.pending t ∙ ap (λ (s : Store). pending_in s) (sym (rests.store t));
  }

  -- no calls were made on it
  no_calls : (s : Store) (calls : List Made) → [] ≡ uses_of s calls → after_calls s calls ≡ s
  no_calls s [] none = refl
  no_calls s (m ∷ ms) none = absurd cc

  pub uncalled : (timeline : D → Timeline) (faults : D → ℕ) (old new : Opened D) (used : List Used) → MadeCalls told size fuse timeline faults old new used
      → (told → used ≡ []) → fuse new.disk ≡ fuse old.disk → VolumeRests old new
  uncalled timeline faults old new used made none fuse_is = record {
    store = λ t.
        let ran = made.ran t in
        ran.store ∙ no_calls (store_of size old) ran.calls (sym (none t) ∙ ran.noted);
    fuse_is = fuse_is;
  }

module _ {D M : Type 0} (told : Type 0) (size : D → ℕ) (fuse : D → Fuse) where
  -- ---- what is known of a server's stops lasts

  pub record SourceLasts (old new : SourceEnd D M) : Type 0 where
    pub watched : (stop : Stop) → SourceWatched told size fuse old stop → SourceWatched told size fuse new stop
    pub numbered : (n : ℕ) → told → SourceNumbered n old → SourceNumbered n new

  pub record DestLasts (old new : DestEnd D M) : Type 0 where
    pub watched : (stop : Stop) → DestWatched told size fuse old stop → DestWatched told size fuse new stop
    pub numbered : (n : ℕ) → told → DestNumbered n old → DestNumbered n new

  -- where it is the same
  pub source_same : (old new : SourceEnd D M) → new ≡ old → SourceLasts old new
  source_same old new same = record {
    watched = λ stop w. subst (λ (e : SourceEnd D M). SourceWatched told size fuse e stop) (sym same) w;
    numbered = λ n t b. subst (λ (e : SourceEnd D M). SourceNumbered n e) (sym same) b;
  }

  pub dest_same : (old new : DestEnd D M) → new ≡ old → DestLasts old new
  dest_same old new same = record {
    watched = λ stop w. subst (λ (e : DestEnd D M). DestWatched told size fuse e stop) (sym same) w;
    numbered = λ n t b. subst (λ (e : DestEnd D M). DestNumbered n e) (sym same) b;
  }

  -- where its volume and its disk's fuse are
  pub source_rests : (old new : SourceEnd D M) (was next : SourceHost D M) → old ≡ source_end.Open was → new ≡ source_end.Open next
      → VolumeRests told size fuse was.server.files.volume next.server.files.volume → SourceLasts old new
  source_rests old new was next was_is next_is rests = record {
    watched = λ stop w. subst (λ (e : SourceEnd D M). SourceWatched told size fuse e stop) (sym next_is)
        (still_watched told size fuse was.server.files.volume next.server.files.volume stop rests
        (subst (λ (e : SourceEnd D M). SourceWatched told size fuse e stop) was_is w));
    numbered = λ n t b.
        let few : was.server.files.volume.volume.boot ≤ n + 1 = subst (λ (e : SourceEnd D M). SourceNumbered n e) was_is b in
        let same : next.server.files.volume.volume.boot ≡ was.server.files.volume.volume.boot = ap (λ (s : Store). s.volume.boot) (rests.store t) in
        let more : next.server.files.volume.volume.boot ≤ n + 1 = omega (arith, few, same) in
        subst (λ (e : SourceEnd D M). SourceNumbered n e) (sym next_is) more;
  }

  pub dest_rests : (old new : DestEnd D M) (was next : DestHost D M) → old ≡ dest_end.Open was → new ≡ dest_end.Open next
      → VolumeRests told size fuse was.server.files.volume next.server.files.volume → DestLasts old new
  dest_rests old new was next was_is next_is rests = record {
    watched = λ stop w. subst (λ (e : DestEnd D M). DestWatched told size fuse e stop) (sym next_is)
        (still_watched told size fuse was.server.files.volume next.server.files.volume stop rests
        (subst (λ (e : DestEnd D M). DestWatched told size fuse e stop) was_is w));
    numbered = λ n t b.
        let few : was.server.files.volume.volume.boot ≤ n + 1 = subst (λ (e : DestEnd D M). DestNumbered n e) was_is b in
        let same : next.server.files.volume.volume.boot ≡ was.server.files.volume.volume.boot = ap (λ (s : Store). s.volume.boot) (rests.store t) in
        let more : next.server.files.volume.volume.boot ≤ n + 1 = omega (arith, few, same) in
        subst (λ (e : DestEnd D M). DestNumbered n e) (sym next_is) more;
  }

  -- ---- a stage whose servers' stops are as known as they were

  pub keeps_stops : (sets : Side → Bool) (old new : Stage D M) → SourceLasts old.source new.source → DestLasts old.dest new.dest → new.stops ≡ old.stops
      → AreWatched told size fuse old → KeepsStops told size fuse sets old new
  keeps_stops sets old new source dest stops w = record {
    watched = record {
      source = subst (λ (s : Stops). SourceWatched told size fuse new.source s.source) (sym stops) (source.watched old.stops.source w.source);
      dest = subst (λ (s : Stops). DestWatched told size fuse new.dest s.dest) (sym stops) (dest.watched old.stops.dest w.dest);
    };
    numbered = λ n a. record {
      source = λ t. source_more n (n + 1) new.source (omega arith) (source.numbered n t (a.source t));
      dest = λ t. dest_more n (n + 1) new.dest (omega arith) (dest.numbered n t (a.dest t));
    };
    armed = λ side is. or_left (is_armed side old) (sets side) (sym (ap (λ (s : Stops). is_some (stop_at side s).armed) stops) ∙ is);
  }

  -- its servers are the same
  pub stops_same : (sets : Side → Bool) (old new : Stage D M) → AreWatched told size fuse old → new.source ≡ old.source → new.dest ≡ old.dest → new.stops ≡ old.stops
      → KeepsStops told size fuse sets old new
  stops_same sets old new w source dest stops =
      keeps_stops sets old new (source_same old.source new.source source) (dest_same old.dest new.dest dest) stops w

  -- what was done was put down
  pub stops_settled : (sets : Side → Bool) (old mid new : Stage D M) → KeepsStops told size fuse sets old mid → SettleKeeps mid new → KeepsStops told size fuse sets old new
  stops_settled sets old mid new k settled =
      let source = source_same mid.source new.source settled.source in
      let dest = dest_same mid.dest new.dest settled.dest in
      record {
        watched = record {
          source = subst (λ (s : Stops). SourceWatched told size fuse new.source s.source) (sym settled.stops) (source.watched mid.stops.source k.watched.source);
          dest = subst (λ (s : Stops). DestWatched told size fuse new.dest s.dest) (sym settled.stops) (dest.watched mid.stops.dest k.watched.dest);
        };
        numbered = λ n a. numbered_at told (n + 1) (n + 1) mid new (omega arith) settled.source settled.dest (k.numbered n a);
        armed = λ side is. k.armed side (sym (ap (λ (s : Stops). is_some (stop_at side s).armed) settled.stops) ∙ is);
      }

  -- more sides may be set
  pub sets_more : (sets : Side → Bool) (old new : Stage D M) → KeepsStops told size fuse no_side old new → KeepsStops told size fuse sets old new
  sets_more sets old new k =
      record { watched = k.watched; numbered = k.numbered; armed = λ side is. or_more (is_armed side old) (sets side) (k.armed side is) }

  -- ---- the clock

  pub clock_watched : (seconds : ℕ) (s : Stage D M) → AreWatched told size fuse s → AreWatched told size fuse (later_clock seconds s)
  clock_watched seconds s w = record { source = w.source; dest = w.dest }

  pub clock_stops : (sets : Side → Bool) (seconds : ℕ) (old looked : Stage D M) → KeepsStops told size fuse sets (later_clock seconds old) looked
      → KeepsStops told size fuse sets old looked
  clock_stops sets seconds old looked k =
      record { watched = k.watched; numbered = λ n a. k.numbered n (record { source = a.source; dest = a.dest }); armed = k.armed }

  -- a server whose fuse is as it was
  source_fuse : (old new : SourceEnd D M) (was next : SourceHost D M) → old ≡ source_end.Open was → new ≡ source_end.Open next
      → fuse_in fuse (source_disk new) ≡ fuse_in fuse (source_disk old) → fuse next.server.files.volume.disk ≡ fuse was.server.files.volume.disk
  source_fuse old new was next was_is next_is same =
      sym (ap (λ (e : SourceEnd D M). fuse_in fuse (source_disk e)) next_is) ∙ (same ∙ ap (λ (e : SourceEnd D M). fuse_in fuse (source_disk e)) was_is)

  dest_fuse : (old new : DestEnd D M) (was next : DestHost D M) → old ≡ dest_end.Open was → new ≡ dest_end.Open next
      → fuse_in fuse (dest_disk new) ≡ fuse_in fuse (dest_disk old) → fuse next.server.files.volume.disk ≡ fuse was.server.files.volume.disk
  dest_fuse old new was next was_is next_is same =
      sym (ap (λ (e : DestEnd D M). fuse_in fuse (dest_disk e)) next_is) ∙ (same ∙ ap (λ (e : DestEnd D M). fuse_in fuse (dest_disk e)) was_is)

  pub source_looks : (words : Words M ℕ) (timeline : D → Timeline) (faults : D → ℕ) (now : ℕ) (old new : SourceEnd D M) (before after : ℕ) (out : Outbox)
      → SourceActs told (machines words) faults size acts.SourceTicks now old before new after out → SourceCalls told size fuse timeline faults old new out.used
      → fuse_in fuse (source_disk new) ≡ fuse_in fuse (source_disk old) → SourceLasts old new
  source_looks words timeline faults now old new before after out a calls same =
      source_rests old new a.was a.next a.was_is a.next_is
      (uncalled told size fuse timeline faults a.was.server.files.volume a.next.server.files.volume out.used
      (subst (λ (e : SourceEnd D M). SourceCalls told size fuse timeline faults (source_end.Open a.was) e out.used) a.next_is
      (subst (λ (e : SourceEnd D M). SourceCalls told size fuse timeline faults e new out.used) a.was_is calls))
      (λ t. ap (λ (o : Outbox). o.used) (a.acts t).0.1)
      (source_fuse old new a.was a.next a.was_is a.next_is same))

  pub dest_looks : (words : Words M ℕ) (timeline : D → Timeline) (faults : D → ℕ) (now : ℕ) (old new : DestEnd D M) (before after : ℕ) (out : Outbox)
      → DestActs told (machines words) faults size acts.DestTicks now old before new after out → DestCalls told size fuse timeline faults old new out.used
      → fuse_in fuse (dest_disk new) ≡ fuse_in fuse (dest_disk old) → DestLasts old new
  dest_looks words timeline faults now old new before after out a calls same =
      dest_rests old new a.was a.next a.was_is a.next_is
      (uncalled told size fuse timeline faults a.was.server.files.volume a.next.server.files.volume out.used
      (subst (λ (e : DestEnd D M). DestCalls told size fuse timeline faults (dest_end.Open a.was) e out.used) a.next_is
      (subst (λ (e : DestEnd D M). DestCalls told size fuse timeline faults e new out.used) a.was_is calls))
      (λ t. ap (λ (x : DestStep M). x.out.used) (a.acts t).0.0)
      (dest_fuse old new a.was a.next a.was_is a.next_is same))

  -- ---- a peek

  source_peeked : (faults : D → ℕ) (file off : ℕ) (old new : SourceEnd D M) (zeros bytes : List ℕ) (answer : Peeked)
      → SourcePeeks told faults size file off old new zeros bytes answer → fuse_in fuse (source_disk new) ≡ fuse_in fuse (source_disk old) → SourceLasts old new
  source_peeked faults file off old new zeros bytes answer p same =
      source_rests old new p.was p.next p.was_is p.next_is (record {
        store = λ t. ap (λ (h : HostState _ _). h.state.machine.store) (p.same t);
        fuse_is = source_fuse old new p.was p.next p.was_is p.next_is same;
      })

  dest_peeked : (faults : D → ℕ) (file off : ℕ) (old new : DestEnd D M) (zeros bytes : List ℕ) (answer : Peeked)
      → DestPeeks told faults size file off old new zeros bytes answer → fuse_in fuse (dest_disk new) ≡ fuse_in fuse (dest_disk old) → DestLasts old new
  dest_peeked faults file off old new zeros bytes answer p same =
      dest_rests old new p.was p.next p.was_is p.next_is (record {
        store = λ t. ap (λ (h : HostState _ _). h.state.machine.store) (p.same t);
        fuse_is = dest_fuse old new p.was p.next p.was_is p.next_is same;
      })

  pub peeked_stops : (faults : D → ℕ) (sets : Side → Bool) (side : Side) (file off : ℕ) (old new : Stage D M) (zeros bytes : List ℕ) (answer : Peeked)
      → AreWatched told size fuse old → Peeks told faults size side file off old new zeros bytes answer
      → fuse_in fuse (disk_at side new) ≡ fuse_in fuse (disk_at side old) → KeepsStops told size fuse sets old new
  peeked_stops faults sets Source file off old new zeros bytes answer w p same =
      keeps_stops sets old new (source_peeked faults file off old.source new.source zeros bytes answer p.peeks same)
      (dest_same old.dest new.dest (ap (λ (x : Stage D M). x.dest) p.rest)) (ap (λ (x : Stage D M). x.stops) p.rest) w
  peeked_stops faults sets Dest file off old new zeros bytes answer w p same =
      keeps_stops sets old new (source_same old.source new.source (ap (λ (x : Stage D M). x.source) p.rest))
      (dest_peeked faults file off old.dest new.dest zeros bytes answer p.peeks same) (ap (λ (x : Stage D M). x.stops) p.rest) w
