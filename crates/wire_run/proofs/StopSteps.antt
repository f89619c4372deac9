-- What a small step keeps in which a server acts, whether it goes on, is opened anew or is lost.
use Rattle.std.proofs.Common.{◌≡◌, ℕ, ◌+◌, ◌≤◌, Bool, true, false, List, length, refl, sym, ap, subst, ◌∙◌, arith}
use Rattle.std.specs.Prelude.{◌||◌, is_some}
use Rattle.client_core.specs.State.{ClientState}
use Rattle.disk_model.specs.Elapsed.{Timeline}
use Rattle.disk_model.specs.declared.fuse.Fuse.{Fuse}
use Rattle.nfs_base.specs.declared.side.Side.{Side}
use Rattle.nfs_base.specs.declared.side.Side.TheVariants.{Source, Dest}
use Rattle.run_ends.specs.Stops.Reopening.{MadeCalls}
use Rattle.server_volume.specs.declared.used.Used.{Used}
use Rattle.wire_machine.specs.Runs.{most_bytes}
use Rattle.wire_machine.specs.World.{Posted, bytes_of}
use Rattle.wire_machine.specs.declared.choice.Choice.{Choice}
use Rattle.wire_run.proofs.Logs.{grows_keeps, grows_none}
use Rattle.wire_run.proofs.Outcomes.{DestBecame, SourceBecame, dest_alone, dest_armed, dest_became, dest_counted, dest_leaves, dest_made, dest_may, dest_numbered, dest_watched, dest_watched_in, end_rest, source_alone, source_armed, source_became, source_counted, source_leaves, source_made, source_may, source_numbered, source_watched, source_watched_in}
use Rattle.wire_run.specs.Cutting.{DestCalls, DestMayReopen, EndKeeps, SourceCalls, SourceMayReopen}
use Rattle.wire_run.specs.Stage.{DestHost, DestKeeps, DestLeaves, Grows, IsDestOpen, IsReady, IsSourceOpen, SmallKeeps, SourceHost, SourceKeeps, SourceLeaves, VolumeStays, dest_steps, source_steps}
use Rattle.wire_run.specs.Stopping.{StopLaws}
use Rattle.wire_run.specs.Watching.{AreNumbered, AreWatched, DestNumbered, DestWatched, IsWatched, KeepsStops, SourceNumbered, SourceWatched, is_armed, no_side, stop_at}
use Rattle.wire_run.specs.declared.ends.DestEnd.{DestEnd}
use Rattle.wire_run.specs.declared.ends.DestEnd.TheVariants as dest_end
use Rattle.wire_run.specs.declared.ends.SourceEnd.{SourceEnd}
use Rattle.wire_run.specs.declared.ends.SourceEnd.TheVariants as source_end
use Rattle.wire_run.specs.declared.stage.Stage.{Stage}
use Rattle.wire_run.specs.declared.stage.Stop.{Stop}
use Rattle.wire_run.specs.declared.stage.Stops.{Stops}

-- ---- a server that does nothing

source_leaves_none : {D M : Type 0} (told : Type 0) (end : SourceEnd D M) → IsSourceOpen end → SourceKeeps told end end
source_leaves_none told (source_end.Open core) opened = record { was = core; was_is = refl; leaves = λ t. record { files = refl; tag = refl } }
source_leaves_none told source_end.Away opened = absurd opened
source_leaves_none told (source_end.Disk disk) opened = absurd opened

dest_leaves_none : {D M : Type 0} (told : Type 0) (end : DestEnd D M) → IsDestOpen end → DestKeeps told end end
dest_leaves_none told (dest_end.Open core) opened = record { was = core; was_is = refl; leaves = λ t. record { files = refl; tag = refl } }
dest_leaves_none told dest_end.Away opened = absurd opened
dest_leaves_none told (dest_end.Disk disk) opened = absurd opened

pub source_stays : {D M : Type 0} (told : Type 0) (old new : SourceEnd D M) → IsSourceOpen old → new ≡ old → SourceKeeps told old new
source_stays {D} {M} told old new opened same = subst (λ (e : SourceEnd D M). SourceKeeps told old e) (sym same) (source_leaves_none told old opened)

pub dest_stays : {D M : Type 0} (told : Type 0) (old new : DestEnd D M) → IsDestOpen old → new ≡ old → DestKeeps told old new
dest_stays {D} {M} told old new opened same = subst (λ (e : DestEnd D M). DestKeeps told old e) (sym same) (dest_leaves_none told old opened)

pub source_watched_on : {D M : Type 0} (told : Type 0) (size : D → ℕ) (fuse : D → Fuse) (old new : SourceEnd D M) (stop next : Stop) → new ≡ old → next ≡ stop
    → SourceWatched told size fuse old stop → SourceWatched told size fuse new next
source_watched_on {D} {M} told size fuse old new stop next p q w =
    subst (λ (e : SourceEnd D M). SourceWatched told size fuse e next) (sym p) (subst (λ (s : Stop). SourceWatched told size fuse old s) (sym q) w)

pub dest_watched_on : {D M : Type 0} (told : Type 0) (size : D → ℕ) (fuse : D → Fuse) (old new : DestEnd D M) (stop next : Stop) → new ≡ old → next ≡ stop
    → DestWatched told size fuse old stop → DestWatched told size fuse new next
dest_watched_on {D} {M} told size fuse old new stop next p q w =
    subst (λ (e : DestEnd D M). DestWatched told size fuse e next) (sym p) (subst (λ (s : Stop). DestWatched told size fuse old s) (sym q) w)

source_numbered_more : {D M : Type 0} (n : ℕ) (end : SourceEnd D M) → SourceNumbered n end → SourceNumbered (n + 1) end
source_numbered_more n (source_end.Open core) few = omega (arith, few)
source_numbered_more n source_end.Away few = tt
source_numbered_more n (source_end.Disk disk) few = tt

dest_numbered_more : {D M : Type 0} (n : ℕ) (end : DestEnd D M) → DestNumbered n end → DestNumbered (n + 1) end
dest_numbered_more n (dest_end.Open core) few = omega (arith, few)
dest_numbered_more n dest_end.Away few = tt
dest_numbered_more n (dest_end.Disk disk) few = tt

pub source_numbered_on : {D M : Type 0} (n : ℕ) (old new : SourceEnd D M) → new ≡ old → SourceNumbered n old → SourceNumbered (n + 1) new
source_numbered_on {D} {M} n old new same few = subst (λ (e : SourceEnd D M). SourceNumbered (n + 1) e) (sym same) (source_numbered_more n old few)

pub dest_numbered_on : {D M : Type 0} (n : ℕ) (old new : DestEnd D M) → new ≡ old → DestNumbered n old → DestNumbered (n + 1) new
dest_numbered_on {D} {M} n old new same few = subst (λ (e : DestEnd D M). DestNumbered (n + 1) e) (sym same) (dest_numbered_more n old few)

-- no fuse is set: of this side that is known, and the other is as it was
or_false : (b : Bool) → b ≡ true → (b || false) ≡ true
or_false b e = ap (λ (c : Bool). c || false) e

same_armed : (old new : Stop) → new ≡ old → is_some new.armed ≡ true → is_some old.armed ≡ true
same_armed old new same e = subst (λ (s : Stop). is_some s.armed ≡ true) same e

pub source_alone_armed : {D M : Type 0} (old new : Stage D M) → (is_some new.stops.source.armed ≡ true → is_some old.stops.source.armed ≡ true)
    → new.stops.dest ≡ old.stops.dest → (side : Side) → is_armed side new ≡ true → (is_armed side old || no_side side) ≡ true
source_alone_armed old new this other Source e = or_false _ (this e)
source_alone_armed old new this other Dest e = or_false _ (same_armed old.stops.dest new.stops.dest other e)

pub dest_alone_armed : {D M : Type 0} (old new : Stage D M) → (is_some new.stops.dest.armed ≡ true → is_some old.stops.dest.armed ≡ true)
    → new.stops.source ≡ old.stops.source → (side : Side) → is_armed side new ≡ true → (is_armed side old || no_side side) ≡ true
dest_alone_armed old new this other Source e = or_false _ (same_armed old.stops.source new.stops.source other e)
dest_alone_armed old new this other Dest e = or_false _ (this e)

-- ---- memory ran out: the servers and their stops are as they were

pub starved_stops : {D M : Type 0} (told : Type 0) (size : D → ℕ) (fuse : D → Fuse) (old new : Stage D M) → AreWatched told size fuse old
    → new.source ≡ old.source → new.dest ≡ old.dest → new.stops ≡ old.stops → KeepsStops told size fuse no_side old new
starved_stops told size fuse old new w p q r = record {
  watched = record {
    source = source_watched_on told size fuse old.source new.source old.stops.source new.stops.source p (ap (λ (s : Stops). s.source) r) w.source;
    dest = dest_watched_on told size fuse old.dest new.dest old.stops.dest new.stops.dest q (ap (λ (s : Stops). s.dest) r) w.dest;
  };
  numbered = λ n is. record {
    source = λ t. source_numbered_on n old.source new.source p (is.source t);
    dest = λ t. dest_numbered_on n old.dest new.dest q (is.dest t);
  };
  armed = source_alone_armed old new (same_armed old.stops.source new.stops.source (ap (λ (s : Stops). s.source) r)) (ap (λ (s : Stops). s.dest) r);
}

-- ---- from the parts

pub steps_more : (old was new : ℕ) → old ≡ was → new ≤ was + 1 → new ≤ old + 1
steps_more old was new same few = omega (arith, same, few)

pub steps_same : (old new : ℕ) → new ≡ old → new ≤ old + 1
steps_same old new same = omega (arith, same)

pub small_parts : {D M : Type 0} (told : Type 0) (old new : Stage D M) → SourceKeeps told old.source new.source → DestKeeps told old.dest new.dest
    → new.client.setting ≡ old.client.setting → Grows old.log new.log → bytes_of new.log ≤ most_bytes
    → source_steps new.source ≤ source_steps old.source + 1 → dest_steps new.dest ≤ dest_steps old.dest + 1 → new.client.steps ≤ old.client.steps + 1
    → length new.choices.items ≤ length old.choices.items + 1 → new.flowed ≡ old.flowed
    → SmallKeeps told old new
small_parts told old new source dest setting grows bytes s d c k flowed = record {
  keeps = record { source = source; dest = dest; setting = setting; log = grows_keeps old.log new.log grows; bytes = bytes };
  below = λ n b. record {
    source = omega (arith, b.source, s);
    dest = omega (arith, b.dest, d);
    client = omega (arith, b.client, c);
    choices = omega (arith, b.choices, k);
  };
  flowed = flowed;
}

pub starved_small : {D M : Type 0} (told : Type 0) (old new : Stage D M) → IsReady old → bytes_of old.log ≤ most_bytes
    → new.source ≡ old.source → new.dest ≡ old.dest → new.client ≡ old.client → new.log ≡ old.log → new.choices.items ≡ old.choices.items → new.flowed ≡ old.flowed
    → SmallKeeps told old new
starved_small {D} {M} told old new ready few p q c l k f =
    small_parts told old new (source_stays told old.source new.source ready.source p) (dest_stays told old.dest new.dest ready.dest q)
    (ap (λ (x : ClientState M). x.setting) c) (subst (λ (log : List Posted). Grows old.log log) (sym l) (grows_none old.log)) (omega (arith, few, ap bytes_of l))
    (steps_same _ _ (ap source_steps p)) (steps_same _ _ (ap dest_steps q)) (steps_same _ _ (ap (λ (x : ClientState M). x.steps) c))
    (steps_same _ _ (ap (λ (cs : List Choice). length cs) k)) f

-- ---- the source

module _ {D M : Type 0} (told : Type 0) (size : D → ℕ) (fuse : D → Fuse) (timeline : D → Timeline) (faults : D → ℕ)
    (laws : StopLaws told size fuse timeline faults) (old : Stage D M) (source : SourceEnd D M) (draws : ℕ) (used : List Used) (watched : AreWatched told size fuse old)
    (was next : SourceHost D M) (was_is : old.source ≡ source_end.Open was) (next_is : source ≡ source_end.Open next)
    (stays : told → VolumeStays was.server.files.volume next.server.files.volume) (counted : next.steps ≤ was.steps + 1)
    (calls : SourceCalls told size fuse timeline faults old.source source used) where
  source_made_by : MadeCalls told size fuse timeline faults was.server.files.volume next.server.files.volume used
  source_made_by = source_made told size fuse timeline faults was next old.source source used was_is next_is calls

  source_watched_by : IsWatched told size fuse was.server.files.volume old.stops.source
  source_watched_by = source_watched_in told size fuse timeline faults was old.source old.stops.source was_is watched.source

  -- it may be opened anew
  pub source_may_stop : SourceMayReopen told size fuse timeline faults source
  source_may_stop =
      source_may told size fuse timeline faults next source next_is
      (laws.may was.server.files.volume next.server.files.volume used source_made_by source_watched_by.lit)

  module _ (new : Stage D M) (ready : IsReady old) (few : bytes_of old.log ≤ most_bytes)
      (k : EndKeeps told size fuse timeline faults Source used (record old { source = source; draws = draws }) new) where
    source_became_by : SourceBecame told size fuse timeline faults next used old.stops.source new.source new.stops.source
    source_became_by = source_became told size fuse timeline faults next used (record old { source = source; draws = draws }) new next_is k

    pub source_small : SmallKeeps told old new
    source_small =
        let b = source_became_by in
        let made = source_made_by in
        let w = source_watched_by in
        let alone = source_alone told size fuse timeline faults used (record old { source = source; draws = draws }) new k in
        let r = end_rest told size fuse timeline faults Source used (record old { source = source; draws = draws }) new few k in
        small_parts told old new
        (record {
          was = was;
          was_is = was_is;
          leaves = source_leaves told size fuse timeline faults laws was next used old.stops.source new.source new.stops.source made w stays b;
        })
        (dest_stays told old.dest new.dest ready.dest alone.0)
        (ap (λ (c : ClientState M). c.setting) r.client) r.log r.bytes
        (steps_more _ was.steps _ (ap source_steps was_is)
        (source_counted told size fuse timeline faults laws was next used old.stops.source new.source new.stops.source made w counted b))
        (steps_same _ _ (ap dest_steps alone.0)) (steps_same _ _ (ap (λ (c : ClientState M). c.steps) r.client)) r.choices r.flowed

    pub source_stops : KeepsStops told size fuse no_side old new
    source_stops =
        let b = source_became_by in
        let made = source_made_by in
        let w = source_watched_by in
        let alone = source_alone told size fuse timeline faults used (record old { source = source; draws = draws }) new k in
        record {
          watched = record {
            source = source_watched told size fuse timeline faults laws was next used old.stops.source new.source new.stops.source made w b;
            dest = dest_watched_on told size fuse old.dest new.dest old.stops.dest new.stops.dest alone.0 alone.1 watched.dest;
          };
          numbered = λ n is. record {
            source = λ t. source_numbered told size fuse timeline faults laws was next used old.stops.source new.source new.stops.source made w stays b n t
                (subst (λ (e : SourceEnd D M). SourceNumbered n e) was_is (is.source t));
            dest = λ t. dest_numbered_on n old.dest new.dest alone.0 (is.dest t);
          };
          armed = source_alone_armed old new (source_armed told size fuse timeline faults laws was next used old.stops.source new.source new.stops.source made w b) alone.1;
        }

-- ---- the destination

module _ {D M : Type 0} (told : Type 0) (size : D → ℕ) (fuse : D → Fuse) (timeline : D → Timeline) (faults : D → ℕ)
    (laws : StopLaws told size fuse timeline faults) (old : Stage D M) (dest : DestEnd D M) (draws : ℕ) (used : List Used) (watched : AreWatched told size fuse old)
    (was next : DestHost D M) (was_is : old.dest ≡ dest_end.Open was) (next_is : dest ≡ dest_end.Open next)
    (stays : told → VolumeStays was.server.files.volume next.server.files.volume) (counted : next.steps ≤ was.steps + 1)
    (calls : DestCalls told size fuse timeline faults old.dest dest used) where
  dest_made_by : MadeCalls told size fuse timeline faults was.server.files.volume next.server.files.volume used
  dest_made_by = dest_made told size fuse timeline faults was next old.dest dest used was_is next_is calls

  dest_watched_by : IsWatched told size fuse was.server.files.volume old.stops.dest
  dest_watched_by = dest_watched_in told size fuse timeline faults was old.dest old.stops.dest was_is watched.dest

  -- it may be opened anew
  pub dest_may_stop : DestMayReopen told size fuse timeline faults dest
  dest_may_stop =
      dest_may told size fuse timeline faults next dest next_is
      (laws.may was.server.files.volume next.server.files.volume used dest_made_by dest_watched_by.lit)

  module _ (new : Stage D M) (ready : IsReady old) (few : bytes_of old.log ≤ most_bytes)
      (k : EndKeeps told size fuse timeline faults Dest used (record old { dest = dest; draws = draws }) new) where
    dest_became_by : DestBecame told size fuse timeline faults next used old.stops.dest new.dest new.stops.dest
    dest_became_by = dest_became told size fuse timeline faults next used (record old { dest = dest; draws = draws }) new next_is k

    pub dest_small : SmallKeeps told old new
    dest_small =
        let b = dest_became_by in
        let made = dest_made_by in
        let w = dest_watched_by in
        let alone = dest_alone told size fuse timeline faults used (record old { dest = dest; draws = draws }) new k in
        let r = end_rest told size fuse timeline faults Dest used (record old { dest = dest; draws = draws }) new few k in
        small_parts told old new
        (source_stays told old.source new.source ready.source alone.0)
        (record {
          was = was;
          was_is = was_is;
          leaves = dest_leaves told size fuse timeline faults laws was next used old.stops.dest new.dest new.stops.dest made w stays b;
        })
        (ap (λ (c : ClientState M). c.setting) r.client) r.log r.bytes
        (steps_same _ _ (ap source_steps alone.0))
        (steps_more _ was.steps _ (ap dest_steps was_is)
        (dest_counted told size fuse timeline faults laws was next used old.stops.dest new.dest new.stops.dest made w counted b))
        (steps_same _ _ (ap (λ (c : ClientState M). c.steps) r.client)) r.choices r.flowed

    pub dest_stops : KeepsStops told size fuse no_side old new
    dest_stops =
        let b = dest_became_by in
        let made = dest_made_by in
        let w = dest_watched_by in
        let alone = dest_alone told size fuse timeline faults used (record old { dest = dest; draws = draws }) new k in
        record {
          watched = record {
            dest = dest_watched told size fuse timeline faults laws was next used old.stops.dest new.dest new.stops.dest made w b;
            source = source_watched_on told size fuse old.source new.source old.stops.source new.stops.source alone.0 alone.1 watched.source;
          };
          numbered = λ n is. record {
            dest = λ t. dest_numbered told size fuse timeline faults laws was next used old.stops.dest new.dest new.stops.dest made w stays b n t
                (subst (λ (e : DestEnd D M). DestNumbered n e) was_is (is.dest t));
            source = λ t. source_numbered_on n old.source new.source alone.0 (is.source t);
          };
          armed = dest_alone_armed old new (dest_armed told size fuse timeline faults laws was next used old.stops.dest new.dest new.stops.dest made w b) alone.1;
        }
