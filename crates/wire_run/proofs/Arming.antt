-- A fuse is set at a server's disk: the worlds are as they were.
use Rattle.std.proofs.Common.{◌≡◌, ℕ, zero, suc, ◌+◌, ◌≤◌, Bool, true, false, List, [], ◌∷◌, ◌++◌, length, Option, Some, None, refl, sym, ap, subst, ◌∙◌, arith}
use Rattle.std.specs.Prelude.{◌||◌, is_some}
use Rattle.std.proofs.lemmas.List.{append-nil}
use Rattle.block_file.specs.Opened.{Opened}
use Rattle.client_core.specs.State.{ClientState}
use Rattle.client_core.specs.Telling.{copy_of}
use Rattle.dest_core.specs.Stepping.{DestState}
use Rattle.disk_model.specs.declared.fuse.Fuse.{Fuse}
use Rattle.disk_model.specs.declared.fuse.Fuse.TheVariants.{Burning, Out, Unset}
use Rattle.disk_model.specs.Elapsed.{IsOut, set_to}
use Rattle.nfs_base.specs.declared.side.Side.{Side}
use Rattle.nfs_base.specs.declared.side.Side.TheVariants.{Source, Dest}
use Rattle.run_ends.specs.Ends.{RunStep, SourceState, Words, machines}
use Rattle.server_volume.specs.Store.{Store, store_of}
use Rattle.session_server.specs.Host.{host_of}
use Rattle.volume_stops.specs.Stops.{pending_in}
use Rattle.wire_machine.specs.Check.{Reading}
use Rattle.wire_machine.specs.Steps.{same_side}
use Rattle.wire_machine.specs.Runs.{most_bytes}
use Rattle.wire_machine.specs.World.{Posted, all_idle, bytes_of}
use Rattle.wire_machine.specs.declared.choice.Choice.TheVariants.{Went}
use Rattle.wire_run.proofs.Cores.{dest_there, source_there}
use Rattle.wire_run.specs.Cutting.{ArmedAt, DestArmed, SourceArmed, with_end}
use Rattle.wire_run.specs.Stage.{BeginsNone, DestHost, DestKeeps, DestLeaves, Grows, IsFair, IsReady, SettleKeeps, SmallDone, SmallKeeps, SourceHost, SourceKeeps, SourceLeaves, VolumeKeeps, dest_steps, source_steps, world_at}
use Rattle.wire_run.specs.Watching.{AreWatched, DestNumbered, DestWatched, IsWatched, KeepsStops, SourceNumbered, SourceWatched, is_armed, sets_in, stop_at, stopped_by, with_stop}
use Rattle.wire_run.specs.declared.ends.DestEnd.{DestEnd}
use Rattle.wire_run.specs.declared.ends.SourceEnd.{SourceEnd}
use Rattle.wire_run.specs.declared.stage.Stage.{Stage}
use Rattle.wire_run.specs.declared.stage.Stop.{Stop}
use Rattle.wire_run.specs.declared.stage.Stops.{Stops}
use Rattle.wire_run.proofs.Comings.{later_none, one_more, same_world, size_right, world}
use Rattle.wire_run.proofs.Later.{blamed_none_failed}
use Rattle.wire_run.proofs.StopSteps.{dest_numbered_on, dest_stays, dest_watched_on, small_parts, source_numbered_on, source_stays, source_watched_on, steps_more, steps_same}
use Rattle.wire_schedule.specs.declared.event.Event.TheVariants as kinds

-- ---- a fuse that is set hasn't run out, unless its machine had stopped

set_lit : (f : Fuse) (calls : ℕ) → (IsOut f → ⊥) → IsOut (set_to f calls) → ⊥
set_lit Unset calls lit out = cc
set_lit (Burning n) calls lit out = cc
set_lit Out calls lit out = lit refl

-- the stop that is told then
abbrev set_stop : ℕ → Stop → Stop
set_stop pick stop = record { pending = stop.pending; armed = Some pick }

some_set : (pick : ℕ) → Some pick ≡ None → ⊥
some_set pick e = cc

-- ---- what is known of its volume is as it was

module _ {D : Type 0} (told : Type 0) (size : D → ℕ) (fuse : D → Fuse) (was next : Opened D) (same : told → store_of size next ≡ store_of size was) where
  armed_watched : (calls pick : ℕ) (stop : Stop) → fuse next.disk ≡ set_to (fuse was.disk) calls → IsWatched told size fuse was stop
      → IsWatched told size fuse next (set_stop pick stop)
  armed_watched calls pick stop set w = record {
    lit = λ t out. set_lit (fuse was.disk) calls (w.lit t) (sym set ∙ out);
    unset = λ t none. absurd (some_set pick none);
    pending = λ t. w.pending t ∙ sym (ap pending_in (same t));
  }

  armed_keeps : told → VolumeKeeps was next
  armed_keeps t = record { files = ap (λ (s : Store). length s.volume.files) (same t); tag = ap (λ (s : Store). s.tag) (same t) }

  armed_few : (n : ℕ) → told → was.volume.boot ≤ n + 1 → next.volume.boot ≤ n + 1 + 1
  armed_few n t few = omega (arith, few, ap (λ (s : Store). s.volume.boot) (same t))

or_right : (a : Bool) → (a || true) ≡ true
or_right true = refl
or_right false = refl

or_left : (a b : Bool) → a ≡ true → (a || b) ≡ true
or_left true b e = refl
or_left false b e = absurd cc

module _ {D M : Type 0} (told : Type 0) (size : D → ℕ) (fuse : D → Fuse) (faults : D → ℕ) (calls pick : ℕ) (old mid new : Stage D M) (fair : IsFair told size fuse old) where
  -- ---- the source

  module _ (a : SourceArmed told size fuse faults calls old.source mid.source) (rest : mid ≡ with_end Source mid old)
      (k : SettleKeeps (stopped_by Source (set_stop pick mid.stops.source) mid) new) where
    source_store : told → store_of size a.next.server.files.volume ≡ store_of size a.was.server.files.volume
    source_store t = ap (λ (h : SourceState M). h.state.machine.store) (a.same t)

    source_armed_small : SmallKeeps told old new
    source_armed_small =
        small_parts told old new
        (record {
          was = a.was;
          was_is = a.was_is;
          leaves = subst (λ (e : SourceEnd D M). SourceLeaves told a.was e) (sym (k.source ∙ a.next_is))
              (armed_keeps told size fuse a.was.server.files.volume a.next.server.files.volume source_store);
        })
        (dest_stays told old.dest new.dest fair.ready.dest (k.dest ∙ ap (λ (x : Stage D M). x.dest) rest))
        (ap (λ (c : ClientState M). c.setting) (k.client ∙ ap (λ (x : Stage D M). x.client) rest))
        (subst (λ (l : List Posted). Grows l new.log) (ap (λ (x : Stage D M). x.log) rest) k.log) k.bytes
        (steps_more _ a.was.steps _ (ap source_steps a.was_is) (steps_same a.was.steps _ (ap source_steps (k.source ∙ a.next_is) ∙ a.counted)))
        (steps_same _ _ (ap dest_steps (k.dest ∙ ap (λ (x : Stage D M). x.dest) rest)))
        (steps_same _ _ (ap (λ (c : ClientState M). c.steps) (k.client ∙ ap (λ (x : Stage D M). x.client) rest)))
        (omega (arith, k.choices, ap (λ (x : Stage D M). length x.choices.items) rest)) (k.flowed ∙ ap (λ (x : Stage D M). x.flowed) rest)

    source_stop_is : new.stops.source ≡ set_stop pick old.stops.source
    source_stop_is = ap (λ (x : Stops). x.source) k.stops ∙ ap (λ (x : Stage D M). set_stop pick x.stops.source) rest

    source_other_stop : new.stops.dest ≡ old.stops.dest
    source_other_stop = ap (λ (x : Stops). x.dest) k.stops ∙ ap (λ (x : Stage D M). x.stops.dest) rest

    source_only : (side : Side) → is_armed side new ≡ true → (is_armed side old || sets_in (kinds.CrashAfter Source calls pick) side) ≡ true
    source_only Source e = or_right (is_armed Source old)
    source_only Dest e = or_left (is_armed Dest old) false (subst (λ (x : Stop). is_some x.armed ≡ true) source_other_stop e)

    source_armed_stops : KeepsStops told size fuse (sets_in (kinds.CrashAfter Source calls pick)) old new
    source_armed_stops =
        let was : Opened D = a.was.server.files.volume in
        let next : Opened D = a.next.server.files.volume in
        record {
          watched = record {
            source = subst (λ (e : SourceEnd D M). SourceWatched told size fuse e new.stops.source) (sym (k.source ∙ a.next_is))
                (subst (λ (x : Stop). IsWatched told size fuse next x) (sym source_stop_is)
                (armed_watched told size fuse was next source_store calls pick old.stops.source a.fuse_is
                (subst (λ (e : SourceEnd D M). SourceWatched told size fuse e old.stops.source) a.was_is fair.watched.source)));
            dest = dest_watched_on told size fuse old.dest new.dest old.stops.dest new.stops.dest (k.dest ∙ ap (λ (x : Stage D M). x.dest) rest) source_other_stop fair.watched.dest;
          };
          numbered = λ n is. record {
            source = λ t. subst (λ (e : SourceEnd D M). SourceNumbered (n + 1) e) (sym (k.source ∙ a.next_is))
                (armed_few told size fuse was next source_store n t (subst (λ (e : SourceEnd D M). SourceNumbered n e) a.was_is (is.source t)));
            dest = λ t. dest_numbered_on n old.dest new.dest (k.dest ∙ ap (λ (x : Stage D M). x.dest) rest) (is.dest t);
          };
          armed = source_only;
        }

    source_armed_done : (words : Words M ℕ) (read : Reading) (text : List ℕ) → new.log ≡ mid.log → new.choices.items ≡ mid.choices.items ++ Went ∷ []
        → SmallDone told (machines words) read faults size (kinds.CrashAfter Source calls pick) old new text text
    source_armed_done words read text log choices =
        let other = dest_there old.dest fair.ready.dest in
        let counted : new.choices.items ≡ old.choices.items ++ Went ∷ [] = choices ∙ ap (λ (x : Stage D M). x.choices.items ++ Went ∷ []) rest in
        let step : RunStep M = record { event = kinds.CrashAfter Source calls pick; choice = Went; parts = all_idle; after = world_at size a.next other.core new } in
        record {
          source = a.was;
          dest = other.core;
          source_next = a.next;
          dest_next = other.core;
          source_is = a.was_is;
          dest_is = other.is;
          source_next_is = k.source ∙ a.next_is;
          dest_next_is = k.dest ∙ (ap (λ (x : Stage D M). x.dest) rest ∙ other.is);
          step = step;
          event_is = refl;
          after_is = refl;
          is = λ t. record {
            small = (
              refl,
              ap (λ (h : SourceState M). world h (host_of size other.core) new.client new.draws new.clock (length new.choices.items) new.log) (a.same t)
                  ∙ same_world (host_of size a.was) (host_of size other.core)
                  (k.client ∙ ap (λ (x : Stage D M). x.client) rest) (k.draws ∙ ap (λ (x : Stage D M). x.draws) rest) (k.clock ∙ ap (λ (x : Stage D M). x.clock) rest)
                  (one_more old.choices.items new.choices.items _ counted) (log ∙ (ap (λ (x : Stage D M). x.log) rest ∙ sym (append-nil old.log))),
            );
            choice = refl;
          };
          right = λ t. size_right new.log k.bytes;
          lines = λ t. sym (append-nil text);
          choices = counted;
          asked = λ side none. refl;
          blamed = blamed_none_failed step refl;
          source_later = a.later;
          dest_later = later_none faults size _;
        }

  -- ---- the destination

  module _ (a : DestArmed told size fuse faults calls old.dest mid.dest) (rest : mid ≡ with_end Dest mid old)
      (k : SettleKeeps (stopped_by Dest (set_stop pick mid.stops.dest) mid) new) where
    dest_store : told → store_of size a.next.server.files.volume ≡ store_of size a.was.server.files.volume
    dest_store t = ap (λ (h : DestState M). h.state.machine.store) (a.same t)

    dest_armed_small : SmallKeeps told old new
    dest_armed_small =
        small_parts told old new
        (source_stays told old.source new.source fair.ready.source (k.source ∙ ap (λ (x : Stage D M). x.source) rest))
        (record {
          was = a.was;
          was_is = a.was_is;
          leaves = subst (λ (e : DestEnd D M). DestLeaves told a.was e) (sym (k.dest ∙ a.next_is))
              (armed_keeps told size fuse a.was.server.files.volume a.next.server.files.volume dest_store);
        })
        (ap (λ (c : ClientState M). c.setting) (k.client ∙ ap (λ (x : Stage D M). x.client) rest))
        (subst (λ (l : List Posted). Grows l new.log) (ap (λ (x : Stage D M). x.log) rest) k.log) k.bytes
        (steps_same _ _ (ap source_steps (k.source ∙ ap (λ (x : Stage D M). x.source) rest)))
        (steps_more _ a.was.steps _ (ap dest_steps a.was_is) (steps_same a.was.steps _ (ap dest_steps (k.dest ∙ a.next_is) ∙ a.counted)))
        (steps_same _ _ (ap (λ (c : ClientState M). c.steps) (k.client ∙ ap (λ (x : Stage D M). x.client) rest)))
        (omega (arith, k.choices, ap (λ (x : Stage D M). length x.choices.items) rest)) (k.flowed ∙ ap (λ (x : Stage D M). x.flowed) rest)

    dest_stop_is : new.stops.dest ≡ set_stop pick old.stops.dest
    dest_stop_is = ap (λ (x : Stops). x.dest) k.stops ∙ ap (λ (x : Stage D M). set_stop pick x.stops.dest) rest

    dest_other_stop : new.stops.source ≡ old.stops.source
    dest_other_stop = ap (λ (x : Stops). x.source) k.stops ∙ ap (λ (x : Stage D M). x.stops.source) rest

    dest_only : (side : Side) → is_armed side new ≡ true → (is_armed side old || sets_in (kinds.CrashAfter Dest calls pick) side) ≡ true
    dest_only Dest e = or_right (is_armed Dest old)
    dest_only Source e = or_left (is_armed Source old) false (subst (λ (x : Stop). is_some x.armed ≡ true) dest_other_stop e)

    dest_armed_stops : KeepsStops told size fuse (sets_in (kinds.CrashAfter Dest calls pick)) old new
    dest_armed_stops =
        let was : Opened D = a.was.server.files.volume in
        let next : Opened D = a.next.server.files.volume in
        record {
          watched = record {
            dest = subst (λ (e : DestEnd D M). DestWatched told size fuse e new.stops.dest) (sym (k.dest ∙ a.next_is))
                (subst (λ (x : Stop). IsWatched told size fuse next x) (sym dest_stop_is)
                (armed_watched told size fuse was next dest_store calls pick old.stops.dest a.fuse_is
                (subst (λ (e : DestEnd D M). DestWatched told size fuse e old.stops.dest) a.was_is fair.watched.dest)));
            source = source_watched_on told size fuse old.source new.source old.stops.source new.stops.source (k.source ∙ ap (λ (x : Stage D M). x.source) rest) dest_other_stop fair.watched.source;
          };
          numbered = λ n is. record {
            dest = λ t. subst (λ (e : DestEnd D M). DestNumbered (n + 1) e) (sym (k.dest ∙ a.next_is))
                (armed_few told size fuse was next dest_store n t (subst (λ (e : DestEnd D M). DestNumbered n e) a.was_is (is.dest t)));
            source = λ t. source_numbered_on n old.source new.source (k.source ∙ ap (λ (x : Stage D M). x.source) rest) (is.source t);
          };
          armed = dest_only;
        }

    dest_armed_done : (words : Words M ℕ) (read : Reading) (text : List ℕ) → new.log ≡ mid.log → new.choices.items ≡ mid.choices.items ++ Went ∷ []
        → SmallDone told (machines words) read faults size (kinds.CrashAfter Dest calls pick) old new text text
    dest_armed_done words read text log choices =
        let other = source_there old.source fair.ready.source in
        let counted : new.choices.items ≡ old.choices.items ++ Went ∷ [] = choices ∙ ap (λ (x : Stage D M). x.choices.items ++ Went ∷ []) rest in
        let step : RunStep M = record { event = kinds.CrashAfter Dest calls pick; choice = Went; parts = all_idle; after = world_at size other.core a.next new } in
        record {
          dest = a.was;
          source = other.core;
          dest_next = a.next;
          source_next = other.core;
          dest_is = a.was_is;
          source_is = other.is;
          dest_next_is = k.dest ∙ a.next_is;
          source_next_is = k.source ∙ (ap (λ (x : Stage D M). x.source) rest ∙ other.is);
          step = step;
          event_is = refl;
          after_is = refl;
          is = λ t. record {
            small = (
              refl,
              ap (λ (h : DestState M). world (host_of size other.core) h new.client new.draws new.clock (length new.choices.items) new.log) (a.same t)
                  ∙ same_world (host_of size other.core) (host_of size a.was)
                  (k.client ∙ ap (λ (x : Stage D M). x.client) rest) (k.draws ∙ ap (λ (x : Stage D M). x.draws) rest) (k.clock ∙ ap (λ (x : Stage D M). x.clock) rest)
                  (one_more old.choices.items new.choices.items _ counted) (log ∙ (ap (λ (x : Stage D M). x.log) rest ∙ sym (append-nil old.log))),
            );
            choice = refl;
          };
          right = λ t. size_right new.log k.bytes;
          lines = λ t. sym (append-nil text);
          choices = counted;
          asked = λ side none. refl;
          blamed = blamed_none_failed step refl;
          dest_later = a.later;
          source_later = later_none faults size _;
        }

  -- ---- either of them, by the stop that was known of it before and the one that is put

  put_keeps : (side : Side) (stop : Stop) (stops : Stops) → stop ≡ stop_at side mid.stops → stops ≡ with_stop side (set_stop pick stop) mid.stops
      → SettleKeeps (record mid { stops = stops }) new → SettleKeeps (stopped_by side (set_stop pick (stop_at side mid.stops)) mid) new
  put_keeps side stop stops is put k =
      subst (λ (s : Stops). SettleKeeps (record mid { stops = s }) new) (put ∙ ap (λ (x : Stop). with_stop side (set_stop pick x) mid.stops) is) k

  pub arm_small : (side : Side) (stop : Stop) (stops : Stops) → stop ≡ stop_at side mid.stops → stops ≡ with_stop side (set_stop pick stop) mid.stops
      → SettleKeeps (record mid { stops = stops }) new → ArmedAt told size fuse faults side calls old mid → mid ≡ with_end side mid old → SmallKeeps told old new
  arm_small Source stop stops is put k a rest = source_armed_small a rest (put_keeps Source stop stops is put k)
  arm_small Dest stop stops is put k a rest = dest_armed_small a rest (put_keeps Dest stop stops is put k)

  pub arm_stops : (side : Side) (stop : Stop) (stops : Stops) → stop ≡ stop_at side mid.stops → stops ≡ with_stop side (set_stop pick stop) mid.stops
      → SettleKeeps (record mid { stops = stops }) new → ArmedAt told size fuse faults side calls old mid → mid ≡ with_end side mid old
      → KeepsStops told size fuse (sets_in (kinds.CrashAfter side calls pick)) old new
  arm_stops Source stop stops is put k a rest = source_armed_stops a rest (put_keeps Source stop stops is put k)
  arm_stops Dest stop stops is put k a rest = dest_armed_stops a rest (put_keeps Dest stop stops is put k)

  pub arm_done : (side : Side) (stop : Stop) (stops : Stops) → stop ≡ stop_at side mid.stops → stops ≡ with_stop side (set_stop pick stop) mid.stops
      → SettleKeeps (record mid { stops = stops }) new → ArmedAt told size fuse faults side calls old mid → mid ≡ with_end side mid old
      → (words : Words M ℕ) (read : Reading) (text : List ℕ) → new.log ≡ mid.log → new.choices.items ≡ mid.choices.items ++ Went ∷ []
      → SmallDone told (machines words) read faults size (kinds.CrashAfter side calls pick) old new text text
  arm_done Source stop stops is put k a rest words read text log choices = source_armed_done a rest (put_keeps Source stop stops is put k) words read text log choices
  arm_done Dest stop stops is put k a rest words read text log choices = dest_armed_done a rest (put_keeps Dest stop stops is put k) words read text log choices

  -- the rest stays
  pub arm_client : (side : Side) → mid ≡ with_end side mid old → mid.client ≡ old.client
  arm_client Source rest = ap (λ (x : Stage D M). x.client) rest
  arm_client Dest rest = ap (λ (x : Stage D M). x.client) rest

  pub arm_clock : (side : Side) → mid ≡ with_end side mid old → mid.clock ≡ old.clock
  arm_clock Source rest = ap (λ (x : Stage D M). x.clock) rest
  arm_clock Dest rest = ap (λ (x : Stage D M). x.clock) rest

  pub arm_begins : (side : Side) (client : ClientState M) → client ≡ mid.client → mid ≡ with_end side mid old → BeginsNone old.client client
  arm_begins side client same rest = λ j none. ap (copy_of j) (same ∙ arm_client side rest) ∙ none

  pub arm_bytes : (side : Side) → mid ≡ with_end side mid old → bytes_of mid.log ≤ most_bytes
  arm_bytes Source rest = omega (arith, ap (λ (x : Stage D M). bytes_of x.log) rest, fair.bytes)
  arm_bytes Dest rest = omega (arith, ap (λ (x : Stage D M). bytes_of x.log) rest, fair.bytes)
