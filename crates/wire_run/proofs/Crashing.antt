-- A server's disk crashes between two steps, and the server is opened anew or is lost.
use Rattle.std.proofs.Common.{◌≡◌, ◌⊎◌, ℕ, ◌+◌, ◌≤◌, Bool, true, false, List, [], ◌∷◌, ◌++◌, length, Option, Some, None, refl, sym, ap, subst, ◌∙◌, inl, inr, arith}
use Rattle.std.specs.Prelude.{◌||◌}
use Rattle.std.proofs.lemmas.List.{append-nil}
use Rattle.block_file.specs.Opened.{Opened}
use Rattle.disk_model.specs.declared.fuse.Fuse.{Fuse}
use Rattle.disk_model.specs.Elapsed.{Timeline}
use Rattle.nfs_base.specs.declared.side.Side.{Side}
use Rattle.nfs_base.specs.declared.side.Side.TheVariants.{Source, Dest}
use Rattle.run_ends.specs.Ends.{RunStep, RunWorld, Words, machines}
use Rattle.server_volume.specs.Store.{store_of}
use Rattle.session_server.specs.Host.{host_of}
use Rattle.volume_stops.specs.Stops.{StopsIn}
use Rattle.volume_stops.specs.declared.kept.Kept.{Kept}
use Rattle.volume_stops.specs.declared.pending.Pending.{Pending}
use Rattle.wire_lines.specs.LineText.{lines_text}
use Rattle.wire_lines.specs.declared.line.Line.TheVariants as lines
use Rattle.wire_machine.specs.Check.{Reading}
use Rattle.wire_machine.specs.Runs.{most_bytes}
use Rattle.wire_machine.specs.Steps.{kept_if, same_side}
use Rattle.wire_machine.specs.World.{Posted, all_idle, bytes_of}
use Rattle.wire_machine.specs.declared.choice.Choice.{Choice}
use Rattle.wire_machine.specs.declared.choice.Choice.TheVariants.{Stopped}
use Rattle.wire_run.proofs.Cores.{dest_open, dest_there, source_open, source_there}
use Rattle.wire_run.specs.Cutting.{EndKeeps, IsLostIn, LostAt, MayReopenAt, ReopenedAt, RestsAt, crash_lines, dest_kept, disk_at, kept_at, source_kept, without_end}
use Rattle.wire_run.specs.Stage.{IsFair, IsOpenAt, IsReady, SettleKeeps, SmallDone, SmallKeeps, dest_boot, dest_disk, source_boot, source_disk, world_at}
use Rattle.wire_run.specs.Stopping.{StopLaws}
use Rattle.wire_run.specs.Watching.{AreWatched, DestNumbered, KeepsStops, SourceNumbered, crashes_in, is_armed, no_side, no_stop, stop_at, stopped_by}
use Rattle.wire_run.specs.declared.ends.DestEnd.{DestEnd}
use Rattle.wire_run.specs.declared.ends.SourceEnd.{SourceEnd}
use Rattle.wire_run.specs.declared.stage.Lost.{Lost}
use Rattle.wire_run.specs.declared.stage.Stage.{Stage}
use Rattle.wire_run.specs.declared.stage.Stop.{Stop}
use Rattle.wire_run.proofs.Comings.{later_none, one_more, same_world, size_right}
use Rattle.wire_run.proofs.Later.{blamed_none_failed}
use Rattle.wire_run.proofs.Losing.{few_boots, lost_in, lost_later, lost_why}
use Rattle.wire_run.proofs.Outcomes.{dest_anew, dest_made, dest_watched_in, end_rest, source_anew, source_made, source_watched_in}
use Rattle.wire_run.proofs.StopSteps.{dest_may_stop, dest_small, dest_stops, source_may_stop, source_small, source_stops}
use Rattle.wire_run.proofs.Stops.{cut, later_anew}
use Rattle.wire_schedule.specs.declared.event.Event.TheVariants as kinds

pub open_at : {D M : Type 0} (side : Side) (s : Stage D M) → IsReady s → IsOpenAt side s
open_at Source s ready = ready.source
open_at Dest s ready = ready.dest

or_right : (a b : Bool) → b ≡ true → (a || b) ≡ true
or_right true b e = refl
or_right false b e = e

never_right : (a : Bool) → (a || true) ≡ false → ⊥
never_right true e = cc
never_right false e = cc

same_as : (side : Side) → same_side side side ≡ true
same_as Source = refl
same_as Dest = refl

module _ {D M : Type 0} (told : Type 0) (size : D → ℕ) (fuse : D → Fuse) (timeline : D → Timeline) (faults : D → ℕ)
    (laws : StopLaws told size fuse timeline faults) (old : Stage D M) (fair : IsFair told size fuse old) where
  -- ---- before it

  pub crash_may : (side : Side) → RestsAt told size fuse timeline faults side old → MayReopenAt told size fuse timeline faults side old
  crash_may Source rests =
      let c = source_there old.source fair.ready.source in
      source_may_stop told size fuse timeline faults laws old old.source old.draws [] fair.watched c.core c.core c.is c.is
      (λ t. record { files = refl; tag = refl; boot = refl }) (omega arith) rests
  crash_may Dest rests =
      let c = dest_there old.dest fair.ready.dest in
      dest_may_stop told size fuse timeline faults laws old old.dest old.draws [] fair.watched c.core c.core c.is c.is
      (λ t. record { files = refl; tag = refl; boot = refl }) (omega arith) rests

  -- ---- what it keeps

  pub crash_small : (side : Side) (new : Stage D M) → RestsAt told size fuse timeline faults side old → EndKeeps told size fuse timeline faults side [] old new
      → SmallKeeps told old new
  crash_small Source new rests k =
      let c = source_there old.source fair.ready.source in
      source_small told size fuse timeline faults laws old old.source old.draws [] fair.watched c.core c.core c.is c.is
      (λ t. record { files = refl; tag = refl; boot = refl }) (omega arith) rests new fair.ready fair.bytes k
  crash_small Dest new rests k =
      let c = dest_there old.dest fair.ready.dest in
      dest_small told size fuse timeline faults laws old old.dest old.draws [] fair.watched c.core c.core c.is c.is
      (λ t. record { files = refl; tag = refl; boot = refl }) (omega arith) rests new fair.ready fair.bytes k

  pub crash_stops : (side : Side) (new : Stage D M) → RestsAt told size fuse timeline faults side old → EndKeeps told size fuse timeline faults side [] old new
      → KeepsStops told size fuse no_side old new
  crash_stops Source new rests k =
      let c = source_there old.source fair.ready.source in
      source_stops told size fuse timeline faults laws old old.source old.draws [] fair.watched c.core c.core c.is c.is
      (λ t. record { files = refl; tag = refl; boot = refl }) (omega arith) rests new fair.ready fair.bytes k
  crash_stops Dest new rests k =
      let c = dest_there old.dest fair.ready.dest in
      dest_stops told size fuse timeline faults laws old old.dest old.draws [] fair.watched c.core c.core c.is c.is
      (λ t. record { files = refl; tag = refl; boot = refl }) (omega arith) rests new fair.ready fair.bytes k

  -- ---- it is lost

  pub crash_lost : (side : Side) (pick : ℕ) (new : Stage D M) (lost : Lost D) (text : List ℕ) → RestsAt told size fuse timeline faults side old
      → LostAt told size fuse timeline faults side old new lost
      → ((is_armed lost.side old || crashes_in (kinds.Crash side pick) lost.side) ≡ true) × IsLostIn told faults size lost old new text text
  crash_lost Source pick new lost text rests l =
      let c = source_there old.source fair.ready.source in
      let v : Opened D = c.core.server.files.volume in
      let made = source_made told size fuse timeline faults c.core c.core old.source old.source [] c.is c.is rests in
      let w = source_watched_in told size fuse timeline faults c.core old.source old.stops.source c.is fair.watched.source in
      lost_in told size fuse timeline faults Source (λ (at : Side). is_armed at old || crashes_in (kinds.Crash Source pick) at) old old new lost text text l
      (lost_why told size fuse timeline faults laws v v [] old.stops.source 0 (source_disk old.source) (source_disk old.source) (ap source_disk c.is) (ap source_disk c.is)
      made w (later_none faults size v.disk) lost.disk lost.cause l.disk
      (λ t. few_boots _ (subst (λ (x : SourceEnd D M). SourceNumbered 67108862 x) c.is (fair.numbered.source t))))
      (lost_later told size fuse timeline faults laws v v [] old.stops.source 0 (source_disk old.source) (source_disk old.source) (ap source_disk c.is) (ap source_disk c.is)
      made w (later_none faults size v.disk) lost.disk lost.cause l.disk)
      (λ other none. refl) refl refl (or_right (is_armed Source old) true refl)
  crash_lost Dest pick new lost text rests l =
      let c = dest_there old.dest fair.ready.dest in
      let v : Opened D = c.core.server.files.volume in
      let made = dest_made told size fuse timeline faults c.core c.core old.dest old.dest [] c.is c.is rests in
      let w = dest_watched_in told size fuse timeline faults c.core old.dest old.stops.dest c.is fair.watched.dest in
      lost_in told size fuse timeline faults Dest (λ (at : Side). is_armed at old || crashes_in (kinds.Crash Dest pick) at) old old new lost text text l
      (lost_why told size fuse timeline faults laws v v [] old.stops.dest 0 (dest_disk old.dest) (dest_disk old.dest) (ap dest_disk c.is) (ap dest_disk c.is)
      made w (later_none faults size v.disk) lost.disk lost.cause l.disk
      (λ t. few_boots _ (subst (λ (x : DestEnd D M). DestNumbered 67108862 x) c.is (fair.numbered.dest t))))
      (lost_later told size fuse timeline faults laws v v [] old.stops.dest 0 (dest_disk old.dest) (dest_disk old.dest) (ap dest_disk c.is) (ap dest_disk c.is)
      made w (later_none faults size v.disk) lost.disk lost.cause l.disk)
      (λ other none. refl) refl refl (or_right (is_armed Dest old) true refl)

  -- ---- it is opened anew

  pub reopened_open : (side : Side) (mid : Stage D M) → ReopenedAt told size fuse timeline faults side old mid → IsOpenAt side mid
  reopened_open Source mid opens = source_open mid.source opens.reopened.next opens.reopened.next_is
  reopened_open Dest mid opens = dest_open mid.dest opens.reopened.next opens.reopened.next_is

  pub reopened_bytes : (side : Side) (mid : Stage D M) → ReopenedAt told size fuse timeline faults side old mid → bytes_of mid.log ≤ most_bytes
  reopened_bytes Source mid opens = omega (arith, ap (λ (s : Stage D M). bytes_of s.log) opens.rest, fair.bytes)
  reopened_bytes Dest mid opens = omega (arith, ap (λ (s : Stage D M). bytes_of s.log) opens.rest, fair.bytes)

  reopened_log : (side : Side) (mid : Stage D M) → ReopenedAt told size fuse timeline faults side old mid → mid.log ≡ old.log
  reopened_log Source mid opens = ap (λ (s : Stage D M). s.log) opens.rest
  reopened_log Dest mid opens = ap (λ (s : Stage D M). s.log) opens.rest

  reopened_choices : (side : Side) (mid : Stage D M) → ReopenedAt told size fuse timeline faults side old mid → mid.choices.items ≡ old.choices.items
  reopened_choices Source mid opens = ap (λ (s : Stage D M). s.choices.items) opens.rest
  reopened_choices Dest mid opens = ap (λ (s : Stage D M). s.choices.items) opens.rest

  other_source : (at : Side) (kept : Kept) → (is_armed at old || same_side at Source) ≡ false → kept_if (same_side at Source) kept ≡ None
  other_source Source kept none = absurd (never_right (is_armed Source old) none)
  other_source Dest kept none = refl

  other_dest : (at : Side) (kept : Kept) → (is_armed at old || same_side at Dest) ≡ false → kept_if (same_side at Dest) kept ≡ None
  other_dest Dest kept none = absurd (never_right (is_armed Dest old) none)
  other_dest Source kept none = refl

  module _ (words : Words M ℕ) (read : Reading) (pick : ℕ) (mid new : Stage D M) (text_old text_new : List ℕ) (keeps : SettleKeeps mid new) (log : new.log ≡ mid.log) where
    source_crashed : RestsAt told size fuse timeline faults Source old → ReopenedAt told size fuse timeline faults Source old mid
        → text_new ≡ text_old ++ crash_lines Source old.stops.source.pending mid
        → new.choices.items ≡ mid.choices.items ++ Stopped (kept_at Source old.stops.source.pending mid) ∷ []
        → SmallDone told (machines words) read faults size (kinds.Crash Source pick) old new text_old text_new
    source_crashed rests opens put choices =
        let c = source_there old.source fair.ready.source in
        let other = dest_there old.dest fair.ready.dest in
        let made = source_made told size fuse timeline faults c.core c.core old.source old.source [] c.is c.is rests in
        let w = source_watched_in told size fuse timeline faults c.core old.source old.stops.source c.is fair.watched.source in
        let anew = source_anew told size fuse timeline faults c.core old.source mid.source c.is opens.reopened in
        let kept : Kept = source_kept old.stops.source.pending mid.source in
        let counted : new.choices.items ≡ old.choices.items ++ Stopped kept ∷ [] =
        choices ∙ ap (λ (cs : List Choice). cs ++ Stopped kept ∷ []) (reopened_choices Source mid opens) in
        let step : RunStep M = record { event = kinds.Crash Source pick; choice = Stopped kept; parts = all_idle; after = world_at size anew.next other.core new } in
        record {
          source = c.core;
          dest = other.core;
          source_next = anew.next;
          dest_next = other.core;
          source_is = c.is;
          dest_is = other.is;
          source_next_is = keeps.source ∙ anew.is;
          dest_next_is = keeps.dest ∙ (ap (λ (x : Stage D M). x.dest) opens.rest ∙ other.is);
          step = step;
          event_is = refl;
          after_is = refl;
          is = λ t. record {
            small = record {
              source = host_of size anew.next;
              crashes = record {
                stops = subst (λ (k : Kept). StopsIn (store_of size c.core.server.files.volume) [] k (store_of size anew.next.server.files.volume))
                    (sym (ap (λ (e : SourceEnd D M). source_kept old.stops.source.pending e) anew.is))
                    (cut told size fuse timeline faults laws c.core.server.files.volume c.core.server.files.volume anew.next.server.files.volume [] old.stops.source made w anew.volume t);
                numbered = anew.volume.numbered;
                opened = anew.fresh;
              };
              parts_are = refl;
              after_is = same_world (host_of size anew.next) (host_of size other.core)
                  (keeps.client ∙ ap (λ (x : Stage D M). x.client) opens.rest)
                  (keeps.draws ∙ ap (λ (x : Stage D M). x.draws) opens.rest)
                  (keeps.clock ∙ ap (λ (x : Stage D M). x.clock) opens.rest)
                  (one_more old.choices.items new.choices.items _ counted)
                  (log ∙ (reopened_log Source mid opens ∙ sym (append-nil old.log)));
            };
            choice = tt;
          };
          right = λ t. size_right new.log keeps.bytes;
          lines = λ t. put ∙ ap (λ (e : SourceEnd D M). text_old ++ lines_text (lines.Crash Source (source_boot e) kept ∷ [])) anew.is;
          choices = counted;
          asked = λ at none. other_source at kept none;
          blamed = blamed_none_failed step refl;
          source_later = later_anew told size fuse timeline faults laws 0 c.core.server.files.volume.disk c.core.server.files.volume.disk anew.next.server.files.volume
              (later_none faults size _) anew.volume;
          dest_later = later_none faults size _;
        }

    dest_crashed : RestsAt told size fuse timeline faults Dest old → ReopenedAt told size fuse timeline faults Dest old mid
        → text_new ≡ text_old ++ crash_lines Dest old.stops.dest.pending mid
        → new.choices.items ≡ mid.choices.items ++ Stopped (kept_at Dest old.stops.dest.pending mid) ∷ []
        → SmallDone told (machines words) read faults size (kinds.Crash Dest pick) old new text_old text_new
    dest_crashed rests opens put choices =
        let c = dest_there old.dest fair.ready.dest in
        let other = source_there old.source fair.ready.source in
        let made = dest_made told size fuse timeline faults c.core c.core old.dest old.dest [] c.is c.is rests in
        let w = dest_watched_in told size fuse timeline faults c.core old.dest old.stops.dest c.is fair.watched.dest in
        let anew = dest_anew told size fuse timeline faults c.core old.dest mid.dest c.is opens.reopened in
        let kept : Kept = dest_kept old.stops.dest.pending mid.dest in
        let counted : new.choices.items ≡ old.choices.items ++ Stopped kept ∷ [] =
        choices ∙ ap (λ (cs : List Choice). cs ++ Stopped kept ∷ []) (reopened_choices Dest mid opens) in
        let step : RunStep M = record { event = kinds.Crash Dest pick; choice = Stopped kept; parts = all_idle; after = world_at size other.core anew.next new } in
        record {
          dest = c.core;
          source = other.core;
          dest_next = anew.next;
          source_next = other.core;
          dest_is = c.is;
          source_is = other.is;
          dest_next_is = keeps.dest ∙ anew.is;
          source_next_is = keeps.source ∙ (ap (λ (x : Stage D M). x.source) opens.rest ∙ other.is);
          step = step;
          event_is = refl;
          after_is = refl;
          is = λ t. record {
            small = record {
              dest = host_of size anew.next;
              crashes = record {
                stops = subst (λ (k : Kept). StopsIn (store_of size c.core.server.files.volume) [] k (store_of size anew.next.server.files.volume))
                    (sym (ap (λ (e : DestEnd D M). dest_kept old.stops.dest.pending e) anew.is))
                    (cut told size fuse timeline faults laws c.core.server.files.volume c.core.server.files.volume anew.next.server.files.volume [] old.stops.dest made w anew.volume t);
                numbered = anew.volume.numbered;
                opened = anew.fresh;
              };
              parts_are = refl;
              after_is = same_world (host_of size other.core) (host_of size anew.next)
                  (keeps.client ∙ ap (λ (x : Stage D M). x.client) opens.rest)
                  (keeps.draws ∙ ap (λ (x : Stage D M). x.draws) opens.rest)
                  (keeps.clock ∙ ap (λ (x : Stage D M). x.clock) opens.rest)
                  (one_more old.choices.items new.choices.items _ counted)
                  (log ∙ (reopened_log Dest mid opens ∙ sym (append-nil old.log)));
            };
            choice = tt;
          };
          right = λ t. size_right new.log keeps.bytes;
          lines = λ t. put ∙ ap (λ (e : DestEnd D M). text_old ++ lines_text (lines.Crash Dest (dest_boot e) kept ∷ [])) anew.is;
          choices = counted;
          asked = λ at none. other_dest at kept none;
          blamed = blamed_none_failed step refl;
          dest_later = later_anew told size fuse timeline faults laws 0 c.core.server.files.volume.disk c.core.server.files.volume.disk anew.next.server.files.volume
              (later_none faults size _) anew.volume;
          source_later = later_none faults size _;
        }

    -- by the stop that was known of it before
    pub crash_done : (side : Side) (stop : Stop) → stop ≡ stop_at side old.stops → RestsAt told size fuse timeline faults side old
        → ReopenedAt told size fuse timeline faults side old mid → text_new ≡ text_old ++ crash_lines side stop.pending mid
        → new.choices.items ≡ mid.choices.items ++ Stopped (kept_at side stop.pending mid) ∷ []
        → SmallDone told (machines words) read faults size (kinds.Crash side pick) old new text_old text_new
    crash_done Source stop is rests opens put choices =
        source_crashed rests opens (subst (λ (x : Stop). text_new ≡ text_old ++ crash_lines Source x.pending mid) is put)
        (subst (λ (x : Stop). new.choices.items ≡ mid.choices.items ++ Stopped (kept_at Source x.pending mid) ∷ []) is choices)
    crash_done Dest stop is rests opens put choices =
        dest_crashed rests opens (subst (λ (x : Stop). text_new ≡ text_old ++ crash_lines Dest x.pending mid) is put)
        (subst (λ (x : Stop). new.choices.items ≡ mid.choices.items ++ Stopped (kept_at Dest x.pending mid) ∷ []) is choices)
