-- How a small step ends in which a server acts: it goes on, or its machine stops and it is opened anew, or it is lost.
use Rattle.std.proofs.Common.{◌≡◌, ◌⊎◌, ℕ, ◌+◌, ◌-◌, ◌<◌, ◌≤◌, ◌^◌, Bool, true, false, List, [], ◌∷◌, ◌++◌, length, Option, Some, None, Result, Ok, Err, refl, sym, ap, subst, ◌∙◌, inl, inr, arith}
use Rattle.std.specs.Prelude.{IfOk, is_some}
use Rattle.std.proofs.lemmas.List.{append-nil}
use Rattle.block_file.specs.Opened.{Opened}
use Rattle.client_core.specs.State.{ClientState}
use Rattle.disk_model.specs.Elapsed.{Timeline}
use Rattle.disk_model.specs.declared.fuse.Fuse.{Fuse}
use Rattle.nfs_base.specs.declared.seal.End.TheVariants as ends
use Rattle.nfs_base.specs.declared.side.Side.{Side}
use Rattle.nfs_base.specs.declared.side.Side.TheVariants.{Source, Dest}
use Rattle.outbox.specs.declared.outgoing.Outbox.{Outbox}
use Rattle.run_ends.specs.Ends.{RunWorld, Words, machines}
use Rattle.run_ends.specs.Mechanisms.Mechanisms.{KeepMechanisms}
use Rattle.run_ends.specs.Opening.{IsDestAnew, IsNewDest, IsNewSource, IsSourceAnew, silenced}
use Rattle.run_ends.specs.Stops.Reopening.{IsReopened, IsUnopened, MadeCalls}
use Rattle.server_volume.specs.Store.{store_of}
use Rattle.server_volume.specs.declared.used.Used.{Used}
use Rattle.session_server.specs.Host.{host_of}
use Rattle.volume_stops.specs.Stops.{StopsIn, kept_by, pending_within}
use Rattle.volume_stops.specs.declared.kept.Kept.{Kept}
use Rattle.volume_stops.specs.declared.pending.Pending.{Pending}
use Rattle.wire_lines.specs.LineText.{lines_text}
use Rattle.wire_lines.specs.declared.letters.Speaker.{Speaker}
use Rattle.wire_lines.specs.declared.line.Line.TheVariants as lines
use Rattle.wire_log.specs.Keeping.{bytes_at}
use Rattle.wire_machine.specs.Check.{Reading, mistake, mistake_in}
use Rattle.wire_machine.specs.Ends.{DestAct, SourceAct}
use Rattle.wire_machine.specs.Runs as runs
use Rattle.wire_machine.specs.Runs.{fault_by}
use Rattle.wire_machine.specs.Steps.{DestDoes, DestStops, SourceDoes, SourceStops, any_failed, dest_part, same_side, source_part}
use Rattle.wire_machine.specs.World.{Parts, Posted, bytes_of, with_parts}
use Rattle.wire_machine.specs.declared.choice.Choice.{Choice}
use Rattle.wire_machine.specs.declared.choice.Choice.TheVariants.{Stopped}
use Rattle.wire_machine.specs.declared.mistake.Mistake.{Mistake}
use Rattle.wire_run.proofs.Comings.{by_dest, by_source, dest_acted, fault_same, later_less, later_none, one_more, same_world, size_right, source_acted, world}
use Rattle.wire_run.proofs.Cores.{dest_there, source_there}
use Rattle.wire_run.proofs.Lone.{dest_mistake, source_mistake}
use Rattle.wire_run.proofs.Losing.{few_boots, lost_in, lost_later, lost_why}
use Rattle.wire_run.proofs.Outcomes.{DestAnew, SourceAnew, dest_anew, dest_made, dest_watched_in, source_anew, source_made, source_watched_in}
use Rattle.wire_run.proofs.Stops.{cut, later_anew}
use Rattle.wire_run.specs.Cutting.{ComesOrCuts, DestCalls, DiskLost, EndsIn, GoesOn, IsCutDone, IsDueAt, IsLostIn, IsStopMistaken, IsStopTold, LostAt, ServerEnds, SourceCalls, StopEnds, Stopping, dest_kept, disk_at, disk_left, source_kept, without_end}
use Rattle.wire_run.specs.Fresh.{unopened}
use Rattle.wire_run.specs.Running.{Later, LostFor}
use Rattle.wire_run.specs.Stage.{DestActs, DestHost, IsFair, IsFaulty, SettleKeeps, SourceActs, SourceHost, bit, dest_boot, dest_disk, faults_named, mistake_by, source_boot, source_disk, world_at}
use Rattle.wire_run.specs.Stopping.{StopLaws}
use Rattle.wire_run.specs.Watching.{DestNumbered, SourceNumbered, is_armed, no_stop, stop_at, stopped_by}
use Rattle.wire_run.specs.declared.ends.DestEnd.{DestEnd}
use Rattle.wire_run.specs.declared.ends.DestEnd.TheVariants as dest_end
use Rattle.wire_run.specs.declared.ends.SourceEnd.{SourceEnd}
use Rattle.wire_run.specs.declared.ends.SourceEnd.TheVariants as source_end
use Rattle.wire_run.specs.declared.fresh.Unmade.{Unmade}
use Rattle.wire_run.specs.declared.stage.Fault.{Fault}
use Rattle.wire_run.specs.declared.stage.Lost.{Lost}
use Rattle.wire_run.specs.declared.stage.Stage.{Stage}
use Rattle.wire_run.specs.declared.stage.Stops.{Stops}

-- ---- the source

module _ {D M : Type 0} (told : Type 0) (words : Words M ℕ) (read : Reading) (size : D → ℕ) (fuse : D → Fuse) (timeline : D → Timeline) (faults : D → ℕ)
    (laws : StopLaws told size fuse timeline faults) (stay : KeepMechanisms (machines words)) (act : SourceAct) (number opening : ℕ) (old new : Stage D M)
    (source : SourceEnd D M) (draws : ℕ) (out : Outbox) (text_old text_new : List ℕ) (fair : IsFair told size fuse old)
    (a : SourceActs told (machines words) faults size act old.clock old.source old.draws source draws out)
    (calls : SourceCalls told size fuse timeline faults old.source source out.used) (is : opening ≡ source_boot source) where
  source_boots : opening ≡ a.next.server.files.volume.volume.boot
  source_boots = is ∙ ap source_boot a.next_is

  source_made_by : MadeCalls told size fuse timeline faults a.was.server.files.volume a.next.server.files.volume out.used
  source_made_by = source_made told size fuse timeline faults a.was a.next old.source source out.used a.was_is a.next_is calls

  -- what it took is checked as told
  source_check : (dest : DestHost D M) (o : Outbox) → told → mistake (machines words) read (world_at size a.was dest old) (source_part (bytes_at old.log number) o)
      ≡ mistake_in read old.log ends.Source opening o.accepted (bytes_at old.log number)
  source_check dest o t =
      source_mistake (machines words) read (world_at size a.was dest old) (bytes_at old.log number) o
      ∙ ap (λ (n : ℕ). mistake_in read old.log ends.Source n o.accepted (bytes_at old.log number)) (sym (source_boots ∙ (a.stays t).boot))

  -- it stopped, and was opened anew
  source_cut : mistake_by read (source_acted opening number out) (record old { source = source; draws = draws }) ≡ None
      → IsStopTold told size fuse timeline faults Source (pending_within old.stops.source.pending out.used) (record old { source = source; draws = draws }) new text_old text_new
      → IsCutDone told (machines words) read faults size Source (SourceStops (machines words) act (bytes_at old.log number)) old new text_old text_new
  source_cut none s =
      let other = dest_there old.dest fair.ready.dest in
      let anew = source_anew told size fuse timeline faults a.next source s.reopened.source a.next_is s.opens.reopened in
      let w = source_watched_in told size fuse timeline faults a.was old.source old.stops.source a.was_is fair.watched.source in
      let pending : Option Pending = pending_within old.stops.source.pending out.used in
      let kept : Kept = source_kept pending s.reopened.source in
      record {
        dest = other.core;
        source = a.was;
        dest_next = other.core;
        source_next = anew.next;
        dest_is = other.is;
        source_is = a.was_is;
        dest_next_is = s.keeps.dest ∙ (ap (λ (x : Stage D M). x.dest) s.opens.rest ∙ other.is);
        source_next_is = s.keeps.source ∙ anew.is;
        kept = kept;
        parts = source_part (bytes_at old.log number) (silenced out);
        is = λ t. record {
          source = host_of size anew.next;
          draws = draws;
          out = silenced out;
          stops = (
            host_of size a.next,
            out,
            a.acts t,
            record {
              stops = subst (λ (k : Kept). StopsIn (store_of size a.was.server.files.volume) out.used k (store_of size anew.next.server.files.volume))
                  (sym (ap (λ (e : SourceEnd D M). source_kept pending e) anew.is))
                  (cut told size fuse timeline faults laws a.was.server.files.volume a.next.server.files.volume anew.next.server.files.volume out.used old.stops.source
                  source_made_by w anew.volume t);
              numbered = anew.volume.numbered;
              opened = subst (λ (x : M). IsNewSource x (host_of size anew.next))
                  (stay.source act old.clock (host_of size a.was) old.draws (host_of size a.next) draws out (a.acts t)) anew.fresh;
            },
            refl,
          );
          parts_are = refl;
          after_is = same_world (host_of size anew.next) (host_of size other.core)
              (s.keeps.client ∙ ap (λ (x : Stage D M). x.client) s.opens.rest)
              (s.keeps.draws ∙ ap (λ (x : Stage D M). x.draws) s.opens.rest)
              (s.keeps.clock ∙ ap (λ (x : Stage D M). x.clock) s.opens.rest)
              (one_more old.choices.items new.choices.items _ s.choices) (s.log ∙ sym (append-nil old.log));
        };
        right = λ t. fault_same _ _ new.log new.log None (source_check other.core (silenced out) t ∙ none) refl (size_right new.log s.keeps.bytes);
        lines = s.lines ∙ ap (λ (e : SourceEnd D M). text_old ++ lines_text (lines.Crash Source (source_boot e) kept ∷ [])) (sym s.keeps.source);
        choices = s.choices;
        dest_later = later_none faults size _;
        source_later = later_anew told size fuse timeline faults laws _ a.was.server.files.volume.disk a.next.server.files.volume.disk anew.next.server.files.volume a.later anew.volume;
      }

  -- it stopped, and what it took was a mistake
  source_mistaken : (taken : Mistake) → mistake_by read (source_acted opening number out) (record old { source = source; draws = draws }) ≡ Some taken
      → IsStopMistaken told size fuse timeline faults Source taken (record old { source = source; draws = draws }) new text_old text_new
      → IsFaulty told (machines words) read faults size (SourceDoes (machines words) act (bytes_at old.log number)) (runs.Mistaken taken) old new text_old text_new
  source_mistaken taken some s =
      let other = dest_there old.dest fair.ready.dest in
      let anew = source_anew told size fuse timeline faults a.next source new.source a.next_is s.opens.reopened in
      let after : RunWorld M = with_parts (machines words) (source_part (bytes_at old.log number) out)
      (world (host_of size a.next) (host_of size other.core) old.client draws old.clock (length old.choices.items) old.log) in
      record {
        dest = other.core;
        source = a.was;
        dest_next = other.core;
        source_next = anew.next;
        dest_is = other.is;
        source_is = a.was_is;
        dest_next_is = ap (λ (x : Stage D M). x.dest) s.opens.rest ∙ other.is;
        source_next_is = anew.is;
        parts = source_part (bytes_at old.log number) out;
        after = after;
        is = λ t. record { source = host_of size a.next; draws = draws; out = out; acts = a.acts t; parts_are = refl; after_is = refl };
        fault_is = λ t. ap (λ (o : Option Mistake). fault_by o (bytes_of after.log)) (source_check other.core out t ∙ some);
        text = s.text;
        choices = ap (λ (x : Stage D M). x.choices.items) s.opens.rest;
        dest_later = later_none faults size _;
        source_later = later_anew told size fuse timeline faults laws 0 a.was.server.files.volume.disk a.next.server.files.volume.disk anew.next.server.files.volume
            (later_less faults size _ _ _ a.later) anew.volume;
      }

  source_armed_in : Stopping told size fuse timeline faults read Source (source_acted opening number out) (record old { source = source; draws = draws }) → is_armed Source old ≡ true
  source_armed_in s = ap (λ (o : Option ℕ). is_some o) s.due.armed

  source_ended : (fault : Option runs.Fault)
      → GoesOn told size fuse timeline faults read Source (source_acted opening number out) (record old { source = source; draws = draws }) new text_old text_new fault
      ⊎ StopEnds told size fuse timeline faults read Source (source_acted opening number out) (record old { source = source; draws = draws }) new text_old text_new fault
      → ComesOrCuts told (machines words) read faults size Source (SourceDoes (machines words) act (bytes_at old.log number))
      (SourceStops (machines words) act (bytes_at old.log number)) old new text_old text_new fault
  source_ended None (inl g) =
      inl (by_source told words read faults size act number opening old new source draws _ out text_old text_new None fair.ready a is g.keeps g.settles)
  source_ended (Some fault) (inl g) =
      by_source told words read faults size act number opening old new source draws _ out text_old text_new (Some fault) fair.ready a is g.keeps g.settles
  source_ended None (inr s) = inr (source_armed_in s.0, source_cut s.1 s.2)
  source_ended (Some fault) (inr s) =
      subst (λ (f : runs.Fault). IsFaulty told (machines words) read faults size (SourceDoes (machines words) act (bytes_at old.log number)) f old new text_old text_new)
      (sym s.1.2) (source_mistaken s.1.0 s.1.1 s.1.3)

  -- it stopped, and is lost
  source_lost : (lost : Lost D) → is_armed Source old ≡ true → text_new ≡ text_old
      → LostAt told size fuse timeline faults Source (record old { source = source; draws = draws }) new lost
      → (is_armed lost.side old ≡ true) × IsLostIn told faults size lost old new text_old text_new
  source_lost lost armed text l =
      let w = source_watched_in told size fuse timeline faults a.was old.source old.stops.source a.was_is fair.watched.source in
      let was : Opened D = a.was.server.files.volume in
      let next : Opened D = a.next.server.files.volume in
      lost_in told size fuse timeline faults Source (λ (side : Side). is_armed side old) old (record old { source = source; draws = draws }) new lost text_old text_new l
      (lost_why told size fuse timeline faults laws was next out.used old.stops.source _ (source_disk old.source) (source_disk source) (ap source_disk a.was_is) (ap source_disk a.next_is)
      source_made_by w a.later lost.disk lost.cause l.disk
      (λ t. few_boots _ (subst (λ (x : SourceEnd D M). SourceNumbered 67108862 x) a.was_is (fair.numbered.source t))))
      (lost_later told size fuse timeline faults laws was next out.used old.stops.source _ (source_disk old.source) (source_disk source) (ap source_disk a.was_is) (ap source_disk a.next_is)
      source_made_by w a.later lost.disk lost.cause l.disk)
      source_others refl text armed
    where
      source_others : (other : Side) → same_side other Source ≡ false → disk_at other (record old { source = source; draws = draws }) ≡ disk_at other old
      source_others Dest none = refl
      source_others Source none = absurd cc

  pub source_ends : {E : Type 0} (r : Result (Result (Option Fault) (Lost D)) E)
      → IfOk r (ServerEnds told size fuse timeline faults read Source (source_acted opening number out) (record old { source = source; draws = draws }) new text_old text_new)
      → IfOk r (EndsIn told (machines words) read faults size Source (SourceDoes (machines words) act (bytes_at old.log number))
      (SourceStops (machines words) act (bytes_at old.log number)) old new text_old text_new)
  source_ends (Err e) ended = tt
  source_ends (Ok (Ok fault)) ended = source_ended (faults_named fault) ended
  source_ends (Ok (Err lost)) ended = source_lost lost (source_armed_in ended.0) ended.2 ended.1

-- ---- the destination

module _ {D M : Type 0} (told : Type 0) (words : Words M ℕ) (read : Reading) (size : D → ℕ) (fuse : D → Fuse) (timeline : D → Timeline) (faults : D → ℕ)
    (laws : StopLaws told size fuse timeline faults) (stay : KeepMechanisms (machines words)) (act : DestAct) (speaker : Speaker) (number opening : ℕ) (old new : Stage D M)
    (dest : DestEnd D M) (draws : ℕ) (out : Outbox) (text_old text_new : List ℕ) (fair : IsFair told size fuse old)
    (a : DestActs told (machines words) faults size act old.clock old.dest old.draws dest draws out)
    (calls : DestCalls told size fuse timeline faults old.dest dest out.used) (is : opening ≡ dest_boot dest) where
  dest_boots : opening ≡ a.next.server.files.volume.volume.boot
  dest_boots = is ∙ ap dest_boot a.next_is

  dest_made_by : MadeCalls told size fuse timeline faults a.was.server.files.volume a.next.server.files.volume out.used
  dest_made_by = dest_made told size fuse timeline faults a.was a.next old.dest dest out.used a.was_is a.next_is calls

  -- what it took is checked as told
  dest_check : (source : SourceHost D M) (o : Outbox) → told → mistake (machines words) read (world_at size source a.was old) (dest_part speaker (bytes_at old.log number) o)
      ≡ mistake_in read old.log ends.Dest opening o.accepted (bytes_at old.log number)
  dest_check source o t =
      dest_mistake (machines words) read (world_at size source a.was old) speaker (bytes_at old.log number) o
      ∙ ap (λ (n : ℕ). mistake_in read old.log ends.Dest n o.accepted (bytes_at old.log number)) (sym (dest_boots ∙ (a.stays t).boot))

  -- it stopped, and was opened anew
  dest_cut : mistake_by read (dest_acted speaker opening number out) (record old { dest = dest; draws = draws }) ≡ None
      → IsStopTold told size fuse timeline faults Dest (pending_within old.stops.dest.pending out.used) (record old { dest = dest; draws = draws }) new text_old text_new
      → IsCutDone told (machines words) read faults size Dest (DestStops (machines words) act speaker (bytes_at old.log number)) old new text_old text_new
  dest_cut none s =
      let other = source_there old.source fair.ready.source in
      let anew = dest_anew told size fuse timeline faults a.next dest s.reopened.dest a.next_is s.opens.reopened in
      let w = dest_watched_in told size fuse timeline faults a.was old.dest old.stops.dest a.was_is fair.watched.dest in
      let pending : Option Pending = pending_within old.stops.dest.pending out.used in
      let kept : Kept = dest_kept pending s.reopened.dest in
      record {
        source = other.core;
        dest = a.was;
        source_next = other.core;
        dest_next = anew.next;
        source_is = other.is;
        dest_is = a.was_is;
        source_next_is = s.keeps.source ∙ (ap (λ (x : Stage D M). x.source) s.opens.rest ∙ other.is);
        dest_next_is = s.keeps.dest ∙ anew.is;
        kept = kept;
        parts = dest_part speaker (bytes_at old.log number) (silenced out);
        is = λ t. record {
          dest = host_of size anew.next;
          draws = draws;
          out = silenced out;
          stops = (
            host_of size a.next,
            out,
            a.acts t,
            record {
              stops = subst (λ (k : Kept). StopsIn (store_of size a.was.server.files.volume) out.used k (store_of size anew.next.server.files.volume))
                  (sym (ap (λ (e : DestEnd D M). dest_kept pending e) anew.is))
                  (cut told size fuse timeline faults laws a.was.server.files.volume a.next.server.files.volume anew.next.server.files.volume out.used old.stops.dest
                  dest_made_by w anew.volume t);
              numbered = anew.volume.numbered;
              opened = subst (λ (x : M). IsNewDest x (host_of size anew.next))
                  (stay.dest act old.clock (host_of size a.was) old.draws (host_of size a.next) draws out (a.acts t)) anew.fresh;
            },
            refl,
          );
          parts_are = refl;
          after_is = same_world (host_of size other.core) (host_of size anew.next)
              (s.keeps.client ∙ ap (λ (x : Stage D M). x.client) s.opens.rest)
              (s.keeps.draws ∙ ap (λ (x : Stage D M). x.draws) s.opens.rest)
              (s.keeps.clock ∙ ap (λ (x : Stage D M). x.clock) s.opens.rest)
              (one_more old.choices.items new.choices.items _ s.choices) (s.log ∙ sym (append-nil old.log));
        };
        right = λ t. fault_same _ _ new.log new.log None (dest_check other.core (silenced out) t ∙ none) refl (size_right new.log s.keeps.bytes);
        lines = s.lines ∙ ap (λ (e : DestEnd D M). text_old ++ lines_text (lines.Crash Dest (dest_boot e) kept ∷ [])) (sym s.keeps.dest);
        choices = s.choices;
        source_later = later_none faults size _;
        dest_later = later_anew told size fuse timeline faults laws _ a.was.server.files.volume.disk a.next.server.files.volume.disk anew.next.server.files.volume a.later anew.volume;
      }

  -- it stopped, and what it took was a mistake
  dest_mistaken : (taken : Mistake) → mistake_by read (dest_acted speaker opening number out) (record old { dest = dest; draws = draws }) ≡ Some taken
      → IsStopMistaken told size fuse timeline faults Dest taken (record old { dest = dest; draws = draws }) new text_old text_new
      → IsFaulty told (machines words) read faults size (DestDoes (machines words) act speaker (bytes_at old.log number)) (runs.Mistaken taken) old new text_old text_new
  dest_mistaken taken some s =
      let other = source_there old.source fair.ready.source in
      let anew = dest_anew told size fuse timeline faults a.next dest new.dest a.next_is s.opens.reopened in
      let after : RunWorld M = with_parts (machines words) (dest_part speaker (bytes_at old.log number) out)
      (world (host_of size other.core) (host_of size a.next) old.client draws old.clock (length old.choices.items) old.log) in
      record {
        source = other.core;
        dest = a.was;
        source_next = other.core;
        dest_next = anew.next;
        source_is = other.is;
        dest_is = a.was_is;
        source_next_is = ap (λ (x : Stage D M). x.source) s.opens.rest ∙ other.is;
        dest_next_is = anew.is;
        parts = dest_part speaker (bytes_at old.log number) out;
        after = after;
        is = λ t. record { dest = host_of size a.next; draws = draws; out = out; acts = a.acts t; parts_are = refl; after_is = refl };
        fault_is = λ t. ap (λ (o : Option Mistake). fault_by o (bytes_of after.log)) (dest_check other.core out t ∙ some);
        text = s.text;
        choices = ap (λ (x : Stage D M). x.choices.items) s.opens.rest;
        source_later = later_none faults size _;
        dest_later = later_anew told size fuse timeline faults laws 0 a.was.server.files.volume.disk a.next.server.files.volume.disk anew.next.server.files.volume
            (later_less faults size _ _ _ a.later) anew.volume;
      }

  dest_armed_in : Stopping told size fuse timeline faults read Dest (dest_acted speaker opening number out) (record old { dest = dest; draws = draws }) → is_armed Dest old ≡ true
  dest_armed_in s = ap (λ (o : Option ℕ). is_some o) s.due.armed

  dest_ended : (fault : Option runs.Fault)
      → GoesOn told size fuse timeline faults read Dest (dest_acted speaker opening number out) (record old { dest = dest; draws = draws }) new text_old text_new fault
      ⊎ StopEnds told size fuse timeline faults read Dest (dest_acted speaker opening number out) (record old { dest = dest; draws = draws }) new text_old text_new fault
      → ComesOrCuts told (machines words) read faults size Dest (DestDoes (machines words) act speaker (bytes_at old.log number))
      (DestStops (machines words) act speaker (bytes_at old.log number)) old new text_old text_new fault
  dest_ended None (inl g) =
      inl (by_dest told words read faults size act speaker number opening old new dest draws _ out text_old text_new None fair.ready a is g.keeps g.settles)
  dest_ended (Some fault) (inl g) =
      by_dest told words read faults size act speaker number opening old new dest draws _ out text_old text_new (Some fault) fair.ready a is g.keeps g.settles
  dest_ended None (inr s) = inr (dest_armed_in s.0, dest_cut s.1 s.2)
  dest_ended (Some fault) (inr s) =
      subst (λ (f : runs.Fault). IsFaulty told (machines words) read faults size (DestDoes (machines words) act speaker (bytes_at old.log number)) f old new text_old text_new)
      (sym s.1.2) (dest_mistaken s.1.0 s.1.1 s.1.3)

  -- it stopped, and is lost
  dest_lost : (lost : Lost D) → is_armed Dest old ≡ true → text_new ≡ text_old
      → LostAt told size fuse timeline faults Dest (record old { dest = dest; draws = draws }) new lost
      → (is_armed lost.side old ≡ true) × IsLostIn told faults size lost old new text_old text_new
  dest_lost lost armed text l =
      let w = dest_watched_in told size fuse timeline faults a.was old.dest old.stops.dest a.was_is fair.watched.dest in
      let was : Opened D = a.was.server.files.volume in
      let next : Opened D = a.next.server.files.volume in
      lost_in told size fuse timeline faults Dest (λ (side : Side). is_armed side old) old (record old { dest = dest; draws = draws }) new lost text_old text_new l
      (lost_why told size fuse timeline faults laws was next out.used old.stops.dest _ (dest_disk old.dest) (dest_disk dest) (ap dest_disk a.was_is) (ap dest_disk a.next_is)
      dest_made_by w a.later lost.disk lost.cause l.disk
      (λ t. few_boots _ (subst (λ (x : DestEnd D M). DestNumbered 67108862 x) a.was_is (fair.numbered.dest t))))
      (lost_later told size fuse timeline faults laws was next out.used old.stops.dest _ (dest_disk old.dest) (dest_disk dest) (ap dest_disk a.was_is) (ap dest_disk a.next_is)
      dest_made_by w a.later lost.disk lost.cause l.disk)
      dest_others refl text armed
    where
      dest_others : (other : Side) → same_side other Dest ≡ false → disk_at other (record old { dest = dest; draws = draws }) ≡ disk_at other old
      dest_others Source none = refl
      dest_others Dest none = absurd cc

  pub dest_ends : {E : Type 0} (r : Result (Result (Option Fault) (Lost D)) E)
      → IfOk r (ServerEnds told size fuse timeline faults read Dest (dest_acted speaker opening number out) (record old { dest = dest; draws = draws }) new text_old text_new)
      → IfOk r (EndsIn told (machines words) read faults size Dest (DestDoes (machines words) act speaker (bytes_at old.log number))
      (DestStops (machines words) act speaker (bytes_at old.log number)) old new text_old text_new)
  dest_ends (Err e) ended = tt
  dest_ends (Ok (Ok fault)) ended = dest_ended (faults_named fault) ended
  dest_ends (Ok (Err lost)) ended = dest_lost lost (dest_armed_in ended.0) ended.2 ended.1
