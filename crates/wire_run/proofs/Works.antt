-- A worker's step, in which the destination may stop or be lost, is a small step of its event.
use Rattle.std.proofs.Common.{◌≡◌, ◌⊎◌, inl, inr, ℕ, Bool, true, false, List, [], ◌∷◌, ◌++◌, length, Option, Some, None, refl, sym, ap, ◌∙◌, subst}
use Rattle.std.specs.Prelude.{◌||◌, IfOk, Result, Ok, Err}
use Rattle.nfs_base.specs.declared.side.Side.{Side}
use Rattle.nfs_base.specs.declared.side.Side.TheVariants.{Source, Dest}
use Rattle.outbox.specs.declared.outgoing.Outbox.{Outbox}
use Rattle.volume_stops.specs.declared.kept.Kept.{Kept}
use Rattle.wire_lines.specs.LineText.{lines_text}
use Rattle.wire_lines.specs.declared.letters.Speaker.{Speaker}
use Rattle.wire_lines.specs.declared.letters.Speaker.TheVariants as speakers
use Rattle.wire_lines.specs.declared.line.Line.{Line}
use Rattle.wire_lines.specs.declared.line.Line.TheVariants as lines
use Rattle.wire_machine.specs.Check.{Reading}
use Rattle.wire_machine.specs.Ends.{DestAct}
use Rattle.wire_machine.specs.Ends as acts
use Rattle.wire_machine.specs.Lines.{notes_of, records_of}
use Rattle.wire_machine.specs.Runs as runs
use Rattle.wire_machine.specs.Steps.{DestDoes, DestStops, dest_part, kept_if, same_side}
use Rattle.wire_machine.specs.World.{Parts}
use Rattle.wire_machine.specs.declared.choice.Choice.TheVariants.{Stopped}
use Rattle.run_ends.specs.Ends.{RunStep, RunWorld, Words, machines}
use Rattle.wire_run.specs.Cutting.{ComesOrCuts, EndsIn, IsCutDone, SmallEnds}
use Rattle.wire_run.specs.Stage.{SmallDone, SmallIs, dest_boot, faults_named, world_at}
use Rattle.wire_run.specs.Watching.{is_armed}
use Rattle.wire_run.specs.declared.stage.Fault.{Fault}
use Rattle.wire_run.specs.declared.stage.Lost.{Lost}
use Rattle.wire_run.specs.declared.stage.Stage.{Stage}
use Rattle.wire_run.proofs.Later.{blamed_none_failed}
use Rattle.wire_run.proofs.Smalls.{later_as, quiet_work, small_from}
use Rattle.wire_run.proofs.Watched.{or_left}
use Rattle.wire_schedule.specs.declared.event.Event.{Event}
use Rattle.wire_schedule.specs.declared.event.Event.TheVariants as kinds

not_both : (a : Bool) → a ≡ true → (a || false) ≡ false → ⊥
not_both true is none = cc
not_both false is none = cc

-- the destination alone stops in it, whose fuse was set
work_asked : {D M : Type 0} (kept : Kept) (s : Stage D M) → is_armed Dest s ≡ true → (side : Side) → (is_armed side s || false) ≡ false → kept_if (same_side side Dest) kept ≡ None
work_asked kept s armed Source none = refl
work_asked kept s armed Dest none = absurd (not_both (is_armed Dest s) armed none)

module _ {D M : Type 0} (told : Type 0) (words : Words M ℕ) (read : Reading) (faults size : D → ℕ) where
  -- nothing that it sends or tells goes on
  pub dest_silent : (act : DestAct) (speaker : Speaker) (took : Option (List ℕ)) (kept : Kept) (before : RunWorld M) (parts : Parts) (after : RunWorld M) (sent : ℕ)
      → DestStops (machines words) act speaker took kept before parts after → notes_of parts ++ records_of sent parts ≡ []
  dest_silent act speaker took kept before parts after sent s =
      ap (λ (p : Parts). notes_of p ++ records_of sent p) s.parts_are
      ∙ ap (λ (o : Outbox). notes_of (dest_part speaker took o) ++ records_of sent (dest_part speaker took o)) s.stops.4

  work_cut : (worker : ℕ) (old new : Stage D M) (text_old text_new : List ℕ) → is_armed Dest old ≡ true
      → IsCutDone told (machines words) read faults size Dest (DestStops (machines words) (acts.Works worker) speakers.Dest None) old new text_old text_new
      → SmallDone told (machines words) read faults size (kinds.Work worker) old new text_old text_new
  work_cut worker old new text_old text_new armed c =
      let step : RunStep M = record { event = kinds.Work worker; choice = Stopped c.kept; parts = c.parts; after = world_at size c.source_next c.dest_next new } in
      record {
        source = c.source;
        dest = c.dest;
        source_next = c.source_next;
        dest_next = c.dest_next;
        source_is = c.source_is;
        dest_is = c.dest_is;
        source_next_is = c.source_next_is;
        dest_next_is = c.dest_next_is;
        step = step;
        event_is = refl;
        after_is = refl;
        is = λ t. record { small = c.is t; choice = tt };
        right = c.right;
        lines = λ t. c.lines ∙ ap (λ (ls : List Line). text_old ++ lines_text ls)
            (ap (λ (boot : ℕ). lines.Crash Dest boot c.kept ∷ []) (ap dest_boot c.dest_next_is)
            ∙ ap (λ (ls : List Line). lines.Crash Dest c.dest_next.server.files.volume.volume.boot c.kept ∷ ls)
            (sym (dest_silent (acts.Works worker) speakers.Dest None c.kept (world_at size c.source c.dest old) c.parts (world_at size c.source_next c.dest_next new) (length old.log) (c.is t))));
        choices = c.choices;
        asked = work_asked c.kept old armed;
        blamed = blamed_none_failed step refl;
        source_later = later_as faults size _ false _ _ refl c.source_later;
        dest_later = later_as faults size _ false _ _ refl c.dest_later;
      }

  work_by : (worker : ℕ) (old new : Stage D M) (text_old text_new : List ℕ) (fault : Option runs.Fault)
      → ComesOrCuts told (machines words) read faults size Dest (DestDoes (machines words) (acts.Works worker) speakers.Dest None)
      (DestStops (machines words) (acts.Works worker) speakers.Dest None) old new text_old text_new fault
      → SmallIs told (machines words) read faults size (kinds.Work worker) old new text_old text_new fault
  work_by worker old new text_old text_new None (inl done) =
      small_from told (machines words) read faults size (kinds.Work worker) (DestDoes (machines words) (acts.Works worker) speakers.Dest None) (λ before parts after d. d)
      (quiet_work told (machines words) read faults size worker) old new text_old text_new None done
  work_by worker old new text_old text_new None (inr cut) = work_cut worker old new text_old text_new cut.0 cut.1
  work_by worker old new text_old text_new (Some fault) c =
      small_from told (machines words) read faults size (kinds.Work worker) (DestDoes (machines words) (acts.Works worker) speakers.Dest None) (λ before parts after d. d)
      (quiet_work told (machines words) read faults size worker) old new text_old text_new (Some fault) c

  -- the same of another name of an event
  pub ends_as : {E : Type 0} (event other : Event) (old new : Stage D M) (text_old text_new : List ℕ) (r : Result (Result (Option Fault) (Lost D)) E) → event ≡ other
      → IfOk r (SmallEnds told (machines words) read faults size other old new text_old text_new)
      → IfOk r (SmallEnds told (machines words) read faults size event old new text_old text_new)
  ends_as event other old new text_old text_new r same c =
      subst (λ (e : Event). IfOk r (SmallEnds told (machines words) read faults size e old new text_old text_new)) (sym same) c

  pub work_ends : {E : Type 0} (worker : ℕ) (old new : Stage D M) (text_old text_new : List ℕ) (r : Result (Result (Option Fault) (Lost D)) E)
      → IfOk r (EndsIn told (machines words) read faults size Dest (DestDoes (machines words) (acts.Works worker) speakers.Dest None)
      (DestStops (machines words) (acts.Works worker) speakers.Dest None) old new text_old text_new)
      → IfOk r (SmallEnds told (machines words) read faults size (kinds.Work worker) old new text_old text_new)
  work_ends worker old new text_old text_new (Ok (Ok fault)) c = work_by worker old new text_old text_new (faults_named fault) c
  work_ends worker old new text_old text_new (Ok (Err lost)) c = (or_left (is_armed lost.side old) false c.0, c.1)
  work_ends worker old new text_old text_new (Err e) c = tt
