-- What was put of a run: all lines of its small steps, or a front of them.
use Rattle.std.proofs.Common.{◌≡◌, ◌⊎◌, inl, inr, ℕ, ◌+◌, ◌*◌, true, false, Option, None, Some, List, [], ◌∷◌, ◌++◌, length, take, map, refl, sym, ap, subst, ◌∙◌, append-nil}
use Rattle.std.proofs.KnownBytes.{Appends-trans}
use Rattle.std.specs.Io.KnownBytes.{Appends}
use Rattle.std.specs.Option.{option_map}
use Rattle.copy_model.specs.Volume.{Volume, formatted}
use Rattle.dest_core.specs.Stepping.{DestState}
use Rattle.nfs_base.specs.declared.side.Side.{Side}
use Rattle.nfs_base.specs.declared.side.Side.TheVariants.{Source, Dest}
use Rattle.streams.specs.FrontLaws.{front_all, front_more, front_wider}
use Rattle.streams.specs.Sink.{AppendsFront}
use Rattle.wire_lines.specs.LineText.{lines_text}
use Rattle.wire_machine.specs.Check.{Reading}
use Rattle.wire_machine.specs.Lines.{lines_of}
use Rattle.wire_machine.specs.Runs.{End, Numbered, Runs, Whole, last_line}
use Rattle.wire_machine.specs.Steps.{after_steps}
use Rattle.wire_machine.specs.World.{Posted}
use Rattle.run_ends.specs.Ends.{RunMachines, RunStep, RunWorld, SourceState}
use Rattle.run_ends.specs.First.{IsFirst, IsFreshDest, IsFreshSource, shape_of}
use Rattle.wire_run.specs.Asked.{StopsAreAsked}
use Rattle.wire_run.specs.Run.{Did, IsBefore, RanIs, RanOut, RunsFront, ScheduleRuns, asks_for, volume_in, volumes_of}
use Rattle.wire_run.specs.Running.{Running, failed_calls, mech_of, world_by}
use Rattle.wire_run.specs.System.{shown_at}
use Rattle.wire_run.specs.Watching.{no_side}
use Rattle.wire_run.specs.declared.run.Ran.TheVariants as ran
use Rattle.wire_run.proofs.Middle.{EndWaits, InRun, Moves, Waits}
use Rattle.wire_run.proofs.Shapes.{idle_first, idle_world}

-- what the disks did in small steps
abbrev pub did_of : {M : Type 0} → List (RunStep M) → Did
did_of {M = M} steps = record { choices = map (λ (s : RunStep M). s.choice) steps; failed = λ side. failed_calls side steps }

take_front : {A : Type 0} (xs ys : List A) → take (length xs) (xs ++ ys) ≡ xs
take_front [] ys = refl
take_front {A = A} (x ∷ xs) ys = ap (λ (l : List A). x ∷ l) (take_front xs ys)

-- a world's volumes are read off its servers
pub record ReadsVolumes {M : Type 0} (m : RunMachines M) : Type 0 where
  pub source : (s : SourceState M) → m.source_volume s ≡ s.state.machine.store.volume
  pub dest : (s : DestState M) → m.dest_volume s ≡ s.state.machine.store.volume

module _ {M : Type 0} (m : RunMachines M) (read : Reading) where
  pub schedule_of : (mech : M) (events : List Numbered) (first : RunWorld M) (steps : List (RunStep M)) (end : End) → IsFirst mech events first
      → Runs m read first events steps end → StopsAreAsked no_side first steps
      → ScheduleRuns m read mech events (did_of steps) end (lines_text (lines_of m first steps)) (length (after_steps first steps).log) (volumes_of m (after_steps first steps))
  schedule_of mech events first steps end is_first runs asked = record {
    first = first;
    is_first = is_first;
    steps = steps;
    runs = runs;
    asked = asked;
    choices = refl;
    failed = λ side. refl;
    lines_are = refl;
    records_are = refl;
    last_are = refl;
  }

  -- nothing was put yet
  pub none_front : (mech : M) (events : List Numbered) (taken now : Option (List ℕ)) → AppendsFront taken now [] → RunsFront m read mech events (did_of {M = M} []) taken now
  none_front mech events taken now front =
      let first = idle_world mech [] in
      record {
        done = 0;
        end = Whole;
        lines = [];
        records = 0;
        last = volumes_of m first;
        runs = schedule_of mech [] first [] Whole (idle_first mech []) (refl, refl) tt;
        puts = front_wider taken now [] (last_line 0 Whole) front;
      }

  -- a front of what these events put, whatever comes behind them
  pub some_front : (mech : M) (done rest : List Numbered) (first : RunWorld M) (steps : List (RunStep M)) (end : End) (taken now : Option (List ℕ))
      → IsFirst mech done first → Runs m read first done steps end → StopsAreAsked no_side first steps
      → AppendsFront taken now (lines_text (lines_of m first steps) ++ last_line (length (after_steps first steps).log) end)
      → RunsFront m read mech (done ++ rest) (did_of steps) taken now
  some_front mech done rest first steps end taken now is_first runs asked front = record {
    done = length done;
    end = end;
    lines = lines_text (lines_of m first steps);
    records = length (after_steps first steps).log;
    last = volumes_of m (after_steps first steps);
    runs = subst (λ (events : List Numbered). ScheduleRuns m read mech events (did_of steps) end (lines_text (lines_of m first steps)) (length (after_steps first steps).log) (volumes_of m (after_steps first steps)))
        (sym (take_front done rest)) (schedule_of mech done first steps end is_first runs asked);
    puts = front;
  }

  -- all of it
  pub before_of : (mech : M) (done rest : List Numbered) (first : RunWorld M) (steps : List (RunStep M)) (lines : List ℕ) → IsFirst mech done first
      → Runs m read first done steps Whole → StopsAreAsked no_side first steps → lines ≡ lines_text (lines_of m first steps) → IsBefore m read mech (done ++ rest) lines
  before_of mech done rest first steps lines is_first runs asked lines_are = record {
    done = length done;
    did = did_of steps;
    records = length (after_steps first steps).log;
    last = volumes_of m (after_steps first steps);
    runs = subst (λ (events : List Numbered). ScheduleRuns m read mech events (did_of steps) Whole lines (length (after_steps first steps).log) (volumes_of m (after_steps first steps)))
        (sym (take_front done rest))
        (subst (λ (b : List ℕ). ScheduleRuns m read mech done (did_of steps) Whole b (length (after_steps first steps).log) (volumes_of m (after_steps first steps)))
        (sym lines_are) (schedule_of mech done first steps Whole is_first runs asked));
  }

  -- ---- what is shown of the servers of a world

  pub shown_of : {D : Type 0} → ReadsVolumes m → (source : Option (SourceState M)) (dest : Option (DestState M)) (r : Running D M) (w : RunWorld M)
      → world_by source dest r ≡ Some w → (side : Side) → shown_at source dest side ≡ Some (volume_in (volumes_of m w) side)
  shown_of reads (Some s) (Some d) r w is Source =
      sym (ap (λ (v : Volume). Some v) (reads.source s)) ∙ ap (λ (o : Option (RunWorld M)). option_map (λ (x : RunWorld M). m.source_volume x.source) o) is
  shown_of reads (Some s) (Some d) r w is Dest =
      sym (ap (λ (v : Volume). Some v) (reads.dest d)) ∙ ap (λ (o : Option (RunWorld M)). option_map (λ (x : RunWorld M). m.dest_volume x.dest) o) is
  shown_of reads (Some s) None r w is side = absurd (cc)
  shown_of reads None dest r w is side = absurd (cc)

  -- of servers that are new
  idle_source : (mech : M) (done : List Numbered) (told : Type 0) (files : Option ℕ) {D : Type 0} (start now : Option D) (source : Option (SourceState M))
      → ReadsVolumes m → told → EndWaits told Source (IsFreshSource mech) done files start now source → asks_for Source done ≡ true
      → option_map (λ (s : SourceState M). s.state.machine.store.volume) source ≡ Some (m.source_volume (idle_world mech done).source)
  idle_source mech done told files start now None reads t waits asks = let both : false ≡ true = sym waits.2 ∙ asks in absurd (cc)
  idle_source mech done told files start now (Some s) reads t waits asks =
      let fresh = waits.1 t [] in
      ap (λ (v : Volume). Some v)
      (fresh.volume
      ∙ (ap (λ (events : List Numbered). let shape = shape_of Source events in formatted shape.files (shape.blocks * 4096)) (append-nil done)
      ∙ sym (reads.source (idle_world mech done).source)))

  idle_dest : (mech : M) (done : List Numbered) (told : Type 0) (files : Option ℕ) {D : Type 0} (start now : Option D) (dest : Option (DestState M))
      → ReadsVolumes m → told → EndWaits told Dest (IsFreshDest mech) done files start now dest → asks_for Dest done ≡ true
      → option_map (λ (s : DestState M). s.state.machine.store.volume) dest ≡ Some (m.dest_volume (idle_world mech done).dest)
  idle_dest mech done told files start now None reads t waits asks = let both : false ≡ true = sym waits.2 ∙ asks in absurd (cc)
  idle_dest mech done told files start now (Some s) reads t waits asks =
      let fresh = waits.1 t [] in
      ap (λ (v : Volume). Some v)
      (fresh.volume
      ∙ (ap (λ (events : List Numbered). let shape = shape_of Dest events in formatted shape.files (shape.blocks * 4096)) (append-nil done)
      ∙ sym (reads.dest (idle_world mech done).dest)))

module _ {D M : Type 0} (told : Type 0) (m : RunMachines M) (read : Reading) (faults size : D → ℕ) where
  -- ---- memory ran out

  starved_by : (done rest : List Numbered) (steps : List (RunStep M)) (start now : Running D M) (taken now_taken : Option (List ℕ))
      → Waits told m read faults size done steps start now taken now_taken ⊎ Moves told m read faults size done steps start now taken now_taken
      → told → RunsFront m read (mech_of start) (done ++ rest) (did_of steps) taken now_taken
  starved_by done rest steps start now taken now_taken (inl waits) t =
      subst (λ (xs : List (RunStep M)). RunsFront m read (mech_of start) (done ++ rest) (did_of xs) taken now_taken) (sym waits.none)
      (none_front m read (mech_of start) (done ++ rest) taken now_taken (front_all taken now_taken [] waits.quiet))
  starved_by done rest steps start now taken now_taken (inr moves) t =
      let first = moves.first in
      let lines = lines_text (lines_of m first steps) in
      some_front m read (mech_of start) done rest first steps Whole taken now_taken
      (subst (λ (events : List Numbered). IsFirst (mech_of start) events first) (append-nil done) (moves.is_first t [])) (moves.runs t) moves.asked
      (front_wider taken now_taken lines (last_line (length (after_steps first steps).log) Whole) (front_all taken now_taken lines (moves.puts t)))

  pub starved : (done rest : List Numbered) (start now : Running D M) (taken now_taken : Option (List ℕ))
      → InRun told m read faults size done start now taken now_taken → RanOut told m read (mech_of start) (done ++ rest) taken now_taken
  starved done rest start now taken now_taken was = record {
    did = did_of was.steps;
    puts = λ t. starved_by done rest was.steps start now taken now_taken was.stands t;
  }

  -- ---- all was carried out, and the last line failed

  records_in : (done : List Numbered) (steps : List (RunStep M)) (start now : Running D M) (taken now_taken : Option (List ℕ))
      → (moves : Moves told m read faults size done steps start now taken now_taken) → length now.log ≡ length (after_steps moves.first steps).log
  records_in done steps start now taken now_taken moves = log_in now.source_state now.dest_state moves.world
    where
      log_or : Option (RunWorld M) → ℕ
      log_or None = 0
      log_or (Some w) = length w.log

      log_in : (source : Option (SourceState M)) (dest : Option (DestState M)) → world_by source dest now ≡ Some (after_steps moves.first steps)
          → length now.log ≡ length (after_steps moves.first steps).log
      log_in (Some s) (Some d) is = ap (λ (o : Option (RunWorld M)). log_or o) is
      log_in (Some s) None is = absurd (cc)
      log_in None dest is = absurd (cc)

  ended_front : (done : List Numbered) (steps : List (RunStep M)) (start now : Running D M) (taken now_taken out : Option (List ℕ))
      → Waits told m read faults size done steps start now taken now_taken ⊎ Moves told m read faults size done steps start now taken now_taken
      → AppendsFront now_taken out (last_line (length now.log) Whole) → told → RunsFront m read (mech_of start) done (did_of steps) taken out
  ended_front done steps start now taken now_taken out (inl waits) front t =
      let rest = waits.rest in
      let first = idle_world (mech_of start) done in
      let last : AppendsFront taken out (last_line 0 Whole) =
      subst (λ (log : List Posted). AppendsFront taken out (last_line (length log) Whole)) rest.log
      (front_more taken now_taken out [] (last_line (length now.log) Whole) waits.quiet front) in
      subst (λ (xs : List (RunStep M)). RunsFront m read (mech_of start) done (did_of xs) taken out) (sym waits.none)
      (subst (λ (events : List Numbered). RunsFront m read (mech_of start) events (did_of {M = M} []) taken out) (append-nil done)
      (some_front m read (mech_of start) done [] first [] Whole taken out (idle_first (mech_of start) done) (waits.idle first) tt last))
  ended_front done steps start now taken now_taken out (inr moves) front t =
      let first = moves.first in
      let lines = lines_text (lines_of m first steps) in
      let last = last_line (length (after_steps first steps).log) Whole in
      let behind : AppendsFront now_taken out last =
      subst (λ (n : ℕ). AppendsFront now_taken out (last_line n Whole)) (records_in done steps start now taken now_taken moves) front in
      subst (λ (events : List Numbered). RunsFront m read (mech_of start) events (did_of steps) taken out) (append-nil done)
      (some_front m read (mech_of start) done [] first steps Whole taken out
      (subst (λ (events : List Numbered). IsFirst (mech_of start) events first) (append-nil done) (moves.is_first t [])) (moves.runs t) moves.asked
      (front_more taken now_taken out lines last (moves.puts t) behind))

  pub failed_last : (done : List Numbered) (start now : Running D M) (taken now_taken out : Option (List ℕ))
      → InRun told m read faults size done start now taken now_taken → AppendsFront now_taken out (last_line (length now.log) Whole)
      → RanIs told m read faults size (mech_of start) done start now taken out ran.WriteFault
  failed_last done start now taken now_taken out was front = record {
    did = did_of was.steps;
    last = volumes_of m (idle_world (mech_of start) done);
    holds = λ t whole. absurd (cc);
    choices = was.choices;
    asked = was.asked;
    blamed = was.blamed;
    source = was.source;
    dest = was.dest;
    puts = ended_front done was.steps start now taken now_taken out was.stands front;
  }

  -- ---- all was carried out and put

  whole_waits : ReadsVolumes m → (done : List Numbered) (start now : Running D M) (taken now_taken out : Option (List ℕ))
      → (was : InRun told m read faults size done start now taken now_taken) → Waits told m read faults size done was.steps start now taken now_taken
      → Appends now_taken out (last_line (length now.log) Whole) → RanIs told m read faults size (mech_of start) done start now taken out ran.Whole
  whole_waits reads done start now taken now_taken out was waits put =
      let rest = waits.rest in
      let first = idle_world (mech_of start) done in
      record {
        did = did_of was.steps;
        last = volumes_of m first;
        holds = λ t whole side asks. shown t side asks;
        choices = was.choices;
        asked = was.asked;
        blamed = was.blamed;
        source = was.source;
        dest = was.dest;
        puts = (
          was.room,
          λ t. (
            record {
              lines = [];
              records = 0;
              runs = subst (λ (xs : List (RunStep M)). ScheduleRuns m read (mech_of start) done (did_of xs) Whole [] 0 (volumes_of m first)) (sym waits.none)
                  (schedule_of m read (mech_of start) done first [] Whole (idle_first (mech_of start) done) (waits.idle first) tt);
              puts = subst (λ (log : List Posted). Appends taken out (last_line (length log) Whole)) rest.log
                  (Appends-trans taken now_taken out [] (last_line (length now.log) Whole) waits.quiet put);
            },
            sym (ap (λ (log : List Posted). length log) rest.log),
          ),
        );
      }
    where
      shown : told → (side : Side) → asks_for side done ≡ true
          → shown_at now.source_state now.dest_state side ≡ Some (volume_in (volumes_of m (idle_world (mech_of start) done)) side)
      shown t Source asks =
          ap (λ (o : Option (SourceState M)). option_map (λ (s : SourceState M). s.state.machine.store.volume) o) waits.source_is
          ∙ idle_source m read (mech_of start) done told now.context.source start.source now.source waits.source_state reads t waits.source asks
      shown t Dest asks =
          ap (λ (o : Option (DestState M)). option_map (λ (s : DestState M). s.state.machine.store.volume) o) waits.dest_is
          ∙ idle_dest m read (mech_of start) done told now.context.dest start.dest now.dest waits.dest_state reads t waits.dest asks

  whole_moves : ReadsVolumes m → (done : List Numbered) (start now : Running D M) (taken now_taken out : Option (List ℕ))
      → (was : InRun told m read faults size done start now taken now_taken) → Moves told m read faults size done was.steps start now taken now_taken
      → Appends now_taken out (last_line (length now.log) Whole) → RanIs told m read faults size (mech_of start) done start now taken out ran.Whole
  whole_moves reads done start now taken now_taken out was moves put =
      let first = moves.first in
      let lines = lines_text (lines_of m first was.steps) in
      record {
        did = did_of was.steps;
        last = volumes_of m (after_steps first was.steps);
        holds = λ t whole side asks. shown_of m read reads now.source_state now.dest_state now (after_steps first was.steps) moves.world side;
        choices = was.choices;
        asked = was.asked;
        blamed = was.blamed;
        source = was.source;
        dest = was.dest;
        puts = (
          was.room,
          λ t. (
            record {
              lines = lines;
              records = length (after_steps first was.steps).log;
              runs = schedule_of m read (mech_of start) done first was.steps Whole
                  (subst (λ (events : List Numbered). IsFirst (mech_of start) events first) (append-nil done) (moves.is_first t [])) (moves.runs t) moves.asked;
              puts = Appends-trans taken now_taken out lines (last_line (length (after_steps first was.steps).log) Whole) (moves.puts t)
                  (subst (λ (n : ℕ). Appends now_taken out (last_line n Whole)) (records_in done was.steps start now taken now_taken moves) put);
            },
            sym (records_in done was.steps start now taken now_taken moves),
          ),
        );
      }

  whole_by : ReadsVolumes m → (done : List Numbered) (start now : Running D M) (taken now_taken out : Option (List ℕ))
      → (was : InRun told m read faults size done start now taken now_taken)
      → Waits told m read faults size done was.steps start now taken now_taken ⊎ Moves told m read faults size done was.steps start now taken now_taken
      → Appends now_taken out (last_line (length now.log) Whole) → RanIs told m read faults size (mech_of start) done start now taken out ran.Whole
  whole_by reads done start now taken now_taken out was (inl waits) put = whole_waits reads done start now taken now_taken out was waits put
  whole_by reads done start now taken now_taken out was (inr moves) put = whole_moves reads done start now taken now_taken out was moves put

  pub whole : ReadsVolumes m → (done : List Numbered) (start now : Running D M) (taken now_taken out : Option (List ℕ))
      → InRun told m read faults size done start now taken now_taken → Appends now_taken out (last_line (length now.log) Whole)
      → RanIs told m read faults size (mech_of start) done start now taken out ran.Whole
  whole reads done start now taken now_taken out was put = whole_by reads done start now taken now_taken out was was.stands put
