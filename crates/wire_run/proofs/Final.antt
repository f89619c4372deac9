-- The event with which a run ends, and whole runs.
use Rattle.std.proofs.Common.{◌≡◌, ◌⊎◌, inl, inr, ℕ, ◌+◌, ◌≤◌, Bool, true, false, nat_lt, Option, None, Some, is_none, List, [], ◌∷◌, ◌++◌, length, refl, sym, ap, subst, ◌∙◌, append_assoc, append-nil, arith, IsTrue}
use Rattle.std.proofs.KnownBytes.{Appends-trans}
use Rattle.std.specs.Io.KnownBytes.{Appends, Keeps}
use Rattle.std.specs.Option.{option_or}
use Rattle.std.specs.Prelude.{if◌then◌else◌}
use Rattle.block_file.specs.Layout.{blocks_of}
use Rattle.nfs_base.specs.declared.side.Side.{Side}
use Rattle.nfs_base.specs.declared.side.Side.TheVariants.{Source, Dest}
use Rattle.outcome.specs.Causes.{Rose, RoseBy}
use Rattle.streams.specs.FrontLaws.{front_more, front_wider}
use Rattle.streams.specs.Sink.{AppendsFront}
use Rattle.streams.specs.Stream.{Taking}
use Rattle.wire_lines.specs.LineText.{lines_text}
use Rattle.wire_machine.specs.Check.{Reading}
use Rattle.wire_machine.specs.Lines.{lines_of}
use Rattle.wire_machine.specs.Runs.{End, EventGoes, Fault, Mistaken, Numbered, Runs, TooLarge, Whole, end_by, last_line}
use Rattle.wire_machine.specs.Steps.{after_steps}
use Rattle.wire_machine.specs.declared.mistake.Mistake.{Mistake}
use Rattle.run_ends.specs.First.{IsFirst, IsFreshDest, IsFreshSource, Shape}
use Rattle.wire_run.proofs.Asked.{asked_join}
use Rattle.wire_run.specs.Asked.{fuses_behind}
use Rattle.wire_run.specs.Fresh.{Small, event_small, small_for}
use Rattle.wire_run.specs.Run.{CanLose, RanHasCause, RanIs, RanPuts, RunsFront, ScheduleRuns, first_small, volumes_of}
use Rattle.wire_run.specs.Running.{Became, IsCarriedOut, IsLost, Later, LostFor, MakesNone, Running, UnmadeFor, armed_of, disk_of, fault_in, faults_in, mech_of, size_in, text_in}
use Rattle.run_ends.specs.Ends.{RunMachines, RunStep, RunWorld}
use Rattle.wire_run.specs.Trace.{Happens, PutsLines, ended_by}
use Rattle.wire_run.specs.Watching.{no_side}
use Rattle.wire_run.specs.declared.fresh.Unmade.{Unmade}
use Rattle.wire_run.specs.declared.fresh.Unmade.TheVariants as unmade
use Rattle.wire_run.specs.declared.run.Ran.{Ran}
use Rattle.wire_run.specs.declared.run.Ran.TheVariants as ran
use Rattle.wire_run.specs.declared.system.Stepped.{Stepped}
use Rattle.wire_run.specs.declared.system.Stepped.TheVariants as stepped
use Rattle.wire_run.proofs.Ending.{before_of, did_of, none_front, schedule_of, some_front}
use Rattle.wire_run.proofs.Going.{IsWent, kept_rest, lines_more, more_choices, not_early, small_as, there_at, volume_keeps, volume_later, volume_text, went}
use Rattle.wire_run.proofs.Joining.{one_ends, one_runs, runs_join}
use Rattle.wire_run.proofs.EventKinds.{Acts, Makes, in_order, kind_of}
use Rattle.wire_run.proofs.Later.{blamed_join, blamed_none, later_join, later_more, rose_behind}
use Rattle.wire_run.proofs.Middle.{InRun, Moves, Waits, not_both, waits_none}
use Rattle.wire_run.proofs.RunStops.{asked_by, none_more}
use Rattle.wire_run.proofs.Shapes.{idle_world, small_behind}
use Rattle.wire_schedule.specs.Admission.{admits, files_of}
use Rattle.wire_schedule.specs.declared.event.Event.{Event}
use Rattle.wire_schedule.specs.declared.event.Event.TheVariants as kinds

-- nothing was put
pub kept_early : (a b : Option (List ℕ)) → Appends a b [] → Keeps a b
kept_early None b put = tt
kept_early (Some x) None put = put
kept_early (Some x) (Some y) put = put ∙ append-nil x

-- a disk that is too small is that of the event's server
small_side : (side : Side) (size files blocks : ℕ) (small : Small) → small_for side size files blocks ≡ Some small → side ≡ small.side
small_side side size files blocks small is = by_bool (nat_lt size (blocks_of files blocks)) is
  where
    side_or : Option Small → Side
    side_or None = side
    side_or (Some s) = s.side

    by_bool : (b : Bool) → (if b then Some (record { side = side; need = blocks_of files blocks; have = size }) else None) ≡ Some small → side ≡ small.side
    by_bool true is = ap (λ (o : Option Small). side_or o) is
    by_bool false is = absurd (cc)

-- ---- the answer that ends a run

abbrev end_or : Ran → Option Ran → Ran
end_or other None = other
end_or other (Some end) = end

some_is : (a b : Ran) → Some a ≡ Some b → a ≡ b
some_is a b is = ap (λ (o : Option Ran). end_or a o) is

pub rose_later : (begun before later : ℕ) → begun ≤ before → Rose before later → Rose begun later
rose_later begun before later le rose = omega (arith, le, rose)

rose_late : (n a b c : ℕ) → RoseBy n a b → Rose b c → Rose a c
rose_late n a b c first later = omega (arith, first, later)

module _ {D M : Type 0} (told : Type 0) (m : RunMachines M) (read : Reading) (faults size : D → ℕ) where
  -- how a run ended, and why
  pub record Ended (events : List Numbered) (start new : Running D M) (taken now_taken : Option (List ℕ)) (begun later : ℕ) (end : Ran) : Type 0 where
    pub is : RanIs told m read faults size (mech_of start) events start new taken now_taken end
    pub cause : RanHasCause faults start new begun later end

  -- small steps from a first world, whose lines were all put
  pub record RunsBehind (events : List Numbered) (start : Running D M) (steps : List (RunStep M)) (first : RunWorld M) (end : End) (taken out : Option (List ℕ)) : Type 0 where
    pub runs : ScheduleRuns m read (mech_of start) events (did_of steps) end (lines_text (lines_of m first steps)) (length (after_steps first steps).log) (volumes_of m (after_steps first steps))
    pub puts : Appends taken out (lines_text (lines_of m first steps))

  -- ---- a server isn't made

  disk_waits : (done : List Numbered) (steps : List (RunStep M)) (start old : Running D M) (taken now_taken : Option (List ℕ)) (side : Side)
      → Waits told m read faults size done steps start old taken now_taken → is_none (files_of old.context side) ≡ true → disk_of old side ≡ disk_of start side
  disk_waits done steps start old taken now_taken Source waits absent =
      (waits_none told Source (IsFreshSource (mech_of start)) done old.context.source start.source old.source waits.source_state absent waits.source).1
  disk_waits done steps start old taken now_taken Dest waits absent =
      (waits_none told Dest (IsFreshDest (mech_of start)) done old.context.dest start.dest old.dest waits.dest_state absent waits.dest).1

  puts_unmade : (done : List Numbered) (steps : List (RunStep M)) (start old new : Running D M) (taken now_taken : Option (List ℕ)) (e : Numbered) (rest : List Numbered)
      → (side : Side) (files blocks : ℕ) → e.event ≡ kinds.Volume side files blocks → is_none (files_of old.context side) ≡ true
      → Waits told m read faults size done steps start old taken now_taken → first_small (size_in size start.source) (size_in size start.dest) done ≡ None
      → (cause : Unmade) → UnmadeFor told faults size old new (kinds.Volume side files blocks) cause
      → RanPuts told m read (mech_of start) (first_small (size_in size start.source) (size_in size start.dest) (done ++ e ∷ rest)) (done ++ e ∷ rest) (did_of {M = M} [])
      (volumes_of m (idle_world (mech_of start) done)) start new taken now_taken (ran.Unmade cause)
  puts_unmade done steps start old new taken now_taken e rest side files blocks e_is absent waits room unmade.DiskFailed why = kept_early taken now_taken waits.quiet
  puts_unmade done steps start old new taken now_taken e rest side files blocks e_is absent waits room (unmade.TooSmall need have) why =
      let source = waits.source_later in
      let dest = waits.dest_later in
      let at : event_small (size_in size start.source) (size_in size start.dest) e.event ≡ Some (record { side = why.side; need = need; have = have }) =
      small_as (size_in size start.source) (size_in size start.dest) (size_in size old.source) (size_in size old.dest) e.event (sym source.as_large) (sym dest.as_large)
      ∙ (ap (λ (event : Event). event_small (size_in size old.source) (size_in size old.dest) event) e_is ∙ why.small) in
      let same : side ≡ why.side = small_side side _ files blocks (record { side = why.side; need = need; have = have }) why.small in
      record {
        side = why.side;
        is = small_behind (size_in size start.source) (size_in size start.dest) done (e ∷ rest) room
            ∙ ap (λ (o : Option Small). option_or o (first_small (size_in size start.source) (size_in size start.dest) rest)) at;
        puts = kept_early taken now_taken waits.quiet;
        untouched = ap (λ (r : Running D M). disk_of r why.side) why.untouched
            ∙ subst (λ (x : Side). disk_of old x ≡ disk_of start x) same (disk_waits done steps start old taken now_taken side waits absent);
      }
  puts_unmade done steps start old new taken now_taken e rest side files blocks e_is absent waits room (unmade.NotVolume block at) why = (why, kept_early taken now_taken waits.quiet)

  cause_unmade : (start old new : Running D M) (begun later : ℕ) (event : Event) → Later faults size 0 start.source old.source → Later faults size 0 start.dest old.dest
      → (cause : Unmade) → UnmadeFor told faults size old new event cause → RanHasCause faults start new begun later (ran.Unmade cause)
  cause_unmade start old new begun later event source dest unmade.DiskFailed (inl rose) =
      inl (rose_behind (faults_in faults start.source) (faults_in faults old.source) (faults_in faults new.source) source.rose rose)
  cause_unmade start old new begun later event source dest unmade.DiskFailed (inr rose) =
      inr (rose_behind (faults_in faults start.dest) (faults_in faults old.dest) (faults_in faults new.dest) dest.rose rose)
  cause_unmade start old new begun later event source dest (unmade.TooSmall need have) why = tt
  cause_unmade start old new begun later event source dest (unmade.NotVolume block at) why = tt

  ended_unmade : (done : List Numbered) (start old new : Running D M) (taken now_taken : Option (List ℕ)) (begun later : ℕ) (e : Numbered) (rest : List Numbered) (cause : Unmade)
      → Makes told m read faults size (mech_of old) old.context old new e.event (stepped.Unmade cause)
      → (was : InRun told m read faults size done start old taken now_taken)
      → Waits told m read faults size done was.steps start old taken now_taken ⊎ Moves told m read faults size done was.steps start old taken now_taken
      → Ended (done ++ e ∷ rest) start new taken now_taken begun later (ran.Unmade cause)
  ended_unmade done start old new taken now_taken begun later e rest cause kind was (inl waits) =
      let made = kind.made in
      let rests = waits.rest in
      record {
        is = record {
          did = did_of {M = M} [];
          last = volumes_of m (idle_world (mech_of start) done);
          holds = λ t whole. absurd (cc);
          choices = made.3 ∙ rests.choices;
          asked = λ none. refl;
          blamed = blamed_none M;
          source = later_join faults size 0 0 start.source old.source new.source waits.source_later made.1;
          dest = later_join faults size 0 0 start.dest old.dest new.dest waits.dest_later made.2;
          puts = puts_unmade done was.steps start old new taken now_taken e rest kind.side kind.files kind.blocks kind.is kind.absent waits was.room cause made.0;
        };
        cause = cause_unmade start old new begun later (kinds.Volume kind.side kind.files kind.blocks) waits.source_later waits.dest_later cause made.0;
      }
  ended_unmade done start old new taken now_taken begun later e rest cause kind was (inr moves) =
      absurd (not_both (files_of old.context kind.side) kind.absent (there_at kind.side old.context moves.source_there moves.dest_there))

  -- ---- an event of servers that are there: a fault, and lines of which a front was put

  -- how the events end with it
  event_ends : (w : RunWorld M) (e : Numbered) (more : List (RunStep M)) (fault : Option Fault) → EventGoes m read w e.event more fault
      → (end : End) × Runs m read w (e ∷ []) more end
  event_ends w e more None goes = (Whole, one_runs m read w e more goes)
  event_ends w e more (Some fault) goes = (end_by fault e.line, one_ends m read w e [] more fault goes)

  abbrev Carried : (done : List Numbered) (steps : List (RunStep M)) (start old new : Running D M) (taken now : Option (List ℕ)) (e : Numbered) (became : Stepped)
      → Moves told m read faults size done steps start old taken now → Type 0
  Carried done steps start old new taken now e became moves = IsCarriedOut told m read faults size old new (after_steps moves.first steps) e.event became

  -- the end of a run with this event, by what was put
  acts_is : (done : List Numbered) (start old new : Running D M) (taken now out : Option (List ℕ)) (e : Numbered) (rest : List Numbered) (became : Stepped) (end : Ran)
      → (was : InRun told m read faults size done start old taken now) → (moves : Moves told m read faults size done was.steps start old taken now)
      → (carried : Carried done was.steps start old new taken now e became moves) → (end ≡ ran.Whole → ⊥)
      → RanPuts told m read (mech_of start) (first_small (size_in size start.source) (size_in size start.dest) (done ++ e ∷ rest)) (done ++ e ∷ rest)
      (did_of (was.steps ++ carried.steps)) (volumes_of m (after_steps moves.first (was.steps ++ carried.steps))) start new taken out end
      → RanIs told m read faults size (mech_of start) (done ++ e ∷ rest) start new taken out end
  acts_is done start old new taken now out e rest became end was moves carried not_whole puts = record {
    did = did_of (was.steps ++ carried.steps);
    last = volumes_of m (after_steps moves.first (was.steps ++ carried.steps));
    holds = λ t whole. absurd (not_whole whole);
    choices = more_choices old new was.steps carried.steps was.choices carried.choices;
    asked = none_more done e rest old (after_steps moves.first was.steps) was.steps carried.steps was.armed was.asked carried.asked;
    blamed = blamed_join was.steps carried.steps was.blamed carried.blamed;
    source = later_more faults size Source was.steps carried.steps start.source old.source new.source was.source carried.source_later;
    dest = later_more faults size Dest was.steps carried.steps start.dest old.dest new.dest was.dest carried.dest_later;
    puts = puts;
  }

  -- a fault: all lines of what was done were put
  fault_puts : (done : List Numbered) (steps : List (RunStep M)) (start old new : Running D M) (taken now out : Option (List ℕ)) (e : Numbered) (rest : List Numbered) (became : Stepped)
      → (moves : Moves told m read faults size done steps start old taken now) → ((side : Side) → armed_of old side ≡ true → fuses_behind no_side steps side ≡ true)
      → (carried : Carried done steps start old new taken now e became moves) → (fault : Fault) → fault_in became ≡ Some fault → Appends now out (text_in became) → told
      → RunsBehind (done ++ e ∷ rest) start (steps ++ carried.steps) moves.first (end_by fault e.line) taken out
  fault_puts done steps start old new taken now out e rest became moves lit carried fault fault_is put t =
      let first = moves.first in
      let goes : EventGoes m read (after_steps first steps) e.event carried.steps (Some fault) =
      subst (λ (f : Option Fault). EventGoes m read (after_steps first steps) e.event carried.steps f) fault_is (carried.goes t) in
      record {
        runs = schedule_of m read (mech_of start) (done ++ e ∷ rest) first (steps ++ carried.steps) (end_by fault e.line) (moves.is_first t (e ∷ rest))
            (runs_join m read done (e ∷ rest) first steps carried.steps (end_by fault e.line) (moves.runs t)
            (one_ends m read (after_steps first steps) e rest carried.steps fault goes))
            (asked_join no_side first steps carried.steps moves.asked (carried.stops (fuses_behind no_side steps) lit));
        puts = subst (λ (b : List ℕ). Appends taken out b) (lines_more told m read faults size first steps carried.steps (text_in became) (carried.lines t))
            (Appends-trans taken now out (lines_text (lines_of m first steps)) (text_in became) (moves.puts t) put);
      }

  -- a front of them was put
  front_puts : (done : List Numbered) (steps : List (RunStep M)) (start old new : Running D M) (taken now out : Option (List ℕ)) (e : Numbered) (rest : List Numbered) (became : Stepped)
      → (moves : Moves told m read faults size done steps start old taken now) → ((side : Side) → armed_of old side ≡ true → fuses_behind no_side steps side ≡ true)
      → (carried : Carried done steps start old new taken now e became moves) → AppendsFront now out (text_in became) → told → RunsFront m read (mech_of start) (done ++ e ∷ rest) (did_of (steps ++ carried.steps)) taken out
  front_puts done steps start old new taken now out e rest became moves lit carried front t =
      let first = moves.first in
      let lines = lines_text (lines_of m first (steps ++ carried.steps)) in
      let ends = event_ends (after_steps first steps) e carried.steps (fault_in became) (carried.goes t) in
      let all : AppendsFront taken out lines =
      subst (λ (b : List ℕ). AppendsFront taken out b) (lines_more told m read faults size first steps carried.steps (text_in became) (carried.lines t))
      (front_more taken now out (lines_text (lines_of m first steps)) (text_in became) (moves.puts t) front) in
      subst (λ (events : List Numbered). RunsFront m read (mech_of start) events (did_of (steps ++ carried.steps)) taken out) (append_assoc done (e ∷ []) rest)
      (some_front m read (mech_of start) (done ++ e ∷ []) rest first (steps ++ carried.steps) ends.0 taken out (moves.is_first t (e ∷ []))
      (runs_join m read done (e ∷ []) first steps carried.steps ends.0 (moves.runs t) ends.1)
      (asked_join no_side first steps carried.steps moves.asked (carried.stops (fuses_behind no_side steps) lit))
      (front_wider taken out lines (last_line (length (after_steps first (steps ++ carried.steps)).log) ends.0) all))

  -- ---- the event with which a run ends

  -- the sink fails in the lines of an event of servers that are there
  front_ends : (done : List Numbered) (start old new : Running D M) (taken : Option (List ℕ)) (begun : ℕ) (before now : Taking) (e : Numbered) (rest : List Numbered) (became : Stepped)
      → (was : InRun told m read faults size done start old taken before.taken) → (moves : Moves told m read faults size done was.steps start old taken before.taken)
      → Carried done was.steps start old new taken before.taken e became moves → AppendsFront before.taken now.taken (text_in became) → Rose begun now.faults
      → Ended (done ++ e ∷ rest) start new taken now.taken begun now.faults ran.WriteFault
  front_ends done start old new taken begun before now e rest became was moves carried front rose = record {
    is = acts_is done start old new taken before.taken now.taken e rest became ran.WriteFault was moves carried (λ whole. cc)
        (λ t. front_puts done was.steps start old new taken before.taken now.taken e rest became moves was.lit carried front t);
    cause = rose;
  }

  -- a fault ends it
  over_ends : (done : List Numbered) (start old new : Running D M) (taken : Option (List ℕ)) (begun : ℕ) (before now : Taking) (e : Numbered) (rest : List Numbered) (became : Stepped)
      → (was : InRun told m read faults size done start old taken before.taken) → (moves : Moves told m read faults size done was.steps start old taken before.taken)
      → Carried done was.steps start old new taken before.taken e became moves → fault_in became ≡ Some TooLarge → Appends before.taken now.taken (text_in became)
      → Ended (done ++ e ∷ rest) start new taken now.taken begun now.faults (ran.OverLimit e.line)
  over_ends done start old new taken begun before now e rest became was moves carried fault_is put = record {
    is = acts_is done start old new taken before.taken now.taken e rest became (ran.OverLimit e.line) was moves carried (λ whole. cc)
        (λ t.
        let all = fault_puts done was.steps start old new taken before.taken now.taken e rest became moves was.lit carried TooLarge fault_is put t in
        record { lines = _; records = _; runs = all.runs; puts = all.puts });
    cause = tt;
  }

  mistake_ends : (done : List Numbered) (start old new : Running D M) (taken : Option (List ℕ)) (begun : ℕ) (before now : Taking) (e : Numbered) (rest : List Numbered) (became : Stepped)
      → (mistake : Mistake) → (was : InRun told m read faults size done start old taken before.taken)
      → (moves : Moves told m read faults size done was.steps start old taken before.taken)
      → Carried done was.steps start old new taken before.taken e became moves → fault_in became ≡ Some (Mistaken mistake) → Appends before.taken now.taken (text_in became)
      → Ended (done ++ e ∷ rest) start new taken now.taken begun now.faults (ran.Mistaken mistake)
  mistake_ends done start old new taken begun before now e rest became mistake was moves carried fault_is put = record {
    is = acts_is done start old new taken before.taken now.taken e rest became (ran.Mistaken mistake) was moves carried (λ whole. cc)
        (λ t.
        let all = fault_puts done was.steps start old new taken before.taken now.taken e rest became moves was.lit carried (Mistaken mistake) fault_is put t in
        record { lines = _; records = _; runs = all.runs; puts = all.puts });
    cause = tt;
  }

  abbrev EndPut : (before now : Taking) (became : Stepped) (next : Option Ran) (end : Ran) → Type 0
  EndPut before now became next end =
      (Appends before.taken now.taken (text_in became) × (Some end ≡ next))
      ⊎ (AppendsFront before.taken now.taken (text_in became) × Rose before.faults now.faults × (Some end ≡ Some ran.WriteFault))

  acts_ended : (done : List Numbered) (start old new : Running D M) (taken : Option (List ℕ)) (begun : ℕ) (before now : Taking) (e : Numbered) (rest : List Numbered) (end : Ran)
      → (was : InRun told m read faults size done start old taken before.taken) → (moves : Moves told m read faults size done was.steps start old taken before.taken)
      → begun ≤ before.faults → (became : Stepped) → Carried done was.steps start old new taken before.taken e became moves
      → EndPut before now became (ended_by e.line became) end → Ended (done ++ e ∷ rest) start new taken now.taken begun now.faults end
  acts_ended done start old new taken begun before now e rest end was moves le became carried (inr front) =
      subst (λ (r : Ran). Ended (done ++ e ∷ rest) start new taken now.taken begun now.faults r) (sym (some_is end ran.WriteFault front.2))
      (front_ends done start old new taken begun before now e rest became was moves carried front.0 (rose_later begun before.faults now.faults le front.1))
  acts_ended done start old new taken begun before now e rest end was moves le (stepped.Went text) carried (inl all) = let ends = all.1 in absurd (cc)
  acts_ended done start old new taken begun before now e rest end was moves le (stepped.OverLimit text) carried (inl all) =
      subst (λ (r : Ran). Ended (done ++ e ∷ rest) start new taken now.taken begun now.faults r) (sym (some_is end (ran.OverLimit e.line) all.1))
      (over_ends done start old new taken begun before now e rest (stepped.OverLimit text) was moves carried refl all.0)
  acts_ended done start old new taken begun before now e rest end was moves le (stepped.Mistaken text mistake) carried (inl all) =
      subst (λ (r : Ran). Ended (done ++ e ∷ rest) start new taken now.taken begun now.faults r) (sym (some_is end (ran.Mistaken mistake) all.1))
      (mistake_ends done start old new taken begun before now e rest (stepped.Mistaken text mistake) mistake was moves carried refl all.0)
  acts_ended done start old new taken begun before now e rest end was moves le (stepped.Unmade cause) carried (inl all) = absurd carried.made
  acts_ended done start old new taken begun before now e rest end was moves le (stepped.Lost side cause) carried (inl all) = absurd carried.made

  -- ---- a server is lost

  can_lose : (a b : Option D) (cause : Unmade) → LostFor told faults a b cause → CanLose told cause
  can_lose a b unmade.DiskFailed why = tt
  can_lose a b (unmade.TooSmall need have) why = why
  can_lose a b (unmade.NotVolume block at) why = why

  cause_lost : (n k : ℕ) (start old new : Running D M) (begun later : ℕ) → Later faults size n start.source old.source → Later faults size k start.dest old.dest
      → (side : Side) (cause : Unmade) → LostFor told faults (disk_of old side) (disk_of new side) cause → RanHasCause faults start new begun later (ran.Lost cause)
  cause_lost n k start old new begun later source dest Source unmade.DiskFailed why =
      inl (rose_late n (faults_in faults start.source) (faults_in faults old.source) (faults_in faults new.source) source.rose why)
  cause_lost n k start old new begun later source dest Dest unmade.DiskFailed why =
      inr (rose_late k (faults_in faults start.dest) (faults_in faults old.dest) (faults_in faults new.dest) dest.rose why)
  cause_lost n k start old new begun later source dest side (unmade.TooSmall need have) why = tt
  cause_lost n k start old new begun later source dest side (unmade.NotVolume block at) why = tt

  lost_ends : (done : List Numbered) (start old new : Running D M) (taken : Option (List ℕ)) (begun later : ℕ) (now : Option (List ℕ)) (e : Numbered) (rest : List Numbered) (side : Side)
      (cause : Unmade) → (was : InRun told m read faults size done start old taken now) → (moves : Moves told m read faults size done was.steps start old taken now)
      → IsLost told m read faults size old new (after_steps moves.first was.steps) e.event side cause
      → Ended (done ++ e ∷ rest) start new taken now begun later (ran.Lost cause)
  lost_ends done start old new taken begun later now e rest side cause was moves lost =
      let first = moves.first in
      record {
        is = record {
          did = did_of (was.steps ++ lost.steps);
          last = volumes_of m (after_steps moves.first was.steps);
          holds = λ t whole. absurd (cc);
          choices = more_choices old new was.steps lost.steps was.choices lost.choices;
          asked = none_more done e rest old (after_steps moves.first was.steps) was.steps lost.steps was.armed was.asked lost.never;
          blamed = blamed_join was.steps lost.steps was.blamed lost.blamed;
          source = later_more faults size Source was.steps lost.steps start.source old.source new.source was.source lost.source_later;
          dest = later_more faults size Dest was.steps lost.steps start.dest old.dest new.dest was.dest lost.dest_later;
          puts = (
            can_lose (disk_of old side) (disk_of new side) cause lost.why,
            asked_by done old was.armed e rest side lost.asked,
            moves.lines,
            moves.appended,
            λ t.
                before_of m read (mech_of start) done (e ∷ rest) first was.steps moves.lines
                (subst (λ (events : List Numbered). IsFirst (mech_of start) events first) (append-nil done) (moves.is_first t [])) (moves.runs t) moves.asked (moves.lines_are t),
          );
        };
        cause = cause_lost _ _ start old new begun later was.source was.dest side cause lost.why;
      }

  -- the sink fails behind a server that was made: there was nothing to put
  made_ended : (done : List Numbered) (start old new : Running D M) (taken : Option (List ℕ)) (begun : ℕ) (before now : Taking) (e : Numbered) (rest : List Numbered) (became : Stepped)
      → IsWent became → Makes told m read faults size (mech_of old) old.context old new e.event became
      → (was : InRun told m read faults size done start old taken before.taken)
      → Waits told m read faults size done was.steps start old taken before.taken ⊎ Moves told m read faults size done was.steps start old taken before.taken
      → AppendsFront before.taken now.taken (text_in became) → Rose begun now.faults → Ended (done ++ e ∷ rest) start new taken now.taken begun now.faults ran.WriteFault
  made_ended done start old new taken begun before now e rest became went kind was (inl waits) front rose =
      let shape : Shape = record { files = kind.files; blocks = kind.blocks } in
      let event = kinds.Volume kind.side kind.files kind.blocks in
      let laters = volume_later told faults size (mech_of old) kind.side shape old new event became kind.made in
      let kept = kept_rest (mech_of start) kind.side old new (volume_keeps told faults size (mech_of old) kind.side shape old new event became went kind.made) waits.rest in
      let none : text_in became ≡ [] = volume_text told faults size (mech_of old) kind.side shape old new event became went kind.made in
      let all : AppendsFront taken now.taken [] =
      front_more taken before.taken now.taken [] [] waits.quiet (subst (λ (b : List ℕ). AppendsFront before.taken now.taken b) none front) in
      record {
        is = record {
          did = did_of {M = M} [];
          last = volumes_of m (idle_world (mech_of start) done);
          holds = λ t whole. absurd (cc);
          choices = kept.choices;
          asked = λ none. refl;
          blamed = blamed_none M;
          source = later_join faults size 0 0 start.source old.source new.source waits.source_later laters.0;
          dest = later_join faults size 0 0 start.dest old.dest new.dest waits.dest_later laters.1;
          puts = λ t. none_front m read (mech_of start) (done ++ e ∷ rest) taken now.taken all;
        };
        cause = rose;
      }
  made_ended done start old new taken begun before now e rest became went kind was (inr moves) front rose =
      absurd (not_both (files_of old.context kind.side) kind.absent (there_at kind.side old.context moves.source_there moves.dest_there))

  abbrev Kind : (old new : Running D M) → Numbered → Stepped → Type 0
  Kind old new e became = Makes told m read faults size (mech_of old) old.context old new e.event became ⊎ Acts told m read faults size old.context old new e.event became

  carried_by : (old new : Running D M) (w : RunWorld M) (event : Event) (became : Stepped) → MakesNone became → Became told m read faults size old new w event became
      → IsCarriedOut told m read faults size old new w event became
  carried_by old new w event (stepped.Went text) made is = is
  carried_by old new w event (stepped.OverLimit text) made is = is
  carried_by old new w event (stepped.Mistaken text mistake) made is = is
  carried_by old new w event (stepped.Unmade cause) made is = absurd made
  carried_by old new w event (stepped.Lost side cause) made is = absurd made

  -- servers that are there: the run moves
  ended_acts : (done : List Numbered) (start old new : Running D M) (taken : Option (List ℕ)) (begun : ℕ) (before now : Taking) (e : Numbered) (rest : List Numbered) (end : Ran)
      → begun ≤ before.faults → (became : Stepped) → MakesNone became → Acts told m read faults size old.context old new e.event became
      → (was : InRun told m read faults size done start old taken before.taken)
      → Waits told m read faults size done was.steps start old taken before.taken ⊎ Moves told m read faults size done was.steps start old taken before.taken
      → EndPut before now became (ended_by e.line became) end → Ended (done ++ e ∷ rest) start new taken now.taken begun now.faults end
  ended_acts done start old new taken begun before now e rest end le became made kind was (inl waits) puts = absurd (not_early old.context waits.early kind.ready)
  ended_acts done start old new taken begun before now e rest end le became made kind was (inr moves) puts =
      acts_ended done start old new taken begun before now e rest end was moves le became
      (carried_by old new (after_steps moves.first was.steps) e.event became made (kind.is (after_steps moves.first was.steps) moves.world)) puts

  ended_lost : (done : List Numbered) (start old new : Running D M) (taken : Option (List ℕ)) (begun later : ℕ) (now : Option (List ℕ)) (e : Numbered) (rest : List Numbered) (side : Side)
      (cause : Unmade) → Acts told m read faults size old.context old new e.event (stepped.Lost side cause)
      → (was : InRun told m read faults size done start old taken now)
      → Waits told m read faults size done was.steps start old taken now ⊎ Moves told m read faults size done was.steps start old taken now
      → Ended (done ++ e ∷ rest) start new taken now begun later (ran.Lost cause)
  ended_lost done start old new taken begun later now e rest side cause kind was (inl waits) = absurd (not_early old.context waits.early kind.ready)
  ended_lost done start old new taken begun later now e rest side cause kind was (inr moves) =
      lost_ends done start old new taken begun later now e rest side cause was moves (kind.is (after_steps moves.first was.steps) moves.world)

  ended_by_kind : (done : List Numbered) (start old new : Running D M) (taken : Option (List ℕ)) (begun : ℕ) (before now : Taking) (e : Numbered) (rest : List Numbered) (end : Ran)
      → begun ≤ before.faults → InRun told m read faults size done start old taken before.taken → (became : Stepped) → Kind old new e became
      → PutsLines e.line became before now (Some end) → Ended (done ++ e ∷ rest) start new taken now.taken begun now.faults end
  ended_by_kind done start old new taken begun before now e rest end le was (stepped.Went text) (inl kind) puts = by_put puts.put
    where
      by_put : EndPut before now (stepped.Went text) None end → Ended (done ++ e ∷ rest) start new taken now.taken begun now.faults end
      by_put (inl all) = let ends = all.1 in absurd (cc)
      by_put (inr front) =
          subst (λ (r : Ran). Ended (done ++ e ∷ rest) start new taken now.taken begun now.faults r) (sym (some_is end ran.WriteFault front.2))
          (made_ended done start old new taken begun before now e rest (stepped.Went text) tt kind was was.stands front.0 (rose_later begun before.faults now.faults le front.1))
  ended_by_kind done start old new taken begun before now e rest end le was (stepped.OverLimit text) (inl kind) puts = absurd kind.made
  ended_by_kind done start old new taken begun before now e rest end le was (stepped.Mistaken text mistake) (inl kind) puts = absurd kind.made
  ended_by_kind done start old new taken begun before now e rest end le was (stepped.Unmade cause) (inl kind) puts =
      subst (λ (r : Ran). Ended (done ++ e ∷ rest) start new taken now.taken begun now.faults r) (sym (some_is end (ran.Unmade cause) puts.1))
      (subst (λ (k : Taking). Ended (done ++ e ∷ rest) start new taken k.taken begun now.faults (ran.Unmade cause)) (sym puts.0)
      (ended_unmade done start old new taken before.taken begun now.faults e rest cause kind was was.stands))
  ended_by_kind done start old new taken begun before now e rest end le was (stepped.Lost side cause) (inl kind) puts = absurd kind.made
  ended_by_kind done start old new taken begun before now e rest end le was (stepped.Went text) (inr kind) puts =
      ended_acts done start old new taken begun before now e rest end le (stepped.Went text) tt kind was was.stands puts.put
  ended_by_kind done start old new taken begun before now e rest end le was (stepped.OverLimit text) (inr kind) puts =
      ended_acts done start old new taken begun before now e rest end le (stepped.OverLimit text) tt kind was was.stands puts.put
  ended_by_kind done start old new taken begun before now e rest end le was (stepped.Mistaken text mistake) (inr kind) puts =
      ended_acts done start old new taken begun before now e rest end le (stepped.Mistaken text mistake) tt kind was was.stands puts.put
  ended_by_kind done start old new taken begun before now e rest end le was (stepped.Unmade cause) (inr kind) puts = absurd (unmade_acts was.stands)
    where
      unmade_acts : Waits told m read faults size done was.steps start old taken before.taken ⊎ Moves told m read faults size done was.steps start old taken before.taken → ⊥
      unmade_acts (inl waits) = not_early old.context waits.early kind.ready
      unmade_acts (inr moves) = let carried = kind.is (after_steps moves.first was.steps) moves.world in carried.made
  ended_by_kind done start old new taken begun before now e rest end le was (stepped.Lost side cause) (inr kind) puts =
      subst (λ (r : Ran). Ended (done ++ e ∷ rest) start new taken now.taken begun now.faults r) (sym (some_is end (ran.Lost cause) puts.1))
      (subst (λ (k : Taking). Ended (done ++ e ∷ rest) start new taken k.taken begun now.faults (ran.Lost cause)) (sym puts.0)
      (ended_lost done start old new taken begun now.faults before.taken e rest side cause kind was was.stands))

  pub ended : (done : List Numbered) (start old new : Running D M) (taken : Option (List ℕ)) (begun : ℕ) (before now : Taking) (e : Numbered) (rest : List Numbered) (end : Ran)
      → begun ≤ before.faults → InRun told m read faults size done start old taken before.taken → IsTrue (admits old.context e.event)
      → Happens told m read faults size e old new before now (Some end) → Ended (done ++ e ∷ rest) start new taken now.taken begun now.faults end
  ended done start old new taken begun before now e rest end le was admitted happens =
      ended_by_kind done start old new taken begun before now e rest end le was happens.became
      (kind_of told m read faults size (mech_of old) old.context old new e.event happens.became (in_order old.context e.event admitted) happens.is) happens.puts
