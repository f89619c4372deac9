-- One event more is carried out in a run: it waits on, begins to move, or moves on.
use Rattle.std.proofs.Common.{◌≡◌, ◌⊎◌, inl, inr, ℕ, true, false, Option, None, Some, is_some, is_none, List, [], ◌∷◌, ◌++◌, map, refl, sym, ap, subst, ◌∙◌, append_assoc, IsTrue}
use Rattle.std.proofs.KnownBytes.{Appends-trans}
use Rattle.std.proofs.lemmas.Grind.{flat_map-append}
use Rattle.std.proofs.lemmas.List.{map-append}
use Rattle.std.specs.Io.KnownBytes.{Appends}
use Rattle.std.specs.Option.{option_or}
use Rattle.std.specs.String.{string_bytes}
use Rattle.std.specs.Prelude.{◌||◌}
use Rattle.client_core.specs.State.{ClientState}
use Rattle.dest_core.specs.Stepping.{DestState}
use Rattle.nfs_base.specs.declared.side.Side.{Side}
use Rattle.nfs_base.specs.declared.side.Side.TheVariants.{Source, Dest}
use Rattle.outcome.specs.Causes.{Rose}
use Rattle.streams.specs.Sink.{AppendsFront}
use Rattle.streams.specs.Stream.{Taking}
use Rattle.wire_lines.specs.LineText.{line_text, lines_text}
use Rattle.wire_machine.specs.Check.{Reading}
use Rattle.wire_machine.specs.Lines.{lines_of}
use Rattle.wire_machine.specs.Runs.{EventGoes, Fault, Numbered, Runs, Whole}
use Rattle.wire_machine.specs.Steps.{after_steps}
use Rattle.wire_machine.specs.declared.choice.Choice.{Choice}
use Rattle.run_ends.specs.Ends.{RunMachines, RunStep, RunWorld, SourceState}
use Rattle.run_ends.specs.First.{IsFirst, IsFreshDest, IsFreshSource, Shape, shape_by}
use Rattle.wire_run.proofs.Asked.{asked_join, lit_more}
use Rattle.wire_run.proofs.Flows.{asked_alone}
use Rattle.wire_run.specs.Asked.{StopsAreAsked, fuses_behind}
use Rattle.wire_run.specs.Fresh.{Small, event_small}
use Rattle.wire_run.specs.Run.{first_small}
use Rattle.wire_run.specs.Running.{ArmsRight, Became, IsCarriedOut, KeepsAt, Later, Running, StepIs, VolumeIs, armed_of, context_after, failed_calls, fault_in, mech_of, size_in, text_in}
use Rattle.wire_run.specs.Trace.{Happens, Puts, PutsLines}
use Rattle.wire_run.specs.Watching.{no_side, sets_in}
use Rattle.wire_run.specs.declared.run.Ran.{Ran}
use Rattle.wire_run.specs.declared.run.Ran.TheVariants as ran
use Rattle.wire_run.specs.declared.system.Stepped.{Stepped}
use Rattle.wire_run.specs.declared.system.Stepped.TheVariants as stepped
use Rattle.wire_run.proofs.Joining.{after_join, lines_join, one_runs, runs_join}
use Rattle.wire_run.proofs.EventKinds.{Acts, Makes, in_order, kind_of}
use Rattle.wire_run.proofs.Later.{blamed_join, blamed_none, later_join, later_more}
use Rattle.wire_run.proofs.Middle.{AtRest, InRun, Moves, Waits, not_both, standing, waits_made, waits_none, waits_other, waits_same}
use Rattle.wire_run.proofs.RunStops.{armed_more, none_more}
use Rattle.wire_run.proofs.Shapes.{small_behind}
use Rattle.wire_schedule.specs.Admission.{admits, after, files_of, is_in_order, is_ready}
use Rattle.wire_schedule.specs.declared.context.Context.{Context}
use Rattle.wire_schedule.specs.declared.event.Event.{Event}
use Rattle.wire_schedule.specs.declared.event.Event.TheVariants as kinds

-- ---- disks that are large enough

pub small_more : (source dest : ℕ) (done : List Numbered) (e : Numbered) → first_small source dest done ≡ None → event_small source dest e.event ≡ None
    → first_small source dest (done ++ e ∷ []) ≡ None
small_more source dest done e none is = small_behind source dest done (e ∷ []) none ∙ ap (λ (small : Option Small). option_or small None) is

-- of disks that are as large
pub small_as : (source dest source' dest' : ℕ) (event : Event) → source ≡ source' → dest ≡ dest' → event_small source dest event ≡ event_small source' dest' event
small_as source dest source' dest' event source_is dest_is =
    ap (λ (n : ℕ). event_small n dest event) source_is ∙ ap (λ (n : ℕ). event_small source' n event) dest_is

-- ---- what an event keeps that makes a server

pub kept_rest : {D M : Type 0} (mech : M) (side : Side) (old new : Running D M) → KeepsAt side old new → AtRest mech old → AtRest mech new
kept_rest {D = D} {M = M} mech Source old new keeps was = record {
  client = ap (λ (r : Running D M). r.client) keeps ∙ was.client;
  draws = ap (λ (r : Running D M). r.draws) keeps ∙ was.draws;
  clock = ap (λ (r : Running D M). r.clock) keeps ∙ was.clock;
  log = ap (λ (r : Running D M). r.log) keeps ∙ was.log;
  choices = ap (λ (r : Running D M). r.choices) keeps ∙ was.choices;
}
kept_rest {D = D} {M = M} mech Dest old new keeps was = record {
  client = ap (λ (r : Running D M). r.client) keeps ∙ was.client;
  draws = ap (λ (r : Running D M). r.draws) keeps ∙ was.draws;
  clock = ap (λ (r : Running D M). r.clock) keeps ∙ was.clock;
  log = ap (λ (r : Running D M). r.log) keeps ∙ was.log;
  choices = ap (λ (r : Running D M). r.choices) keeps ∙ was.choices;
}

-- nothing is put of it
pub quiet_more : (taken now out : Option (List ℕ)) (bytes : List ℕ) → bytes ≡ [] → Appends taken now [] → Appends now out bytes → Appends taken out []
quiet_more taken now out bytes none was put = subst (λ (b : List ℕ). Appends taken out b) none (Appends-trans taken now out [] bytes was put)

-- ---- what became of an event

abbrev pub IsWent : Stepped → Type 0
IsWent (stepped.Went text) = Unit {0}
IsWent became = ⊥

went_faultless : (became : Stepped) → IsWent became → fault_in became ≡ None
went_faultless (stepped.Went text) went = refl
went_faultless (stepped.OverLimit text) went = absurd went
went_faultless (stepped.Mistaken text mistake) went = absurd went
went_faultless (stepped.Unmade cause) went = absurd went
went_faultless (stepped.Lost side cause) went = absurd went

-- what was put where the run goes on
all_put : (bytes : List ℕ) (next : Option Ran) (before now : Taking) → Puts bytes next before now None → Appends before.taken now.taken bytes
all_put bytes next before now puts = by_put puts.put
  where
    by_put : (Appends before.taken now.taken bytes × (None ≡ next)) ⊎ (AppendsFront before.taken now.taken bytes × Rose before.faults now.faults × (None ≡ Some ran.WriteFault))
        → Appends before.taken now.taken bytes
    by_put (inl all) = all.0
    by_put (inr front) = let ends = front.2 in absurd (cc)

-- it doesn't where it ends
goes_on : (bytes : List ℕ) (end : Ran) (before now : Taking) → Puts bytes (Some end) before now None → ⊥
goes_on bytes end before now puts = by_put puts.put
  where
    by_put : (Appends before.taken now.taken bytes × (None ≡ Some end)) ⊎ (AppendsFront before.taken now.taken bytes × Rose before.faults now.faults × (None ≡ Some ran.WriteFault)) → ⊥
    by_put (inl all) = let ends = all.1 in absurd (cc)
    by_put (inr front) = let ends = front.2 in absurd (cc)

-- ---- an event that makes a server

module _ {D M : Type 0} (told : Type 0) (faults size : D → ℕ) where
  pub volume_later : (mech : M) (side : Side) (shape : Shape) (old new : Running D M) (event : Event) (became : Stepped)
      → VolumeIs told faults size mech side shape old new event became → Later faults size 0 old.source new.source × Later faults size 0 old.dest new.dest
  volume_later mech side shape old new event (stepped.Went text) made = (made.4, made.5)
  volume_later mech side shape old new event (stepped.OverLimit text) made = absurd made
  volume_later mech side shape old new event (stepped.Mistaken text mistake) made = absurd made
  volume_later mech side shape old new event (stepped.Unmade cause) made = (made.1, made.2)
  volume_later mech side shape old new event (stepped.Lost at cause) made = absurd made

  volume_fits : (mech : M) (side : Side) (shape : Shape) (old new : Running D M) (event : Event) (became : Stepped) → IsWent became
      → VolumeIs told faults size mech side shape old new event became → event_small (size_in size old.source) (size_in size old.dest) event ≡ None
  volume_fits mech side shape old new event (stepped.Went text) went made = made.2
  volume_fits mech side shape old new event (stepped.OverLimit text) went made = absurd went
  volume_fits mech side shape old new event (stepped.Mistaken text mistake) went made = absurd went
  volume_fits mech side shape old new event (stepped.Unmade cause) went made = absurd went
  volume_fits mech side shape old new event (stepped.Lost at cause) went made = absurd went

  pub volume_keeps : (mech : M) (side : Side) (shape : Shape) (old new : Running D M) (event : Event) (became : Stepped) → IsWent became
      → VolumeIs told faults size mech side shape old new event became → KeepsAt side old new
  volume_keeps mech side shape old new event (stepped.Went text) went made = made.1
  volume_keeps mech side shape old new event (stepped.OverLimit text) went made = absurd went
  volume_keeps mech side shape old new event (stepped.Mistaken text mistake) went made = absurd went
  volume_keeps mech side shape old new event (stepped.Unmade cause) went made = absurd went
  volume_keeps mech side shape old new event (stepped.Lost at cause) went made = absurd went

  pub volume_text : (mech : M) (side : Side) (shape : Shape) (old new : Running D M) (event : Event) (became : Stepped) → IsWent became
      → VolumeIs told faults size mech side shape old new event became → text_in became ≡ []
  volume_text mech side shape old new event (stepped.Went text) went made = made.0
  volume_text mech side shape old new event (stepped.OverLimit text) went made = absurd went
  volume_text mech side shape old new event (stepped.Mistaken text mistake) went made = absurd went
  volume_text mech side shape old new event (stepped.Unmade cause) went made = absurd went
  volume_text mech side shape old new event (stepped.Lost at cause) went made = absurd went

-- ---- what a context says of servers that are there

pub not_early : (context : Context) → is_ready context ≡ false → is_ready context ≡ true → ⊥
not_early context early ready = let both : false ≡ true = sym early ∙ ready in absurd (cc)

pub there_at : (side : Side) (context : Context) → is_some context.source ≡ true → is_some context.dest ≡ true → is_some (files_of context side) ≡ true
there_at Source context source dest = source
there_at Dest context source dest = dest

-- what the disks did in one more event
pub more_choices : {D M : Type 0} (old new : Running D M) (steps more : List (RunStep M)) → old.choices ≡ map (λ (s : RunStep M). s.choice) steps
    → new.choices ≡ old.choices ++ map (λ (s : RunStep M). s.choice) more → new.choices ≡ map (λ (s : RunStep M). s.choice) (steps ++ more)
more_choices {M = M} old new steps more was is =
    is
    ∙ (ap (λ (cs : List Choice). cs ++ map (λ (s : RunStep M). s.choice) more) was ∙ sym (map-append (λ (s : RunStep M). s.choice) steps more))

module _ {D M : Type 0} (told : Type 0) (m : RunMachines M) (read : Reading) (faults size : D → ℕ) where
  abbrev WaitsOn : List Numbered → List (RunStep M) → (start now : Running D M) → (taken now_taken : Option (List ℕ)) → Type 0
  WaitsOn done steps start now taken now_taken =
      Waits told m read faults size done steps start now taken now_taken ⊎ Moves told m read faults size done steps start now taken now_taken

  -- no small step is made
  idle_more : (done : List Numbered) (e : Numbered) (side : Side) (files blocks : ℕ) → e.event ≡ kinds.Volume side files blocks
      → ((w : RunWorld M) → Runs m read w done [] Whole) → (w : RunWorld M) → Runs m read w (done ++ e ∷ []) [] Whole
  idle_more done e side files blocks e_is was = λ w.
      let none : EventGoes m read w (kinds.Volume side files blocks) [] None = (refl, refl) in
      runs_join m read done (e ∷ []) w [] [] Whole (was w)
      (one_runs m read w e [] (subst (λ (event : Event). EventGoes m read w event [] None) (sym e_is) none))

  -- the source is made
  next_source : (done : List Numbered) (steps : List (RunStep M)) (start old new : Running D M) (taken now out : Option (List ℕ)) (e : Numbered) (files blocks : ℕ)
      (bytes : List ℕ) → Waits told m read faults size done steps start old taken now → e.event ≡ kinds.Volume Source files blocks
      → is_none old.context.source ≡ true → KeepsAt Source old new
      → (s : SourceState M) → new.source_state ≡ Some s → (told → IsFreshSource (mech_of old) (record { files = files; blocks = blocks }) s)
      → new.context ≡ after old.context e.event → bytes ≡ [] → Appends now out bytes
      → Later faults size 0 start.source new.source → Later faults size 0 start.dest new.dest
      → WaitsOn (done ++ e ∷ []) [] start new taken out
  next_source done steps start old new taken now out e files blocks bytes was e_is absent keeps s made fresh context_is none put source_later dest_later =
      let shape : Shape = record { files = files; blocks = blocks } in
      let rest = was.rest in
      let mech : mech_of old ≡ mech_of start = ap (λ (c : ClientState M). c.setting.mech) rest.client in
      let context : new.context ≡ after old.context (kinds.Volume Source files blocks) = context_is ∙ ap (λ (event : Event). after old.context event) e_is in
      let before = waits_none told Source (IsFreshSource (mech_of start)) done old.context.source start.source old.source was.source_state absent was.source in
      standing told m read faults size (done ++ e ∷ []) start new taken out (Some s) made
      (waits_made told Source (IsFreshSource (mech_of start)) done e shape new.context.source start.source new.source s before.0
      (ap (λ (event : Event). shape_by Source event) e_is) (ap (λ (c : Context). is_some c.source) context)
      (λ t. subst (λ (x : M). IsFreshSource x shape s) mech (fresh t)))
      was.dest_state (ap (λ (r : Running D M). r.dest_state) keeps ∙ was.dest_is)
      (waits_same told Dest (IsFreshDest (mech_of start)) (done ++ e ∷ []) old.context.dest new.context.dest start.dest old.dest new.dest was.dest_state
      (ap (λ (c : Context). c.dest) context) (ap (λ (r : Running D M). r.dest) keeps)
      (waits_other told Dest (IsFreshDest (mech_of start)) done e old.context.dest start.dest old.dest was.dest_state
      (ap (λ (event : Event). shape_by Dest event) e_is) was.dest))
      (kept_rest (mech_of start) Source old new keeps rest) (idle_more done e Source files blocks e_is was.idle)
      (quiet_more taken now out bytes none was.quiet put) source_later dest_later

  -- the destination is made
  next_dest : (done : List Numbered) (steps : List (RunStep M)) (start old new : Running D M) (taken now out : Option (List ℕ)) (e : Numbered) (files blocks : ℕ)
      (bytes : List ℕ) → Waits told m read faults size done steps start old taken now → e.event ≡ kinds.Volume Dest files blocks
      → is_none old.context.dest ≡ true → KeepsAt Dest old new
      → (s : DestState M) → new.dest_state ≡ Some s → (told → IsFreshDest (mech_of old) (record { files = files; blocks = blocks }) s)
      → new.context ≡ after old.context e.event → bytes ≡ [] → Appends now out bytes
      → Later faults size 0 start.source new.source → Later faults size 0 start.dest new.dest
      → WaitsOn (done ++ e ∷ []) [] start new taken out
  next_dest done steps start old new taken now out e files blocks bytes was e_is absent keeps s made fresh context_is none put source_later dest_later =
      let shape : Shape = record { files = files; blocks = blocks } in
      let rest = was.rest in
      let mech : mech_of old ≡ mech_of start = ap (λ (c : ClientState M). c.setting.mech) rest.client in
      let context : new.context ≡ after old.context (kinds.Volume Dest files blocks) = context_is ∙ ap (λ (event : Event). after old.context event) e_is in
      let before = waits_none told Dest (IsFreshDest (mech_of start)) done old.context.dest start.dest old.dest was.dest_state absent was.dest in
      standing told m read faults size (done ++ e ∷ []) start new taken out
      was.source_state (ap (λ (r : Running D M). r.source_state) keeps ∙ was.source_is)
      (waits_same told Source (IsFreshSource (mech_of start)) (done ++ e ∷ []) old.context.source new.context.source start.source old.source new.source was.source_state
      (ap (λ (c : Context). c.source) context) (ap (λ (r : Running D M). r.source) keeps)
      (waits_other told Source (IsFreshSource (mech_of start)) done e old.context.source start.source old.source was.source_state
      (ap (λ (event : Event). shape_by Source event) e_is) was.source))
      (Some s) made
      (waits_made told Dest (IsFreshDest (mech_of start)) done e shape new.context.dest start.dest new.dest s before.0
      (ap (λ (event : Event). shape_by Dest event) e_is) (ap (λ (c : Context). is_some c.dest) context)
      (λ t. subst (λ (x : M). IsFreshDest x shape s) mech (fresh t)))
      (kept_rest (mech_of start) Dest old new keeps rest) (idle_more done e Dest files blocks e_is was.idle)
      (quiet_more taken now out bytes none was.quiet put) source_later dest_later

  -- a server is made while the run waits
  next_made : (done : List Numbered) (steps : List (RunStep M)) (start old new : Running D M) (taken now out : Option (List ℕ)) (e : Numbered) (side : Side)
      (files blocks : ℕ) (became : Stepped) → IsWent became → e.event ≡ kinds.Volume side files blocks → is_none (files_of old.context side) ≡ true
      → VolumeIs told faults size (mech_of old) side (record { files = files; blocks = blocks }) old new (kinds.Volume side files blocks) became
      → Waits told m read faults size done steps start old taken now → new.context ≡ after old.context e.event → Appends now out (text_in became)
      → Later faults size 0 start.source new.source → Later faults size 0 start.dest new.dest
      → WaitsOn (done ++ e ∷ []) [] start new taken out
  next_made done steps start old new taken now out e Source files blocks (stepped.Went text) went e_is absent made was context_is put source_later dest_later =
      let there = made.3 in
      next_source done steps start old new taken now out e files blocks (string_bytes text) was e_is absent made.1
      there.0 there.1 there.2 context_is made.0 put source_later dest_later
  next_made done steps start old new taken now out e Dest files blocks (stepped.Went text) went e_is absent made was context_is put source_later dest_later =
      let there = made.3 in
      next_dest done steps start old new taken now out e files blocks (string_bytes text) was e_is absent made.1
      there.0 there.1 there.2 context_is made.0 put source_later dest_later
  next_made done steps start old new taken now out e side files blocks (stepped.OverLimit text) went e_is absent made was context_is put source_later dest_later = absurd went
  next_made done steps start old new taken now out e side files blocks (stepped.Mistaken text mistake) went e_is absent made was context_is put source_later dest_later = absurd went
  next_made done steps start old new taken now out e side files blocks (stepped.Unmade cause) went e_is absent made was context_is put source_later dest_later = absurd went
  next_made done steps start old new taken now out e side files blocks (stepped.Lost at cause) went e_is absent made was context_is put source_later dest_later = absurd went

  -- ---- the run moves on

  -- the lines of an event come behind those before
  pub lines_more : (first : RunWorld M) (steps more : List (RunStep M)) (bytes : List ℕ) → bytes ≡ lines_text (lines_of m (after_steps first steps) more)
      → lines_text (lines_of m first steps) ++ bytes ≡ lines_text (lines_of m first (steps ++ more))
  lines_more first steps more bytes is =
      ap (λ (b : List ℕ). lines_text (lines_of m first steps) ++ b) is
      ∙ (sym (flat_map-append line_text (lines_of m first steps) (lines_of m (after_steps first steps) more))
      ∙ ap lines_text (sym (lines_join m first steps more)))

  pub first_more : (mech : M) (done : List Numbered) (e : Numbered) (first : RunWorld M) → ((rest : List Numbered) → IsFirst mech (done ++ rest) first)
      → (rest : List Numbered) → IsFirst mech ((done ++ e ∷ []) ++ rest) first
  first_more mech done e first was =
      λ rest. subst (λ (events : List Numbered). IsFirst mech events first) (sym (append_assoc done (e ∷ []) rest)) (was (e ∷ rest))

  next_moves : (done : List Numbered) (steps more : List (RunStep M)) (start old new : Running D M) (taken now out : Option (List ℕ)) (e : Numbered) (became : Stepped)
      → fault_in became ≡ None → (was : Moves told m read faults size done steps start old taken now)
      → ((side : Side) → armed_of old side ≡ true → fuses_behind no_side steps side ≡ true)
      → (carried : IsCarriedOut told m read faults size old new (after_steps was.first steps) e.event became) → carried.steps ≡ more
      → new.context.source ≡ old.context.source → new.context.dest ≡ old.context.dest → Appends now out (text_in became)
      → Moves told m read faults size (done ++ e ∷ []) (steps ++ more) start new taken out
  next_moves done steps more start old new taken now out e became no_fault was lit carried more_is source_is dest_is put =
      let first = was.first in
      record {
        first = first;
        is_first = λ t. first_more (mech_of start) done e first (was.is_first t);
        runs = λ t.
            let goes : EventGoes m read (after_steps first steps) e.event more None =
            subst (λ (f : Option Fault). EventGoes m read (after_steps first steps) e.event more f) no_fault
            (subst (λ (xs : List (RunStep M)). EventGoes m read (after_steps first steps) e.event xs (fault_in became)) more_is (carried.goes t)) in
            runs_join m read done (e ∷ []) first steps more Whole (was.runs t) (one_runs m read (after_steps first steps) e more goes);
        asked = asked_join no_side first steps more was.asked
            (subst (λ (xs : List (RunStep M)). StopsAreAsked (fuses_behind no_side steps) (after_steps first steps) xs) more_is (carried.stops (fuses_behind no_side steps) lit));
        world = carried.world no_fault
            ∙ (ap (λ (xs : List (RunStep M)). Some (after_steps (after_steps first steps) xs)) more_is ∙ ap (λ (w : RunWorld M). Some w) (sym (after_join first steps more)));
        source_there = ap (λ (files : Option ℕ). is_some files) source_is ∙ was.source_there;
        dest_there = ap (λ (files : Option ℕ). is_some files) dest_is ∙ was.dest_there;
        puts = λ t.
            subst (λ (b : List ℕ). Appends taken out b) (lines_more first steps more (text_in became) (lines_are t))
            (Appends-trans taken now out (lines_text (lines_of m first steps)) (text_in became) (was.puts t) put);
        lines = was.lines ++ text_in became;
        appended = Appends-trans taken now out was.lines (text_in became) was.appended put;
        lines_are = λ t.
            ap (λ (b : List ℕ). b ++ text_in became) (was.lines_are t) ∙ lines_more first steps more (text_in became) (lines_are t);
      }
    where
      lines_are : told → text_in became ≡ lines_text (lines_of m (after_steps was.first steps) more)
      lines_are t = carried.lines t ∙ ap (λ (xs : List (RunStep M)). lines_text (lines_of m (after_steps was.first steps) xs)) more_is

  -- ---- one event more

  -- one that went through was carried out
  carried_of : (old new : Running D M) (before : RunWorld M) (event : Event) (became : Stepped) → IsWent became → Became told m read faults size old new before event became
      → IsCarriedOut told m read faults size old new before event became
  carried_of old new before event (stepped.Went text) went is = is
  carried_of old new before event (stepped.OverLimit text) went is = absurd went
  carried_of old new before event (stepped.Mistaken text mistake) went is = absurd went
  carried_of old new before event (stepped.Unmade cause) went is = absurd went
  carried_of old new before event (stepped.Lost side cause) went is = absurd went

  -- none of a disk's calls failed before it was opened
  waits_later : (steps : List (RunStep M)) (side : Side) (d d' : Option D) → steps ≡ [] → Later faults size 0 d d' → Later faults size (failed_calls side steps) d d'
  waits_later steps side d d' none later = subst (λ (xs : List (RunStep M)). Later faults size (failed_calls side xs) d d') (sym none) later

  abbrev Next : List Numbered → (start old new : Running D M) → (taken now out : Option (List ℕ)) → Numbered → Stepped → Type 0
  Next done start old new taken now out e became =
      InRun told m read faults size done start old taken now → IsWent became → new.context ≡ after old.context e.event → ArmsRight old new e.event → Appends now out (text_in became)
      → InRun told m read faults size (done ++ e ∷ []) start new taken out

  -- a server is made
  by_made : (done : List Numbered) (start old new : Running D M) (taken now out : Option (List ℕ)) (e : Numbered) (became : Stepped)
      → Makes told m read faults size (mech_of old) old.context old new e.event became → (was : InRun told m read faults size done start old taken now)
      → WaitsOn done was.steps start old taken now → IsWent became → new.context ≡ after old.context e.event → ArmsRight old new e.event → Appends now out (text_in became)
      → InRun told m read faults size (done ++ e ∷ []) start new taken out
  by_made done start old new taken now out e became kind was (inl waits) went context_is arms put =
      let laters = volume_later told faults size (mech_of old) kind.side (record { files = kind.files; blocks = kind.blocks }) old new (kinds.Volume kind.side kind.files kind.blocks) became kind.made in
      let source_later = later_join faults size 0 0 start.source old.source new.source waits.source_later laters.0 in
      let dest_later = later_join faults size 0 0 start.dest old.dest new.dest waits.dest_later laters.1 in
      let before_source = waits.source_later in
      let before_dest = waits.dest_later in
      let rest = waits.rest in
      let fits = volume_fits told faults size (mech_of old) kind.side (record { files = kind.files; blocks = kind.blocks }) old new (kinds.Volume kind.side kind.files kind.blocks) became went kind.made in
      let keeps = volume_keeps told faults size (mech_of old) kind.side (record { files = kind.files; blocks = kind.blocks }) old new (kinds.Volume kind.side kind.files kind.blocks) became went kind.made in
      let kept = kept_rest (mech_of start) kind.side old new keeps rest in
      record {
        steps = [];
        choices = kept.choices;
        armed = armed_more done old was.armed e new arms;
        lit = λ side armed.
            let before : armed_of old side ≡ true =
            asked_alone (armed_of old side) (sym (ap (λ (event : Event). armed_of old side || sets_in event side) kind.is) ∙ arms side armed) in
            subst (λ (xs : List (RunStep M)). fuses_behind no_side xs side ≡ true) waits.none (was.lit side before);
        asked = λ none. refl;
        blamed = blamed_none M;
        source = source_later;
        dest = dest_later;
        room = small_more (size_in size start.source) (size_in size start.dest) done e was.room
            (small_as (size_in size start.source) (size_in size start.dest) (size_in size old.source) (size_in size old.dest) e.event (sym before_source.as_large) (sym before_dest.as_large)
            ∙ (ap (λ (event : Event). event_small (size_in size old.source) (size_in size old.dest) event) kind.is ∙ fits));
        stands = next_made done was.steps start old new taken now out e kind.side kind.files kind.blocks became went kind.is kind.absent kind.made waits context_is put source_later dest_later;
      }
  by_made done start old new taken now out e became kind was (inr moves) went context_is arms put =
      absurd (not_both (files_of old.context kind.side) kind.absent (there_at kind.side old.context moves.source_there moves.dest_there))

  -- servers that are there go on
  by_acts : (done : List Numbered) (start old new : Running D M) (taken now out : Option (List ℕ)) (e : Numbered) (became : Stepped)
      → Acts told m read faults size old.context old new e.event became → (was : InRun told m read faults size done start old taken now)
      → WaitsOn done was.steps start old taken now → IsWent became → new.context ≡ after old.context e.event → ArmsRight old new e.event → Appends now out (text_in became)
      → InRun told m read faults size (done ++ e ∷ []) start new taken out
  by_acts done start old new taken now out e became kind was (inl waits) went context_is arms put = absurd (not_early old.context waits.early kind.ready)
  by_acts done start old new taken now out e became kind was (inr moves) went context_is arms put =
      let carried = carried_of old new (after_steps moves.first was.steps) e.event became went (kind.is (after_steps moves.first was.steps) moves.world) in
      record {
        steps = was.steps ++ carried.steps;
        choices = more_choices old new was.steps carried.steps was.choices carried.choices;
        armed = armed_more done old was.armed e new arms;
        lit = lit_more old new e.event was.steps carried.steps was.lit arms (carried.sets (went_faultless became went));
        asked = none_more done e [] old (after_steps moves.first was.steps) was.steps carried.steps was.armed was.asked carried.asked;
        blamed = blamed_join was.steps carried.steps was.blamed carried.blamed;
        source = later_more faults size Source was.steps carried.steps start.source old.source new.source was.source carried.source_later;
        dest = later_more faults size Dest was.steps carried.steps start.dest old.dest new.dest was.dest carried.dest_later;
        room = small_more (size_in size start.source) (size_in size start.dest) done e was.room (kind.small (size_in size start.source) (size_in size start.dest));
        stands = inr (next_moves done was.steps carried.steps start old new taken now out e became (went_faultless became went) moves was.lit carried refl
            (ap (λ (c : Context). c.source) context_is ∙ kind.source) (ap (λ (c : Context). c.dest) context_is ∙ kind.dest) put);
      }

  by_kind : (done : List Numbered) (start old new : Running D M) (taken now out : Option (List ℕ)) (e : Numbered) (became : Stepped)
      → Makes told m read faults size (mech_of old) old.context old new e.event became ⊎ Acts told m read faults size old.context old new e.event became
      → Next done start old new taken now out e became
  by_kind done start old new taken now out e became (inl kind) = λ was went context_is arms put. by_made done start old new taken now out e became kind was was.stands went context_is arms put
  by_kind done start old new taken now out e became (inr kind) = λ was went context_is arms put.
      by_acts done start old new taken now out e became kind was was.stands went context_is arms put

  by_became : (done : List Numbered) (start old new : Running D M) (taken : Option (List ℕ)) (before now : Taking) (e : Numbered) (became : Stepped)
      → InRun told m read faults size done start old taken before.taken → is_in_order old.context e.event ≡ true
      → StepIs told m read faults size (mech_of old) old new e.event became → new.context ≡ context_after old.context e.event became
      → ArmsRight old new e.event → PutsLines e.line became before now None → InRun told m read faults size (done ++ e ∷ []) start new taken now.taken
  by_became done start old new taken before now e (stepped.Went text) was order is context_is arms puts =
      by_kind done start old new taken before.taken now.taken e (stepped.Went text)
      (kind_of told m read faults size (mech_of old) old.context old new e.event (stepped.Went text) order is) was tt context_is arms
      (all_put (string_bytes text) None before now puts)
  by_became done start old new taken before now e (stepped.OverLimit text) was order is context_is arms puts = absurd (goes_on _ _ before now puts)
  by_became done start old new taken before now e (stepped.Mistaken text mistake) was order is context_is arms puts = absurd (goes_on _ _ before now puts)
  by_became done start old new taken before now e (stepped.Unmade cause) was order is context_is arms puts = let ends = puts.1 in absurd (cc)
  by_became done start old new taken before now e (stepped.Lost side cause) was order is context_is arms puts = let ends = puts.1 in absurd (cc)

  pub went : (done : List Numbered) (start old new : Running D M) (taken : Option (List ℕ)) (before now : Taking) (e : Numbered)
      → InRun told m read faults size done start old taken before.taken → IsTrue (admits old.context e.event)
      → Happens told m read faults size e old new before now None → InRun told m read faults size (done ++ e ∷ []) start new taken now.taken
  went done start old new taken before now e was admitted happens =
      by_became done start old new taken before now e happens.became was (in_order old.context e.event admitted) happens.is happens.context happens.arms happens.puts
