-- A run in its middle: so many events were carried out, and their lines were put. At first it waits for its servers; once
-- both are there it moves, small step by small step.
use Rattle.std.proofs.Common.{◌≡◌, ◌⊎◌, inl, inr, ℕ, Bool, true, false, ◌&&◌, Option, None, Some, is_some, is_none, List, [], ◌∷◌, ◌++◌, length, map, refl, sym, ap, subst, ◌∙◌, append_assoc}
use Rattle.std.specs.Io.KnownBytes.{Appends}
use Rattle.client_core.specs.State.{new_client}
use Rattle.dest_core.specs.Stepping.{DestState}
use Rattle.nfs_base.specs.declared.side.Side.{Side}
use Rattle.nfs_base.specs.declared.side.Side.TheVariants.{Source, Dest}
use Rattle.wire_lines.specs.LineText.{lines_text}
use Rattle.wire_machine.specs.Check.{Reading}
use Rattle.wire_machine.specs.Lines.{lines_of}
use Rattle.wire_machine.specs.Runs.{Numbered, Runs, Whole}
use Rattle.wire_machine.specs.Steps.{after_steps}
use Rattle.wire_machine.specs.declared.choice.Choice.{Choice}
use Rattle.run_ends.specs.Ends.{RunMachines, RunStep, RunWorld, SourceState}
use Rattle.run_ends.specs.First.{IsFirst, IsFreshDest, IsFreshSource, Shape, shape_by, shape_of, shape_or}
use Rattle.wire_run.specs.Asked.{StopsAreAsked, fuses_behind}
use Rattle.wire_run.specs.Run.{asks_for, first_small, stops_in}
use Rattle.wire_run.specs.Running.{AreBlamed, Later, Running, armed_of, failed_calls, mech_of, size_in, world_by, world_in, world_of}
use Rattle.run_ends.specs.Setting.{dest_place, source_place, user}
use Rattle.wire_run.proofs.RunStops.{AreArmedBy, NoneStops}
use Rattle.wire_run.proofs.Shapes.{asks_more, shape_behind}
use Rattle.wire_run.specs.Watching.{no_side}
use Rattle.wire_schedule.specs.Admission.{is_ready}

-- ---- a server before the run moves: it wasn't asked for yet, and its disk is as it was, or it is there and new

abbrev pub EndWaits : {D S : Type 0} → (told : Type 0) → Side → (Shape → S → Type 0) → List Numbered → (files : Option ℕ) → (start now : Option D) → Option S → Type 0
EndWaits told side fresh done files start now None = (files ≡ None) × (now ≡ start) × (asks_for side done ≡ false)
EndWaits told side fresh done files start now (Some s) = (is_some files ≡ true) × (told → (rest : List Numbered) → fresh (shape_of side (done ++ rest)) s)

-- the same, of equal parts
pub waits_same : {D S : Type 0} (told : Type 0) (side : Side) (fresh : Shape → S → Type 0) (done : List Numbered) (files files' : Option ℕ)
    (start now now' : Option D) (state : Option S) → files' ≡ files → now' ≡ now → EndWaits told side fresh done files start now state
    → EndWaits told side fresh done files' start now' state
waits_same told side fresh done files files' start now now' None files_are now_is was = (files_are ∙ was.0, now_is ∙ was.1, was.2)
waits_same told side fresh done files files' start now now' (Some s) files_are now_is was = (ap (λ (f : Option ℕ). is_some f) files_are ∙ was.0, was.1)

-- an event that doesn't ask for it
pub waits_other : {D S : Type 0} (told : Type 0) (side : Side) (fresh : Shape → S → Type 0) (done : List Numbered) (e : Numbered) (files : Option ℕ)
    (start now : Option D) (state : Option S) → shape_by side e.event ≡ None → EndWaits told side fresh done files start now state
    → EndWaits told side fresh (done ++ e ∷ []) files start now state
waits_other told side fresh done e files start now None is was = (was.0, was.1, asks_more side done e was.2 is)
waits_other told side fresh done e files start now (Some s) is was = (
  was.0,
  λ t rest.
      subst (λ (events : List Numbered). fresh (shape_of side events) s) (sym (append_assoc done (e ∷ []) rest)) (was.1 t (e ∷ rest)),
)

-- the event that asks for it
pub waits_made : {D S : Type 0} (told : Type 0) (side : Side) (fresh : Shape → S → Type 0) (done : List Numbered) (e : Numbered) (shape : Shape)
    (files : Option ℕ) (start now : Option D) (s : S) → asks_for side done ≡ false → shape_by side e.event ≡ Some shape → is_some files ≡ true
    → (told → fresh shape s) → EndWaits told side fresh (done ++ e ∷ []) files start now (Some s)
waits_made told side fresh done e shape files start now s none is there new = (
  there,
  λ t rest.
      let asked : shape_of side ((done ++ e ∷ []) ++ rest) ≡ shape =
      ap (λ (events : List Numbered). shape_of side events) (append_assoc done (e ∷ []) rest)
      ∙ (shape_behind side done (e ∷ rest) none ∙ ap (λ (o : Option Shape). shape_or o (shape_of side rest)) is) in
      subst (λ (x : Shape). fresh x s) (sym asked) (new t),
)

pub not_both : (files : Option ℕ) → is_none files ≡ true → is_some files ≡ true → ⊥
not_both None none some = cc
not_both (Some n) none some = cc

-- one that has no files isn't there
pub waits_none : {D S : Type 0} (told : Type 0) (side : Side) (fresh : Shape → S → Type 0) (done : List Numbered) (files : Option ℕ)
    (start now : Option D) (state : Option S) → is_none files ≡ true → EndWaits told side fresh done files start now state
    → (asks_for side done ≡ false) × (now ≡ start)
waits_none told side fresh done files start now None none was = (was.2, was.1)
waits_none told side fresh done files start now (Some s) none was = absurd (not_both files none was.0)

-- ---- all of it

-- what no volume changes
pub record AtRest {D M : Type 0} (mech : M) (now : Running D M) : Type 0 where
  pub client : now.client ≡ new_client (record { mech = mech; me = user; source = source_place; dest = dest_place })
  pub draws : now.draws ≡ 0
  pub clock : now.clock ≡ 0
  pub log : now.log ≡ []
  pub choices : now.choices ≡ []

module _ {D M : Type 0} (told : Type 0) (m : RunMachines M) (read : Reading) (faults size : D → ℕ) where
  pub record Waits (done : List Numbered) (steps : List (RunStep M)) (start now : Running D M) (taken now_taken : Option (List ℕ)) : Type 0 where
    pub none : steps ≡ []
    pub source_later : Later faults size 0 start.source now.source
    pub dest_later : Later faults size 0 start.dest now.dest
    pub quiet : Appends taken now_taken []
    pub idle : (w : RunWorld M) → Runs m read w done [] Whole
    pub rest : AtRest (mech_of start) now
    pub early : is_ready now.context ≡ false
    pub alone : world_in now ≡ None
    pub source_state : Option (SourceState M)
    pub source_is : now.source_state ≡ source_state
    pub source : EndWaits told Source (IsFreshSource (mech_of start)) done now.context.source start.source now.source source_state
    pub dest_state : Option (DestState M)
    pub dest_is : now.dest_state ≡ dest_state
    pub dest : EndWaits told Dest (IsFreshDest (mech_of start)) done now.context.dest start.dest now.dest dest_state

  pub record Moves (done : List Numbered) (steps : List (RunStep M)) (start now : Running D M) (taken now_taken : Option (List ℕ)) : Type 0 where
    pub first : RunWorld M
    pub is_first : told → (rest : List Numbered) → IsFirst (mech_of start) (done ++ rest) first
    pub runs : told → Runs m read first done steps Whole
    pub asked : StopsAreAsked no_side first steps
    pub world : world_in now ≡ Some (after_steps first steps)
    pub source_there : is_some now.context.source ≡ true
    pub dest_there : is_some now.context.dest ≡ true
    pub puts : told → Appends taken now_taken (lines_text (lines_of m first steps))
    pub lines : List ℕ
    pub appended : Appends taken now_taken lines
    pub lines_are : told → lines ≡ lines_text (lines_of m first steps)

  and_no : (a : Bool) → (a && false) ≡ false
  and_no true = refl
  and_no false = refl

  -- events that make servers are done: the run waits on, or moves
  pub standing : (done : List Numbered) (start now : Running D M) (taken now_taken : Option (List ℕ))
      → (source : Option (SourceState M)) → now.source_state ≡ source → EndWaits told Source (IsFreshSource (mech_of start)) done now.context.source start.source now.source source
      → (dest : Option (DestState M)) → now.dest_state ≡ dest → EndWaits told Dest (IsFreshDest (mech_of start)) done now.context.dest start.dest now.dest dest
      → AtRest (mech_of start) now → ((w : RunWorld M) → Runs m read w done [] Whole) → Appends taken now_taken []
      → Later faults size 0 start.source now.source → Later faults size 0 start.dest now.dest
      → Waits done [] start now taken now_taken ⊎ Moves done [] start now taken now_taken
  standing done start now taken now_taken None source_is source dest dest_is on_dest rest idle quiet source_later dest_later =
      inl (record {
        none = refl;
        source_later = source_later;
        dest_later = dest_later;
        quiet = quiet;
        idle = idle;
        rest = rest;
        early = ap (λ (files : Option ℕ). is_some files && is_some now.context.dest) source.0;
        alone = ap (λ (s : Option (SourceState M)). world_by s now.dest_state now) source_is;
        source_state = None;
        source_is = source_is;
        source = source;
        dest_state = dest;
        dest_is = dest_is;
        dest = on_dest;
      })
  standing done start now taken now_taken (Some s) source_is source None dest_is on_dest rest idle quiet source_later dest_later =
      inl (record {
        none = refl;
        source_later = source_later;
        dest_later = dest_later;
        quiet = quiet;
        idle = idle;
        rest = rest;
        early = ap (λ (files : Option ℕ). is_some now.context.source && is_some files) on_dest.0 ∙ and_no (is_some now.context.source);
        alone = ap (λ (o : Option (SourceState M)). world_by o now.dest_state now) source_is ∙ ap (λ (o : Option (DestState M)). world_by (Some s) o now) dest_is;
        source_state = Some s;
        source_is = source_is;
        source = source;
        dest_state = None;
        dest_is = dest_is;
        dest = on_dest;
      })
  standing done start now taken now_taken (Some s) source_is source (Some d) dest_is on_dest rest idle quiet source_later dest_later =
      let first : RunWorld M = world_of s d now.client now.draws now.clock now.log now.choices in
      inr (record {
        first = first;
        is_first = λ t rest_of. record {
          source = source.1 t rest_of;
          dest = on_dest.1 t rest_of;
          client = rest.client;
          draws = rest.draws;
          clock = rest.clock;
          steps = ap (λ (cs : List Choice). length cs) rest.choices;
          log = rest.log;
        };
        runs = λ t. idle first;
        asked = tt;
        world = ap (λ (o : Option (SourceState M)). world_by o now.dest_state now) source_is ∙ ap (λ (o : Option (DestState M)). world_by (Some s) o now) dest_is;
        source_there = source.0;
        dest_there = on_dest.0;
        puts = λ t. quiet;
        lines = [];
        appended = quiet;
        lines_are = λ t. refl;
      })

module _ {D M : Type 0} (told : Type 0) (m : RunMachines M) (read : Reading) (faults size : D → ℕ) where
  pub record InRun (done : List Numbered) (start now : Running D M) (taken now_taken : Option (List ℕ)) : Type 0 where
    pub steps : List (RunStep M)
    pub choices : now.choices ≡ map (λ (s : RunStep M). s.choice) steps
    pub armed : AreArmedBy done now
    pub lit : (side : Side) → armed_of now side ≡ true → fuses_behind no_side steps side ≡ true
    pub asked : stops_in done ≡ false → NoneStops steps
    pub blamed : AreBlamed steps
    pub source : Later faults size (failed_calls Source steps) start.source now.source
    pub dest : Later faults size (failed_calls Dest steps) start.dest now.dest
    pub room : first_small (size_in size start.source) (size_in size start.dest) done ≡ None
    pub stands : Waits told m read faults size done steps start now taken now_taken ⊎ Moves told m read faults size done steps start now taken now_taken
