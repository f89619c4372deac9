-- What an event leaves of a system, by what it leaves of the stage.
use Rattle.std.proofs.Common.{◌≡◌, ℕ, Bool, true, false, List, [], ◌∷◌, ◌++◌, Option, Some, None, refl, sym, ap, ◌∙◌, subst}
use Rattle.std.specs.List.{list_any}
use Rattle.std.specs.Prelude.{◌||◌, is_some, map}
use Rattle.nfs_base.specs.declared.side.Side.{Side}
use Rattle.nfs_base.specs.declared.side.Side.TheVariants.{Source, Dest}
use Rattle.wire_lines.specs.LineText.{lines_text}
use Rattle.wire_machine.specs.Check.{Reading}
use Rattle.wire_machine.specs.Lines.{lines_of}
use Rattle.wire_machine.specs.Runs.{EventGoes, Goes}
use Rattle.wire_machine.specs.Steps.{NeverStops, after_steps, same_side, small_steps}
use Rattle.wire_machine.specs.World.{waiting}
use Rattle.wire_machine.specs.declared.choice.Choice.{Choice}
use Rattle.wire_run.proofs.Flows.{none_sets}
use Rattle.wire_run.specs.Asked.{StopsAreAsked}
use Rattle.wire_run.specs.Cutting.{IsAwayAt, StageLoses, disk_at, disk_left}
use Rattle.wire_run.specs.Running.{Became, HasDisks, IsCarriedOut, IsLost, Later, LostFor, MakesNone, Running, StepIs, armed_of, context_after, disk_of, failed_calls, fault_in, is_asked, is_there, text_in, world_in}
use Rattle.run_ends.specs.Ends.{RunMachines, RunStep, RunWorld}
use Rattle.wire_run.specs.Stage as stages
use Rattle.wire_run.specs.Stage.{DestHost, IsDestOpen, IsOpenAt, IsSourceOpen, SourceHost, StageGoes, dest_disk, source_disk, world_at}
use Rattle.wire_run.specs.System.{IsSingle, lost_in, running_of}
use Rattle.wire_run.specs.Watching.{crashes_in, is_armed, sets_in}
use Rattle.wire_run.specs.declared.ends.DestEnd.{DestEnd}
use Rattle.wire_run.specs.declared.ends.DestEnd.TheVariants as dest_end
use Rattle.wire_run.specs.declared.ends.SourceEnd.{SourceEnd}
use Rattle.wire_run.specs.declared.ends.SourceEnd.TheVariants as source_end
use Rattle.wire_run.specs.declared.fresh.Unmade.{Unmade}
use Rattle.wire_run.specs.declared.stage.Lost.{Lost}
use Rattle.wire_run.specs.declared.stage.Stage.{Stage}
use Rattle.wire_run.specs.declared.system.Stepped.{Stepped}
use Rattle.wire_run.specs.declared.system.Stepped.TheVariants as stepped
use Rattle.wire_schedule.specs.Admission.{after}
use Rattle.wire_schedule.specs.declared.context.Context.{Context}
use Rattle.wire_schedule.specs.declared.event.Event.{Event}
use Rattle.wire_schedule.specs.declared.event.Event.TheVariants as kinds

one_some : {A : Type 0} (x y : A) → Some x ≡ Some y → x ≡ y
one_some x y e = cc

-- what the events leave open goes on with an event that makes no server, and in which none is lost
pub went_on : (context : Context) (event : Event) (result : Stepped) → MakesNone result → context_after context event result ≡ after context event
went_on context event (stepped.Went text) made = refl
went_on context event (stepped.OverLimit text) made = refl
went_on context event (stepped.Mistaken text mistake) made = refl
went_on context event (stepped.Unmade cause) made = absurd made
went_on context event (stepped.Lost side cause) made = absurd made

-- ---- which servers are asked to stop

or_false : (b : Bool) → (b || false) ≡ b
or_false true = refl
or_false false = refl

-- a flow crashes none
none_crashes : (side : Side) (numbers : List ℕ) → list_any (λ (event : Event). crashes_in event side) (map kinds.Deliver numbers) ≡ false
none_crashes side [] = refl
none_crashes side (n ∷ numbers) = none_crashes side numbers

module _ {D M : Type 0} (size : D → ℕ) (context : Context) (s : Stage D M) where
  pub asked_once : (event : Event) (side : Side) → stages.is_asked side (event ∷ []) s ≡ is_asked (running_of size context s) side event
  asked_once event Source = ap (λ (b : Bool). is_armed Source s || b) (or_false (crashes_in event Source))
  asked_once event Dest = ap (λ (b : Bool). is_armed Dest s || b) (or_false (crashes_in event Dest))

  pub sets_once : (event : Event) (side : Side) → list_any (λ (e : Event). sets_in e side) (event ∷ []) ≡ sets_in event side
  sets_once event side = or_false (sets_in event side)

  pub armed_is : (side : Side) → armed_of (running_of size context s) side ≡ is_armed side s
  armed_is Source = refl
  armed_is Dest = refl

  pub asked_flow : (numbers : List ℕ) (side : Side) → stages.is_asked side (map kinds.Deliver numbers) s ≡ is_asked (running_of size context s) side kinds.Flow
  asked_flow numbers Source = ap (λ (b : Bool). is_armed Source s || b) (none_crashes Source numbers)
  asked_flow numbers Dest = ap (λ (b : Bool). is_armed Dest s || b) (none_crashes Dest numbers)

-- ---- both servers are there

-- the world of a system whose servers are there
world_is : {D M : Type 0} (size : D → ℕ) (context : Context) (s : Stage D M) (source : SourceHost D M) (dest : DestHost D M) → s.source ≡ source_end.Open source → s.dest ≡ dest_end.Open dest
    → world_in (running_of size context s) ≡ Some (world_at size source dest s)
world_is {D} {M} size context s source dest p q =
    ap (λ (e : SourceEnd D M). world_in (running_of size context (record s { source = e }))) p
    ∙ ap (λ (e : DestEnd D M). world_in (running_of size context (record s { source = source_end.Open source; dest = e }))) q

-- ---- a server that is lost

module _ {D M : Type 0} (size : D → ℕ) (context : Context) (s : Stage D M) where
  disk_is : (side : Side) → disk_of (running_of size context s) side ≡ disk_at side s
  disk_is Source = refl
  disk_is Dest = refl

  left_is : (side at : Side) (cause : Unmade) (disk : D) → disk_of (lost_in at disk (running_of size context s)) side ≡ disk_left side (record { side = at; disk = disk; cause = cause }) s
  left_is Source Source cause disk = refl
  left_is Source Dest cause disk = refl
  left_is Dest Source cause disk = refl
  left_is Dest Dest cause disk = refl

  choices_are : (at : Side) (disk : D) → (lost_in at disk (running_of size context s)).choices ≡ s.choices.items
  choices_are Source disk = refl
  choices_are Dest disk = refl

lost_disk : {D M : Type 0} (at : Side) (disk : D) (r : Running D M) → disk_of (lost_in at disk r) at ≡ Some disk
lost_disk Source disk r = refl
lost_disk Dest disk r = refl

lost_gone : {D M : Type 0} (at : Side) (disk : D) (r : Running D M) → is_there (lost_in at disk r) at ≡ false
lost_gone Source disk r = refl
lost_gone Dest disk r = refl

-- it isn't there before its disk is put back
away_gone : {D M : Type 0} (size : D → ℕ) (context : Context) (s : Stage D M) (at : Side) → IsAwayAt at s → is_there (running_of size context s) at ≡ false
away_gone {D} {M} size context s Source away = ap (λ (e : SourceEnd D M). is_there (running_of size context (record s { source = e })) Source) away
away_gone {D} {M} size context s Dest away = ap (λ (e : DestEnd D M). is_there (running_of size context (record s { dest = e })) Dest) away

-- both disks are there then
source_disk_of : {D M : Type 0} (end : SourceEnd D M) → IsSourceOpen end → is_some (source_disk end) ≡ true
source_disk_of (source_end.Open core) opened = refl
source_disk_of source_end.Away opened = absurd opened
source_disk_of (source_end.Disk disk) opened = absurd opened

dest_disk_of : {D M : Type 0} (end : DestEnd D M) → IsDestOpen end → is_some (dest_disk end) ≡ true
dest_disk_of (dest_end.Open core) opened = refl
dest_disk_of dest_end.Away opened = absurd opened
dest_disk_of (dest_end.Disk disk) opened = absurd opened

lost_disks : {D M : Type 0} (size : D → ℕ) (context : Context) (s : Stage D M) (at : Side) (disk : D) → ((side : Side) → same_side side at ≡ false → IsOpenAt side s)
    → HasDisks (lost_in at disk (running_of size context s))
lost_disks size context s Source disk there = record { source_there = refl; dest_there = dest_disk_of s.dest (there Dest refl) }
lost_disks size context s Dest disk there = record { source_there = source_disk_of s.source (there Source refl); dest_there = refl }

module _ {D M : Type 0} (told : Type 0) (m : RunMachines M) (read : Reading) (faults size : D → ℕ) where
  later_disks : (n : ℕ) (old new a b : Option D) → old ≡ a → new ≡ b → Later faults size n a b → Later faults size n old new
  later_disks n old new a b p q l = subst (λ (o : Option D). Later faults size n o new) (sym p) (subst (λ (o : Option D). Later faults size n a o) (sym q) l)

  -- ---- an event that was carried out

  module _ (context now : Context) (old new : Stage D M) (event : Event) (smalls : List Event)
      (steps_are : (w : RunWorld M) → w.log ≡ old.log → small_steps w event ≡ smalls)
      (asks : (side : Side) → stages.is_asked side smalls old ≡ is_asked (running_of size context old) side event)
      (sets_are : (side : Side) → list_any (λ (e : Event). sets_in e side) smalls ≡ sets_in event side)
      (before : RunWorld M) (is : world_in (running_of size context old) ≡ Some before) where
    before_is : (source : SourceHost D M) (dest : DestHost D M) → old.source ≡ source_end.Open source → old.dest ≡ dest_end.Open dest → world_at size source dest old ≡ before
    before_is source dest p q = one_some _ before (sym (world_is size context old source dest p q) ∙ is)

    pub carried : (result : Stepped) → StageGoes told m read faults size smalls old new (text_in result) (fault_in result) → MakesNone result
        → IsCarriedOut told m read faults size (running_of size context old) (running_of size now new) before event result
    carried result g made =
        let world : world_at size g.source g.dest old ≡ before = before_is g.source g.dest g.source_is g.dest_is in
        record {
          made = made;
          steps = g.steps;
          goes = λ t. subst (λ (w : RunWorld M). EventGoes m read w event g.steps (fault_in result)) world
              (subst (λ (es : List Event). Goes m read (world_at size g.source g.dest old) es g.steps (fault_in result)) (sym (steps_are (world_at size g.source g.dest old) refl)) (g.goes t));
          world = λ none. world_is size now new g.source_next g.dest_next g.source_next_is g.dest_next_is
              ∙ ap (λ (w : RunWorld M). Some w) (g.world none ∙ ap (λ (w : RunWorld M). after_steps w g.steps) world);
          lines = λ t. subst (λ (w : RunWorld M). text_in result ≡ lines_text (lines_of m w g.steps)) world (g.lines t);
          choices = g.choices;
          asked = λ side none. subst (λ (w : RunWorld M). NeverStops side w g.steps) world (g.asked side (asks side ∙ none));
          stops = λ fuses known.
              subst (λ (w : RunWorld M). StopsAreAsked fuses w g.steps) world (g.stops fuses (λ side armed. known side (armed_is size context old side ∙ armed)));
          sets = λ none fuses side is. g.sets none fuses side (sets_are side ∙ is);
          blamed = g.blamed;
          source_later = later_disks _ _ _ _ _ (ap (λ (e : SourceEnd D M). source_disk e) g.source_is) (ap (λ (e : SourceEnd D M). source_disk e) g.source_next_is) g.source_later;
          dest_later = later_disks _ _ _ _ _ (ap (λ (e : DestEnd D M). dest_disk e) g.dest_is) (ap (λ (e : DestEnd D M). dest_disk e) g.dest_next_is) g.dest_later;
        }

    became_of : (result : Stepped) → MakesNone result
        → IsCarriedOut told m read faults size (running_of size context old) (running_of size now new) before event result
        → Became told m read faults size (running_of size context old) (running_of size now new) before event result
    became_of (stepped.Went text) made c = c
    became_of (stepped.OverLimit text) made c = c
    became_of (stepped.Mistaken text mistake) made c = c
    became_of (stepped.Unmade cause) made c = absurd made
    became_of (stepped.Lost side cause) made c = absurd made

    pub became_carried : (result : Stepped) → StageGoes told m read faults size smalls old new (text_in result) (fault_in result) → MakesNone result
        → Became told m read faults size (running_of size context old) (running_of size now new) before event result
    became_carried result g made = became_of result made (carried result g made)

    -- ---- an event in which a server is lost

    lost_later : (lost : Lost D) (n : ℕ) (side : Side) → Later faults size n (disk_at side old) (disk_left side lost new)
        → Later faults size n (disk_of (running_of size context old) side) (disk_of (lost_in lost.side lost.disk (running_of size now new)) side)
    lost_later lost n side l =
        later_disks n _ _ (disk_at side old) (disk_left side lost new) (disk_is size context old side) (left_is size now new side lost.side lost.cause lost.disk) l

    pub became_lost : (lost : Lost D) → StageLoses told m read faults size smalls old new lost
        → IsLost told m read faults size (running_of size context old) (lost_in lost.side lost.disk (running_of size now new)) before event lost.side lost.cause
    became_lost lost g =
        let world : world_at size g.source g.dest old ≡ before = before_is g.source g.dest g.source_is g.dest_is in
        record {
          why = subst (λ (o : Option D). LostFor told faults o (disk_of (lost_in lost.side lost.disk (running_of size now new)) lost.side) lost.cause) (sym (disk_is size context old lost.side))
              (subst (λ (o : Option D). LostFor told faults (disk_at lost.side old) o lost.cause) (sym (lost_disk lost.side lost.disk (running_of size now new))) g.why);
          gone = lost_gone lost.side lost.disk (running_of size now new);
          done = g.done;
          rest = g.rest;
          are = subst (λ (w : RunWorld M). small_steps w event ≡ g.done ++ g.rest) world (steps_are (world_at size g.source g.dest old) refl ∙ g.are);
          steps = g.steps;
          goes = λ t. subst (λ (w : RunWorld M). Goes m read w g.done g.steps None) world (g.goes t);
          choices = choices_are size now new lost.side lost.disk ∙ g.choices;
          asked = sym (asks lost.side) ∙ g.asked;
          never = λ side none. subst (λ (w : RunWorld M). NeverStops side w g.steps) world (g.never side (asks side ∙ none));
          blamed = g.blamed;
          source_later = lost_later lost (failed_calls Source g.steps) Source (g.later Source);
          dest_later = lost_later lost (failed_calls Dest g.steps) Dest (g.later Dest);
        }

  -- ---- an event that is one small step

  pub single_steps : (event : Event) → IsSingle event → (w : RunWorld M) → small_steps w event ≡ event ∷ []
  single_steps (kinds.Volume side files blocks) single w = absurd single
  single_steps kinds.Flow single w = absurd single
  single_steps (kinds.Write side file off bytes) single w = refl
  single_steps (kinds.Commit side file) single w = refl
  single_steps (kinds.Copy copy spec) single w = refl
  single_steps (kinds.Status copy) single w = refl
  single_steps (kinds.Cancel copy) single w = refl
  single_steps kinds.Retry single w = refl
  single_steps (kinds.Deliver number) single w = refl
  single_steps (kinds.Work worker) single w = refl
  single_steps (kinds.Tick seconds) single w = refl
  single_steps (kinds.Peek side file off len) single w = refl
  single_steps (kinds.Crash side pick) single w = refl
  single_steps (kinds.CrashAfter side calls pick) single w = refl

  pub single_is : (mech : M) (old new : Running D M) (event : Event) (result : Stepped) → IsSingle event
      → ((before : RunWorld M) → world_in old ≡ Some before → Became told m read faults size old new before event result)
      → StepIs told m read faults size mech old new event result
  single_is mech old new (kinds.Volume side files blocks) result single is = absurd single
  single_is mech old new kinds.Flow result single is = absurd single
  single_is mech old new (kinds.Write side file off bytes) result single is = is
  single_is mech old new (kinds.Commit side file) result single is = is
  single_is mech old new (kinds.Copy copy spec) result single is = is
  single_is mech old new (kinds.Status copy) result single is = is
  single_is mech old new (kinds.Cancel copy) result single is = is
  single_is mech old new kinds.Retry result single is = is
  single_is mech old new (kinds.Deliver number) result single is = is
  single_is mech old new (kinds.Work worker) result single is = is
  single_is mech old new (kinds.Tick seconds) result single is = is
  single_is mech old new (kinds.Peek side file off len) result single is = is
  single_is mech old new (kinds.Crash side pick) result single is = is
  single_is mech old new (kinds.CrashAfter side calls pick) result single is = is

  module _ (mech : M) (context now : Context) (old new : Stage D M) where
    pub once_is : (event : Event) (result : Stepped) → IsSingle event → StageGoes told m read faults size (event ∷ []) old new (text_in result) (fault_in result) → MakesNone result
        → StepIs told m read faults size mech (running_of size context old) (running_of size now new) event result
    once_is event result single g made =
        single_is mech (running_of size context old) (running_of size now new) event result single
        (λ before is. became_carried context now old new event (event ∷ []) (λ w same. single_steps event single w) (λ side. asked_once size context old event side)
        (λ side. sets_once size context old event side) before is result g made)

    pub once_lost : (event : Event) (lost : Lost D) → IsSingle event → StageLoses told m read faults size (event ∷ []) old new lost
        → StepIs told m read faults size mech (running_of size context old) (lost_in lost.side lost.disk (running_of size now new)) event (stepped.Lost lost.side lost.cause)
    once_lost event lost single g =
        single_is mech (running_of size context old) (lost_in lost.side lost.disk (running_of size now new)) event (stepped.Lost lost.side lost.cause) single
        (λ before is. became_lost context now old new event (event ∷ []) (λ w same. single_steps event single w) (λ side. asked_once size context old event side)
        (λ side. sets_once size context old event side) before is lost g)

    -- ---- a flow

    pub flow_is : (result : Stepped) → StageGoes told m read faults size (map kinds.Deliver (waiting old.log)) old new (text_in result) (fault_in result) → MakesNone result
        → StepIs told m read faults size mech (running_of size context old) (running_of size now new) kinds.Flow result
    flow_is result g made =
        λ before is.
        became_carried context now old new kinds.Flow (map kinds.Deliver (waiting old.log)) (λ w same. ap (λ l. map kinds.Deliver (waiting l)) same)
        (λ side. asked_flow size context old (waiting old.log) side) (λ side. none_sets side (waiting old.log)) before is result g made

    pub flow_lost : (lost : Lost D) → StageLoses told m read faults size (map kinds.Deliver (waiting old.log)) old new lost
        → StepIs told m read faults size mech (running_of size context old) (lost_in lost.side lost.disk (running_of size now new)) kinds.Flow (stepped.Lost lost.side lost.cause)
    flow_lost lost g =
        λ before is.
        became_lost context now old new kinds.Flow (map kinds.Deliver (waiting old.log)) (λ w same. ap (λ l. map kinds.Deliver (waiting l)) same)
        (λ side. asked_flow size context old (waiting old.log) side) (λ side. none_sets side (waiting old.log)) before is lost g

  -- ---- both disks are there

  pub disks_went : (now : Context) (smalls : List Event) (old new : Stage D M) (result : Stepped)
      → StageGoes told m read faults size smalls old new (text_in result) (fault_in result) → HasDisks (running_of size now new)
  disks_went now smalls old new result g = record {
    source_there = ap (λ (e : SourceEnd D M). is_some (source_disk e)) g.source_next_is;
    dest_there = ap (λ (e : DestEnd D M). is_some (dest_disk e)) g.dest_next_is;
  }

  pub disks_lost : (now : Context) (smalls : List Event) (old new : Stage D M) (lost : Lost D) → StageLoses told m read faults size smalls old new lost
      → HasDisks (lost_in lost.side lost.disk (running_of size now new))
  disks_lost now smalls old new lost g = lost_disks size now new lost.side lost.disk g.there

  pub lost_isnt_there : (now : Context) (smalls : List Event) (old new : Stage D M) (lost : Lost D) → StageLoses told m read faults size smalls old new lost
      → is_there (running_of size now new) lost.side ≡ false
  lost_isnt_there now smalls old new lost g = away_gone size now new lost.side g.away
