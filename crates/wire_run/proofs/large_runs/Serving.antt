-- Where an event may come next, its servers are there: it is one of their world, or it makes one of them.
use Rattle.std.proofs.Common.{◌≡◌, ◌⊎◌, inl, inr, ℕ, Bool, true, ◌&&◌, nat_lt, Option, None, Some, is_some, List, [], refl, sym, ap, subst, ◌∙◌, IsTrue}
use Rattle.std.proofs.lemmas.Bool.{and_parts}
use Rattle.dest_core.specs.Stepping.{DestState}
use Rattle.nfs_base.specs.declared.side.Side.{Side}
use Rattle.nfs_base.specs.declared.side.Side.TheVariants.{Source, Dest}
use Rattle.run_ends.specs.Ends.{RunMachines, RunWorld, SourceState}
use Rattle.run_ends.specs.First.{Shape}
use Rattle.wire_lines.specs.LineText.{lines_text}
use Rattle.wire_lines.specs.declared.line.Line.{Line}
use Rattle.wire_machine.specs.Check.{Reading}
use Rattle.wire_machine.specs.Lines.{lines_of}
use Rattle.wire_machine.specs.Steps.{after_steps}
use Rattle.wire_run.specs.LargeRuns.Tallying.{IsServed}
use Rattle.wire_run.specs.Running.{Became, KeepsAt, Running, StepIs, VolumeIs, at_rest, text_in, world_by, world_in, world_of}
use Rattle.wire_run.specs.declared.system.Stepped.{Stepped}
use Rattle.wire_run.specs.declared.system.Stepped.TheVariants as stepped
use Rattle.wire_schedule.specs.Admission.{admits, after, is_in_order, is_ready, is_within, most_events}
use Rattle.wire_schedule.specs.declared.context.Context.{Context}
use Rattle.wire_schedule.specs.declared.event.Event.{Event}
use Rattle.wire_schedule.specs.declared.event.Event.TheVariants as kinds
use Rattle.wire_tally.specs.Tally.{IsWholeText}

-- ---- worlds

in_order : (context : Context) (event : Event) → IsTrue (admits context event) → is_in_order context event ≡ true
in_order context event admitted =
    (and_parts (is_within event) (is_in_order context event)
    (and_parts (nat_lt context.events most_events) (is_within event && is_in_order context event) admitted).1).1

world_for : {D M : Type 0} (source : Option (SourceState M)) (dest : Option (DestState M)) (r : Running D M) → is_some source ≡ true → is_some dest ≡ true
    → (w : RunWorld M) × (world_by source dest r ≡ Some w)
world_for None dest r there too = absurd (cc)
world_for (Some s) None r there too = absurd (cc)
world_for (Some s) (Some d) r there too = (world_of s d r.client r.draws r.clock r.log r.choices, refl)

servers_for : {D M : Type 0} (source : Option (SourceState M)) (dest : Option (DestState M)) (r : Running D M) (w : RunWorld M) → world_by source dest r ≡ Some w
    → (is_some source ≡ true) × (is_some dest ≡ true)
servers_for None dest r w is = absurd (cc)
servers_for (Some s) None r w is = absurd (cc)
servers_for (Some s) (Some d) r w is = (refl, refl)

world_there : {D M : Type 0} (r : Running D M) → IsServed r → is_ready r.context ≡ true → (w : RunWorld M) × (world_in r ≡ Some w)
world_there r served ready =
    let both = and_parts (is_some r.context.source) (is_some r.context.dest) ready in
    world_for r.source_state r.dest_state r (served.source both.0) (served.dest both.1)

served_in : {D M : Type 0} (r : Running D M) (w : RunWorld M) → world_in r ≡ Some w → IsServed r
served_in r w is = let both = servers_for r.source_state r.dest_state r w is in record { source = λ asked. both.0; dest = λ asked. both.1 }

not_some : {A : Type 0} (o : Option A) → o ≡ None → is_some o ≡ true → ⊥
not_some None is some = cc
not_some (Some a) is some = cc

-- before the first event
pub served_at_rest : {D M : Type 0} (mech : M) (r : Running D M) → r ≡ at_rest mech r.source r.dest → IsServed r
served_at_rest {D = D} {M = M} mech r is = record {
  source = λ asked. absurd (not_some r.context.source (ap (λ (x : Running D M). x.context.source) is) asked);
  dest = λ asked. absurd (not_some r.context.dest (ap (λ (x : Running D M). x.context.dest) is) asked);
}

-- ---- what became of an event

abbrev pub IsWent : Stepped → Type 0
IsWent (stepped.Went text) = Unit {0}
IsWent became = ⊥

module _ {D M : Type 0} (told : Type 0) (m : RunMachines M) (read : Reading) (faults size : D → ℕ) (mech : M) where
  -- ---- an event makes a server, or is one of their world

  record Makes (old new : Running D M) (event : Event) (became : Stepped) : Type 0 where
    pub side : Side
    pub files : ℕ
    pub blocks : ℕ
    pub is : event ≡ kinds.Volume side files blocks
    pub made : VolumeIs told faults size mech side (record { files = files; blocks = blocks }) old new (kinds.Volume side files blocks) became

  record Acts (old new : Running D M) (event : Event) (became : Stepped) : Type 0 where
    pub ready : is_ready old.context ≡ true
    pub is : (before : RunWorld M) → world_in old ≡ Some before → Became told m read faults size old new before event became

  acts : (old new : Running D M) (event : Event) (became : Stepped) (rest : Bool) → (is_ready old.context && rest) ≡ true
      → ((before : RunWorld M) → world_in old ≡ Some before → Became told m read faults size old new before event became)
      → Makes old new event became ⊎ Acts old new event became
  acts old new event became rest order is = inr (record { ready = (and_parts (is_ready old.context) rest order).0; is = is })

  kind_of : (old new : Running D M) (event : Event) (became : Stepped) → is_in_order old.context event ≡ true
      → StepIs told m read faults size mech old new event became → Makes old new event became ⊎ Acts old new event became
  kind_of old new (kinds.Volume side files blocks) became order is = inl (record { side = side; files = files; blocks = blocks; is = refl; made = is })
  kind_of old new (kinds.Write side file off bytes) became order is = acts old new (kinds.Write side file off bytes) became _ order is
  kind_of old new (kinds.Commit side file) became order is = acts old new (kinds.Commit side file) became _ order is
  kind_of old new (kinds.Copy copy spec) became order is = acts old new (kinds.Copy copy spec) became _ order is
  kind_of old new (kinds.Status copy) became order is = acts old new (kinds.Status copy) became _ order is
  kind_of old new (kinds.Cancel copy) became order is = acts old new (kinds.Cancel copy) became _ order is
  kind_of old new kinds.Retry became order is = inr (record { ready = order; is = is })
  kind_of old new (kinds.Deliver number) became order is = inr (record { ready = order; is = is })
  kind_of old new kinds.Flow became order is = inr (record { ready = order; is = is })
  kind_of old new (kinds.Work worker) became order is = inr (record { ready = order; is = is })
  kind_of old new (kinds.Tick seconds) became order is = inr (record { ready = order; is = is })
  kind_of old new (kinds.Peek side file off len) became order is = acts old new (kinds.Peek side file off len) became _ order is
  kind_of old new (kinds.Crash side pick) became order is = inr (record { ready = order; is = is })
  kind_of old new (kinds.CrashAfter side calls pick) became order is = inr (record { ready = order; is = is })

  -- ---- its text has whole lines

  made_text : (side : Side) (shape : Shape) (old new : Running D M) (event : Event) (became : Stepped)
      → VolumeIs told faults size mech side shape old new event became → text_in became ≡ []
  made_text side shape old new event (stepped.Went text) made = made.0
  made_text side shape old new event (stepped.OverLimit text) made = absurd made
  made_text side shape old new event (stepped.Mistaken text mistake) made = absurd made
  made_text side shape old new event (stepped.Unmade cause) made = refl
  made_text side shape old new event (stepped.Lost at cause) made = absurd made

  carried_whole : ((lines : List Line) → IsWholeText (lines_text lines)) → (old new : Running D M) (event : Event) (became : Stepped) (world : RunWorld M)
      → Became told m read faults size old new world event became → told → IsWholeText (text_in became)
  carried_whole law old new event (stepped.Went text) world carried t =
      subst (λ (x : List ℕ). IsWholeText x) (sym (carried.lines t)) (law (lines_of m world carried.steps))
  carried_whole law old new event (stepped.OverLimit text) world carried t =
      subst (λ (x : List ℕ). IsWholeText x) (sym (carried.lines t)) (law (lines_of m world carried.steps))
  carried_whole law old new event (stepped.Mistaken text mistake) world carried t =
      subst (λ (x : List ℕ). IsWholeText x) (sym (carried.lines t)) (law (lines_of m world carried.steps))
  carried_whole law old new event (stepped.Unmade cause) world carried t = law []
  carried_whole law old new event (stepped.Lost side cause) world lost t = law []

  whole_by : ((lines : List Line) → IsWholeText (lines_text lines)) → (old new : Running D M) (event : Event) (became : Stepped) → IsServed old
      → Makes old new event became ⊎ Acts old new event became → told → IsWholeText (text_in became)
  whole_by law old new event became served (inl makes) t =
      subst (λ (text : List ℕ). IsWholeText text)
      (sym (made_text makes.side (record { files = makes.files; blocks = makes.blocks }) old new (kinds.Volume makes.side makes.files makes.blocks) became makes.made)) (law [])
  whole_by law old new event became served (inr acts) t =
      let world = world_there old served acts.ready in
      carried_whole law old new event became world.0 (acts.is world.0 world.1) t

  pub whole_text : ((lines : List Line) → IsWholeText (lines_text lines)) → (old new : Running D M) (event : Event) (became : Stepped) → IsTrue (admits old.context event)
      → IsServed old → StepIs told m read faults size mech old new event became → told → IsWholeText (text_in became)
  whole_text law old new event became admitted served is =
      whole_by law old new event became served (kind_of old new event became (in_order old.context event admitted) is)

  -- ---- the servers behind it

  made_served : (side : Side) (files blocks : ℕ) (old new : Running D M) (became : Stepped) → IsWent became → IsServed old
      → new.context ≡ after old.context (kinds.Volume side files blocks)
      → VolumeIs told faults size mech side (record { files = files; blocks = blocks }) old new (kinds.Volume side files blocks) became → IsServed new
  made_served Source files blocks old new (stepped.Went text) went served context made =
      let state = made.3 in
      record {
        source = λ asked. ap (λ (s : Option (SourceState M)). is_some s) state.1;
        dest = λ asked.
            ap (λ (r : Running D M). is_some r.dest_state) made.1
            ∙ served.dest (sym (ap (λ (c : Context). is_some c.dest) context) ∙ asked);
      }
  made_served Dest files blocks old new (stepped.Went text) went served context made =
      let state = made.3 in
      record {
        source = λ asked.
            ap (λ (r : Running D M). is_some r.source_state) made.1
            ∙ served.source (sym (ap (λ (c : Context). is_some c.source) context) ∙ asked);
        dest = λ asked. ap (λ (s : Option (DestState M)). is_some s) state.1;
      }
  made_served side files blocks old new (stepped.OverLimit text) went served context made = absurd went
  made_served side files blocks old new (stepped.Mistaken text mistake) went served context made = absurd went
  made_served side files blocks old new (stepped.Unmade cause) went served context made = absurd went
  made_served side files blocks old new (stepped.Lost at cause) went served context made = absurd went

  went_served : (old new : Running D M) (event : Event) (became : Stepped) (world : RunWorld M) → IsWent became
      → Became told m read faults size old new world event became → IsServed new
  went_served old new event (stepped.Went text) world went carried = served_in new (after_steps world carried.steps) (carried.world refl)
  went_served old new event (stepped.OverLimit text) world went carried = absurd went
  went_served old new event (stepped.Mistaken text mistake) world went carried = absurd went
  went_served old new event (stepped.Unmade cause) world went carried = absurd went
  went_served old new event (stepped.Lost side cause) world went lost = absurd went

  served_by : (old new : Running D M) (event : Event) (became : Stepped) → IsWent became → IsServed old → new.context ≡ after old.context event
      → Makes old new event became ⊎ Acts old new event became → IsServed new
  served_by old new event became went served context (inl makes) =
      made_served makes.side makes.files makes.blocks old new became went served
      (context ∙ ap (λ (e : Event). after old.context e) makes.is) makes.made
  served_by old new event became went served context (inr acts) =
      let world = world_there old served acts.ready in
      went_served old new event became world.0 went (acts.is world.0 world.1)

  pub served_behind : (old new : Running D M) (event : Event) (became : Stepped) → IsWent became → IsTrue (admits old.context event) → IsServed old
      → new.context ≡ after old.context event → StepIs told m read faults size mech old new event became → IsServed new
  served_behind old new event became went admitted served context is =
      served_by old new event became went served context (kind_of old new event became (in_order old.context event admitted) is)
