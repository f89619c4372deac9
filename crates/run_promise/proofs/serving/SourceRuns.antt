-- The source of a run is lawful at each moment, also where it stops and is opened anew.
use Rattle.std.proofs.Common.{◌≡◌, ◌⊎◌, inl, inr, ℕ, zero, suc, ◌*◌, ◌<◌, ◌≤◌, ◌^◌, List, [], length, slice_get, Option, Some, None, refl, sym, ap, subst, ◌∙◌, arith}
use Rattle.client_laws.specs.WholeTurns.{Purposes}
use Rattle.commit_laws.specs.Stores.{ByCallsInTurns}
use Rattle.copy_model.specs.Effect as effects
use Rattle.copy_model.specs.Effect.{Effect}
use Rattle.copy_model.specs.Volume.{Volume, formatted}
use Rattle.gss_ctx.specs.Table.{ContextTable}
use Rattle.nfs_base.specs.declared.limits.TheConstants.{MOST_BLOCKS}
use Rattle.nfs_base.specs.declared.seal.End.{End}
use Rattle.nfs_base.specs.declared.seal.End.TheVariants.{Client, Source}
use Rattle.nfs_base.specs.declared.seal.Seal.{Seal}
use Rattle.nfs_base.specs.declared.side.Side.{Side}
use Rattle.nfs_base.specs.declared.side.Side.TheVariants as sides
use Rattle.run_ends.specs.Ends.{RunMachines, RunStep, RunWorld, SourceState, Words, machines}
use Rattle.run_ends.specs.First.{IsFirst, IsFreshSource, Shape, shape_of}
use Rattle.run_ends.specs.Opening.{IsNewSource, IsSourceAnew, silenced}
use Rattle.run_ends.specs.Setting.{source_peers, source_place}
use Rattle.run_promise.proofs.serving.Cuts.{IsCutAt, SourceStopsBetween, SourceStopsTaking, cut_is, part_of}
use Rattle.run_promise.proofs.serving.SourceSteps.{Did, Takes, small_did}
use Rattle.run_promise.proofs.serving.Steady.{IsSteady, StayFitting, StopsAreCrashes, came_steady, formatted_steady, stop_fits, stop_lawful, stop_steady}
use Rattle.run_promise.specs.Serving.Lawful.{IsLawfulSource, SendsReplies}
use Rattle.run_promise.specs.System.Moments.{made_at}
use Rattle.run_promise.specs.System.System.{ClientView, source_effect, source_effect_by, system_of, telling, told_in}
use Rattle.server_laws.specs.Acts.{acts_of}
use Rattle.server_laws.specs.ContextLaws.{InEachStep, KeepsBoot, KeepsGood}
use Rattle.server_laws.specs.Good.{IsGood}
use Rattle.server_laws.specs.Lawful as servers
use Rattle.server_laws.specs.Lawful.{KeepsOwner, ObeysLaws, SealsOwn, no_acts}
use Rattle.server_laws.specs.SlotDuties.{KeepsSessions}
use Rattle.server_laws.specs.Slots.{HasSlots}
use Rattle.server_laws.specs.Steps.{IsStep}
use Rattle.server_laws.specs.View.{view}
use Rattle.server_volume.specs.declared.used.Used.{Used}
use Rattle.sess_slots.specs.Lives.{no_clients}
use Rattle.sess_slots.specs.Table.{SessionTable}
use Rattle.session_server.specs.Host.{Codes, Stepped}
use Rattle.session_server.specs.Steps.{ticked}
use Rattle.source_core.specs.Core as new_source
use Rattle.source_core.specs.Core.{source_rules}
use Rattle.source_core.specs.declared.carried.Carried.{Carried}
use Rattle.source_core.specs.declared.source.Source as sources
use Rattle.tell_laws.specs.Fitting.{IsFitting}
use Rattle.tell_laws.specs.Telling.{FitsWords, TellsOfVolume}
use Rattle.tell_laws.specs.Volumes.{AreOffRoot, CallsOnce, ChangesLawfully, KeepsFitting, KeepsOpening, SparesRoot, volume_of}
use Rattle.volume_stops.specs.Stops.{crash_effect}
use Rattle.volume_stops.specs.declared.kept.Kept.{Kept}
use Rattle.wire_lines.specs.declared.letters.Speaker.TheVariants as speakers
use Rattle.wire_machine.specs.History as history
use Rattle.wire_machine.specs.History.{At, at_moment, effect_of, next, part_acts, told_by, told_unless}
use Rattle.wire_machine.specs.Runs.{Numbered}
use Rattle.wire_machine.specs.Steps.{AreSteps, IsMade, cut_by, stops_at}
use Rattle.wire_machine.specs.World.{Part, Parts, idle}
use Rattle.wire_machine.specs.declared.choice.Choice.{Choice}
use Rattle.wire_machine.specs.declared.choice.Choice.TheVariants.{Went, Failed, Stopped}
use Rattle.wire_meaning.specs.Meaning.{meaning}
use Rattle.wire_model.specs.CopyLaws.{TellsRight, VolumeLaws}
use Rattle.wire_model.specs.ServerLaws.{ServerLaws, ServerStart}
use Rattle.wire_model.specs.Spelling.{Spelling}
use Rattle.wire_model.specs.Told.{TakesSimple}
use Rattle.wire_model.specs.Wire.{Acts, Sends, Sent, Server}
use Rattle.wire_spelling.specs.Spelling.{spelling}

-- what holds of a source between steps
pub record IsSound {M : Type 0} (s : SourceState M) : Type 0 where
  pub contexts : IsGood s
  pub slots : HasSlots s
  pub owner : s.contexts.owner ≡ Source
  pub fitting : IsFitting (volume_of s)
  pub steady : IsSteady (volume_of s)
  pub opening : s.contexts.boot ≡ (volume_of s).boot

-- what a step owes, in which it did this
pub record GoesRight {M : Type 0} (spell : Spelling) (s t : SourceState M) (acts : Acts) (e : Effect) : Type 0 where
  pub sound : IsSound t
  pub laws : ServerLaws spell Source (view s) (view t) acts
  pub volume : TakesSimple spell Source acts → VolumeLaws (volume_of s) (volume_of t) e
  pub tells : (ops results : List ℕ) → acts.executed ≡ Some (record { ops = ops; results = results }) → TellsRight meaning (volume_of s) ops results
  pub seals : (bytes : List ℕ) (seal : Seal) → Sends acts bytes (Some seal) → seal.owner ≡ Source
  pub replies : SendsReplies spell acts

abbrev pub codes_of : {M : Type 0} → Words M ℕ → Codes
codes_of words = record { mic = words.mic; derived = words.derived }

-- the laws of every server, and those of every source, that a run's is one of
pub record AreKnown {M : Type 0} (words : Words M ℕ) : Type 0 where
  pub laws : (mech : M) → InEachStep (source_rules {M = M} words.mic) (codes_of words) (words.accepted mech) words.gives (ObeysLaws (codes_of words))
  pub owner : (mech : M) → InEachStep (source_rules {M = M} words.mic) (codes_of words) (words.accepted mech) words.gives KeepsOwner
  pub good : (mech : M) → InEachStep (source_rules {M = M} words.mic) (codes_of words) (words.accepted mech) words.gives KeepsGood
  pub boot : (mech : M) → InEachStep (source_rules {M = M} words.mic) (codes_of words) (words.accepted mech) words.gives KeepsBoot
  pub sessions : (mech : M) → InEachStep (source_rules {M = M} words.mic) (codes_of words) (words.accepted mech) words.gives KeepsSessions
  pub changes : (mech : M) → InEachStep (source_rules {M = M} words.mic) (codes_of words) (words.accepted mech) words.gives (ChangesLawfully (codes_of words))
  pub fitting : (mech : M) → InEachStep (source_rules {M = M} words.mic) (codes_of words) (words.accepted mech) words.gives KeepsFitting
  pub opening : (mech : M) → InEachStep (source_rules {M = M} words.mic) (codes_of words) (words.accepted mech) words.gives KeepsOpening
  pub tells : (mech : M) → InEachStep (source_rules {M = M} words.mic) (codes_of words) (words.accepted mech) words.gives (TellsOfVolume (codes_of words))
  pub seals : (mech : M) → InEachStep (source_rules {M = M} words.mic) (codes_of words) (words.accepted mech) words.gives (SealsOwn (codes_of words))
  pub replies : (mech : M) → InEachStep (source_rules {M = M} words.mic) (codes_of words) (words.accepted mech) words.gives (servers.SendsReplies (codes_of words))
  pub once : (mech : M) → InEachStep (source_rules {M = M} words.mic) (codes_of words) (words.accepted mech) words.gives (CallsOnce (codes_of words))
  pub spares : (mech : M) → InEachStep (source_rules {M = M} words.mic) (codes_of words) (words.accepted mech) words.gives SparesRoot
  pub by_calls : (mech : M) → ByCallsInTurns (source_rules {M = M} words.mic) (codes_of words) (words.accepted mech) words.gives
  pub fits : (v : Volume) → IsFitting v → FitsWords v
  pub tick_laws : (spell : Spelling) (owner : End) (now : ℕ) (s : SourceState M) → ServerLaws spell owner (view s) (view (ticked (source_rules words.mic) now s)) no_acts
  pub tick_view : (now : ℕ) (s : SourceState M) → view (ticked (source_rules words.mic) now s) ≡ view s
  pub tick_good : (now : ℕ) (s : SourceState M) → IsGood s → IsGood (ticked (source_rules words.mic) now s)
  pub tick_slots : (now : ℕ) (s : SourceState M) → HasSlots s → HasSlots (ticked (source_rules words.mic) now s)
  pub begins : (s : SourceState M) → s.contexts.entries ≡ [] → s.state.sessions ≡ no_clients s.state.sessions.boot → ServerStart (view s)
  pub begins_good : (s : SourceState M) → s.contexts.boot < 2 ^ 32 → s.contexts.made ≤ s.steps → s.contexts.entries ≡ [] → IsGood s
  pub begins_slots : (s : SourceState M) → s.state.sessions ≡ no_clients s.state.sessions.boot → HasSlots s
  pub formats : (files capacity : ℕ) → capacity < 2 ^ 64 → IsFitting (formatted files capacity)
  pub stays : StayFitting
  pub stops : StopsAreCrashes
  pub anew : (spell : Spelling) (owner : End) (v w : Server) (a : Acts) → v.boot < w.boot → ServerStart w → a.out ≡ [] → ServerLaws spell owner v w a

-- a step that sends none
none_sent : (a : Acts) (bytes : List ℕ) (seal : Option Seal) → a.out ≡ [] → Sends a bytes seal → ⊥
none_sent a bytes seal none sends = absurd (let below = sends.1 in omega (arith, below, ap (λ (xs : List Sent). length xs) none))

other_owner : (seal : Seal) → seal.owner ≡ Source → seal.owner ≡ Client → ⊥
other_owner seal source client = let both : Source ≡ Client = sym source ∙ client in absurd cc

module _ {M : Type 0} (words : Words M ℕ) (known : AreKnown words) (accepts : List ℕ → Option (List ℕ)) (whose : List ℕ → Option End) where
  abbrev m : RunMachines M
  m = machines words

  abbrev spell : Spelling
  spell = spelling accepts whose

  abbrev codes : Codes
  codes = codes_of words

  -- ---- a record is taken

  taken : (before : RunWorld M) (parts : Parts) (after : RunWorld M) (d : Takes words before parts after) → IsSound before.source
      → GoesRight spell before.source after.source (acts_of codes d.bytes before.clock before.source (record { host = after.source; out = d.out }))
      (effect_of (volume_of after.source) d.out.used)
  taken before parts after d sound =
      let s = before.source in
      let t : Stepped (sources.Source M) Carried = record { host = after.source; out = d.out } in
      let mech = s.state.machine.extra.mech in
      let step : IsStep (source_rules {M = M} words.mic) codes (words.accepted mech) words.gives d.conn d.bytes before.clock s before.draws d.draws t = record {
        good = sound.contexts;
        few = d.goes.1.few;
        are_bytes = d.goes.1.taken;
        turn = d.goes.0;
        short = d.goes.2;
      } in
      record {
        sound = record {
          contexts = known.good mech d.conn d.bytes before.clock s before.draws d.draws t step;
          slots = known.sessions mech d.conn d.bytes before.clock s before.draws d.draws t step sound.slots;
          owner = known.owner mech d.conn d.bytes before.clock s before.draws d.draws t step ∙ sound.owner;
          fitting = known.fitting mech d.conn d.bytes before.clock s before.draws d.draws t step sound.fitting;
          steady = came_steady s.state.machine.store t.host.state.machine.store t.out.used
              (record {
                came = known.by_calls mech d.conn d.bytes before.clock s before.draws d.draws t d.goes.0;
                off_root = known.spares mech d.conn d.bytes before.clock s before.draws d.draws t step;
              })
              sound.steady;
          opening =
              sym (known.boot mech d.conn d.bytes before.clock s before.draws d.draws t step) ∙ sound.opening
              ∙ sym (known.opening mech d.conn d.bytes before.clock s before.draws d.draws t step);
        };
        laws = known.laws mech d.conn d.bytes before.clock s before.draws d.draws t step Source accepts whose sound.owner sound.slots;
        volume = λ simple.
            known.changes mech d.conn d.bytes before.clock s before.draws d.draws t step Source accepts whose sound.owner simple sound.fitting.writes;
        tells = λ ops results executed.
            known.tells mech d.conn d.bytes before.clock s before.draws d.draws t step (record { ops = ops; results = results })
            (known.fits (volume_of s) sound.fitting) executed;
        replies = λ bytes seal sends. known.replies mech d.conn d.bytes before.clock s before.draws d.draws t step bytes seal sends;
        seals = λ bytes seal sends. known.seals mech d.conn d.bytes before.clock s before.draws d.draws t step bytes seal sends ∙ sound.owner;
      }

  -- ---- none is

  stays : (s : SourceState M) → IsSound s → GoesRight spell s s no_acts effects.Rests
  stays s sound = record {
    sound = sound;
    laws = subst (λ v. ServerLaws spell Source (view s) v no_acts) (known.tick_view 0 s) (known.tick_laws spell Source 0 s);
    volume = λ simple. record { allowed = tt; goes_on = refl };
    tells = λ ops results executed. absurd cc;
    seals = λ bytes seal sends. absurd (none_sent no_acts bytes (Some seal) refl sends);
    replies = λ bytes seal sends. absurd (none_sent no_acts bytes seal refl sends);
  }

  ticks : (now : ℕ) (s : SourceState M) → IsSound s → GoesRight spell s (ticked (source_rules words.mic) now s) no_acts effects.Rests
  ticks now s sound = record {
    sound = record {
      contexts = known.tick_good now s sound.contexts;
      slots = known.tick_slots now s sound.slots;
      owner = sound.owner;
      fitting = sound.fitting;
      steady = sound.steady;
      opening = sound.opening;
    };
    laws = known.tick_laws spell Source now s;
    volume = λ simple. record { allowed = tt; goes_on = refl };
    tells = λ ops results executed. absurd cc;
    seals = λ bytes seal sends. absurd (none_sent no_acts bytes (Some seal) refl sends);
    replies = λ bytes seal sends. absurd (none_sent no_acts bytes seal refl sends);
  }

  rested : (s t : SourceState M) → IsSound s → (t ≡ s) ⊎ ((now : ℕ) × (t ≡ ticked (source_rules words.mic) now s)) → GoesRight spell s t no_acts effects.Rests
  rested s t sound (inl same) = subst (λ (x : SourceState M). GoesRight spell s x no_acts effects.Rests) (sym same) (stays s sound)
  rested s t sound (inr tick) = subst (λ (x : SourceState M). GoesRight spell s x no_acts effects.Rests) (sym tick.1) (ticks tick.0 s sound)

  -- ---- it was just opened

  sessions_new : (boot : ℕ) (s : SourceState M) → s.state.sessions ≡ no_clients boot → s.state.sessions ≡ no_clients s.state.sessions.boot
  sessions_new boot s is = is ∙ ap no_clients (sym (ap (λ (x : SessionTable). x.boot) is))

  starts : (mech : M) (s : SourceState M) → IsNewSource mech s → ServerStart (view s)
  starts mech s new =
      known.begins s (ap (λ (x : ContextTable Carried). x.entries) new.contexts) (sessions_new (volume_of s).boot s new.sessions)

  opens : (mech : M) (s : SourceState M) → IsNewSource mech s → IsFitting (volume_of s) → IsSteady (volume_of s) → IsSound s
  opens mech s new fitting steady =
      let made : s.contexts.made ≡ 0 = ap (λ (x : ContextTable Carried). x.made) new.contexts in
      let boot : s.contexts.boot ≡ (volume_of s).boot = ap (λ (x : ContextTable Carried). x.boot) new.contexts in
      let few = fitting.boot in
      record {
        contexts = known.begins_good s (omega (arith, boot, few)) (omega (arith, made)) (ap (λ (x : ContextTable Carried). x.entries) new.contexts);
        slots = known.begins_slots s (sessions_new (volume_of s).boot s new.sessions);
        owner = ap (λ (x : ContextTable Carried). x.owner) new.contexts;
        fitting = fitting;
        steady = steady;
        opening = boot;
      }

  -- ---- it stopped, and was opened anew

  anew_right : (s t : SourceState M) (used : List Used) (kept : Kept) (a : Acts) → IsSound s → IsSourceAnew s used kept t → AreOffRoot used
      → (TakesSimple spell Source a → length used ≤ 1) → a.executed ≡ None → a.out ≡ [] → GoesRight spell s t a (crash_effect kept used)
  anew_right s t used kept a sound anew off_root few none silent =
      let old = s.state.machine.store in
      let new = t.state.machine.store in
      let next : IsSound t =
      opens s.state.machine.extra.mech t anew.opened (stop_fits known.stays old new used kept anew.stops off_root anew.numbered sound.fitting)
      (stop_steady old new used kept anew.stops) in
      let risen : s.contexts.boot < t.contexts.boot = omega (arith, sound.opening, next.opening, known.stops.boot old new used kept anew.stops) in
      record {
        sound = next;
        laws = known.anew spell Source (view s) (view t) a risen (starts s.state.machine.extra.mech t anew.opened) silent;
        volume = λ simple. stop_lawful known.stops old new used kept anew.stops (few simple) sound.steady off_root;
        tells = λ ops results executed. absurd (let both = sym none ∙ executed in cc);
        seals = λ bytes seal sends. absurd (none_sent a bytes (Some seal) silent sends);
        replies = λ bytes seal sends. absurd (none_sent a bytes seal silent sends);
      }

  -- ---- a small step

  abbrev acts_by : RunWorld M → RunWorld M → Part → Acts
  acts_by before after part = part_acts part (told_by (λ bytes. told_in codes bytes before.clock before.source after.source part.out) part.took)

  did_right : (before : RunWorld M) (parts : Parts) (after : RunWorld M) → Did words before parts after → IsSound before.source
      → GoesRight spell before.source after.source (acts_by before after parts.source) (effect_of (volume_of after.source) parts.source.out.used)
  did_right before parts after (inl d) sound =
      subst (λ (p : Part). GoesRight spell before.source after.source (acts_by before after p) (effect_of (volume_of after.source) p.out.used)) (sym d.part)
      (taken before parts after d sound)
  did_right before parts after (inr d) sound =
      subst (λ (p : Part). GoesRight spell before.source after.source (acts_by before after p) (effect_of (volume_of after.source) p.out.used)) (sym d.part)
      (rested before.source after.source sound d.source)

  -- what it did, where it stopped or not
  abbrev acts_unless : Option Kept → RunWorld M → RunWorld M → Part → Acts
  acts_unless cut before after part = told_unless cut (acts_by before after part)

  abbrev Stops : Kept → RunWorld M → RunWorld M → Part → Type 0
  Stops kept before after part = GoesRight spell before.source after.source (acts_unless (Some kept) before after part) (crash_effect kept part.out.used)

  taking_right : (kept : Kept) (before : RunWorld M) (parts : Parts) (after : RunWorld M)
      → SourceStopsTaking words kept before.clock before.draws before.source parts.source after.source → IsSound before.source
      → Stops kept before after parts.source
  taking_right kept before parts after d sound =
      let s = before.source in
      let mech = s.state.machine.extra.mech in
      let u : Stepped (sources.Source M) Carried = record { host = d.would; out = d.full } in
      let step : IsStep (source_rules {M = M} words.mic) codes (words.accepted mech) words.gives d.conn d.bytes before.clock s before.draws d.left u = record {
        good = sound.contexts;
        few = d.goes.1.few;
        are_bytes = d.goes.1.taken;
        turn = d.goes.0;
        short = d.goes.2;
      } in
      let part : Part = part_of speakers.Source (Some d.bytes) (silenced d.full) in
      subst (λ (p : Part). Stops kept before after p) (sym d.part_is)
      (anew_right s after.source d.full.used kept (acts_unless (Some kept) before after part) sound d.anew
      (known.spares mech d.conn d.bytes before.clock s before.draws d.left u step)
      (λ simple. known.once mech d.conn d.bytes before.clock s before.draws d.left u step Source accepts whose sound.owner simple) refl refl)

  between_right : (kept : Kept) (before : RunWorld M) (parts : Parts) (after : RunWorld M)
      → SourceStopsBetween words kept before.source parts.source after.source → IsSound before.source → Stops kept before after parts.source
  between_right kept before parts after d sound =
      subst (λ (p : Part). Stops kept before after p) (sym d.part_is)
      (anew_right before.source after.source [] kept (acts_unless (Some kept) before after (idle speakers.Source)) sound d.anew tt
      (λ simple. omega arith) refl refl)

  stopped_right : (kept : Kept) (before : RunWorld M) (parts : Parts) (after : RunWorld M)
      → SourceStopsTaking words kept before.clock before.draws before.source parts.source after.source
      ⊎ SourceStopsBetween words kept before.source parts.source after.source → IsSound before.source → Stops kept before after parts.source
  stopped_right kept before parts after (inl d) sound = taking_right kept before parts after d sound
  stopped_right kept before parts after (inr d) sound = between_right kept before parts after d sound

  -- ---- a run

  module _ (seen : ClientView M) (first : RunWorld M) (steps : List (RunStep M)) (purposes : ℕ → Purposes) (are : AreSteps m first steps) (begun : IsSound first.source) where
    abbrev moment : RunWorld M → List (RunStep M) → ℕ → At m (telling codes) spell meaning
    moment before more k = at_moment m (telling codes) spell meaning before more k

    abbrev acts_by_step : RunWorld M → Option (RunStep M) → Acts
    acts_by_step before o = history.acts_of m (telling codes) spell meaning before o Source

    -- by whether it stopped
    abbrev GoesIn : Option Kept → RunStep M → RunWorld M → Type 0
    GoesIn cut s before =
        GoesRight spell before.source s.after.source (acts_unless cut before s.after s.parts.source)
        (source_effect_by m codes spell meaning seen first steps purposes cut s)

    cut_right : (side : Side) (kept : Kept) (s : RunStep M) (before : RunWorld M) → IsCutAt words side kept before s.parts s.after → IsSound before.source
        → GoesIn (cut_by sides.Source side (Stopped kept)) s before
    cut_right sides.Source kept s before c sound = stopped_right kept before s.parts s.after c.how sound
    cut_right sides.Dest kept s before c sound =
        did_right before s.parts s.after (inr (record { source = inl c.other; part = c.other_part })) sound

    made_right : (choice : Choice) (s : RunStep M) (before : RunWorld M) → IsMade m choice s.event before s.parts s.after → IsSound before.source
        → GoesIn (cut_by sides.Source (stops_at s.event before.log) choice) s before
    made_right Went s before small sound = did_right before s.parts s.after (small_did words s.event before s.parts s.after small) sound
    made_right Failed s before small sound = did_right before s.parts s.after (small_did words s.event before s.parts s.after small) sound
    made_right (Stopped kept) s before cut sound =
        cut_right (stops_at s.event before.log) kept s before (cut_is words s.event kept before s.parts s.after cut) sound

    -- in a step of the run, and past the last one
    goes_at : (k : ℕ) (o : Option (RunStep M)) → slice_get steps k ≡ o → IsSound (moment first steps k).world.source
        → GoesRight spell (moment first steps k).world.source (next m (telling codes) spell meaning (moment first steps k) o).world.source
        (acts_by_step (moment first steps k).world o) (source_effect m codes spell meaning seen first steps purposes (moment first steps k).world o)
    goes_at k None is sound = stays (moment first steps k).world.source sound
    goes_at k (Some s) is sound =
        made_right s.choice s (moment first steps k).world (made_at m (telling codes) spell meaning first steps k s are is).step.small sound

    pub sound_at : (k : ℕ) → IsSound (moment first steps k).world.source
    sound_at zero = begun
    sound_at (suc k) = (goes_at k (slice_get steps k) refl (sound_at k)).sound

    pub right_at : (k : ℕ) → GoesRight spell (moment first steps k).world.source (moment first steps (suc k)).world.source
        (acts_by_step (moment first steps k).world (slice_get steps k))
        (source_effect m codes spell meaning seen first steps purposes (moment first steps k).world (slice_get steps k))
    right_at k = goes_at k (slice_get steps k) refl (sound_at k)

    pub run_lawful : (files capacity : ℕ) → volume_of first.source ≡ formatted files capacity → ServerStart (view first.source)
        → IsLawfulSource spell meaning (system_of m codes spell meaning seen first steps purposes)
    unfolding system_of
    run_lawful files capacity is starts = record {
      start = starts;
      server = λ k. (right_at k).laws;
      files = files;
      capacity = capacity;
      formatted_so = is;
      volume = λ k simple. (right_at k).volume simple;
      tells = λ k ops results executed. (right_at k).tells ops results executed;
      opening = λ k. (sound_at k).opening;
      replies = λ k. (right_at k).replies;
      seals = λ k bytes seal sends. (right_at k).seals bytes seal sends;
      silent = λ k bytes seal sends. other_owner seal ((right_at k).seals bytes seal sends);
    }

  -- ---- from the first moment on

  is_new : (mech : M) (shape : Shape) (s : SourceState M) → IsFreshSource mech shape s → IsNewSource mech s
  is_new mech shape s fresh =
      let boot : 1 ≡ (volume_of s).boot = sym (ap (λ (v : Volume). v.boot) fresh.volume) in
      record {
        contexts = fresh.contexts ∙ ap (λ (n : ℕ). new_source.no_contexts n) boot;
        opens = fresh.opens ∙ ap (λ (n : ℕ). new_source.no_opens n) boot;
        sessions = fresh.sessions ∙ ap (λ (n : ℕ). new_source.no_sessions n) boot;
        extra = fresh.extra ∙ ap (λ (n : ℕ). new_source.no_source n mech source_peers source_place) boot;
        second = fresh.second;
        steps = fresh.steps;
      }

  begins : (mech : M) (shape : Shape) (s : SourceState M) → IsFreshSource mech shape s → shape.blocks ≤ MOST_BLOCKS → IsSound s
  begins mech shape s fresh few =
      opens mech s (is_new mech shape s fresh)
      (subst IsFitting (sym fresh.volume) (known.formats shape.files (shape.blocks * 4096) (omega (arith, few))))
      (subst IsSteady (sym fresh.volume) (formatted_steady shape.files (shape.blocks * 4096)))

  pub source_lawful : (mech : M) (events : List Numbered) (first : RunWorld M) (steps : List (RunStep M)) (seen : ClientView M) (purposes : ℕ → Purposes)
      → IsFirst mech events first → (shape_of sides.Source events).blocks ≤ MOST_BLOCKS → AreSteps m first steps
      → IsLawfulSource spell meaning (system_of m codes spell meaning seen first steps purposes)
  source_lawful mech events first steps seen purposes is few are =
      let shape = shape_of sides.Source events in
      run_lawful seen first steps purposes are (begins mech shape first.source is.source few) shape.files (shape.blocks * 4096) is.source.volume
      (starts mech first.source (is_new mech shape first.source is.source))
