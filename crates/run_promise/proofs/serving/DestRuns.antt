-- The destination of a run obeys the laws of a server at each moment, also where it stops and is opened anew.
use Rattle.std.proofs.Common.{◌≡◌, ◌⊎◌, inl, inr, ℕ, zero, suc, ◌+◌, ◌-◌, ◌*◌, ◌<◌, ◌≤◌, ◌^◌, Bool, true, false, List, [], ◌∷◌, length, map, slice_get, Option, Some, None, refl, sym, ap, subst, ◌∙◌, arith}
use Rattle.std.specs.Prelude.{All, max}
use Rattle.std.proofs.lemmas.List.Elements.{All-cons, All-contains, All-nil}
use Rattle.client_laws.specs.WholeTurns.{Purposes}
use Rattle.commit_laws.specs.Calling.{CameByCalls}
use Rattle.commit_laws.specs.Stores.{ByCallsInTurns}
use Rattle.context_laws.specs.View.{AreNumbered}
use Rattle.copy_model.specs.Effect.{after}
use Rattle.copy_model.specs.Job.{Plan}
use Rattle.copy_model.specs.Volume.{Volume, formatted}
use Rattle.dest_core.specs.Core as new_dest
use Rattle.dest_core.specs.Core.{dest_rules}
use Rattle.dest_core.specs.Stepping as dest
use Rattle.dest_core.specs.Stepping.{DestState, DestStep, IsRecordBy, IsReply, IsWork}
use Rattle.dest_jobs.specs.declared.carried.Carried.{Carried}
use Rattle.dest_laws.specs.Calls.Steps.{AreCalls}
use Rattle.dest_steps.specs.Copier as copiers
use Rattle.gss_ctx.specs.Table.{ContextTable}
use Rattle.nfs_base.specs.declared.seal.End.{End}
use Rattle.nfs_base.specs.declared.seal.End.TheVariants.{Dest}
use Rattle.nfs_base.specs.declared.seal.Seal.{Seal}
use Rattle.nfs_base.specs.declared.side.Side.{Side}
use Rattle.nfs_base.specs.declared.side.Side.TheVariants as sides
use Rattle.outbox.specs.declared.outgoing.Outbox.{Outbox}
use Rattle.outbox.specs.declared.outgoing.Outgoing.{Outgoing}
use Rattle.rpc_calls.specs.Judging.{judged_of}
use Rattle.rpc_calls.specs.declared.call.Judged.{Judged}
use Rattle.rpc_calls.specs.declared.call.Judged.TheVariants as judged
use Rattle.rpc_calls.specs.declared.call.TheConstants.Program as programs
use Rattle.run_ends.specs.Ends.{RunMachines, RunStep, RunWorld, Words, dest_goes, hears, is_worker, machines}
use Rattle.run_ends.specs.First.{IsFirst, IsFreshDest, Shape, shape_of}
use Rattle.run_ends.specs.Handling.{dest_took}
use Rattle.run_ends.specs.Opening.{IsDestAnew, IsNewDest, silenced}
use Rattle.run_ends.specs.Setting.{dest_name, dest_place, dest_source}
use Rattle.run_promise.proofs.serving.Cuts.{DestCut, DestStopsBetween, DestStopsIn, IsCutAt, cut_is, part_of}
use Rattle.run_promise.proofs.serving.ServerSteps.{AsksAlone, Did, IsHeardAlone, LeavesServer, Takes, came_same, leaves_none, small_did}
use Rattle.run_promise.proofs.serving.Steady.{CameOffRoot, IsSteady, StopsAreCrashes, came_steady, formatted_steady, stop_lawful, stop_steady}
use Rattle.run_promise.proofs.serving.WorkCalls.{reply_came, work_came}
use Rattle.run_promise.specs.Serving.Lawful.{IsLawfulDest}
use Rattle.run_promise.specs.Serving.Stopping.{CrashesLawfully}
use Rattle.run_promise.specs.System.Moments.{made_at}
use Rattle.run_promise.specs.System.System.{ClientView, system_of, telling, told_in}
use Rattle.server_laws.specs.Acts.{acts_of, sent_of, tells, told}
use Rattle.server_laws.specs.ContextLaws.{InEachStep, KeepsBoot, KeepsGood}
use Rattle.server_laws.specs.Good.{IsGood}
use Rattle.server_laws.specs.Lawful.{KeepsOwner, ObeysLaws}
use Rattle.server_laws.specs.SlotDuties.{KeepsSessions}
use Rattle.server_laws.specs.Slots.{HasSlots}
use Rattle.server_laws.specs.Steps.{IsStep}
use Rattle.server_laws.specs.View.{view}
use Rattle.server_volume.specs.Store.{Store}
use Rattle.server_volume.specs.declared.used.Used.{Used}
use Rattle.sess_slots.specs.Lives.{no_clients}
use Rattle.sess_slots.specs.Table.{SessionTable}
use Rattle.session_server.specs.Host.{Codes}
use Rattle.session_server.specs.Steps.{IsJudgedTurn, ticked}
use Rattle.slot_laws.specs.Sound.{AreBelow, IsSound}
use Rattle.tell_laws.specs.Volumes.{AreOffRoot, CallsOnce, SparesRoot, volume_of}
use Rattle.volume_stops.specs.Stops.{crash_effect}
use Rattle.volume_stops.specs.declared.kept.Kept.{Kept}
use Rattle.wire_lines.specs.declared.letters.Speaker.{Speaker}
use Rattle.wire_lines.specs.declared.letters.Speaker.TheVariants as speakers
use Rattle.wire_machine.specs.Ends as acts
use Rattle.wire_machine.specs.Ends.{DestAct}
use Rattle.wire_machine.specs.History as history
use Rattle.wire_machine.specs.History.{At, at_moment, called_with, is_call, next, part_acts, sent_of as part_sent, takes_call, told_by, told_unless}
use Rattle.wire_machine.specs.Runs.{Numbered}
use Rattle.wire_machine.specs.Steps.{AreSteps, IsMade, cut_by, cut_of, stops_at}
use Rattle.wire_machine.specs.World.{Part, Parts, all_idle, idle}
use Rattle.wire_machine.specs.declared.choice.Choice.{Choice}
use Rattle.wire_machine.specs.declared.choice.Choice.TheVariants.{Went, Failed, Stopped}
use Rattle.wire_meaning.specs.Meaning.{meaning}
use Rattle.wire_model.specs.Copies as copies
use Rattle.wire_model.specs.Copies.{bare_effect}
use Rattle.wire_model.specs.CopyLaws.{VolumeLaws}
use Rattle.wire_model.specs.ServerLaws.{ServerLaws, ServerStart}
use Rattle.wire_model.specs.Spelling.{Spelling}
use Rattle.wire_model.specs.System.{System, plan_at}
use Rattle.wire_model.specs.Told.{TakesSimple}
use Rattle.wire_model.specs.Wire.{Acts, Executed, Sends, Sent, Server}
use Rattle.wire_spelling.specs.Replies.{is_reply}
use Rattle.wire_spelling.specs.Spelling.{spelling}

-- ---- a server that takes no call and tells nothing

-- nothing that it sends under a seal answers a record that it took
abbrev AnswersNone : Spelling → Acts → Type 0
AnswersNone spell a = (call bytes : List ℕ) (seal : Seal) → a.took ≡ Some call → Sends a bytes (Some seal) → spell.is_reply bytes ≡ true → ⊥

quiet : (spell : Spelling) (owner : End) (v : Server) (a : Acts) → a.executed ≡ None → AnswersNone spell a → ServerLaws spell owner v v a
quiet spell owner v a none answers = record {
  boot = omega arith;
  made = λ same. omega arith;
  root = λ number root there. inl (refl, there);
  init = λ call reply seal by took begun sends is_reply. absurd (answers call reply seal took sends is_reply);
  create = λ call reply seal child took creates sends is_reply given. absurd (answers call reply seal took sends is_reply);
  slot = λ call reply seal name took named sends is_reply. absurd (answers call reply seal took sends is_reply);
  kept = λ name root results keeps. inl (refl, keeps);
  once = λ name root results x ran. absurd (let both = sym none ∙ x.executed in cc);
  last = λ name same. omega arith;
}

-- calls are seen as such
calls_all : (sent : List Outgoing) → AreCalls sent → All (λ (one : Sent). is_reply one.bytes ≡ false) (map part_sent sent)
calls_all [] calls = All-nil (λ (one : Sent). is_reply one.bytes ≡ false)
calls_all (o ∷ sent) calls = All-cons (λ (one : Sent). is_reply one.bytes ≡ false) (part_sent o) (map part_sent sent) calls.0 (calls_all sent calls.1)

-- ---- what holds of a destination between steps, as a server

pub record IsSoundDest {M : Type 0} (s : DestState M) : Type 0 where
  pub contexts : IsGood s
  pub slots : HasSlots s
  pub owner : s.contexts.owner ≡ Dest
  pub opening : s.contexts.boot ≡ (volume_of s).boot
  pub steady : IsSteady (volume_of s)

pub record DestGoesRight {M : Type 0} (spell : Spelling) (s t : DestState M) (acts : Acts) : Type 0 where
  pub sound : IsSoundDest t
  pub laws : ServerLaws spell Dest (view s) (view t) acts

abbrev pub codes_of : {M : Type 0} → Words M ℕ → Codes
codes_of words = record { mic = words.mic; derived = words.derived }

pub record AreKnownDest {M : Type 0} (words : Words M ℕ) : Type 0 where
  pub laws : (mech : M) → InEachStep (dest_rules {M = M}) (codes_of words) (words.accepted mech) words.gives (ObeysLaws (codes_of words))
  pub owner : (mech : M) → InEachStep (dest_rules {M = M}) (codes_of words) (words.accepted mech) words.gives KeepsOwner
  pub good : (mech : M) → InEachStep (dest_rules {M = M}) (codes_of words) (words.accepted mech) words.gives KeepsGood
  pub boot : (mech : M) → InEachStep (dest_rules {M = M}) (codes_of words) (words.accepted mech) words.gives KeepsBoot
  pub sessions : (mech : M) → InEachStep (dest_rules {M = M}) (codes_of words) (words.accepted mech) words.gives KeepsSessions
  pub once : (mech : M) → InEachStep (dest_rules {M = M}) (codes_of words) (words.accepted mech) words.gives (CallsOnce (codes_of words))
  pub spares : (mech : M) → InEachStep (dest_rules {M = M}) (codes_of words) (words.accepted mech) words.gives SparesRoot
  pub by_calls : (mech : M) → ByCallsInTurns (dest_rules {M = M}) (codes_of words) (words.accepted mech) words.gives
  pub work_once : (started : List ℕ → List ℕ → Option (List ℕ)) (codes : copiers.Codes) (place now : ℕ) (s : DestState M) (before after : ℕ) (t : DestStep M)
      → IsWork words.gives started codes place now s before after t → length t.out.used ≤ 1
  pub reply_once : (codes : copiers.Codes) (finish : List ℕ → List ℕ → Option (List ℕ)) (place : ℕ) (message : List ℕ) (now : ℕ) (s : DestState M) (t : DestStep M)
      → IsReply codes finish place message now s t → length t.out.used ≤ 1
  pub numbered : (old new : Store) (used : List Used) → CameByCalls old new [] used → new.volume.boot ≡ old.volume.boot
  pub tick_good : (now : ℕ) (s : DestState M) → IsGood s → IsGood (ticked dest_rules now s)
  pub tick_slots : (now : ℕ) (s : DestState M) → HasSlots s → HasSlots (ticked dest_rules now s)
  pub begins : (s : DestState M) → s.contexts.entries ≡ [] → s.state.sessions ≡ no_clients s.state.sessions.boot → ServerStart (view s)
  pub begins_good : (s : DestState M) → s.contexts.boot < 2 ^ 32 → s.contexts.made ≤ s.steps → s.contexts.entries ≡ [] → IsGood s
  pub begins_slots : (s : DestState M) → s.state.sessions ≡ no_clients s.state.sessions.boot → HasSlots s
  pub alone : AsksAlone M
  pub stops : StopsAreCrashes
  pub anew : (spell : Spelling) (owner : End) (v w : Server) (a : Acts) → v.boot < w.boot → ServerStart w → a.out ≡ [] → ServerLaws spell owner v w a

module _ {M : Type 0} (words : Words M ℕ) (known : AreKnownDest words) (accepts : List ℕ → Option (List ℕ)) (whose : List ℕ → Option End) where
  abbrev m : RunMachines M
  m = machines words

  abbrev spell : Spelling
  spell = spelling accepts whose

  abbrev codes : Codes
  codes = codes_of words

  -- ---- a step of its own

  good_in : (contexts : ContextTable Carried) (steps : ℕ) (t : DestState M) → t.contexts ≡ contexts → t.steps ≡ steps → contexts.boot < 2 ^ 32 → contexts.made ≤ steps
      → AreNumbered contexts.made contexts.entries → IsGood t
  good_in contexts steps t is counted boot made numbered = record {
    boot = subst (λ (c : ContextTable Carried). c.boot < 2 ^ 32) (sym is) boot;
    counted = subst (λ (c : ContextTable Carried). c.made ≤ t.steps) (sym is) (subst (λ n. contexts.made ≤ n) (sym counted) made);
    numbered = subst (λ (c : ContextTable Carried). AreNumbered c.made c.entries) (sym is) numbered;
  }

  slots_in : (sessions : SessionTable) (steps : ℕ) (t : DestState M) → t.state.sessions ≡ sessions → t.steps ≡ steps → IsSound sessions
      → sessions.sessions_made ≤ steps → AreBelow steps sessions → HasSlots t
  slots_in sessions steps t is counted sound few below = record {
    sound = subst IsSound (sym is) sound;
    few = subst (λ (x : SessionTable). x.sessions_made ≤ t.steps) (sym is) (subst (λ n. sessions.sessions_made ≤ n) (sym counted) few);
    below = subst (λ (x : SessionTable). AreBelow t.steps x) (sym is) (subst (λ n. AreBelow n sessions) (sym counted) below);
  }

  -- what it does to its volume leaves the number of its opening
  same_opening : (s t : DestState M) (used : List Used) → s.contexts.boot ≡ t.contexts.boot → CameOffRoot s.state.machine.store t.state.machine.store used
      → IsSoundDest s → t.contexts.boot ≡ (volume_of t).boot
  same_opening s t used same calls sound =
      sym same ∙ sound.opening ∙ sym (known.numbered s.state.machine.store t.state.machine.store used calls.came)

  leaves_sound : (s t : DestState M) → LeavesServer s t → IsSoundDest s → (t.steps ≡ s.steps) ⊎ (t.steps ≡ s.steps + 1) → IsSoundDest t
  leaves_sound s t leaves sound (inl same) = record {
    contexts = good_in s.contexts s.steps t leaves.contexts same sound.contexts.boot sound.contexts.counted sound.contexts.numbered;
    slots = slots_in s.state.sessions s.steps t leaves.sessions same sound.slots.sound sound.slots.few sound.slots.below;
    owner = ap (λ (c : ContextTable Carried). c.owner) leaves.contexts ∙ sound.owner;
    opening = same_opening s t leaves.used (sym (ap (λ (c : ContextTable Carried). c.boot) leaves.contexts)) leaves.calls sound;
    steady = came_steady s.state.machine.store t.state.machine.store leaves.used leaves.calls sound.steady;
  }
  leaves_sound s t leaves sound (inr more) =
      let good = known.tick_good 0 s sound.contexts in
      let slots = known.tick_slots 0 s sound.slots in
      record {
        contexts = good_in s.contexts (s.steps + 1) t leaves.contexts more good.boot good.counted good.numbered;
        slots = slots_in s.state.sessions (s.steps + 1) t leaves.sessions more slots.sound slots.few slots.below;
        owner = ap (λ (c : ContextTable Carried). c.owner) leaves.contexts ∙ sound.owner;
        opening = same_opening s t leaves.used (sym (ap (λ (c : ContextTable Carried). c.boot) leaves.contexts)) leaves.calls sound;
        steady = came_steady s.state.machine.store t.state.machine.store leaves.used leaves.calls sound.steady;
      }

  abbrev seen_as : ContextTable Carried → SessionTable → DestState M → Server
  seen_as contexts sessions s = view (record s { contexts = contexts; state = record s.state { sessions = sessions } })

  same_view : (s t : DestState M) → LeavesServer s t → view t ≡ view s
  same_view s t leaves =
      ap (λ (c : ContextTable Carried). seen_as c t.state.sessions s) leaves.contexts ∙ ap (λ (x : SessionTable). seen_as s.contexts x s) leaves.sessions

  own_step : (s t : DestState M) (a : Acts) → LeavesServer s t → IsSoundDest s → a.executed ≡ None → AnswersNone spell a → DestGoesRight spell s t a
  own_step s t a leaves sound none answers = record {
    sound = leaves_sound s t leaves sound leaves.steps;
    laws = subst (λ (v : Server). ServerLaws spell Dest (view s) v a) (sym (same_view s t leaves)) (quiet spell Dest (view s) a none answers);
  }

  -- ---- a record is taken on a connection

  none_sent : (a : Acts) → a.out ≡ [] → AnswersNone spell a
  none_sent a none call bytes seal took sends is_reply =
      absurd (let below = sends.1 in omega (arith, below, ap (λ (xs : List Sent). length xs) none))

  -- what a step took, and under which seal
  abbrev takes_so : Option (List ℕ) → Outbox → Acts
  takes_so took out = record { took = took; accepted = out.accepted; executed = None; out = [] }

  -- it made one call at most on the volume, where what it took calls it once at most; and none on the root
  record CallsFew (took : Option (List ℕ)) (out : Outbox) : Type 0 where
    once : TakesSimple spell Dest (takes_so took out) → length out.used ≤ 1
    off_root : AreOffRoot out.used

  calls_none : (took : Option (List ℕ)) (out : Outbox) → out.used ≡ [] → CallsFew took out
  calls_none took out none = record {
    once = λ simple. omega (arith, ap (λ (us : List Used). length us) none);
    off_root = subst AreOffRoot (sym none) tt;
  }

  module _ (conn : ℕ) (bytes : List ℕ) (now : ℕ) (s : DestState M) (before after : ℕ) (u : DestState M) (out : Outbox) (sound : IsSoundDest s) where
    abbrev t : DestStep M
    t = record { host = u; out = out }

    abbrev here : Judged
    here = judged_of words.mic (max s.second now) programs.NFS bytes s.contexts

    abbrev Step : Type 0
    Step = IsStep (dest_rules {M = M}) (codes_of words) (words.accepted s.state.machine.extra.mech) words.gives conn bytes now s before after t

    -- it is a reply, or it is taken as at every server
    abbrev IsTakenSo : Type 0
    IsTakenSo = ((here ≡ judged.Reply) × (t ≡ dest.answer_step words.mic bytes now s)) ⊎ Step

    by_judged : (j : Judged) → here ≡ j
        → IsRecordBy j (codes_of words) (words.accepted s.state.machine.extra.mech) words.gives conn bytes now s before after t
        → (IsJudgedTurn j (dest_rules {M = M}) (codes_of words) (words.accepted s.state.machine.extra.mech) words.gives (max s.second now) conn s before after t → Step)
        → IsTakenSo
    by_judged judged.Reply is record_ step = inl (is, record_.is)
    by_judged judged.Unread is record_ step = inr (step record_)
    by_judged (judged.Call call) is record_ step = inr (step record_)

    taken_so : dest_goes words (acts.DestTakes conn bytes) now s before u after out → IsTakenSo
    taken_so goes =
        by_judged here refl goes.0
        (λ turn. record { good = sound.contexts; few = goes.1.few; are_bytes = goes.1.taken; turn = turn; short = goes.2 })

    turned : Step → DestGoesRight spell s u (acts_of (codes_of words) bytes now s t)
    turned step =
        let mech = s.state.machine.extra.mech in
        let calls : CameOffRoot s.state.machine.store u.state.machine.store out.used = record {
          came = known.by_calls mech conn bytes now s before after t step.turn;
          off_root = known.spares mech conn bytes now s before after t step;
        } in
        record {
          sound = record {
            contexts = known.good mech conn bytes now s before after t step;
            slots = known.sessions mech conn bytes now s before after t step sound.slots;
            owner = known.owner mech conn bytes now s before after t step ∙ sound.owner;
            opening = same_opening s u out.used (known.boot mech conn bytes now s before after t step) calls sound;
            steady = came_steady s.state.machine.store u.state.machine.store out.used calls sound.steady;
          };
          laws = known.laws mech conn bytes now s before after t step Dest accepts whose sound.owner sound.slots;
        }

    answered : here ≡ judged.Reply → t ≡ dest.answer_step words.mic bytes now s → DestGoesRight spell s u (acts_of (codes_of words) bytes now s t)
    answered reply is =
        let none = ap (λ j. told (tells j s.contexts s.state.sessions) bytes t.out.sent) reply in
        let sent : t.out.sent ≡ [] = ap (λ (x : DestStep M). x.out.sent) is in
        own_step s u (acts_of (codes_of words) bytes now s t)
        (record {
          contexts = ap (λ (x : DestStep M). x.host.contexts) is;
          sessions = ap (λ (x : DestStep M). x.host.state.sessions) is;
          steps = inr (ap (λ (x : DestStep M). x.host.steps) is);
          used = [];
          calls = came_same s u (ap (λ (x : DestStep M). x.host.state.machine.store) is);
        })
        sound none (none_sent (acts_of (codes_of words) bytes now s t) (ap (λ (os : List Outgoing). map sent_of os) sent))

    taken_right : IsTakenSo → DestGoesRight spell s u (acts_of (codes_of words) bytes now s t)
    taken_right (inl r) = answered r.0 r.1
    taken_right (inr step) = turned step

    taken_calls : IsTakenSo → CallsFew (Some bytes) out
    taken_calls (inl r) = calls_none (Some bytes) out (ap (λ (x : DestStep M). x.out.used) r.1)
    taken_calls (inr step) =
        let mech = s.state.machine.extra.mech in
        record {
          once = λ simple. known.once mech conn bytes now s before after t step Dest accepts whose sound.owner simple;
          off_root = known.spares mech conn bytes now s before after t step;
        }

  taken : (before : RunWorld M) (parts : Parts) (after : RunWorld M) (d : Takes words before parts after) → IsSoundDest before.dest
      → DestGoesRight spell before.dest after.dest (acts_of codes d.bytes before.clock before.dest (record { host = after.dest; out = d.out }))
  taken before parts after d sound =
      taken_right d.conn d.bytes before.clock before.dest before.draws d.draws after.dest d.out sound
      (taken_so d.conn d.bytes before.clock before.dest before.draws d.draws after.dest d.out sound d.goes)

  -- ---- the calls of any act

  hears_calls : (there : Bool) (worker : ℕ) (bytes : List ℕ) (now : ℕ) (s u : DestState M) (out : Outbox) → hears words there worker bytes now s u out
      → CallsFew (Some bytes) out
  hears_calls true worker bytes now s u out d = record {
    once = λ simple. known.reply_once _ _ (worker - 1) bytes now s (record { host = u; out = out }) d;
    off_root = (reply_came _ _ (worker - 1) bytes now s (record { host = u; out = out }) d).off_root;
  }
  hears_calls false worker bytes now s u out d = calls_none (Some bytes) out (ap (λ (o : Outbox). o.used) d.1)

  act_calls : (act : DestAct) (now : ℕ) (s : DestState M) (before : ℕ) (u : DestState M) (after : ℕ) (out : Outbox) → IsSoundDest s
      → dest_goes words act now s before u after out → CallsFew (dest_took act) out
  act_calls (acts.DestTakes conn bytes) now s before u after out sound goes =
      taken_calls conn bytes now s before after u out sound (taken_so conn bytes now s before after u out sound goes)
  act_calls (acts.Works worker) now s before u after out sound goes = record {
    once = λ simple. known.work_once _ _ (worker - 1) now s before after (record { host = u; out = out }) goes.0.1;
    off_root = (work_came words.gives _ _ (worker - 1) now s before after (record { host = u; out = out }) goes.0.1).off_root;
  }
  act_calls (acts.Hears worker bytes) now s before u after out sound goes = hears_calls (is_worker worker) worker bytes now s u out goes.0.0
  act_calls acts.DestTicks now s before u after out sound goes = calls_none None out (ap (λ (x : DestStep M). x.out.used) goes.0.0)

  -- ---- it was just opened

  sessions_new : (boot : ℕ) (s : DestState M) → s.state.sessions ≡ no_clients boot → s.state.sessions ≡ no_clients s.state.sessions.boot
  sessions_new boot s is = is ∙ ap no_clients (sym (ap (λ (x : SessionTable). x.boot) is))

  starts : (mech : M) (s : DestState M) → IsNewDest mech s → ServerStart (view s)
  starts mech s new = known.begins s (ap (λ (x : ContextTable Carried). x.entries) new.contexts) (sessions_new (volume_of s).boot s new.sessions)

  opens : (mech : M) (s : DestState M) → IsNewDest mech s → (volume_of s).boot < 2 ^ 32 → IsSteady (volume_of s) → IsSoundDest s
  opens mech s new few steady =
      let made : s.contexts.made ≡ 0 = ap (λ (x : ContextTable Carried). x.made) new.contexts in
      let boot : s.contexts.boot ≡ (volume_of s).boot = ap (λ (x : ContextTable Carried). x.boot) new.contexts in
      record {
        contexts = known.begins_good s (omega (arith, boot, few)) (omega (arith, made)) (ap (λ (x : ContextTable Carried). x.entries) new.contexts);
        slots = known.begins_slots s (sessions_new (volume_of s).boot s new.sessions);
        owner = ap (λ (x : ContextTable Carried). x.owner) new.contexts;
        opening = boot;
        steady = steady;
      }

  -- ---- it stopped, and was opened anew

  anew_right : (s t : DestState M) (used : List Used) (kept : Kept) (a : Acts) → IsSoundDest s → IsDestAnew s used kept t → a.out ≡ []
      → DestGoesRight spell s t a
  anew_right s t used kept a sound anew silent =
      let old = s.state.machine.store in
      let new = t.state.machine.store in
      let mech = s.state.machine.extra.mech in
      let next : IsSoundDest t = opens mech t anew.opened anew.numbered (stop_steady old new used kept anew.stops) in
      let risen : s.contexts.boot < t.contexts.boot = omega (arith, sound.opening, next.opening, known.stops.boot old new used kept anew.stops) in
      record { sound = next; laws = known.anew spell Dest (view s) (view t) a risen (starts mech t anew.opened) silent }

  -- ---- a small step

  abbrev acts_by : RunWorld M → RunWorld M → Part → Acts
  acts_by before after part =
      part_acts part (told_by (λ bytes. told_in codes bytes before.clock before.dest after.dest part.out) (called_with (is_call part) part.took))

  none_called : (f : List ℕ → Option Executed) (call : Bool) (took : Option (List ℕ)) → took ≡ None → told_by f (called_with call took) ≡ None
  none_called f true took none = ap (told_by f) none
  none_called f false took none = refl

  none_heard : (f : List ℕ → Option Executed) (took : Option (List ℕ)) → told_by f (called_with (takes_call speakers.Worker took) took) ≡ None
  none_heard f None = refl
  none_heard f (Some bytes) = refl

  none_told : (part : Part) (f : List ℕ → Option Executed) → (part.took ≡ None) ⊎ IsHeardAlone part
      → told_by f (called_with (is_call part) part.took) ≡ None
  none_told part f (inl none) = none_called f (is_call part) part.took none
  none_told part f (inr heard) =
      ap (λ (speaker : Speaker). told_by f (called_with (takes_call speaker part.took) part.took)) heard.0 ∙ none_heard f part.took

  -- what one of its workers hears is no call that it answers
  answers_none : (before after : RunWorld M) (part : Part) → (part.took ≡ None) ⊎ IsHeardAlone part → AnswersNone spell (acts_by before after part)
  answers_none before after part (inl none) call bytes seal took sends is_reply = absurd (let both = sym none ∙ took in cc)
  answers_none before after part (inr heard) call bytes seal took sends is_reply =
      let asks = All-contains (λ (one : Sent). spell.is_reply one.bytes ≡ false) (map part_sent part.out.sent) _ (calls_all part.out.sent heard.1) sends in
      absurd (let both = sym is_reply ∙ asks in cc)

  did_right : (before : RunWorld M) (parts : Parts) (after : RunWorld M) → Did words before parts after → IsSoundDest before.dest
      → DestGoesRight spell before.dest after.dest (acts_by before after parts.dest)
  did_right before parts after (inl d) sound =
      subst (λ (p : Part). DestGoesRight spell before.dest after.dest (acts_by before after p)) (sym d.part) (taken before parts after d sound)
  did_right before parts after (inr d) sound =
      own_step before.dest after.dest (acts_by before after parts.dest) d.leaves sound
      (none_told parts.dest (λ bytes. told_in codes bytes before.clock before.dest after.dest parts.dest.out) d.part)
      (answers_none before after parts.dest d.part)

  -- ---- one in which it stops

  -- what it did, where it stopped or not
  abbrev acts_unless : Option Kept → RunWorld M → RunWorld M → Part → Acts
  acts_unless cut before after part = told_unless cut (acts_by before after part)

  record DestStopsRight (kept : Kept) (before after : RunWorld M) (part : Part) : Type 0 where
    right : DestGoesRight spell before.dest after.dest (acts_unless (Some kept) before after part)
    crashes : TakesSimple spell Dest (acts_unless (Some kept) before after part)
        → VolumeLaws (volume_of before.dest) (volume_of after.dest) (crash_effect kept part.out.used)

  acting_right : (kept : Kept) (before : RunWorld M) (parts : Parts) (after : RunWorld M)
      → DestStopsIn words kept before.clock before.draws before.dest parts.dest after.dest → IsSoundDest before.dest → DestStopsRight kept before after parts.dest
  acting_right kept before parts after d sound =
      let part : Part = part_of d.speaker (dest_took d.act) (silenced d.full) in
      let few = act_calls d.act before.clock before.dest before.draws d.would d.left d.full sound d.goes in
      subst (λ (p : Part). DestStopsRight kept before after p) (sym d.part_is)
      (record {
        right = anew_right before.dest after.dest d.full.used kept (acts_unless (Some kept) before after part) sound d.anew refl;
        crashes = λ simple.
            stop_lawful known.stops before.dest.state.machine.store after.dest.state.machine.store d.full.used kept d.anew.stops (few.once simple)
            sound.steady few.off_root;
      })

  between_right : (kept : Kept) (before : RunWorld M) (parts : Parts) (after : RunWorld M)
      → DestStopsBetween words kept before.dest parts.dest after.dest → IsSoundDest before.dest → DestStopsRight kept before after parts.dest
  between_right kept before parts after d sound =
      subst (λ (p : Part). DestStopsRight kept before after p) (sym d.part_is)
      (record {
        right = anew_right before.dest after.dest [] kept (acts_unless (Some kept) before after (idle speakers.Dest)) sound d.anew refl;
        crashes = λ simple.
            stop_lawful known.stops before.dest.state.machine.store after.dest.state.machine.store [] kept d.anew.stops (omega arith) sound.steady tt;
      })

  stopped_right : (kept : Kept) (before : RunWorld M) (parts : Parts) (after : RunWorld M)
      → DestStopsIn words kept before.clock before.draws before.dest parts.dest after.dest ⊎ DestStopsBetween words kept before.dest parts.dest after.dest
      → IsSoundDest before.dest → DestStopsRight kept before after parts.dest
  stopped_right kept before parts after (inl d) sound = acting_right kept before parts after d sound
  stopped_right kept before parts after (inr d) sound = between_right kept before parts after d sound

  -- the other server stops
  other_right : (kept : Kept) (before : RunWorld M) (parts : Parts) (after : RunWorld M) → after.dest ≡ before.dest → parts.dest ≡ idle speakers.Dest
      → IsSoundDest before.dest → DestGoesRight spell before.dest after.dest (acts_by before after parts.dest)
  other_right kept before parts after same rests sound =
      did_right before parts after
      (inr (record {
        leaves = subst (λ (x : DestState M). LeavesServer before.dest x) (sym same) (leaves_none before.dest);
        part = inl (ap (λ (p : Part). p.took) rests);
      }))
      sound

  abbrev GoesIn : Option Kept → RunStep M → RunWorld M → Type 0
  GoesIn cut s before = DestGoesRight spell before.dest s.after.dest (acts_unless cut before s.after s.parts.dest)

  cut_right : (side : Side) (kept : Kept) (s : RunStep M) (before : RunWorld M) → IsCutAt words side kept before s.parts s.after → IsSoundDest before.dest
      → GoesIn (cut_by sides.Dest side (Stopped kept)) s before
  cut_right sides.Source kept s before c sound = other_right kept before s.parts s.after c.other c.other_part sound
  cut_right sides.Dest kept s before c sound = (stopped_right kept before s.parts s.after c.how sound).right

  made_right : (choice : Choice) (s : RunStep M) (before : RunWorld M) → IsMade m choice s.event before s.parts s.after → IsSoundDest before.dest
      → GoesIn (cut_by sides.Dest (stops_at s.event before.log) choice) s before
  made_right Went s before small sound = did_right before s.parts s.after (small_did words known.alone s.event before s.parts s.after small) sound
  made_right Failed s before small sound = did_right before s.parts s.after (small_did words known.alone s.event before s.parts s.after small) sound
  made_right (Stopped kept) s before cut sound =
      cut_right (stops_at s.event before.log) kept s before (cut_is words s.event kept before s.parts s.after cut) sound

  -- where it is said to have stopped, it did
  cut_stops : (side : Side) (now kept : Kept) (s : RunStep M) (before : RunWorld M) → cut_by sides.Dest side (Stopped now) ≡ Some kept
      → IsCutAt words side now before s.parts s.after → DestCut words kept before s.parts s.after
  cut_stops sides.Source now kept s before is c = absurd (cc)
  cut_stops sides.Dest now kept s before is c =
      let same : now ≡ kept = cc in
      subst (λ (k : Kept). DestCut words k before s.parts s.after) same c

  made_stops : (choice : Choice) (kept : Kept) (s : RunStep M) (before : RunWorld M) → cut_by sides.Dest (stops_at s.event before.log) choice ≡ Some kept
      → IsMade m choice s.event before s.parts s.after → DestCut words kept before s.parts s.after
  made_stops Went kept s before is small = absurd (cc)
  made_stops Failed kept s before is small = absurd (cc)
  made_stops (Stopped now) kept s before is cut =
      cut_stops (stops_at s.event before.log) now kept s before is (cut_is words s.event now before s.parts s.after cut)

  rests_right : (before : RunWorld M) → IsSoundDest before.dest → DestGoesRight spell before.dest before.dest (acts_by before before all_idle.dest)
  rests_right before sound = record {
    sound = sound;
    laws = quiet spell Dest (view before.dest) (acts_by before before all_idle.dest) refl (λ call bytes seal took sends is_reply. absurd cc);
  }

  -- ---- a run

  module _ (seen : ClientView M) (first : RunWorld M) (steps : List (RunStep M)) (purposes : ℕ → Purposes) (are : AreSteps m first steps) (begun : IsSoundDest first.dest) where
    abbrev moment : RunWorld M → List (RunStep M) → ℕ → At m (telling codes) spell meaning
    moment before more k = at_moment m (telling codes) spell meaning before more k

    abbrev acts_by_step : RunWorld M → Option (RunStep M) → Acts
    acts_by_step before o = history.acts_of m (telling codes) spell meaning before o Dest

    goes_at : (k : ℕ) (o : Option (RunStep M)) → slice_get steps k ≡ o → IsSoundDest (moment first steps k).world.dest
        → DestGoesRight spell (moment first steps k).world.dest (next m (telling codes) spell meaning (moment first steps k) o).world.dest
        (acts_by_step (moment first steps k).world o)
    goes_at k None is sound = rests_right (moment first steps k).world sound
    goes_at k (Some s) is sound =
        made_right s.choice s (moment first steps k).world (made_at m (telling codes) spell meaning first steps k s are is).step.small sound

    sound_at : (k : ℕ) → IsSoundDest (moment first steps k).world.dest
    sound_at zero = begun
    sound_at (suc k) = (goes_at k (slice_get steps k) refl (sound_at k)).sound

    -- the volume had no chunk landed goes on by what was seen of the step
    bare_next : (a : At m (telling codes) spell meaning) (o : Option (RunStep M))
        → (next m (telling codes) spell meaning a o).seen.bare ≡ after a.seen.bare (bare_effect (next m (telling codes) spell meaning a o).seen.deed)
    bare_next a None = refl
    bare_next a (Some s) = refl

    pub run_lawful : (files capacity : ℕ) → first.dest.state.machine.store.volume ≡ formatted files capacity → ServerStart (view first.dest)
        → IsLawfulDest spell (system_of m codes spell meaning seen first steps purposes)
    unfolding system_of
    run_lawful files capacity is starts = record {
      start = starts;
      server = λ k. (goes_at k (slice_get steps k) refl (sound_at k)).laws;
      files = files;
      capacity = capacity;
      formatted_so = is;
      bare_start = refl;
      bare = λ k. bare_next (moment first steps k) (slice_get steps k);
    }

    -- a step in which it stops, by whatever plans its copies have
    abbrev Crashes : ℕ → (ℕ → Plan) → Option (RunStep M) → Type 0
    Crashes k plan o =
        let now = next m (telling codes) spell meaning (moment first steps k) o in
        TakesSimple spell Dest (acts_by_step (moment first steps k).world o)
        → VolumeLaws (volume_of (moment first steps k).world.dest) (volume_of now.world.dest) (copies.effect_of plan now.seen.deed)

    crash_at : (k : ℕ) (plan : ℕ → Plan) (s : RunStep M) (kept : Kept) → slice_get steps k ≡ Some s → cut_of sides.Dest (moment first steps k).world s ≡ Some kept
        → Crashes k plan (Some s)
    crash_at k plan s kept is cut simple =
        let at = moment first steps k in
        let made = (made_at m (telling codes) spell meaning first steps k s are is).step.small in
        let stops = stopped_right kept at.world s.parts s.after (made_stops s.choice kept s at.world cut made).how (sound_at k) in
        subst
        (λ (o : Option Kept).
        VolumeLaws (volume_of at.world.dest) (volume_of s.after.dest)
        (copies.effect_of plan (history.dest_deed o (length at.seen.past) (volume_of s.after.dest) s.parts.dest)))
        (sym cut)
        (stops.crashes (subst (λ (o : Option Kept). TakesSimple spell Dest (acts_unless o at.world s.after s.parts.dest)) cut simple))

    pub run_crashes : CrashesLawfully m codes spell meaning seen first steps purposes
    unfolding system_of
    run_crashes k s kept is cut =
        let system : System = system_of m codes spell meaning seen first steps purposes in
        subst (λ (o : Option (RunStep M)). Crashes k (plan_at system k) o) (sym is) (crash_at k (plan_at system k) s kept is cut)

  -- ---- from the first moment on

  is_new : (mech : M) (shape : Shape) (s : DestState M) → IsFreshDest mech shape s → IsNewDest mech s
  is_new mech shape s fresh =
      let boot : 1 ≡ (volume_of s).boot = sym (ap (λ (v : Volume). v.boot) fresh.volume) in
      let capacity : shape.blocks * 4096 ≡ (volume_of s).capacity = sym (ap (λ (v : Volume). v.capacity) fresh.volume) in
      record {
        contexts = fresh.contexts ∙ ap (λ (n : ℕ). new_dest.no_contexts n) boot;
        opens = fresh.opens ∙ ap (λ (n : ℕ). new_dest.no_opens n) boot;
        sessions = fresh.sessions ∙ ap (λ (n : ℕ). new_dest.no_sessions n) boot;
        extra = fresh.extra ∙ ap (λ (n : ℕ). new_dest.no_copies n (shape.blocks * 4096) mech dest_source dest_name dest_place) boot
            ∙ ap (λ (n : ℕ). new_dest.no_copies (volume_of s).boot n mech dest_source dest_name dest_place) capacity;
        second = fresh.second;
        steps = fresh.steps;
      }

  begins : (mech : M) (shape : Shape) (s : DestState M) → IsFreshDest mech shape s → IsSoundDest s
  begins mech shape s fresh =
      let boot : (volume_of s).boot ≡ 1 = ap (λ (v : Volume). v.boot) fresh.volume in
      opens mech s (is_new mech shape s fresh) (omega (arith, boot)) (subst IsSteady (sym fresh.volume) (formatted_steady shape.files (shape.blocks * 4096)))

  pub dest_lawful : (mech : M) (events : List Numbered) (first : RunWorld M) (steps : List (RunStep M)) (seen : ClientView M) (purposes : ℕ → Purposes)
      → IsFirst mech events first → AreSteps m first steps → IsLawfulDest spell (system_of m codes spell meaning seen first steps purposes)
  unfolding system_of
  dest_lawful mech events first steps seen purposes is are =
      let shape = shape_of sides.Dest events in
      run_lawful seen first steps purposes are (begins mech shape first.dest is.dest) shape.files (shape.blocks * 4096) is.dest.volume
      (starts mech first.dest (is_new mech shape first.dest is.dest))

  pub crashes_lawfully : (mech : M) (events : List Numbered) (first : RunWorld M) (steps : List (RunStep M)) (seen : ClientView M) (purposes : ℕ → Purposes)
      → IsFirst mech events first → AreSteps m first steps → CrashesLawfully m codes spell meaning seen first steps purposes
  crashes_lawfully mech events first steps seen purposes is are =
      run_crashes seen first steps purposes are (begins mech (shape_of sides.Dest events) first.dest is.dest)
