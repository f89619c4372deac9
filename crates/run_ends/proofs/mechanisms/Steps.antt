-- Each step of a server keeps its mechanism.
use Rattle.std.proofs.Common.{◌≡◌, ℕ, Bool, true, false, List, Option, refl, ap, subst, sym}
use Rattle.std.specs.Prelude.{max}
use Rattle.dest_core.specs.Core.{dest_rules}
use Rattle.dest_core.specs.Stepping.{DestState, DestStep, IsRecordBy, IsReply, IsWork}
use Rattle.dest_core.specs.declared.destination.Destination.{Destination}
use Rattle.dest_jobs.specs.declared.carried.Carried.{Carried as DestCarried}
use Rattle.dest_steps.specs.Copier.{Codes as DestCodes}
use Rattle.gss_mech.specs.declared.mechanism.Accepted.{Accepted}
use Rattle.outbox.specs.declared.outgoing.Outbox.{Outbox}
use Rattle.own_laws.specs.Following.{InTurns}
use Rattle.rpc_calls.specs.Judging.{judged_of}
use Rattle.rpc_calls.specs.declared.call.Judged.{Judged}
use Rattle.rpc_calls.specs.declared.call.Judged.TheVariants as judged
use Rattle.rpc_calls.specs.declared.call.TheConstants.Program as programs
use Rattle.run_ends.specs.Ends.{SourceState, Words, dest_goes, hears, is_worker, source_goes}
use Rattle.run_ends.specs.Mechanisms.Mechanisms.{SameDest, SameSource}
use Rattle.server_volume.specs.Choices.{choice_of}
use Rattle.session_server.specs.Host.{Codes}
use Rattle.session_server.specs.Steps.{IsJudgedTurn}
use Rattle.source_core.specs.Core.{source_rules}
use Rattle.source_core.specs.declared.carried.Carried.{Carried as SourceCarried}
use Rattle.source_core.specs.declared.source.Source.{Source}
use Rattle.streams.specs.declared.draws.Drawn.{Drawn}
use Rattle.wire_machine.specs.Ends as acts
use Rattle.wire_machine.specs.Ends.{DestAct, SourceAct}

abbrev source_is : {M : Type 0} → SourceState M → SourceState M → Type 0
source_is s t = SameSource s.state.machine.extra t.state.machine.extra

abbrev dest_is : {M : Type 0} → DestState M → DestState M → Type 0
dest_is s t = SameDest s.state.machine.extra t.state.machine.extra

-- ---- a record at a destination: a reply is one to a callback, and else it is as at every server

module _ {M W : Type 0} (codes : Codes) (tokens : List ℕ → List ℕ → Option Accepted) (gives : W → Drawn → W → Type 0)
    (follows : InTurns {X = Destination M} {C = DestCarried} SameDest dest_rules codes tokens gives) (conn : ℕ) (message : List ℕ) (now : ℕ) (s : DestState M) (before after : W)
    (t : DestStep M) where
  record_by : (j : Judged) → judged_of codes.mic (max s.second now) programs.NFS message s.contexts ≡ j → IsRecordBy j codes tokens gives conn message now s before after t
      → dest_is s t.host
  record_by judged.Reply is turn = ap (λ (u : DestStep M). u.host.state.machine.extra.mech) turn.is
  record_by judged.Unread is turn =
      follows conn message now s before after t (subst (λ (j : Judged). IsJudgedTurn j dest_rules codes tokens gives (max s.second now) conn s before after t) (sym is) turn)
  record_by (judged.Call call) is turn =
      follows conn message now s before after t (subst (λ (j : Judged). IsJudgedTurn j dest_rules codes tokens gives (max s.second now) conn s before after t) (sym is) turn)

work_same : {M W : Type 0} (gives : W → Drawn → W → Type 0) (started : List ℕ → List ℕ → Option (List ℕ)) (codes : DestCodes) (place now : ℕ) (s : DestState M)
    (before after : W) (t : DestStep M) → IsWork gives started codes place now s before after t → dest_is s t.host
work_same {M} gives started codes place now s before after t work =
    ap (λ (u : DestStep M). u.host.state.machine.extra.mech) (work.is (choice_of t.out.used) (λ n below. refl))

reply_same : {M : Type 0} (codes : DestCodes) (finish : List ℕ → List ℕ → Option (List ℕ)) (place : ℕ) (message : List ℕ) (now : ℕ) (s : DestState M) (t : DestStep M)
    → IsReply codes finish place message now s t → dest_is s t.host
reply_same {M} codes finish place message now s t reply =
    ap (λ (u : DestStep M). u.host.state.machine.extra.mech) (reply.is (choice_of t.out.used) (λ n below. refl))

-- ---- each act

module _ {M W : Type 0} (words : Words M W) where
  pub source_same : ((mech : M) → InTurns {X = Source M} {C = SourceCarried} SameSource (source_rules words.mic) (record { mic = words.mic; derived = words.derived }) (words.accepted mech) words.gives)
      → (act : SourceAct) (now : ℕ) (s : SourceState M) (before : W) (t : SourceState M) (after : W) (out : Outbox) → source_goes words act now s before t after out → source_is s t
  source_same follows (acts.SourceTakes conn bytes) now s before t after out goes =
      follows s.state.machine.extra.mech conn bytes now s before after (record { host = t; out = out }) goes.0
  source_same follows acts.SourceTicks now s before t after out goes = ap (λ (u : SourceState M). u.state.machine.extra.mech) goes.0.0

  heard_same : (there : Bool) (worker : ℕ) (bytes : List ℕ) (now : ℕ) (s t : DestState M) (out : Outbox) → hears words there worker bytes now s t out → dest_is s t
  heard_same true worker bytes now s t out is = reply_same _ _ _ bytes now s (record { host = t; out = out }) is
  heard_same false worker bytes now s t out is = ap (λ (u : DestState M). u.state.machine.extra.mech) is.0

  pub dest_same : ((mech : M) → InTurns {X = Destination M} {C = DestCarried} SameDest dest_rules (record { mic = words.mic; derived = words.derived }) (words.accepted mech) words.gives)
      → (act : DestAct) (now : ℕ) (s : DestState M) (before : W) (t : DestState M) (after : W) (out : Outbox) → dest_goes words act now s before t after out → dest_is s t
  dest_same follows (acts.DestTakes conn bytes) now s before t after out goes =
      record_by (record { mic = words.mic; derived = words.derived }) (words.accepted s.state.machine.extra.mech) words.gives (follows s.state.machine.extra.mech)
      conn bytes now s before after (record { host = t; out = out }) (judged_of words.mic (max s.second now) programs.NFS bytes s.contexts) refl goes.0
  dest_same follows (acts.Works worker) now s before t after out goes = work_same words.gives _ _ _ now s before after (record { host = t; out = out }) goes.0.1
  dest_same follows (acts.Hears worker bytes) now s before t after out goes = heard_same (is_worker worker) worker bytes now s t out goes.0.0
  dest_same follows acts.DestTicks now s before t after out goes = ap (λ (u : DestStep M). u.host.state.machine.extra.mech) goes.0.0
