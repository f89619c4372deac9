-- A step of a run in which its destination doesn't stop leaves its opening and its mechanism.
use Rattle.std.proofs.Common.{inl, inr, ℕ, ◌-◌, Bool, true, false, List, Option, refl, sym, subst}
use Rattle.dest_core.specs.Stepping.{DestState, DestStep, IsRecord, IsReply, IsWork, tick_step}
use Rattle.dest_steps.specs.Copier.{Codes}
use Rattle.outbox.specs.declared.outgoing.Outbox.{Outbox}
use Rattle.run_ends.specs.Ends.{RunWorld, Words, dest_does, hears, is_worker, machines}
use Rattle.run_promise.specs.Dest.ActLaws.{step_did}
use Rattle.run_promise.specs.Dest.Acts.{DestDid}
use Rattle.run_promise.specs.Opening.Systems.{KeepsOpening, StepsKeepOpenings}
use Rattle.wire_machine.specs.Ends as acts
use Rattle.wire_machine.specs.Ends.{DestAct}
use Rattle.wire_machine.specs.World.{Parts}

-- so does each act of a destination
pub record ActsKeep {M : Type 0} (words : Words M ℕ) : Type 0 where
  pub record_ : (mech : M) (conn : ℕ) (message : List ℕ) (now : ℕ) (s : DestState M) (before after : ℕ) (t : DestStep M)
      → IsRecord (record { mic = words.mic; derived = words.derived }) (words.accepted mech) words.gives conn message now s before after t
      → KeepsOpening s t.host
  pub work : (started : List ℕ → List ℕ → Option (List ℕ)) (codes : Codes) (place now : ℕ) (s : DestState M) (before after : ℕ) (t : DestStep M)
      → IsWork words.gives started codes place now s before after t → KeepsOpening s t.host
  pub reply : (codes : Codes) (finish : List ℕ → List ℕ → Option (List ℕ)) (place : ℕ) (message : List ℕ) (now : ℕ) (s : DestState M) (t : DestStep M)
      → IsReply codes finish place message now s t → KeepsOpening s t.host
  pub tick : (codes : Codes) (now : ℕ) (s : DestState M) → KeepsOpening s (tick_step codes now s).host

module _ {M : Type 0} (words : Words M ℕ) (keep : ActsKeep words) where
  abbrev codes : Codes
  codes = record { mic = words.mic; derived = words.derived }

  stays : (s : DestState M) → KeepsOpening s s
  stays s = record { volume = refl; table = refl; mech = refl }

  hears_keeps : (there : Bool) (worker : ℕ) (bytes : List ℕ) (now : ℕ) (s t : DestState M) (out : Outbox) → hears words there worker bytes now s t out
      → KeepsOpening s t
  hears_keeps true worker bytes now s t out d =
      keep.reply codes (words.finished s.state.machine.extra.mech s.state.machine.extra.copier.principal) (worker - 1) bytes now s
      (record { host = t; out = out }) d
  hears_keeps false worker bytes now s t out d = subst (λ (x : DestState M). KeepsOpening s x) (sym d.0) (stays s)

  act_keeps : (act : DestAct) (now : ℕ) (s : DestState M) (before : ℕ) (t : DestState M) (after : ℕ) (out : Outbox)
      → dest_does words act now s before t after out → KeepsOpening s t
  act_keeps (acts.DestTakes conn bytes) now s before t after out d =
      keep.record_ s.state.machine.extra.mech conn bytes now s before after (record { host = t; out = out }) d
  act_keeps (acts.Works worker) now s before t after out d =
      keep.work (words.started s.state.machine.extra.mech) codes (worker - 1) now s before after (record { host = t; out = out }) d.1
  act_keeps (acts.Hears worker bytes) now s before t after out d = hears_keeps (is_worker worker) worker bytes now s t out d.0
  act_keeps acts.DestTicks now s before t after out d = subst (λ (x : DestStep M). KeepsOpening s x.host) (sym d.0) (keep.tick codes now s)

  did_keeps : (before : RunWorld M) (parts : Parts) (after : RunWorld M) → DestDid words before parts after → KeepsOpening before.dest after.dest
  did_keeps before parts after (inl d) = act_keeps d.act d.now before.dest d.draws after.dest d.left parts.dest.out d.goes.0
  did_keeps before parts after (inr d) = subst (λ (x : DestState M). KeepsOpening before.dest x) (sym d.same) (stays before.dest)

  pub steps_keep : StepsKeepOpenings (machines words)
  steps_keep before s step uncut = did_keeps before s.parts s.after (step_did words before s uncut step)
