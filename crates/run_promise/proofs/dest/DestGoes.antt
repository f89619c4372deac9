-- Each small step of a run has a story of what it does to the destination's jobs, keeps them sound, and leaves its opening.
use Rattle.std.proofs.Common.{◌≡◌, inl, inr, ℕ, ◌-◌, Bool, true, false, List, Option, sym, subst}
use Rattle.dest_core.specs.Stepping.{DestState, DestStep, IsRecord, IsReply, IsWork, tick_step}
use Rattle.dest_laws.specs.Copies.Story.{Story}
use Rattle.dest_laws.specs.Own.Going.{jobs_in}
use Rattle.dest_laws.specs.Sound.Kept.{IsKept}
use Rattle.dest_steps.specs.Copier.{Codes}
use Rattle.outbox.specs.declared.outgoing.Outbox.{Outbox}
use Rattle.run_ends.specs.Ends.{RunWorld, Words, dest_does, hears, is_worker}
use Rattle.run_promise.specs.Dest.Acts.{DestDid}
use Rattle.server_volume.specs.declared.used.Used.{Used}
use Rattle.wire_machine.specs.Ends as acts
use Rattle.wire_machine.specs.Ends.{DestAct}
use Rattle.wire_machine.specs.World.{Parts}

pub record Goes {M : Type 0} (s t : DestState M) (used : List Used) : Type 0 where
  pub story : Story (jobs_in s) (jobs_in t) used
  pub kept : IsKept (jobs_in s).table → IsKept (jobs_in t).table
  pub boot : t.state.machine.store.volume.boot ≡ s.state.machine.store.volume.boot

abbrev pub GoesTo : {M : Type 0} → DestState M → DestStep M → Type 0
GoesTo s t = Goes s t.host t.out.used

-- so does each act of a destination
pub record AreKnown {M : Type 0} (words : Words M ℕ) : Type 0 where
  pub record_ : (mech : M) (conn : ℕ) (message : List ℕ) (now : ℕ) (s : DestState M) (before after : ℕ) (t : DestStep M)
      → IsRecord (record { mic = words.mic; derived = words.derived }) (words.accepted mech) words.gives conn message now s before after t → GoesTo s t
  pub work : (started : List ℕ → List ℕ → Option (List ℕ)) (codes : Codes) (place now : ℕ) (s : DestState M) (before after : ℕ) (t : DestStep M)
      → IsWork words.gives started codes place now s before after t → GoesTo s t
  pub reply : (codes : Codes) (finish : List ℕ → List ℕ → Option (List ℕ)) (place : ℕ) (message : List ℕ) (now : ℕ) (s : DestState M) (t : DestStep M)
      → IsReply codes finish place message now s t → GoesTo s t
  pub tick : (codes : Codes) (now : ℕ) (s : DestState M) → GoesTo s (tick_step codes now s)
  pub rest : (s : DestState M) (used : List Used) → Goes s s used

module _ {M : Type 0} (words : Words M ℕ) (known : AreKnown words) where
  abbrev codes : Codes
  codes = record { mic = words.mic; derived = words.derived }

  hears_goes : (there : Bool) (worker : ℕ) (bytes : List ℕ) (now : ℕ) (s t : DestState M) (out : Outbox) → hears words there worker bytes now s t out
      → Goes s t out.used
  hears_goes true worker bytes now s t out d =
      known.reply codes (words.finished s.state.machine.extra.mech s.state.machine.extra.copier.principal) (worker - 1) bytes now s (record { host = t; out = out }) d
  hears_goes false worker bytes now s t out d = subst (λ (x : DestState M). Goes s x out.used) (sym d.0) (known.rest s out.used)

  act_goes : (act : DestAct) (now : ℕ) (s : DestState M) (before : ℕ) (t : DestState M) (after : ℕ) (out : Outbox)
      → dest_does words act now s before t after out → Goes s t out.used
  act_goes (acts.DestTakes conn bytes) now s before t after out d =
      known.record_ s.state.machine.extra.mech conn bytes now s before after (record { host = t; out = out }) d
  act_goes (acts.Works worker) now s before t after out d =
      known.work (words.started s.state.machine.extra.mech) codes (worker - 1) now s before after (record { host = t; out = out }) d.1
  act_goes (acts.Hears worker bytes) now s before t after out d = hears_goes (is_worker worker) worker bytes now s t out d.0
  act_goes acts.DestTicks now s before t after out d = subst (λ (x : DestStep M). GoesTo s x) (sym d.0) (known.tick codes now s)

  pub did_goes : (before : RunWorld M) (parts : Parts) (after : RunWorld M) → DestDid words before parts after
      → Goes before.dest after.dest parts.dest.out.used
  did_goes before parts after (inl d) = act_goes d.act d.now before.dest d.draws after.dest d.left parts.dest.out d.goes.0
  did_goes before parts after (inr d) =
      subst (λ (x : DestState M). Goes before.dest x parts.dest.out.used) (sym d.same) (known.rest before.dest parts.dest.out.used)
