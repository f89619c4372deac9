-- Each step obeys the laws of slots, and keeps what they need.
use Rattle.std.proofs.Common.{◌≡◌, inl, inr, ℕ, List, Option, Some, None, sym, ap, subst, ◌∙◌, add-one, arith}
use Rattle.std.specs.Prelude.{max}
use Rattle.gss_mech.specs.Tokens.{IsSized}
use Rattle.gss_mech.specs.declared.mechanism.Accepted.{Accepted}
use Rattle.nfs_base.specs.declared.seal.End.{End}
use Rattle.sess_slots.specs.Table.{SessionTable}
use Rattle.streams.specs.declared.draws.Drawn.{Drawn}
use Rattle.session_server.specs.Host.{Codes, HostState, Rules, Stepped}
use Rattle.slot_laws.specs.EffectLaws.{below_later}
use Rattle.slot_laws.specs.Sound.{AreBelow, IsSound}
use Rattle.slot_laws.specs.View.{kept_in, last_in}
use Rattle.wire_spelling.specs.Slots.{slot_of}
use Rattle.wire_spelling.specs.Spelling.{spelling}
use Rattle.server_laws.specs.Acts.{acts_of, told}
use Rattle.server_laws.specs.SlotDuties.{KeepsSessions, KeepsSlots, ObeysSlots}
use Rattle.server_laws.specs.Steps.{IsStep}
use Rattle.server_laws.specs.Slots.{HasSlots, IsCompoundStep, IsFair, IsOtherStep}
use Rattle.server_laws.specs.View.{view}
use Rattle.server_laws.proofs.Contexts.{boot_stays}
use Rattle.server_laws.proofs.SlotKept.{compound_has}
use Rattle.server_laws.proofs.SlotLaws.{compound_kept, compound_last, compound_once, compound_slot}
use Rattle.server_laws.proofs.SlotSteps.{step_kind}

module _ {X C : Type 0} (rules : Rules X C) (codes : Codes) (owner : End) (accepts : List ℕ → Option (List ℕ)) (whose : List ℕ → Option End)
    (conn : ℕ) (bytes : List ℕ) (now : ℕ) (s : HostState X C) (t : Stepped X C) (fair : IsFair owner codes bytes s t) where
  some_bytes : (call : List ℕ) → Some bytes ≡ Some call → bytes ≡ call
  some_bytes call same = cc

  -- ---- a step that carries no COMPOUND out

  module _ (o : IsOtherStep codes bytes (max s.second now) s t) where
    nothing_told : (acts_of codes bytes now s t).executed ≡ None
    nothing_told = ap (λ b. told b bytes t.out.sent) o.none_told

    other_obeys : ObeysSlots (spelling accepts whose) owner (view s) (view t.host) (acts_of codes bytes now s t)
    other_obeys = record {
      slot = λ call reply seal name took named sends is_reply.
          let here : slot_of bytes ≡ Some name = subst (λ (xs : List ℕ). slot_of xs ≡ Some name) (sym (some_bytes call took)) named in
          absurd (o.unanswered (name, here, (reply, (seal, sends))));
      kept = λ name root results keeps. inl (sym fair.same_boot, ap (λ (x : SessionTable). kept_in x name.session name.slot) (sym o.sessions) ∙ keeps);
      once = λ name root results x ran. absurd (let none = sym nothing_told ∙ x.executed in cc);
      last = λ name same. omega (arith, ap (λ (x : SessionTable). last_in x name.session name.slot) o.sessions);
    }

  -- ---- each step

  compound_obeys : IsCompoundStep rules codes conn bytes (max s.second now) s t
      → ObeysSlots (spelling accepts whose) owner (view s) (view t.host) (acts_of codes bytes now s t)
  compound_obeys k = record {
    slot = λ call reply seal name took named sends is_reply.
        compound_slot rules codes owner accepts whose conn bytes now s t fair k call reply seal name took named sends;
    kept = λ name root results keeps. compound_kept rules codes owner accepts whose conn bytes now s t fair k name root results keeps;
    once = λ name root results x ran. compound_once rules codes owner accepts whose conn bytes now s t fair k name root results x ran;
    last = λ name same. compound_last rules codes owner accepts whose conn bytes now s t fair k name;
  }

other_has : {X C : Type 0} (codes : Codes) (bytes : List ℕ) (second : ℕ) (s : HostState X C) (t : Stepped X C) → IsOtherStep codes bytes second s t
    → HasSlots s → HasSlots t.host
other_has codes bytes second s t o has = record {
  sound = subst IsSound (sym o.sessions) has.sound;
  few = omega (arith, has.few, o.steps, ap (λ (x : SessionTable). x.sessions_made) o.sessions);
  below =
      subst (λ (x : SessionTable). AreBelow t.host.steps x) (sym o.sessions)
      (subst (λ n. AreBelow n s.state.sessions) (sym (o.steps ∙ add-one s.steps)) (below_later s.steps s.state.sessions has.below));
}

module _ {X C W : Type 0} (rules : Rules X C) (codes : Codes) (accepted : List ℕ → List ℕ → Option Accepted) (gives : W → Drawn → W → Type 0)
    (conn : ℕ) (bytes : List ℕ) (now : ℕ) (s : HostState X C) (before after : W) (t : Stepped X C)
    (step : IsStep rules codes accepted gives conn bytes now s before after t) where
  fair_step : IsSized codes.mic → (owner : End) → s.contexts.owner ≡ owner → HasSlots s → IsFair owner codes bytes s t
  fair_step sized owner is has = record {
    slots = has;
    distinct = step.good.numbered.distinct;
    owner_is = is;
    same_boot = sym (boot_stays rules codes accepted gives conn bytes now s before after t step);
    are_bytes = step.are_bytes;
    sized = sized;
    short = step.short;
    left = omega (arith, step.few);
  }

  pub step_obeys : IsSized codes.mic → KeepsSlots codes bytes now s t
  step_obeys sized owner accepts whose is has =
      let fair = fair_step sized owner is has in
      elim (step_kind rules codes accepted gives conn bytes now s before after t step.good.numbered.distinct step.turn) [
        | inl k ↦ compound_obeys rules codes owner accepts whose conn bytes now s t fair k
        | inr o ↦ other_obeys rules codes owner accepts whose conn bytes now s t fair o
      ]

  pub step_has : KeepsSessions bytes now s t
  step_has has = elim (step_kind rules codes accepted gives conn bytes now s before after t step.good.numbered.distinct step.turn) [
    | inl k ↦ compound_has rules codes conn bytes (max s.second now) s t has k
    | inr o ↦ other_has codes bytes (max s.second now) s t o has
  ]
