-- The laws on contexts and those on slots are all that a server owes in a step.
use Rattle.std.proofs.Common.{◌≡◌, inl, inr, ℕ, List, Option, Some, true, refl, sym, subst, arith}
use Rattle.gss_mech.specs.Tokens.{IsSized}
use Rattle.gss_mech.specs.declared.mechanism.Accepted.{Accepted}
use Rattle.nfs_base.specs.declared.seal.End.{End}
use Rattle.streams.specs.declared.draws.Drawn.{Drawn}
use Rattle.wire_model.specs.ServerLaws.{ServerLaws}
use Rattle.wire_model.specs.Spelling.{Spelling}
use Rattle.wire_model.specs.Wire.{Server}
use Rattle.wire_spelling.specs.Calls.{begun_by, is_create}
use Rattle.session_server.specs.Host.{Codes, HostState, Rules, Stepped}
use Rattle.server_laws.specs.Lawful.{KeepsOwner, ObeysLaws, no_acts}
use Rattle.server_laws.specs.Steps.{IsStep}
use Rattle.server_laws.proofs.Contexts.{boot_stays, create_law, init_law, made_rises, root_was_or_is_made}
use Rattle.server_laws.proofs.SlotDutyLaws.{step_obeys}
use Rattle.server_laws.proofs.Turns.{after_turn}

some_bytes : (bytes call : List ℕ) → Some bytes ≡ Some call → bytes ≡ call
some_bytes bytes call same = cc

module _ {X C W : Type 0} (rules : Rules X C) (codes : Codes) (accepted : List ℕ → List ℕ → Option Accepted) (gives : W → Drawn → W → Type 0)
    (conn : ℕ) (bytes : List ℕ) (now : ℕ) (s : HostState X C) (before after : W) (t : Stepped X C)
    (step : IsStep rules codes accepted gives conn bytes now s before after t) where
  pub owner_stays : KeepsOwner bytes now s t
  owner_stays = (after_turn rules codes accepted gives conn bytes now s before after t step.good.numbered step.turn).follows.owner

  pub step_lawful : IsSized codes.mic → ObeysLaws codes bytes now s t
  step_lawful sized owner accepts whose is has =
      let boot = boot_stays rules codes accepted gives conn bytes now s before after t step in
      let slots = step_obeys rules codes accepted gives conn bytes now s before after t step sized owner accepts whose is has in
      record {
        boot = omega (arith, boot);
        made = λ same. made_rises rules codes accepted gives conn bytes now s before after t step;
        root = λ number root there. elim (root_was_or_is_made rules codes accepted gives conn bytes now s before after t step number root there) [
          | inl was ↦ inl (boot, was)
          | inr made ↦ inr made
        ];
        init = λ call reply seal by took begun sends is_reply.
            init_law rules codes accepted gives conn bytes now s before after t step accepts whose by reply seal
            (subst (λ (xs : List ℕ). begun_by accepts whose xs ≡ Some by) (sym (some_bytes bytes call took)) begun) sends;
        create = λ call reply seal child took creates sends is_reply given.
            create_law rules codes accepted gives conn bytes now s before after t step sized reply seal child
            (subst (λ (xs : List ℕ). is_create xs ≡ true) (sym (some_bytes bytes call took)) creates) sends given;
        slot = slots.slot;
        kept = slots.kept;
        once = slots.once;
        last = slots.last;
      }

-- ---- a second that comes by itself shows nothing

pub rests : (spell : Spelling) (owner : End) (v : Server) → ServerLaws spell owner v v no_acts
rests spell owner v = record {
  boot = omega arith;
  made = λ same. omega arith;
  root = λ number root there. inl (refl, there);
  init = λ call reply seal by took begun sends is_reply. absurd cc;
  create = λ call reply seal child took creates sends is_reply given. absurd cc;
  slot = λ call reply seal name took named sends is_reply. absurd cc;
  kept = λ name root results keeps. inl (refl, keeps);
  once = λ name root results x ran. absurd (let took = x.took in cc);
  last = λ name same. omega arith;
}
