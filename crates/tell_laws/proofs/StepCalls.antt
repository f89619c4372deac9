-- How many calls on its volume a server makes in a step.
use Rattle.std.proofs.Common.{◌≡◌, inl, inr, ℕ, ◌≤◌, true, List, [], length, Option, Some, None, refl, sym, ap, subst, ◌∙◌, leb-true, arith}
use Rattle.std.specs.Prelude.{max, nat_le}
use Rattle.nfs_base.specs.declared.seal.End.{End}
use Rattle.nfs_compound.specs.VolumeCalls.{volume_calls}
use Rattle.server_volume.specs.declared.used.Used.{Used}
use Rattle.compound_server.specs.State.{Given}
use Rattle.session_server.specs.Host.{Codes, HostState, Rules, Stepped}
use Rattle.session_server.specs.Steps.{who_calls}
use Rattle.wire_model.specs.Spelling.{SlotName}
use Rattle.wire_model.specs.Told.{TakesSimple}
use Rattle.wire_spelling.specs.Slots.{calls_in, first_slot, is_simple, ops_of, slot_asked, slot_of}
use Rattle.wire_spelling.specs.Spelling.{spelling}
use Rattle.server_laws.specs.Acts.{acts_of}
use Rattle.server_laws.specs.Slots.{IsCompoundStep}
use Rattle.server_laws.specs.Told.{HasKind, given_in}
use Rattle.own_laws.specs.Quiet.{QuietMakeNoCall}
use Rattle.tell_laws.specs.Volumes.{AreOffRoot, CallsNone, CallsOnce}
use Rattle.tell_laws.proofs.Makes.{Makes}
use Rattle.tell_laws.proofs.CompoundCalls.{CallsFew, compound_few}

-- as many calls as were made behind none
made_all : (most : ℕ) (more : List Used) (m : Makes most [] more) → (length more ≤ most) × AreOffRoot more
made_all most more m =
    let same : more ≡ m.calls = m.noted_so in (
      omega (arith, m.few, ap (λ (us : List Used). length us) same),
      subst AreOffRoot (sym same) m.off_root,
    )

module _ {X C : Type 0} (rules : Rules X C) (quiet : QuietMakeNoCall rules.service) (none : CallsNone rules) (codes : Codes) (bytes : List ℕ) (now : ℕ) (s : HostState X C) (t : Stepped X C) where
  module _ (conn : ℕ) (k : IsCompoundStep rules codes conn bytes (max s.second now) s t) where
    abbrev given : Given X
    given = given_in rules codes conn bytes (max s.second now) s t k

    few : CallsFew k.compound.ops given
    few =
        compound_few rules.service quiet none rules.parting k.choice
        (who_calls (max s.second now) conn (record { number = k.asked.number; seq = k.asked.seq }) k.asked.context)
        k.asked.context.principal k.asked.context.carry k.compound s.state

    used_is : t.out.used ≡ given.used
    used_is = ap (λ x. x.out.used) k.step_is

    accepted_is : (acts_of codes bytes now s t).accepted ≡ Some (record { owner = s.contexts.owner; boot = s.contexts.boot; number = k.asked.number; seq = k.asked.seq })
    accepted_is = ap (λ x. x.out.accepted) k.step_is ∙ k.asked.accepted

    -- those of a call that names a slot are simple
    simple_few : (owner : End) (accepts : List ℕ → Option (List ℕ)) (whose : List ℕ → Option End) → s.contexts.owner ≡ owner
        → TakesSimple (spelling accepts whose) owner (acts_of codes bytes now s t) → (first : Option SlotName) → first_slot k.compound.ops ≡ first
        → length given.used ≤ 1
    simple_few owner accepts whose is simple None outside = omega (arith, ap (λ (us : List Used). length us) (few.outside outside))
    simple_few owner accepts whose is simple (Some name) first =
        let named : slot_of bytes ≡ Some name = k.asked.slot_is ∙ ap slot_asked k.read ∙ first in
        let test : is_simple (ops_of bytes) ≡ true = simple bytes _ name refl accepted_is is named in
        let counted : nat_le (volume_calls k.compound.ops) 1 ≡ true =
        sym (ap is_simple k.asked.ops_are ∙ ap (λ r. nat_le (calls_in r) 1) k.read) ∙ test in
        omega (arith, (made_all (volume_calls k.compound.ops) given.used few.makes).0, leb-true (volume_calls k.compound.ops) 1 counted)

    compound_once : CallsOnce codes bytes now s t
    compound_once owner accepts whose is simple =
        omega (arith, simple_few owner accepts whose is simple (first_slot k.compound.ops) refl, ap (λ (us : List Used). length us) used_is)

    compound_spares : AreOffRoot t.out.used
    compound_spares = subst AreOffRoot (sym used_is) (made_all (volume_calls k.compound.ops) given.used few.makes).1

  pub step_once : HasKind rules codes bytes now s t → CallsOnce codes bytes now s t
  step_once (inl k) = compound_once k.0 k.1
  step_once (inr o) = λ owner accepts whose is simple. omega (arith, ap (λ (us : List Used). length us) o.unused)

  pub step_spares : HasKind rules codes bytes now s t → AreOffRoot t.out.used
  step_spares (inl k) = compound_spares k.0 k.1
  step_spares (inr o) = subst AreOffRoot (sym o.unused) tt
