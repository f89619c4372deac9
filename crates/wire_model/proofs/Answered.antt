-- Whatever a caller takes as the answer to a call of a slot, the server told it so.
use Rattle.std.proofs.Common.{◌≡◌, ◌⊎◌, ⊎_elim, ℕ, zero, suc, ◌<◌, ◌≤◌, true, Some, List, refl, sym, ◌∙◌, ap, subst, arith}
use Rattle.std.proofs.lemmas.Bool.{cases_order}
use Rattle.nfs_base.specs.declared.seal.End.{End}
use Rattle.nfs_base.specs.declared.seal.Seal.{Seal}
use Rattle.wire_model.specs.Spelling.{Context, SlotName, Spelling}
use Rattle.wire_model.specs.Wire.{Wire, Awaited, Slotted, Call, context_of}
use Rattle.wire_model.specs.ServerLaws.{Executes, Keeps, last_of}
use Rattle.wire_model.specs.CallerLaws.{Takes}
use Rattle.wire_model.specs.Told.{IsLawfulWire, WasTold, AreAnswersTold, IsExecutedOnce, AreCallsSimple}
use Rattle.wire_model.proofs.Ends.{from_on}
use Rattle.wire_model.proofs.Openings.{was_answered, was_sent}
use Rattle.wire_model.proofs.Roots.{boot_rises}
use Rattle.wire_model.proofs.Mounts.{IsKnown, known, one_caller}
use Rattle.wire_model.proofs.Slots.{AwaitsCall, was_new, one_call}

-- the step that executed the call whose reply is kept
record WasExecuted (spell : Spelling) (w : Wire) (k : ℕ) (name : SlotName) (root : ℕ) (results : List ℕ) : Type 0 where
  step : ℕ
  before : step < k
  boot : (w.server (suc step)).boot ≡ (w.server k).boot
  executes : Executes spell w.owner (w.server step) (w.server (suc step)) (w.acts w.owner step) name root results

abbrev context : ℕ → ℕ → Context
context boot number = record { boot = boot; number = number }

pub same_context : (c d : Context) → c.boot ≡ d.boot → c.number ≡ d.number → c ≡ d
same_context c d boot number = ap (λ b. context b c.number) boot ∙ ap (λ n. context d.boot n) number

module _ (spell : Spelling) (w : Wire) (lawful : IsLawfulWire spell w) where
  was_executed : (k : ℕ) (name : SlotName) (root : ℕ) (results : List ℕ) → Keeps (w.server k) name root results
      → WasExecuted spell w k name root results
  was_executed zero name root results keeps =
      absurd (let none = lawful.server_start.none_kept name.session name.slot in cc)
  was_executed (suc k) name root results keeps =
      ⊎_elim
      (λ (old : ((w.server k).boot ≡ (w.server (suc k)).boot) × Keeps (w.server k) name root results).
      let x = was_executed k name root results old.1 in
      let early = x.before in
      record { step = x.step; before = omega arith; boot = x.boot ∙ old.0; executes = x.executes })
      (λ (new : Executes spell w.owner (w.server k) (w.server (suc k)) (w.acts w.owner k) name root results).
      record { step = k; before = omega arith; boot = refl; executes = new })
      ((lawful.server k).kept name root results keeps)

  module _ (e : End) (out : e ≡ w.owner → ⊥) (k : ℕ) (call : Call) (seal : Seal) (reply : List ℕ)
      (takes : Takes spell (w.caller e k) (w.acts e k) seal (Slotted seal call) reply) where
    abbrev awaited : Awaited
    awaited = record { xid = spell.xid_of reply; what = Slotted seal call }

    awaits : AwaitsCall w e k takes.place call
    awaits = (spell.xid_of reply, seal, takes.awaited)

    -- the caller has the context of the call, under its root
    has_context : (n : ℕ) → AwaitsCall w e n takes.place call → (s : Seal) (x : ℕ) → (w.caller e n).awaits takes.place ≡ Some (record { xid = x; what = Slotted s call })
        → IsKnown spell w e n (context_of s) call.root
    has_context zero a s x at = absurd (let none = (lawful.caller_start e out).none_awaited takes.place in cc)
    has_context (suc n) a s x at = known spell w lawful e out (suc n) (context_of s) call.root ((lawful.caller e out n).in_slot takes.place x s call at).1

    -- a step that executed a call of this slot, number and root executed this call, after it was sent
    executed_told : (t : ℕ) → t < k → (name : SlotName) (root : ℕ) → name.slot ≡ call.slot → name.number ≡ call.number → root ≡ call.root.number
        → (w.server t).boot ≡ call.root.boot
        → Executes spell w.owner (w.server t) (w.server (suc t)) (w.acts w.owner t) name root (spell.results_of reply)
        → WasTold w k e call (spell.results_of reply)
    executed_told t before name root slot number root_is boot x =
        let sealed = (lawful.unmistaken t w.owner).sealed x.seal x.call x.accepted x.took in
        let a = (lawful.caller sealed.by sealed.other sealed.step).sends x.call x.seal name sealed.sealed x.own x.name_is in
        let known_then = known spell w lawful sealed.by sealed.other (suc sealed.step) (context_of x.seal) a.call.root ((lawful.caller sealed.by sealed.other sealed.step).in_slot name.slot _ x.seal a.call a.awaited).1 in
        let known_now = has_context k awaits seal (spell.xid_of reply) takes.awaited in
        let in_boot = x.in_boot in
        let number_then = known_then.root_is t root (sym x.in_boot) x.root_is in
        let boot_then : a.call.root.boot ≡ call.root.boot = sym known_then.boot ∙ x.in_boot ∙ boot in
        let roots : a.call.root ≡ call.root = same_context a.call.root call.root boot_then (sym number_then ∙ root_is) in
        let learns_then = subst (λ (c : Context). IsKnown spell w sealed.by (suc sealed.step) (context_of x.seal) c) roots known_then in
        let by = one_caller spell w lawful sealed.by e sealed.other out learns_then.learnt known_now.learnt call.root learns_then.learns known_now.learns in
        let then_ : AwaitsCall w sealed.by (suc sealed.step) name.slot a.call = (spell.xid_of x.call, x.seal, a.awaited) in
        let mine = subst (λ (o : End). AwaitsCall w o (suc sealed.step) name.slot a.call) by then_ in
        let one = one_call spell w lawful e out k (suc sealed.step) takes.place name.slot call a.call awaits mine (sym roots) (sym slot ∙ sym a.slot) (sym number ∙ sym a.number) in
        let n = was_new spell w lawful e out k takes.place call awaits in
        let m = was_new spell w lawful e out (suc sealed.step) name.slot a.call mine in
        let same = one.1 in
        let late = m.before in
        let in_time = sealed.before in
        record {
          sent = n.step;
          ready = n.is_new.ready;
          step = t;
          after = omega arith;
          before = before;
          boot = boot;
          same_boot = sym x.same_boot ∙ boot;
          executed = x.executed ∙ ap (λ (o : List ℕ). Some (record { ops = o; results = spell.results_of reply })) (sym a.ops ∙ ap (λ (c : Call). c.ops) (sym one.0));
        }

    pub told : WasTold w k e call (spell.results_of reply)
    told =
        let sent = was_sent spell w lawful e out k takes.place awaited takes.awaited in
        let own = sent.is_sent.fits.1 in
        let a = was_answered spell w lawful e out k (Slotted seal call) seal reply own takes in
        let name = a.sent.is_sent.fits.2 in
        let law = (lawful.server a.step).slot a.sent.is_sent.bytes reply seal name.0 a.took name.1 a.sealed takes.is_reply in
        let known_now = has_context k awaits seal (spell.xid_of reply) takes.awaited in
        let root = known_now.root_is a.step law.root (sym law.in_boot) law.root_is in
        let boot : (w.server a.step).boot ≡ call.root.boot = sym law.in_boot ∙ known_now.boot in
        ⊎_elim
        (λ (now : Executes spell w.owner (w.server a.step) (w.server (suc a.step)) (w.acts w.owner a.step) name.0 law.root (spell.results_of reply)).
        executed_told a.step a.before name.0 law.root name.2 name.3 root boot now)
        (λ (kept : Keeps (w.server a.step) name.0 law.root (spell.results_of reply)).
        let x = was_executed a.step name.0 law.root (spell.results_of reply) kept in
        let early = x.before in
        let late = a.before in
        executed_told x.step (omega arith) name.0 law.root name.2 name.3 root (x.executes.same_boot ∙ x.boot ∙ boot) x.executes)
        law.results

  pub answers_told : AreAnswersTold spell w
  answers_told k e call seal reply out takes = told e out k call seal reply takes

  last_rises : (i k : ℕ) (name : SlotName) → i ≤ k → (w.server i).boot ≡ (w.server k).boot → last_of (w.server i) name ≤ last_of (w.server k) name
  last_rises i k name le =
      from_on
      (λ n. (w.server i).boot ≡ (w.server n).boot → last_of (w.server i) name ≤ last_of (w.server n) name)
      i
      (λ same. omega arith)
      (λ n after so_far same.
      let step = (lawful.server n).boot in
      let rises = boot_rises spell w lawful i n after in
      let early = so_far (omega arith) in
      let now = (lawful.server n).last name (omega arith) in
      omega arith)
      k
      le

  never_twice : (i k : ℕ) (name : SlotName) (root root' : ℕ) (results results' : List ℕ) → i < k
      → Executes spell w.owner (w.server i) (w.server (suc i)) (w.acts w.owner i) name root results
      → spell.has_run results ≡ true
      → Executes spell w.owner (w.server k) (w.server (suc k)) (w.acts w.owner k) name root' results'
      → spell.has_run results' ≡ true
      → (w.server i).boot ≡ (w.server k).boot → ⊥
  never_twice i k name root root' results results' before first ran then_ ran' same =
      let low = ((lawful.server i).once name root results first ran).1 in
      let high = ((lawful.server k).once name root' results' then_ ran').0 in
      let rises = last_rises (suc i) k name (omega arith) (sym first.same_boot ∙ same) in
      absurd (omega arith)

  pub executed_once : IsExecutedOnce spell w
  executed_once i k name root root' results results' first ran then_ ran' same =
      ⊎_elim
      (λ (here : i ≡ k). here)
      (λ (other : (i < k) ⊎ (k < i)). absurd (⊎_elim
      (λ (before : i < k). never_twice i k name root root' results results' before first ran then_ ran' same)
      (λ (after : k < i). never_twice k i name root' root results' results after then_ ran' first ran (sym same))
      other))
      (cases_order i k)

  pub calls_simple : AreCallsSimple spell w
  calls_simple k call seal name took accepted own named =
      let sealed = (lawful.unmistaken k w.owner).sealed seal call accepted took in
      (lawful.caller sealed.by sealed.other sealed.step).simple call seal name sealed.sealed own named
