-- Under one root a number of a slot is used for one call, also when it is sent again.
use Rattle.std.proofs.Common.{◌≡◌, ◌⊎◌, ⊎_elim, ℕ, zero, suc, ◌<◌, ◌≤◌, Option, Some, None, sym, ◌∙◌, ap, subst, arith}
use Rattle.std.proofs.lemmas.Bool.{cases_order}
use Rattle.nfs_base.specs.declared.seal.End.{End}
use Rattle.nfs_base.specs.declared.seal.Seal.{Seal}
use Rattle.wire_model.specs.Spelling.{Context, Spelling}
use Rattle.wire_model.specs.Wire.{Wire, Awaited, What, Begins, Makes, Slotted, Other, Call}
use Rattle.wire_model.specs.CallerLaws.{IsNew}
use Rattle.wire_model.specs.Told.{IsLawfulWire}
use Rattle.wire_model.proofs.Ends.{at_or_before}
use Rattle.wire_model.proofs.Mounts.{learnt_once, was_mounted}

-- a call by this slot is awaited at a place
abbrev pub AwaitsCall : Wire → End → ℕ → ℕ → Call → Type 0
AwaitsCall w e k place call =
    (xid : ℕ) × (seal : Seal) × ((w.caller e k).awaits place ≡ Some (record { xid = xid; what = Slotted seal call }))

-- since when it is awaited
pub record WasNew (w : Wire) (e : End) (k place : ℕ) (call : Call) : Type 0 where
  pub step : ℕ
  pub before : step < k
  pub is_new : IsNew (w.caller e step) (w.caller e (suc step)) call
  pub since : (m : ℕ) → step < m → m ≤ k → AwaitsCall w e m place call

abbrev call_in : What → Option Call
call_in Begins = None
call_in (Makes seal) = None
call_in (Slotted seal call) = Some call
call_in Other = None

abbrev call_of : Option Awaited → Option Call
call_of None = None
call_of (Some x) = call_in x.what

module _ (spell : Spelling) (w : Wire) (lawful : IsLawfulWire spell w) (e : End) (out : e ≡ w.owner → ⊥) where
  pub was_new : (k place : ℕ) (call : Call) → AwaitsCall w e k place call → WasNew w e k place call
  was_new zero place call awaits =
      absurd (let none = (lawful.caller_start e out).none_awaited place in let some = awaits.2 in cc)
  was_new (suc k) place call awaits =
      ⊎_elim
      (λ old.
      let n = was_new k place call old.1 in
      let early = n.before in
      record {
        step = n.step;
        before = omega arith;
        is_new = n.is_new;
        since = λ m after le.
            ⊎_elim
            (λ (before : m ≤ k). n.since m after before)
            (λ (now : m ≡ suc k). subst (λ i. AwaitsCall w e i place call) (sym now) awaits)
            (at_or_before m k le);
      })
      (λ (new : IsNew (w.caller e k) (w.caller e (suc k)) call). record {
        step = k;
        before = omega arith;
        is_new = new;
        since = λ m after le. let now : suc k ≡ m = omega arith in subst (λ i. AwaitsCall w e i place call) now awaits;
      })
      ((lawful.caller e out k).goes_on place awaits.0 awaits.1 call awaits.2)

  -- a number that one call took isn't free for a later one
  never_both : (i k : ℕ) (call other : Call) → i < k → IsNew (w.caller e i) (w.caller e (suc i)) call → IsNew (w.caller e k) (w.caller e (suc k)) other
      → call.root ≡ other.root → call.slot ≡ other.slot → call.number ≡ other.number → ⊥
  never_both i k call other before first then_ root slot number =
      let mounted = subst (λ (c : Context). (w.caller e (suc i)).mount ≡ Some c) root first.mounted in
      let m = was_mounted spell w lawful e out (suc i) other.root mounted in
      let n = was_mounted spell w lawful e out (suc k) other.root then_.mounted in
      let same = learnt_once spell w lawful e out m.learnt n.learnt other.root m.learns n.learns in
      let early = m.before in
      let there = n.mounted k (omega arith) (omega arith) in
      let o = was_mounted spell w lawful e out k other.root there in
      let again = learnt_once spell w lawful e out m.learnt o.learnt other.root m.learns o.learns in
      let used = first.used in
      let unused = then_.unused there in
      let rises = o.rises (suc i) (omega arith) (omega arith) other.slot in
      let used_there : other.number < (w.caller e (suc i)).next other.slot =
      subst (λ s. other.number < (w.caller e (suc i)).next s) slot (subst (λ n. n < (w.caller e (suc i)).next call.slot) number used) in
      absurd (omega arith)

  same_step : (i k : ℕ) (call other : Call) → IsNew (w.caller e i) (w.caller e (suc i)) call → IsNew (w.caller e k) (w.caller e (suc k)) other
      → call.root ≡ other.root → call.slot ≡ other.slot → call.number ≡ other.number → i ≡ k
  same_step i k call other first then_ root slot number =
      ⊎_elim
      (λ (here : i ≡ k). here)
      (λ (apart : (i < k) ⊎ (k < i)). absurd (⊎_elim
      (λ (before : i < k). never_both i k call other before first then_ root slot number)
      (λ (after : k < i). never_both k i other call after then_ first (sym root) (sym slot) (sym number))
      apart))
      (cases_order i k)

  -- the place of an awaited call is its slot
  in_slot : (k place : ℕ) (call : Call) → AwaitsCall w e k place call → place ≡ call.slot
  in_slot k place call awaits =
      in_slot_after k place call awaits
    where
      in_slot_after : (k place : ℕ) (call : Call) → AwaitsCall w e k place call → place ≡ call.slot
      in_slot_after zero place call awaits = absurd (let none = (lawful.caller_start e out).none_awaited place in let some = awaits.2 in cc)
      in_slot_after (suc k) place call awaits = ((lawful.caller e out k).in_slot place awaits.0 awaits.1 call awaits.2).0

  -- two calls of one root, slot and number are the same, and were new in the same step
  pub one_call : (i k place place' : ℕ) (call other : Call) (a : AwaitsCall w e i place call) (b : AwaitsCall w e k place' other)
      → call.root ≡ other.root → call.slot ≡ other.slot → call.number ≡ other.number
      → (call ≡ other) × ((was_new i place call a).step ≡ (was_new k place' other b).step)
  one_call i k place place' call other a b root slot number =
      let m = was_new i place call a in
      let n = was_new k place' other b in
      let step = same_step m.step n.step call other m.is_new n.is_new root slot number in
      let m_before = m.before in
      let n_before = n.before in
      let here = m.since (suc m.step) (omega arith) (omega arith) in
      let there = subst (λ s. AwaitsCall w e (suc s) place' other) (sym step) (n.since (suc n.step) (omega arith) (omega arith)) in
      let at = in_slot (suc m.step) place call here ∙ slot ∙ sym (in_slot (suc m.step) place' other there) in
      let same_place = subst (λ p. AwaitsCall w e (suc m.step) p other) (sym at) there in
      let calls : Some call ≡ Some other = sym (ap call_of here.2) ∙ ap call_of same_place.2 in
      (cc, step)
