-- Within an opening a caller's calls have xids of their own, so that the awaited call is the one that the
-- check finds.
use Rattle.std.proofs.Common.{◌≡◌, ◌⊎◌, ⊎_elim, ℕ, zero, suc, ◌<◌, ◌≤◌, false, Option, Some, List, refl, sym, ◌∙◌, ap, subst, arith}
use Rattle.std.proofs.lemmas.Bool.{both_ways, cases_order}
use Rattle.nfs_base.specs.declared.seal.End.{End}
use Rattle.nfs_base.specs.declared.seal.Seal.{Seal}
use Rattle.wire_model.specs.Spelling.{Spelling}
use Rattle.wire_model.specs.Wire.{Sends, Wire, Awaited, What}
use Rattle.wire_model.specs.CallerLaws.{IsSent, Takes}
use Rattle.wire_model.specs.Told.{IsLawfulWire}
use Rattle.wire_model.proofs.Ends.{same_end, at_or_before, from_on}

-- an awaited call was sent in this step, and is awaited since
pub record WasSent (spell : Spelling) (w : Wire) (e : End) (k place : ℕ) (x : Awaited) : Type 0 where
  pub step : ℕ
  pub before : step < k
  pub is_sent : IsSent spell w.owner e (w.acts e step) x
  pub boot : (w.caller e (suc step)).boot ≡ (w.caller e k).boot
  pub since : (m : ℕ) → step < m → m ≤ k → (w.caller e m).awaits place ≡ Some x

-- the server took the awaited call after it was sent, and sealed this reply in that step
pub record WasAnswered (spell : Spelling) (w : Wire) (e : End) (k place : ℕ) (x : Awaited) (seal : Seal) (reply : List ℕ) : Type 0 where
  pub sent : WasSent spell w e k place x
  pub step : ℕ
  pub after : sent.step < step
  pub before : step < k
  pub took : (w.acts w.owner step).took ≡ Some sent.is_sent.bytes
  pub sealed : Sends (w.acts w.owner step) reply (Some seal)

module _ (spell : Spelling) (w : Wire) (lawful : IsLawfulWire spell w) (e : End) (out : e ≡ w.owner → ⊥) where
  boot_rises : (i k : ℕ) → i ≤ k → (w.caller e i).boot ≤ (w.caller e k).boot
  boot_rises i k le =
      from_on (λ n. (w.caller e i).boot ≤ (w.caller e n).boot) i (omega arith) (λ n after so_far. let step = (lawful.caller e out n).boot in omega arith) k le

  calls_rise : (i k : ℕ) → i ≤ k → (w.caller e i).boot ≡ (w.caller e k).boot → (w.caller e i).calls ≤ (w.caller e k).calls
  calls_rise i k le =
      from_on
      (λ n. (w.caller e i).boot ≡ (w.caller e n).boot → (w.caller e i).calls ≤ (w.caller e n).calls)
      i
      (λ same. omega arith)
      (λ n after so_far same.
      let step = (lawful.caller e out n).boot in
      let rises = boot_rises i n after in
      let early = so_far (omega arith) in
      let now = (lawful.caller e out n).calls (omega arith) in
      omega arith)
      k
      le

  -- two calls of an opening with one xid are not sent one after the other
  never_twice : (i k : ℕ) (b b' : List ℕ) (seal seal' : Option Seal) → i < k → Sends (w.acts e i) b seal → Sends (w.acts e k) b' seal'
      → spell.is_reply b ≡ false → spell.is_reply b' ≡ false → spell.xid_of b ≡ spell.xid_of b'
      → (w.caller e (suc i)).boot ≡ (w.caller e (suc k)).boot → ⊥
  never_twice i k b b' seal seal' before sends sends' is_call is_call' xid boot =
      let first = (lawful.caller e out i).fresh b seal sends is_call in
      let then_ = (lawful.caller e out k).fresh b' seal' sends' is_call' in
      let low = first.2 in
      let high = then_.1 in
      let same = then_.0 in
      let rises = calls_rise (suc i) k (omega arith) (omega arith) in
      absurd (omega arith)

  one_send : (i k : ℕ) (b b' : List ℕ) (seal seal' : Option Seal) → Sends (w.acts e i) b seal → Sends (w.acts e k) b' seal'
      → spell.is_reply b ≡ false → spell.is_reply b' ≡ false → spell.xid_of b ≡ spell.xid_of b'
      → (w.caller e (suc i)).boot ≡ (w.caller e (suc k)).boot → (i ≡ k) × (b ≡ b')
  one_send i k b b' seal seal' sends sends' is_call is_call' xid boot =
      ⊎_elim
      (λ (same : i ≡ k).
      let there : Sends (w.acts e i) b' seal' = subst (λ n. Sends (w.acts e n) b' seal') (sym same) sends' in
      (same, (lawful.caller e out i).one b b' seal seal' sends there is_call is_call' xid))
      (λ (other : (i < k) ⊎ (k < i)). absurd (⊎_elim
      (λ (before : i < k). never_twice i k b b' seal seal' before sends sends' is_call is_call' xid boot)
      (λ (after : k < i). never_twice k i b' b seal' seal after sends' sends is_call' is_call (sym xid) (sym boot))
      other))
      (cases_order i k)

  pub was_sent : (k place : ℕ) (x : Awaited) → (w.caller e k).awaits place ≡ Some x → WasSent spell w e k place x
  was_sent zero place x awaited = absurd (let none = (lawful.caller_start e out).none_awaited place in cc)
  was_sent (suc k) place x awaited =
      ⊎_elim
      (λ (old : ((w.caller e k).boot ≡ (w.caller e (suc k)).boot) × ((w.caller e k).awaits place ≡ Some x)).
      let s = was_sent k place x old.1 in
      let before = s.before in
      record {
        step = s.step;
        before = omega arith;
        is_sent = s.is_sent;
        boot = s.boot ∙ old.0;
        since = λ m after le.
            ⊎_elim
            (λ (early : m ≤ k). s.since m after early)
            (λ (now : m ≡ suc k). subst (λ n. (w.caller e n).awaits place ≡ Some x) (sym now) awaited)
            (at_or_before m k le);
      })
      (λ (new : ((w.caller e k).boot ≡ (w.caller e (suc k)).boot) × IsSent spell w.owner e (w.acts e k) x). record {
        step = k;
        before = omega arith;
        is_sent = new.1;
        boot = refl;
        since = λ m after le.
            let now : suc k ≡ m = omega arith in
            subst (λ n. (w.caller e n).awaits place ≡ Some x) now awaited;
      })
      ((lawful.caller e out k).awaits place x awaited)

  -- a reply that the check passes answers the awaited call, and the server sealed it
  pub was_answered : (k : ℕ) (what : What) (seal : Seal) (reply : List ℕ) → seal.owner ≡ w.owner
      → (t : Takes spell (w.caller e k) (w.acts e k) seal what reply)
      → WasAnswered spell w e k t.place (record { xid = spell.xid_of reply; what = what }) seal reply
  was_answered k what seal reply own t =
      let s = was_sent k t.place _ t.awaited in
      let c = (lawful.unmistaken k e).answers seal reply t.accepted t.took t.is_reply in
      let same = one_send c.sent s.step c.call s.is_sent.bytes c.seal_sent s.is_sent.seal c.sends s.is_sent.sent c.is_call s.is_sent.is_call (c.xid ∙ sym s.is_sent.xid) (c.opening ∙ sym s.boot) in
      ⊎_elim
      (λ (by : c.by ≡ w.owner). record {
        sent = s;
        step = c.step;
        after = (let first = c.in_order in let there = same.0 in omega arith);
        before = c.before;
        took = subst (λ (o : End). (w.acts o c.step).took ≡ Some s.is_sent.bytes) by (c.took ∙ ap (λ (b : List ℕ). Some b) same.1);
        sealed = subst (λ (o : End). Sends (w.acts o c.step) reply (Some seal)) by c.sealed;
      })
      (λ (stranger : c.by ≡ w.owner → ⊥). absurd (both_ways
      (spell.is_callback c.call)
      (ap spell.is_callback same.1 ∙ s.is_sent.no_callback)
      ((lawful.caller c.by stranger c.step).directed reply c.call seal c.sealed own t.is_reply c.took)))
      (same_end c.by w.owner)
