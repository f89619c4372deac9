-- A caller learns a root from its own INIT, no two mounts have the same, and no two callers; and each context
-- that it has is, at the server, a context under that root.
use Rattle.std.proofs.Common.{◌≡◌, ◌⊎◌, ⊎_elim, ℕ, zero, suc, ◌<◌, ◌≤◌, true, Some, List, refl, sym, ◌∙◌, ap, subst, arith}
use Rattle.std.proofs.lemmas.Bool.{both_ways, cases_order}
use Rattle.nfs_base.specs.declared.seal.End.{End}
use Rattle.wire_model.specs.Spelling.{Context, Spelling}
use Rattle.wire_model.specs.Wire.{Wire, Begins, Makes}
use Rattle.wire_model.specs.ServerLaws.{IsMade}
use Rattle.wire_model.specs.CallerLaws.{LearnsRoot, LearnsChild}
use Rattle.wire_model.specs.Told.{IsLawfulWire}
use Rattle.wire_model.proofs.Ends.{at_or_before}
use Rattle.wire_model.proofs.Openings.{was_sent, was_answered}
use Rattle.wire_model.proofs.Roots.{made_once, root_is}

-- the step in which the server made a root that a caller learnt
pub record WasMade (spell : Spelling) (w : Wire) (e : End) (k : ℕ) (root : Context) : Type 0 where
  pub step : ℕ
  pub before : step < k
  pub boot : root.boot ≡ (w.server (suc step)).boot
  pub made : IsMade (w.server step) (w.server (suc step)) root.number root.number
  pub call : List ℕ
  pub took : (w.acts w.owner step).took ≡ Some call
  pub begun : spell.begun_by call ≡ Some e
  pub sent : ℕ
  pub after : sent < step
  pub place : ℕ
  pub xid : ℕ
  pub since : (m : ℕ) → sent < m → m ≤ k → (w.caller e m).awaits place ≡ Some (record { xid = xid; what = Begins })

-- a context that a caller has, with its root: it learnt the root from its own INIT, and at the server the
-- context has that root whenever it is there
pub record IsKnown (spell : Spelling) (w : Wire) (e : End) (k : ℕ) (context root : Context) : Type 0 where
  pub learnt : ℕ
  pub before : learnt < k
  pub learns : LearnsRoot spell w.owner (w.caller e learnt) (w.acts e learnt) root
  pub boot : context.boot ≡ root.boot
  pub root_is : (t x : ℕ) → (w.server t).boot ≡ context.boot → (w.server t).root context.number ≡ Some x → x ≡ root.number

-- since when a root is mounted
pub record WasMounted (spell : Spelling) (w : Wire) (e : End) (k : ℕ) (root : Context) : Type 0 where
  pub learnt : ℕ
  pub before : learnt < k
  pub learns : LearnsRoot spell w.owner (w.caller e learnt) (w.acts e learnt) root
  pub mounted : (m : ℕ) → learnt < m → m ≤ k → (w.caller e m).mount ≡ Some root
  pub rises : (m : ℕ) → learnt < m → m ≤ k → (slot : ℕ) → (w.caller e m).next slot ≤ (w.caller e k).next slot

module _ (spell : Spelling) (w : Wire) (lawful : IsLawfulWire spell w) where
  was_made : (e : End) → (e ≡ w.owner → ⊥) → (k : ℕ) (root : Context) → LearnsRoot spell w.owner (w.caller e k) (w.acts e k) root
      → WasMade spell w e k root
  was_made e out k root learns =
      let a = was_answered spell w lawful e out k Begins learns.seal learns.reply learns.own learns.takes in
      let law = (lawful.server a.step).init a.sent.is_sent.bytes learns.reply learns.seal e a.took a.sent.is_sent.fits a.sealed learns.takes.is_reply in
      subst (λ (c : Context). WasMade spell w e k c) learns.root_is (record {
        step = a.step;
        before = a.before;
        boot = law.0;
        made = law.1;
        call = a.sent.is_sent.bytes;
        took = a.took;
        begun = a.sent.is_sent.fits;
        sent = a.sent.step;
        after = a.after;
        place = learns.takes.place;
        xid = spell.xid_of learns.reply;
        since = a.sent.since;
      })

  never_learnt_again : (e : End) → (e ≡ w.owner → ⊥) → (i k : ℕ) (root : Context) → i < k
      → LearnsRoot spell w.owner (w.caller e i) (w.acts e i) root → LearnsRoot spell w.owner (w.caller e k) (w.acts e k) root → ⊥
  never_learnt_again e out i k root before first then_ =
      let m = was_made e out i root first in
      let n = was_made e out k root then_ in
      let same = made_once spell w lawful m.step n.step root.number root.number root.number m.made n.made (sym m.boot ∙ n.boot) in
      let early = m.before in
      let order = n.after in
      (lawful.caller e out i).begin root first n.place n.xid (n.since (suc i) (omega arith) (omega arith))

  pub learnt_once : (e : End) → (e ≡ w.owner → ⊥) → (i k : ℕ) (root : Context)
      → LearnsRoot spell w.owner (w.caller e i) (w.acts e i) root → LearnsRoot spell w.owner (w.caller e k) (w.acts e k) root → i ≡ k
  learnt_once e out i k root first then_ =
      ⊎_elim
      (λ (here : i ≡ k). here)
      (λ (other : (i < k) ⊎ (k < i)). absurd (⊎_elim
      (λ (before : i < k). never_learnt_again e out i k root before first then_)
      (λ (after : k < i). never_learnt_again e out k i root after then_ first)
      other))
      (cases_order i k)

  -- two callers that learnt one root are one
  pub one_caller : (e e' : End) → (e ≡ w.owner → ⊥) → (e' ≡ w.owner → ⊥) → (i k : ℕ) (root : Context)
      → LearnsRoot spell w.owner (w.caller e i) (w.acts e i) root → LearnsRoot spell w.owner (w.caller e' k) (w.acts e' k) root → e ≡ e'
  one_caller e e' out out' i k root first then_ =
      let m = was_made e out i root first in
      let n = was_made e' out' k root then_ in
      let same = made_once spell w lawful m.step n.step root.number root.number root.number m.made n.made (sym m.boot ∙ n.boot) in
      let here : (w.acts w.owner m.step).took ≡ Some n.call = subst (λ t. (w.acts w.owner t).took ≡ Some n.call) (sym same) n.took in
      let call : Some m.call ≡ Some n.call = sym m.took ∙ here in
      let bytes : m.call ≡ n.call = cc in
      let by : Some e ≡ Some e' = sym m.begun ∙ ap spell.begun_by bytes ∙ n.begun in
      cc

  module _ (e : End) (out : e ≡ w.owner → ⊥) where
    known_root : (k : ℕ) (root : Context) → LearnsRoot spell w.owner (w.caller e k) (w.acts e k) root → IsKnown spell w e (suc k) root root
    known_root k root learns =
        let m = was_made e out k root learns in
        record {
          learnt = k;
          before = omega arith;
          learns = learns;
          boot = refl;
          root_is = λ t x boot there. root_is spell w lawful m.step root.number root.number t x m.made (sym m.boot ∙ sym boot) there;
        }

    known_child : (k : ℕ) (child root : Context) → LearnsChild spell (w.caller e k) (w.acts e k) child root
        → IsKnown spell w e k root root → IsKnown spell w e (suc k) child root
    known_child k child root learns known =
        let own = (was_sent spell w lawful e out k learns.takes.place _ learns.takes.awaited).is_sent.fits.1 in
        let a = was_answered spell w lawful e out k (Makes learns.seal) learns.seal learns.reply own learns.takes in
        let law = (lawful.server a.step).create a.sent.is_sent.bytes learns.reply learns.seal child a.took a.sent.is_sent.fits.2 a.sealed learns.takes.is_reply learns.child_is in
        let early = known.before in
        let number = ap (λ (c : Context). c.number) learns.root_is in
        let boot = ap (λ (c : Context). c.boot) learns.root_is in
        record {
          learnt = known.learnt;
          before = omega arith;
          learns = known.learns;
          boot = law.0 ∙ sym law.1 ∙ boot;
          root_is = λ t x at there.
              root_is spell w lawful a.step child.number learns.seal.number t x law.2 (sym law.0 ∙ sym at) there ∙ number;
        }

    pub known : (k : ℕ) (context root : Context) → (w.caller e k).has context root ≡ true → IsKnown spell w e k context root
    known zero context root has = absurd (both_ways _ ((lawful.caller_start e out).no_context context root) has)
    known (suc k) context root has =
        ⊎_elim
        (λ (old : (w.caller e k).has context root ≡ true).
        let n = known k context root old in
        let early = n.before in
        record { learnt = n.learnt; before = omega arith; learns = n.learns; boot = n.boot; root_is = n.root_is })
        (λ (new : ((context ≡ root) × LearnsRoot spell w.owner (w.caller e k) (w.acts e k) root) ⊎ LearnsChild spell (w.caller e k) (w.acts e k) context root).
        ⊎_elim
        (λ (begun : (context ≡ root) × LearnsRoot spell w.owner (w.caller e k) (w.acts e k) root).
        subst (λ (c : Context). IsKnown spell w e (suc k) c root) (sym begun.0) (known_root k root begun.1))
        (λ (child : LearnsChild spell (w.caller e k) (w.acts e k) context root). known_child k context root child (known k root root child.has_root))
        new)
        ((lawful.caller e out k).has context root has)

    pub was_mounted : (k : ℕ) (root : Context) → (w.caller e k).mount ≡ Some root → WasMounted spell w e k root
    was_mounted zero root mounted = absurd (let none = (lawful.caller_start e out).no_mount in cc)
    was_mounted (suc k) root mounted =
        ⊎_elim
        (λ (old : ((w.caller e k).mount ≡ Some root) × ((slot : ℕ) → (w.caller e k).next slot ≤ (w.caller e (suc k)).next slot)).
        let m = was_mounted k root old.0 in
        let early = m.before in
        record {
          learnt = m.learnt;
          before = omega arith;
          learns = m.learns;
          mounted = λ n after le.
              ⊎_elim
              (λ (before : n ≤ k). m.mounted n after before)
              (λ (now : n ≡ suc k). subst (λ i. (w.caller e i).mount ≡ Some root) (sym now) mounted)
              (at_or_before n k le);
          rises = λ n after le slot.
              ⊎_elim
              (λ (before : n ≤ k). let so_far = m.rises n after before slot in let last = old.1 slot in omega arith)
              (λ (now : n ≡ suc k). subst (λ i. (w.caller e i).next slot ≤ (w.caller e (suc k)).next slot) (sym now) (omega arith))
              (at_or_before n k le);
        })
        (λ (new : LearnsRoot spell w.owner (w.caller e k) (w.acts e k) root). record {
          learnt = k;
          before = omega arith;
          learns = new;
          mounted = λ n after le. let now : suc k ≡ n = omega arith in subst (λ i. (w.caller e i).mount ≡ Some root) now mounted;
          rises = λ n after le slot.
              let now : suc k ≡ n = omega arith in
              subst (λ i. (w.caller e i).next slot ≤ (w.caller e (suc k)).next slot) now (omega arith);
        })
        ((lawful.caller e out k).mount root mounted)
