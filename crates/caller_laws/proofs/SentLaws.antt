-- A mount of which a call went out is as it should be if it was so before, and the step obeys a wire's laws.
use Rattle.std.proofs.Common.{◌≡◌, ◌⊎◌, inl, inr, ℕ, zero, suc, ◌<◌, ◌≤◌, true, List, [], ◌∷◌, length, get_or, Option, Some, None, refl, sym, ap, subst, ◌∙◌, arith}
use Rattle.std.specs.Prelude.{◌≢◌, Contains, option_map, slice_index}
use Rattle.std.proofs.lemmas.Bool.{cases_eq}
use Rattle.nfs_base.specs.declared.seal.Seal.{Seal}
use Rattle.session_client.specs.Pending.{Beginning}
use Rattle.mount.specs.Places.{xid_awaited}
use Rattle.mount.specs.State.{Mounted, awaited_at, child_name, kept_in, pending_at, root_name}
use Rattle.mount.specs.declared.machine.Sent as out
use Rattle.mount.specs.declared.state.Pending.{Pending}
use Rattle.mount.specs.declared.state.Pending.TheVariants.{Init, Under}
use Rattle.mount.specs.declared.state.Root.{Root}
use Rattle.mount.specs.declared.state.Standing.{Standing}
use Rattle.mount.specs.declared.state.Standing.TheVariants.{Down, Rooted}
use Rattle.wire_model.specs.CallerLaws as laws
use Rattle.wire_model.specs.Spelling.{Context, SlotName}
use Rattle.wire_model.specs.Wire.{Awaited, Call, Sends, Sent, Slotted}
use Rattle.wire_spelling.specs.Calls.{xid_in}
use Rattle.wire_spelling.specs.Slots.{is_simple, ops_of, slot_of}
use Rattle.wire_spelling.specs.Spelling.{spelling}
use Rattle.caller_laws.specs.Good.{Identity, IsFair, IsGood, IsNumbered, IsOwnToken}
use Rattle.caller_laws.specs.Duties.{IsOwnCall, SendsOwnCalls}
use Rattle.caller_laws.specs.Joining.{Keeps}
use Rattle.caller_laws.specs.Lawful.{GoesOn}
use Rattle.caller_laws.specs.Moves.{sending}
use Rattle.caller_laws.specs.View.{Above, awaited_in, caller_of, face_of, has_in, mount_in, next_in, root_seen}
use Rattle.caller_laws.proofs.Faces.{some_is}
use Rattle.caller_laws.proofs.Shrunk.{awaited_same, awaiting_of, in_slot, mapped, rooted_by}
use Rattle.caller_laws.proofs.Spoken.{SaysCall}

-- ---- one record is sent

only_sent : {X : Type 0} (y x : X) → Contains (y ∷ []) x → y ≡ x
only_sent {X} y x c = by c.0 c.1 c.2
  where
    by : (k : ℕ) → k < 1 → get_or (y ∷ []) k x ≡ x → y ≡ x
    by zero lt is = is
    by (suc k) lt is = absurd (omega arith)

none_unless : {X : Type 0} (o : Option X) → ((x : X) → o ≡ Some x → ⊥) → o ≡ None
none_unless None never = refl
none_unless (Some x) never = absurd (never x refl)

-- an xid that is above all has named no context
pub unnamed_new : (who : Identity) (m : Mounted) (xid : ℕ) → IsGood who m → m.calls < xid → face_of xid m.contexts ≡ None
unnamed_new who m xid g new =
    none_unless (face_of xid m.contexts) (λ f there. let below : xid ≤ m.calls = (g.held xid f there).below in absurd (omega arith))

-- ---- what a step that sends leaves

-- the root that is there was there, and its numbers only grew
pub record WasRooted (m : Mounted) (r : Root) : Type 0 where
  pub was : Root
  pub is : m.standing ≡ Rooted was
  pub name : r.name ≡ was.name
  pub grown : (slot : ℕ) → slice_index was.numbers slot ≤ slice_index r.numbers slot
  pub many : length r.numbers ≡ length was.numbers
  pub set_up : r.setup ≡ was.setup

-- A call went out, and awaits its answer at a place: contexts keep their faces, and what is awaited elsewhere stays.
pub record WentOut (who : Identity) (m w : Mounted) (place : ℕ) (p : Pending) : Type 0 where
  pub server : w.server ≡ m.server
  pub calls : w.calls ≡ xid_awaited p
  pub rises : m.calls < w.calls
  pub places : length w.places ≡ length m.places
  pub faces : (name : ℕ) → face_of name w.contexts ≡ face_of name m.contexts
  pub holds : (context root : Context) → has_in w.contexts context root ≡ has_in m.contexts context root
  pub here : pending_at w place ≡ Some p
  pub others : (other : ℕ) → other ≢ place → pending_at w other ≡ pending_at m other
  pub fair : IsFair who w place p
  pub alone : (init : Beginning) → p ≡ Init init → (other : ℕ) (b : Beginning) → pending_at m other ≡ Some (Init b) → other ≡ place
  pub standing : (r : Root) → w.standing ≡ Rooted r → WasRooted m r
  pub root : root_name w.standing ≡ root_name m.standing
  pub children : (child name : ℕ) → child_name w child ≡ Some name → child_name m child ≡ Some name
  pub kept : (init : Beginning) → kept_in w.standing ≡ Some init → IsOwnToken who init.token

module _ (who : Identity) (m w : Mounted) (place : ℕ) (p : Pending) (s : WentOut who m w place p) (g : IsGood who m) where
  numbered_on : (xid : ℕ) → IsNumbered m xid → IsNumbered w xid
  numbered_on xid n =
      let below = n.below in
      let rises = s.rises in
      record { below = omega arith; unnamed = s.faces xid ∙ n.unnamed }

  fair_on : (other : ℕ) (q : Pending) → IsFair who m other q → IsFair who w other q
  fair_on other (Init init) fair = record { numbered = numbered_on init.xid fair.numbered; token = fair.token; down = s.root ∙ fair.down }
  fair_on other (Under context aim call) fair = record {
    numbered = numbered_on call.awaited.xid fair.numbered;
    face = fair.face;
    there = s.faces context ∙ fair.there;
    owner = fair.owner ∙ sym s.server;
    under = fair.under;
    asked = fair.asked;
    aim_fits = fair.aim_fits;
    rooted = λ other. s.root ∙ fair.rooted other;
  }

  -- what is awaited at a place is what went out, or was
  record IsThat (other : ℕ) (q : Pending) : Type 0 where
    same_place : other ≡ place
    same : q ≡ p

  which : (other : ℕ) (q : Pending) → pending_at w other ≡ Some q → IsThat other q ⊎ (pending_at m other ≡ Some q)
  which other q there =
      elim (cases_eq other place) [
        | inl is ↦
            inl (record {
              same_place = is;
              same = some_is q p (sym there ∙ ap (pending_at w) is ∙ s.here);
            })
        | inr apart ↦ inr (sym (s.others other apart) ∙ there)
      ]

  below_calls : (who : Identity) (other : ℕ) (q : Pending) → IsFair who m other q → xid_awaited q ≤ m.calls
  below_calls who other (Init init) fair = fair.numbered.below
  below_calls who other (Under context aim call) fair = fair.numbered.below

  apart_from : (other : ℕ) (q : Pending) → pending_at m other ≡ Some q → xid_awaited q ≡ xid_awaited p → ⊥
  apart_from other q there same =
      let below = below_calls who other q (g.fair other q there) in
      omega (arith, s.rises, s.calls)

  root_at : (name : ℕ) → root_name w.standing ≡ Some name → root_name m.standing ≡ Some name
  root_at name h = sym s.root ∙ h

  pub sent_good : IsGood who w
  sent_good = record {
    places = s.places ∙ g.places;
    held = λ name f there.
        let h = g.held name f (sym (s.faces name) ∙ there) in
        let below = h.below in
        let rises = s.rises in
        record { handle = h.handle; owner = h.owner ∙ sym s.server; below = omega arith };
    fair = λ other q there.
        elim (which other q there) [
          | inl that ↦ subst (λ (n : ℕ). IsFair who w n q) (sym that.same_place) (subst (λ (x : Pending). IsFair who w place x) (sym that.same) s.fair)
          | inr was ↦ fair_on other q (g.fair other q was)
        ];
    distinct = λ one other a b at_one at_other same.
        elim (which one a at_one) [
          | inl that ↦ elim (which other b at_other) [
            | inl too ↦ that.same_place ∙ sym too.same_place
            | inr was ↦ absurd (apart_from other b was (sym same ∙ ap xid_awaited that.same))
          ]
          | inr had ↦ elim (which other b at_other) [
            | inl too ↦ absurd (apart_from one a had (same ∙ ap xid_awaited too.same))
            | inr was ↦ g.distinct one other a b had was same
          ]
        ];
    alone = λ one other a b at_one at_other.
        elim (which one (Init a) at_one) [
          | inl that ↦ elim (which other (Init b) at_other) [
            | inl too ↦ that.same_place ∙ sym too.same_place
            | inr was ↦ that.same_place ∙ sym (s.alone a (sym that.same) other b was)
          ]
          | inr had ↦ elim (which other (Init b) at_other) [
            | inl too ↦ s.alone b (sym too.same) one a had ∙ sym too.same_place
            | inr was ↦ g.alone one other a b had was
          ]
        ];
    root = λ name h.
        let r = g.root name (root_at name h) in
        record { face = r.face; there = s.faces name ∙ r.there; own = r.own };
    up = λ r is.
        let k = s.standing r is in
        let u = g.up k.was k.is in
        record { numbers = k.many ∙ u.numbers; set_up = λ down. u.set_up (sym k.set_up ∙ down) };
    children = λ child name root f h there face_there root_there root_face_there.
        g.children child name root f h (s.children child name there) (sym (s.faces name) ∙ face_there) (root_at root root_there) (sym (s.faces root) ∙ root_face_there);
    kept = s.kept;
  }

  -- ---- what a wire sees

  module _ (before after : Above) (goes : GoesOn m before after) where
    awaits_on : (other : ℕ) (x : Awaited) → other ≢ place → (caller_of after w).awaits other ≡ Some x → (caller_of before m).awaits other ≡ Some x
    awaits_on other x apart h =
        let it = mapped (awaited_in w.contexts (after.purpose other)) (pending_at w other) x h in
        let was : pending_at m other ≡ Some it.from = sym (s.others other apart) ∙ it.was in
        let a = awaiting_of (awaited_at m other) it.from was in
        let same : awaited_in m.contexts (before.purpose other) it.from ≡ awaited_in w.contexts (after.purpose other) it.from =
        awaited_same it.from m.contexts w.contexts (before.purpose other) (after.purpose other) (sym (goes.purpose other a.a a.is))
        (λ context aim call is. sym (s.faces context)) in
        ap (option_map (awaited_in m.contexts (before.purpose other))) was ∙ ap (λ (y : Awaited). Some y) (same ∙ it.gives)

-- what went out says what is awaited
pub record IsSaid (who : Identity) (before after : Above) (m w : Mounted) (place : ℕ) (p : Pending) (sent : out.Sent) : Type 0 where
  pub says : SaysCall (xid_awaited p) sent.bytes
  pub fresh : before.calls < xid_awaited p
  pub counted : xid_awaited p ≤ after.calls
  pub fits : laws.FitsWhat (spelling who.accepts who.whose) m.server who.own sent.bytes sent.seal (awaited_in w.contexts (after.purpose place) p).what
  pub simple : (name : SlotName) → slot_of sent.bytes ≡ Some name → is_simple (ops_of sent.bytes) ≡ true
  pub on : (xid : ℕ) (seal : Seal) (call : Call) → awaited_in w.contexts (after.purpose place) p ≡ record { xid = xid; what = Slotted seal call }
      → laws.GoesOn (caller_of before m) (caller_of after w) place call ⊎ laws.IsNew (caller_of before m) (caller_of after w) call
  pub slotted : (seal : Seal) (name : SlotName) → sent.seal ≡ Some seal → slot_of sent.bytes ≡ Some name
      → laws.IsAwaited (spelling who.accepts who.whose) (caller_of after w) sent.bytes seal name

xid_of_pending : (who : Identity) (m : Mounted) (place : ℕ) (above : Above) (p : Pending) → (awaited_in m.contexts (above.purpose place) p).xid ≡ xid_awaited p
xid_of_pending who m place above (Init init) = refl
xid_of_pending who m place above (Under context aim call) = refl

module _ (who : Identity) (before after : Above) (m w : Mounted) (place : ℕ) (p : Pending) (sent : out.Sent) (s : WentOut who m w place p) (g : IsGood who m)
    (goes : GoesOn m before after) (said : IsSaid who before after m w place p sent) where
  bytes_are : (bytes : List ℕ) (seal : Option Seal) → Sends (sending (Some sent)) bytes seal → (sent.bytes ≡ bytes) × (sent.seal ≡ seal)
  bytes_are bytes seal sends =
      let asked : Sent = record { bytes = bytes; seal = seal } in
      let had : Sent = record { bytes = sent.bytes; seal = sent.seal } in
      let same : had ≡ asked = only_sent had asked sends in
      (ap (λ (x : Sent). x.bytes) same, ap (λ (x : Sent). x.seal) same)

  here_is : (x : Awaited) → (caller_of after w).awaits place ≡ Some x → awaited_in w.contexts (after.purpose place) p ≡ x
  here_is x h = some_is (awaited_in w.contexts (after.purpose place) p) x (ap (option_map (awaited_in w.contexts (after.purpose place))) (sym s.here) ∙ h)

  sent_as : laws.IsSent (spelling who.accepts who.whose) m.server who.own (sending (Some sent)) (awaited_in w.contexts (after.purpose place) p)
  sent_as = record {
    bytes = sent.bytes;
    seal = sent.seal;
    sent = (0, omega arith, refl);
    xid = said.says.xid_is ∙ sym (xid_of_pending who w place after p);
    is_call = said.says.is_call;
    no_callback = said.says.no_callback;
    fits = said.fits;
  }

  mount_on : (st : Standing) (root : Context) → w.standing ≡ st → mount_in st w.contexts ≡ Some root
      → (mount_in m.standing m.contexts ≡ Some root) × ((slot : ℕ) → next_in m.standing slot ≤ next_in st slot)
  mount_on (Down kept) root is h = absurd cc
  mount_on (Rooted r) root is h =
      let k = s.standing r is in (
        ap (λ (st : Standing). mount_in st m.contexts) k.is
            ∙ ap (λ (n : ℕ). root_seen (face_of n m.contexts)) (sym k.name)
            ∙ ap root_seen (sym (s.faces r.name))
            ∙ h,
        λ slot.
            let same : next_in m.standing slot ≡ slice_index k.was.numbers slot = ap (λ (st : Standing). next_in st slot) k.is in
            let grown : slice_index k.was.numbers slot ≤ slice_index r.numbers slot = k.grown slot in
            omega arith,
      )

  pub sent_obeys : laws.CallerLaws (spelling who.accepts who.whose) m.server who.own (caller_of before m) (caller_of after w) (sending (Some sent))
  sent_obeys = record {
    boot = omega (arith, goes.boot);
    calls = λ same. goes.calls;
    fresh = λ bytes seal sends call.
        let same = bytes_are bytes seal sends in
        let xid : xid_in bytes ≡ xid_awaited p = ap xid_in (sym same.0) ∙ said.says.xid_is in
        let fresh = said.fresh in
        let counted = said.counted in
        (goes.boot, omega arith, omega arith);
    one = λ bytes other seal seal' sends sends' call call' same. sym (bytes_are bytes seal sends).0 ∙ (bytes_are other seal' sends').0;
    directed = λ bytes call seal sends own reply took. absurd cc;
    simple = λ bytes seal name sends own named.
        let same = bytes_are bytes (Some seal) sends in
        subst (λ (b : List ℕ). is_simple (ops_of b) ≡ true) same.0 (said.simple name (ap slot_of same.0 ∙ named));
    has = λ context root there. inl (sym (s.holds context root) ∙ there);
    begin = λ root learnt. absurd (let took = learnt.takes.took in cc);
    mount = λ root there. inl (mount_on w.standing root refl there);
    awaits = λ other x there.
        elim (cases_eq other place) [
          | inl is ↦
              let here : awaited_in w.contexts (after.purpose place) p ≡ x = here_is x (subst (λ (n : ℕ). (caller_of after w).awaits n ≡ Some x) is there) in
              inr (goes.boot, subst (λ (y : Awaited). laws.IsSent (spelling who.accepts who.whose) m.server who.own (sending (Some sent)) y) here sent_as)
          | inr apart ↦ inl (goes.boot, awaits_on who m w place p s g before after goes other x apart there)
        ];
    goes_on = λ other xid seal call there.
        elim (cases_eq other place) [
          | inl is ↦
              let it : Awaited = record { xid = xid; what = Slotted seal call } in
              let here : awaited_in w.contexts (after.purpose place) p ≡ it = here_is it (subst (λ (n : ℕ). (caller_of after w).awaits n ≡ Some it) is there) in
              subst
              (λ (n : ℕ). laws.GoesOn (caller_of before m) (caller_of after w) n call ⊎ laws.IsNew (caller_of before m) (caller_of after w) call) (sym is)
              (said.on xid seal call here)
          | inr apart ↦
              inl (goes.boot, (xid, seal, awaits_on who m w place p s g before after goes other (record { xid = xid; what = Slotted seal call }) apart there))
        ];
    sends = λ bytes seal name sends own named.
        let same = bytes_are bytes (Some seal) sends in
        subst (λ (b : List ℕ). laws.IsAwaited (spelling who.accepts who.whose) (caller_of after w) b seal name) same.0
        (said.slotted seal name same.1 (ap slot_of same.0 ∙ named));
    in_slot = λ other xid seal call there. in_slot who after w other xid seal call (sent_good who m w place p s g) there;
  }

  pub sent_calls : SendsOwnCalls before after (sending (Some sent))
  sent_calls bytes seal sends =
      let same = bytes_are bytes seal sends in
      let xid = said.says.xid_is in
      let fresh = said.fresh in
      let counted = said.counted in
      subst (IsOwnCall before after) same.0
      (record { is_call = said.says.is_call; no_callback = said.says.no_callback; fresh = omega arith; counted = omega arith })

-- ---- what is kept where nothing that is awaited is given up for what is sent

pub kept_on : (before after : Above) (m w : Mounted) → GoesOn m before after → ((name : ℕ) → face_of name w.contexts ≡ face_of name m.contexts)
    → root_name w.standing ≡ root_name m.standing → ((other : ℕ) (q : Pending) → pending_at m other ≡ Some q → pending_at w other ≡ Some q)
    → Keeps (caller_of before m) (caller_of after w)
kept_on before after m w goes faces roots stays = record { mount = λ root there. mount_stays m.standing root refl there; awaited = awaited_stays }
  where
    mount_stays : (st : Standing) (root : Context) → m.standing ≡ st → mount_in st m.contexts ≡ Some root → mount_in w.standing w.contexts ≡ Some root
    mount_stays (Down kept) root is h = absurd cc
    mount_stays (Rooted r) root is h =
        let at = rooted_by w.standing r.name (roots ∙ ap root_name is) in
        ap (λ (st : Standing). mount_in st w.contexts) at.is
        ∙ ap (λ (n : ℕ). root_seen (face_of n w.contexts)) at.name_is
        ∙ ap root_seen (faces r.name)
        ∙ h

    awaited_stays : (other : ℕ) (x : Awaited) → (caller_of before m).awaits other ≡ Some x → (caller_of after w).awaits other ≡ Some x
    awaited_stays other x h =
        let it = mapped (awaited_in m.contexts (before.purpose other)) (pending_at m other) x h in
        let a = awaiting_of (awaited_at m other) it.from it.was in
        let same : awaited_in w.contexts (after.purpose other) it.from ≡ awaited_in m.contexts (before.purpose other) it.from =
        awaited_same it.from w.contexts m.contexts (after.purpose other) (before.purpose other) (goes.purpose other a.a a.is)
        (λ context aim call is. faces context) in
        ap (option_map (awaited_in w.contexts (after.purpose other))) (stays other it.from it.was) ∙ ap (λ (y : Awaited). Some y) (same ∙ it.gives)
