-- What is awaited in a slot is for what it asks, over a run of a mount's steps.
use Rattle.std.proofs.Common.{◌≡◌, ◌≢◌, ◌∙◌, ℕ, ◌<◌, Bool, true, false, List, [], ◌∷◌, length, Option, Some, None, Result, Ok, Err, refl, sym, ap, subst, inl, inr, ◌⊎◌, arith}
use Rattle.std.specs.Prelude.{◌==◌, ◌&&◌, if◌then◌else◌}
use Rattle.std.proofs.lemmas.Bool.{cases_eq, eq-eqb}
use Rattle.caller_laws.specs.Good.{Identity, IsGood}
use Rattle.caller_laws.specs.Lawful.{May}
use Rattle.caller_laws.specs.Moves.{Again, Begin, BeginAnew, Falls, Finish, Forgets, GivesUp, InSlot, Make, Move, Reclaim, Rests, Send, Sends, SetUp, Takes, done, sent_by}
use Rattle.caller_laws.specs.OneStep.Counting.{Counted}
use Rattle.caller_laws.specs.OneStep.Runs.{AreSpelled, MountStep}
use Rattle.caller_laws.specs.View.{Above}
use Rattle.client_copies.specs.Table.{Copies, copy_at}
use Rattle.client_copies.specs.declared.copy.ClientCopy.{ClientCopy}
use Rattle.client_laws.proofs.speaking.Desks.{none_went}
use Rattle.client_laws.proofs.speaking.Mounts.{Awaits, IsCalled, IsLess, alike_anew, child_goes, emptied_less, fallen_less, none_some, placed, rooted_by, slot_goes, some_is, step_goes}
use Rattle.client_laws.proofs.speaking.Turns.{Keeping}
use Rattle.client_laws.specs.CallerLaws.{AllAsk, AsksIn, AsksOf, IsMountRun, purpose_after, purpose_for}
use Rattle.client_laws.specs.Speaking.Carried.{AreAskedFor, IsAskedFor, Recalls}
use Rattle.client_laws.specs.WordLaws.{Knew}
use Rattle.gss_ctx.specs.Replies.{begun_of}
use Rattle.gss_ctx.specs.Seals.{Mic}
use Rattle.gss_ctx.specs.declared.begin.Begun.{Begun}
use Rattle.gss_ctx.specs.declared.begin.Begun.TheVariants as begins
use Rattle.mount.specs.Falling.{fallen, forgotten, given_up}
use Rattle.mount.specs.Laws.{Went}
use Rattle.mount.specs.Sending as sending
use Rattle.mount.specs.Sending.{awaits_anew, begun, begun_by, child_asked, contexts_anew, ended_in, ending_call, name_under, out_anew, pending_anew, sent_anew, slotted, stepped_in}
use Rattle.mount.specs.State.{Mounted, awaited_at, context_of, emptied, is_present, kept_in, pending_at, pending_in, root_name}
use Rattle.mount.specs.Taking.{Means, after_call, after_create, after_init, after_reply, after_setup, after_step, by_aim, by_awaiting, by_context, by_pending, child_for, fallen_if, is_lost, parent_of, taken_at}
use Rattle.mount.specs.declared.calling.Ending.{Ending}
use Rattle.mount.specs.declared.machine.SendAt.{SendAt}
use Rattle.mount.specs.declared.machine.Sent.{Sent}
use Rattle.mount.specs.declared.state.Aim.{Aim}
use Rattle.mount.specs.declared.state.Aim.TheVariants as aims
use Rattle.mount.specs.declared.state.Awaiting.{Awaiting}
use Rattle.mount.specs.declared.state.Context.{Context}
use Rattle.mount.specs.declared.state.Pending.{Pending}
use Rattle.mount.specs.declared.state.Pending.TheVariants.{Init, Under}
use Rattle.mount.specs.declared.state.Root.{Root}
use Rattle.mount.specs.declared.state.Standing.{Standing}
use Rattle.mount.specs.declared.state.Standing.TheVariants.{Down, Rooted}
use Rattle.nfs_base.specs.declared.seal.Seal.{Seal}
use Rattle.nfs_base.specs.declared.status.Status.{Status}
use Rattle.nfs_compound.specs.declared.reply.Reply.{Reply}
use Rattle.session_calls.specs.Calls.{slot_compound}
use Rattle.session_calls.specs.declared.slot_call.FileCall.TheVariants as asks
use Rattle.session_calls.specs.declared.slot_call.SlotCall.{SlotCall}
use Rattle.session_calls.specs.declared.slot_call.SlotCall.TheVariants as calls
use Rattle.session_calls.specs.declared.slot_call.SlotUse.{SlotUse}
use Rattle.session_client.specs.Answers.{child_of, taken_of}
use Rattle.session_client.specs.Asked.{ops_of}
use Rattle.session_client.specs.Pending.{Asking, Beginning}
use Rattle.session_client.specs.Setup.{after_answer}
use Rattle.session_client.specs.declared.answers.Taken.{Taken}
use Rattle.session_client.specs.declared.answers.Taken.TheVariants as answers
use Rattle.session_client.specs.declared.answers.TakenChild.{TakenChild}
use Rattle.session_client.specs.declared.answers.TakenChild.TheVariants as children
use Rattle.session_client.specs.declared.asked.Asked.{Asked}
use Rattle.session_client.specs.declared.asked.Asked.TheVariants.{Compound}
use Rattle.session_client.specs.declared.setup.Setup.{Setup}
use Rattle.wire_model.specs.Wire.{Purpose}

-- ---- a record that is taken leaves nothing more to await

module _ (place : ℕ) (m : Mounted) where
  less_emptied : IsLess m (emptied place m)
  less_emptied = emptied_less place m

  less_fallen : IsLess m (fallen (emptied place m))
  less_fallen j p is = emptied_less place m j p (fallen_less (emptied place m) j p is)

  less_if : (b : Bool) → IsLess m (fallen_if b (emptied place m))
  less_if true = less_fallen
  less_if false = less_emptied

  less_init : (init : Beginning) (begun : Begun) → IsLess m (after_init place init begun m).1
  less_init init (begins.Made handle key) = less_emptied
  less_init init (begins.Refused major) = less_fallen
  less_init init (begins.Failed stat) = less_emptied
  less_init init (begins.Denied why) = less_fallen
  less_init init begins.Unmatched = λ j p is. is

  less_create : (derived : List ℕ → ℕ → List ℕ → List ℕ) (child : ℕ) (c : Context) (seal : Seal) (xid : ℕ) (taken : TakenChild)
      → IsLess m (after_create derived place child (parent_of c) seal xid taken m).1
  less_create derived child c seal xid (children.Made handle) = less_emptied
  less_create derived child c seal xid (children.Refused major) = less_emptied
  less_create derived child c seal xid children.Misspelt = less_emptied
  less_create derived child c seal xid (children.Failed stat) = less_emptied
  less_create derived child c seal xid (children.Denied why) = less_emptied
  less_create derived child c seal xid children.Unmatched = λ j p is. is

  less_step : (o : Result Setup Status) (accepted : Option Seal) → IsLess m (after_step o accepted (emptied place m)).1
  less_step (Ok setup) accepted = less_emptied
  less_step (Err status) accepted = less_if (is_lost status)

  less_setup : (st : Standing) (reply : Reply) (accepted : Option Seal) → IsLess m (after_setup st reply accepted (emptied place m)).1
  less_setup (Down kept) reply accepted = less_emptied
  less_setup (Rooted root) reply accepted = less_step (after_answer (emptied place m).reclaims reply.status reply.results root.setup) accepted

  less_reply : (aim : Aim) (present : Bool) (reply : Reply) (accepted : Option Seal) → IsLess m (after_reply aim present reply accepted (emptied place m)).1
  less_reply aims.Setup present reply accepted = less_setup m.standing reply accepted
  less_reply (aims.Child child) present reply accepted = less_emptied
  less_reply aims.Slot present reply accepted = less_if (present && is_lost reply.status)
  less_reply aims.End present reply accepted = less_emptied

  less_call : (aim : Aim) (present : Bool) (seal : Seal) (taken : Taken) → IsLess m (after_call place aim present seal taken m).1
  less_call aim present seal (answers.Answer reply) = less_reply aim present reply (Some seal)
  less_call aim present seal answers.Misspelt = less_emptied
  less_call aim present seal (answers.Failed stat) = less_emptied
  less_call aim present seal (answers.Denied why) = less_if present
  less_call aim present seal answers.Unmatched = λ j p is. is

  less_aim : (means : Means) (message : List ℕ) (child : Option ℕ) (aim : Aim) (asking : Asking) (c : Context) → IsLess m (by_aim means place message child aim asking c m).1
  less_aim means message (Some child) aim asking c = less_create means.derived child c asking.seal asking.awaited.xid (child_of means.mic c.caller.key asking.awaited message)
  less_aim means message None aim asking c = less_call aim (is_present m.standing c) asking.seal (taken_of means.mic c.caller.key asking.awaited (ops_of asking.asked) message)

  less_context : (means : Means) (message : List ℕ) (aim : Aim) (asking : Asking) (o : Option Context) → IsLess m (by_context means place message aim asking o m).1
  less_context means message aim asking None = λ j p is. is
  less_context means message aim asking (Some c) = less_aim means message (child_for aim) aim asking c

  less_pending : (means : Means) (message : List ℕ) (p : Pending) → IsLess m (by_pending means place message p m).1
  less_pending means message (Init init) = less_init init (begun_of means.mic (means.finished init.nonce) init.xid message)
  less_pending means message (Under context aim asking) = less_context means message aim asking (context_of context m.contexts)

  less_awaiting : (means : Means) (message : List ℕ) (o : Option Awaiting) → IsLess m (by_awaiting means place message o m).1
  less_awaiting means message None = λ j p is. is
  less_awaiting means message (Some a) = less_pending means message a.pending

  pub taken_less : (means : Means) (message : List ℕ) → IsLess m (taken_at means place message m).1
  taken_less means message = less_awaiting means message (awaited_at m place)

-- ---- what is sent

-- the call was awaited at this place before
pub record SlotWas (m : Mounted) (place context : ℕ) (asking : Asking) : Type 0 where
  pub was : Asking
  pub there : pending_at m place ≡ Some (Under context aims.Slot was)
  pub same : asking.asked ≡ was.asked

-- or it is the one that is sent
abbrev pub IsNewAt : SendAt → Send → ℕ → Asking → Type 0
IsNewAt at (InSlot under call) place asking = (place ≡ at.place) × ((slot : SlotUse) × (asking.asked ≡ Compound (slot_compound slot call)))
IsNewAt at _ place asking = ⊥

module _ (counted : Counted) (mic : Mic) (at : SendAt) (m : Mounted) (within : at.place < length m.places) where
  abbrev Slots : Mounted → ℕ → ℕ → Asking → Type 0
  Slots n place context asking = pending_at n place ≡ Some (Under context aims.Slot asking)

  -- where another pending is awaited at its place
  by_awaits : (p : Pending) (n : Mounted) → Awaits at.place p m n → (place context : ℕ) (asking : Asking) → Slots n place context asking
      → (place ≡ at.place → p ≡ Under context aims.Slot asking → SlotWas m place context asking) → SlotWas m place context asking
  by_awaits p n x place context asking is here = by (cases_eq place at.place)
    where
      by : (place ≡ at.place) ⊎ (place ≢ at.place) → SlotWas m place context asking
      by (inl same) = here same (some_is p (Under context aims.Slot asking) (sym x.here ∙ sym (ap (pending_at n) same) ∙ is))
      by (inr apart) = record { was = asking; there = sym (x.others place apart) ∙ is; same = refl }

  stays_was : (n : Mounted) → n ≡ m → (place context : ℕ) (asking : Asking) → Slots n place context asking → SlotWas m place context asking
  stays_was n same place context asking is = record { was = asking; there = sym (ap (λ (k : Mounted). pending_at k place) same) ∙ is; same = refl }

  -- by whether it goes out
  by_went : (o : Option Sent × Mounted) → Went at m o → (place context : ℕ) (asking : Asking) → Slots o.1 place context asking
      → ((sent : Sent) → o.0 ≡ Some sent → SlotWas m place context asking) → SlotWas m place context asking
  by_went o went place context asking is gone = by o.0 refl
    where
      by : (sent : Option Sent) → o.0 ≡ sent → SlotWas m place context asking
      by None e = stays_was o.1 (none_went at m o went e) place context asking is
      by (Some sent) e = gone sent e

  init_awaits : (init : Beginning) (n : Mounted) → Awaits at.place (Init init) m n → (place context : ℕ) (asking : Asking) → Slots n place context asking → SlotWas m place context asking
  init_awaits init n x place context asking is = by_awaits (Init init) n x place context asking is (λ same e. absurd cc)

  begun_was : (nonce : List ℕ) (token : Option (List ℕ)) (place context : ℕ) (asking : Asking) → Slots (begun at nonce token m).1 place context asking → SlotWas m place context asking
  begun_was nonce None place context asking is = record { was = asking; there = is; same = refl }
  begun_was nonce (Some token) place context asking is =
      let init : Beginning = record { nonce = nonce; token = token; xid = at.xid } in
      let x = placed at.place (record { sent_at = at.now; pending = Init init }) m within in
      init_awaits init (begun at nonce (Some token) m).1 (record { here = x.here; others = x.others; many = x.many }) place context asking is

  anew_was : (o : Option Beginning) (place context : ℕ) (asking : Asking) → Slots (begun_by at o m).1 place context asking → SlotWas m place context asking
  anew_was None place context asking is = record { was = asking; there = is; same = refl }
  anew_was (Some old) place context asking is =
      let init : Beginning = record old { xid = at.xid } in
      let x = placed at.place (record { sent_at = at.now; pending = Init init }) m within in
      init_awaits init (begun_by at (Some old) m).1 (record { here = x.here; others = x.others; many = x.many }) place context asking is

  end_in : (root : Root) (o : Option Asked) (sent : Sent) → m.standing ≡ Rooted root → (sending.sent_by mic at (Some root.name) aims.End o m).0 ≡ Some sent
      → IsCalled at aims.End m (sending.sent_by mic at (Some root.name) aims.End o m).1
  end_in root None sent was e = absurd cc
  end_in root (Some asked) sent was e = rooted_by (Some root.name) mic at aims.End asked m sent within (ap root_name was) e

  end_goes : (ending : Ending) (st : Standing) (sent : Sent) → m.standing ≡ st → (ended_in mic at ending st m).0 ≡ Some sent → IsCalled at aims.End m (ended_in mic at ending st m).1
  end_goes ending (Down kept) sent was e = absurd cc
  end_goes ending (Rooted root) sent was e = end_in root (ending_call ending root.setup) sent was e

  end_was : (ending : Ending) (place context : ℕ) (asking : Asking) → Slots (ended_in mic at ending m.standing m).1 place context asking → SlotWas m place context asking
  end_was ending place context asking is =
      let o = ended_in mic at ending m.standing m in
      by_went o (counted mic at (Finish ending) m) place context asking is
      (λ sent e.
      let y = end_goes ending m.standing sent refl e in
      by_awaits (Under y.context aims.End y.asking) o.1 y.awaits place context asking is (λ same f. absurd cc))

  again_was : (o : Option Awaiting) (place context : ℕ) (asking : Asking) → awaited_at m at.place ≡ o → Slots (sent_anew mic at o m).1 place context asking → SlotWas m place context asking
  again_was None place context asking was is = record { was = asking; there = is; same = refl }
  again_was (Some a) place context asking was is = by (out_anew mic at.xid m.contexts a.pending) is
    where
      by : (out : Option Sent) → Slots (awaits_anew at out (contexts_anew mic at.xid m.contexts a.pending) (pending_anew mic at.xid m.contexts a.pending) m).1 place context asking
          → SlotWas m place context asking
      by None is = record { was = asking; there = is; same = refl }
      by (Some sent) is =
          let q = pending_anew mic at.xid m.contexts a.pending in
          let n = (awaits_anew at (Some sent) (contexts_anew mic at.xid m.contexts a.pending) q m).1 in
          let x = placed at.place (record { sent_at = at.now; pending = q }) m within in
          by_awaits q n (record { here = x.here; others = x.others; many = x.many }) place context asking is
          (λ same e.
          let u = (alike_anew mic at.xid m.contexts a.pending).under context aims.Slot asking e in
          record {
            was = u.0;
            there = ap (pending_at m) same ∙ ap pending_in was ∙ ap (λ (p : Pending). Some p) u.1;
            same = u.2;
          })

  pub sent_was : (send : Send) (place context : ℕ) (asking : Asking) → Slots (sent_by mic at send m).1 place context asking
      → SlotWas m place context asking ⊎ IsNewAt at send place asking
  sent_was (Begin nonce token) place context asking is = inl (begun_was nonce token place context asking is)
  sent_was BeginAnew place context asking is = inl (anew_was (kept_in m.standing) place context asking is)
  sent_was (SetUp principal back) place context asking is =
      let o = stepped_in mic at principal back m.standing m in
      inl (by_went o (counted mic at (SetUp principal back) m) place context asking is
      (λ sent e.
      let y = step_goes mic at principal back m sent within e in
      by_awaits (Under y.context aims.Setup y.asking) o.1 y.awaits place context asking is (λ same f. absurd cc)))
  sent_was Reclaim place context asking is =
      let o = slotted mic at (root_name m.standing) aims.Setup calls.ReclaimComplete m in
      inl (by_went o (counted mic at Reclaim m) place context asking is
      (λ sent e.
      let y = slot_goes mic at (root_name m.standing) aims.Setup calls.ReclaimComplete m sent within e in
      by_awaits (Under y.context aims.Setup y.asking) o.1 y.awaits place context asking is (λ same f. absurd cc)))
  sent_was (Make child name privilege) place context asking is =
      let o = child_asked mic at child name privilege m in
      inl (by_went o (counted mic at (Make child name privilege) m) place context asking is
      (λ sent e.
      let y = child_goes mic at child name privilege m sent within e in
      by_awaits (Under y.context (aims.Child child) y.asking) o.1 y.awaits place context asking is (λ same f. absurd cc)))
  sent_was (Finish ending) place context asking is = inl (end_was ending place context asking is)
  sent_was Again place context asking is = inl (again_was (awaited_at m at.place) place context asking refl is)
  sent_was (InSlot under call) place context asking is = by (slotted mic at (name_under under m) aims.Slot call m).0 refl
    where
      went : (sent : Sent) → (slotted mic at (name_under under m) aims.Slot call m).0 ≡ Some sent → (place ≡ at.place) ⊎ (place ≢ at.place) → SlotWas m place context asking ⊎ IsNewAt at (InSlot under call) place asking
      went sent e (inl same) =
          let y = slot_goes mic at (name_under under m) aims.Slot call m sent within e in
          let both = some_is (Under y.context aims.Slot y.asking) (Under context aims.Slot asking) (sym y.awaits.here ∙ sym (ap (pending_at (slotted mic at (name_under under m) aims.Slot call m).1) same) ∙ is) in
          let asked : y.asking ≡ asking = cc in
          inr (same, (y.slot, sym (ap (λ (k : Asking). k.asked) asked) ∙ y.asked_is))
      went sent e (inr apart) =
          let y = slot_goes mic at (name_under under m) aims.Slot call m sent within e in
          inl (record { was = asking; there = sym (y.awaits.others place apart) ∙ is; same = refl })

      by : (sent : Option Sent) → (slotted mic at (name_under under m) aims.Slot call m).0 ≡ sent → SlotWas m place context asking ⊎ IsNewAt at (InSlot under call) place asking
      by None e = inl (stays_was (slotted mic at (name_under under m) aims.Slot call m).1 (none_went at m (slotted mic at (name_under under m) aims.Slot call m) (counted mic at (InSlot under call) m) e) place context asking is)
      by (Some sent) e = went sent e (cases_eq place at.place)

-- ---- what a call asks, the copy of its place knows

knew_of : {X : Type 0} (part : ClientCopy → Option X) (x : X) (copy : Option ClientCopy) (own : ClientCopy) → copy ≡ Some own → part own ≡ Some x → Knew part x copy
knew_of part x copy own is e = subst (Knew part x) (sym is) e

recalls_of : (copy : Option ClientCopy) (call : SlotCall) → AsksOf copy call → Recalls copy call
recalls_of copy (calls.Copy source_file source_id file id range source) a =
    (a.so.first, knew_of (λ (x : ClientCopy). x.first) a.so.first copy a.own a.own_is a.so.first_is, a.so.file)
recalls_of copy (calls.OnFile file asks.Change) a = (a.so.first, knew_of (λ (x : ClientCopy). x.first) a.so.first copy a.own a.own_is a.so.first_is, a.so.file_is)
recalls_of copy (calls.OnFile file (asks.Status id)) a = knew_of (λ (x : ClientCopy). x.id) id copy a.own a.own_is a.so
recalls_of copy (calls.OnFile file (asks.Cancel id)) a = tt
recalls_of copy (calls.OnFile file (asks.Close id)) a = tt
recalls_of copy (calls.OnFile file (asks.Write id offset bytes)) a = tt
recalls_of copy (calls.OnFile file asks.Commit) a = tt
recalls_of copy (calls.OnFile file asks.ChangeAndSize) a = tt
recalls_of copy (calls.OnFile file (asks.Read id offset count)) a = tt
recalls_of copy calls.ReclaimComplete a = tt
recalls_of copy (calls.Open client owner name) a = tt
recalls_of copy (calls.Notify file id destination) a = tt

-- ---- a step, and a run

slot_here : (j place : ℕ) (x y : Purpose) → j ≡ place → (if j == place then x else y) ≡ x
slot_here j place x y same = ap (λ (b : Bool). if b then x else y) (eq-eqb j place same)

slot_there : (j place : ℕ) (x y : Purpose) → j ≢ place → (if j == place then x else y) ≡ y
slot_there j place x y other = by (j == place) refl
  where
    by : (b : Bool) → (j == place) ≡ b → (if b then x else y) ≡ y
    by true e =
        let same : j ≡ place = grind (arith, e) in
        absurd (other same)
    by false e = refl

asked_was : (purpose : ℕ → Purpose) (other : ℕ → Purpose) (t : Copies) (m : Mounted) (place context : ℕ) (asking : Asking) → AreAskedFor purpose t m → other place ≡ purpose place
    → SlotWas m place context asking → IsAskedFor other t place asking.asked
asked_was purpose other t m place context asking old same w =
    let f = old place context w.was w.there in
    record { slot = f.slot; call = f.call; asked_is = w.same ∙ f.asked_is; purpose_is = f.purpose_is ∙ sym same; recalls = f.recalls }

-- nothing more is awaited
less_asked : (purpose : ℕ → Purpose) (t : Copies) (m n : Mounted) → IsLess m n → AreAskedFor purpose t m → AreAskedFor purpose t n
less_asked purpose t m n less old place context asking is = old place context asking (less place (Under context aims.Slot asking) is)

module _ (counted : Counted) (who : Identity) (means : Means) (keeps : Keeping who means) (t : Copies) where
  sent_asked : (purpose : ℕ → Purpose) (above : Above) (m : Mounted) (at : SendAt) (send : Send) → at.place < length m.places
      → (awaited_at m at.place ≡ None ⊎ ((place : ℕ) → purpose_after (Sends at send) purpose place ≡ purpose place)) → AsksIn t (Sends at send) → AreAskedFor purpose t m
      → AreAskedFor (purpose_after (Sends at send) purpose) t (sent_by means.mic at send m).1
  sent_asked purpose above m at send within free asks old place context asking is = by (sent_was counted means.mic at m within send place context asking is) free
    where
      new_for : (send : Send) → AsksIn t (Sends at send) → IsNewAt at send place asking → IsAskedFor (purpose_after (Sends at send) purpose) t place asking.asked
      new_for (InSlot under call) asks n = record {
        slot = n.1.0;
        call = call;
        asked_is = n.1.1;
        purpose_is = ap (λ (k : ℕ). purpose_for k call) n.0 ∙ sym (slot_here place at.place (purpose_for at.place call) (purpose place) n.0);
        recalls = recalls_of (copy_at place t) call (subst (λ (k : ℕ). AsksOf (copy_at k t) call) (sym n.0) asks.1);
      }
      new_for (Begin nonce token) asks n = absurd n
      new_for BeginAnew asks n = absurd n
      new_for (SetUp principal back) asks n = absurd n
      new_for Reclaim asks n = absurd n
      new_for (Make child name privilege) asks n = absurd n
      new_for (Finish ending) asks n = absurd n
      new_for Again asks n = absurd n

      after_same : (send : Send) → (place ≢ at.place) → purpose_after (Sends at send) purpose place ≡ purpose place
      after_same (InSlot under call) apart = slot_there place at.place (purpose_for at.place call) (purpose place) apart
      after_same (Begin nonce token) apart = refl
      after_same BeginAnew apart = refl
      after_same (SetUp principal back) apart = refl
      after_same Reclaim apart = refl
      after_same (Make child name privilege) apart = refl
      after_same (Finish ending) apart = refl
      after_same Again apart = refl

      old_for : SlotWas m place context asking → awaited_at m at.place ≡ None → (place ≡ at.place) ⊎ (place ≢ at.place) → IsAskedFor (purpose_after (Sends at send) purpose) t place asking.asked
      old_for w none (inl same) = none_some (pending_at m at.place) (Under context aims.Slot w.was) (ap pending_in none) (sym (ap (pending_at m) same) ∙ w.there)
      old_for w none (inr apart) = asked_was purpose (purpose_after (Sends at send) purpose) t m place context asking old (after_same send apart) w

      by : SlotWas m place context asking ⊎ IsNewAt at send place asking → (awaited_at m at.place ≡ None ⊎ ((other : ℕ) → purpose_after (Sends at send) purpose other ≡ purpose other))
          → IsAskedFor (purpose_after (Sends at send) purpose) t place asking.asked
      by (inr new) free = new_for send asks new
      by (inl w) (inl none) = old_for w none (cases_eq place at.place)
      by (inl w) (inr same) = asked_was purpose (purpose_after (Sends at send) purpose) t m place context asking old (same place) w

  -- nothing is awaited where a call goes out in a slot
  free_of : (above : Above) (before : Above) (m : Mounted) (at : SendAt) (send : Send) (purpose : ℕ → Purpose) → May who means.mic before above m (Sends at send)
      → awaited_at m at.place ≡ None ⊎ ((place : ℕ) → purpose_after (Sends at send) purpose place ≡ purpose place)
  free_of above before m at (InSlot under call) purpose may = inl may.suits.0
  free_of above before m at (Begin nonce token) purpose may = inr (λ place. refl)
  free_of above before m at BeginAnew purpose may = inr (λ place. refl)
  free_of above before m at (SetUp principal back) purpose may = inr (λ place. refl)
  free_of above before m at Reclaim purpose may = inr (λ place. refl)
  free_of above before m at (Make child name privilege) purpose may = inr (λ place. refl)
  free_of above before m at (Finish ending) purpose may = inr (λ place. refl)
  free_of above before m at Again purpose may = inr (λ place. refl)

  step_asked : (purpose : ℕ → Purpose) (before above : Above) (m : Mounted) (move : Move) → IsGood who m → May who means.mic before above m move → AsksIn t move → AreAskedFor purpose t m
      → AreAskedFor (purpose_after move purpose) t (done means move m).mount
  step_asked purpose before above m (Sends at send) good may asks old =
      let within : at.place < length m.places = subst (λ (k : ℕ). at.place < k) (sym good.places) may.place in
      sent_asked purpose above m at send within (free_of above before m at send purpose may) asks old
  step_asked purpose before above m (Takes place message) good may asks old = less_asked purpose t m (taken_at means place message m).1 (taken_less place m means message) old
  step_asked purpose before above m (GivesUp place) good may asks old = less_asked purpose t m (given_up place m) (emptied_less place m) old
  step_asked purpose before above m (Forgets child) good may asks old = less_asked purpose t m (forgotten child m) (λ j p is. is) old
  step_asked purpose before above m Falls good may asks old = less_asked purpose t m (fallen m) (fallen_less m) old
  step_asked purpose before above m Rests good may asks old = old

  pub run_asked : (steps : List MountStep) (a : Above) (m : Mounted) (b : Above) (n : Mounted) → IsMountRun who means steps a m b n → AreSpelled means steps m → AllAsk t steps
      → IsGood who m → AreAskedFor a.purpose t m → AreAskedFor b.purpose t n
  run_asked [] a m b n run spelled asks good old =
      subst (λ (k : Above). AreAskedFor k.purpose t n) (sym run.0) (subst (λ (k : Mounted). AreAskedFor a.purpose t k) (sym run.1) old)
  run_asked (step ∷ more) a m b n run spelled asks good old =
      let may = run.2 spelled.0 in
      let next = step_asked a.purpose a step.above m step.move good may asks.0 old in
      let w = (done means step.move m).mount in
      run_asked more step.above w b n run.3 spelled.1 asks.1 (keeps a step.above m step.move (record { good = good; goes_on = run.0; may = may }))
      (subst (λ (p : ℕ → Purpose). AreAskedFor p t w) (sym run.1) next)
