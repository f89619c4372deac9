-- A step obeys the laws of a server that speak of slots.
use Rattle.std.proofs.Common.{◌≡◌, ◌⊎◌, inl, inr, ℕ, ◌^◌, ◌<◌, ◌≤◌, Bool, true, false, List, [], ◌∷◌, length, map, Contains, Option, Some, refl, sym, ap, subst, ◌∙◌, arith}
use Rattle.std.specs.Prelude.{All, max, not}
use Rattle.std.proofs.lemmas.Bool.{false≢true}
use Rattle.std.proofs.lemmas.List.Elements.{All-head}
use Rattle.nfs_base.specs.declared.seal.End.{End}
use Rattle.nfs_base.specs.declared.seal.Seal.{Seal}
use Rattle.outbox.specs.declared.label.Label.TheVariants.{Reply}
use Rattle.outbox.specs.declared.outgoing.Outgoing.{Outgoing}
use Rattle.rpc_calls.specs.Answers.{seal_in}
use Rattle.rpc_msg.specs.declared.records.TheConstants.{RECORD_LIMIT}
use Rattle.sess_slots.specs.Table.{SessionTable}
use Rattle.compound_server.specs.State.{Given}
use Rattle.session_server.specs.Host.{Codes, HostState, Rules, Stepped}
use Rattle.session_server.specs.Labels.{compound_label, status_in}
use Rattle.session_server.specs.Steps.{reply_seal, result_back}
use Rattle.slot_calls.specs.BytesLaws.{ops_are_bytes, tag_is_short}
use Rattle.slot_calls.specs.JudgedLaws.{call_fits}
use Rattle.slot_laws.specs.EffectLaws.{turns_again, turns_kept, turns_last, turns_once}
use Rattle.slot_laws.specs.Effects.{IsRunOnce, Names}
use Rattle.slot_laws.specs.Turns.{Turns, is_retry}
use Rattle.slot_laws.specs.View.{kept_in, last_in}
use Rattle.wire_model.specs.ServerLaws.{Executes, IsAnswered, Keeps, last_of}
use Rattle.wire_model.specs.Spelling.{SlotName, Spelling}
use Rattle.wire_model.specs.Wire.{Executed, Kept, Sends, Sent}
use Rattle.wire_spelling.specs.Replies.{has_run, results_of}
use Rattle.wire_spelling.specs.RunLaws.{session_back}
use Rattle.wire_spelling.specs.Slots.{first_slot, ops_of, session_in, slot_asked, slot_of}
use Rattle.wire_spelling.specs.Spelling.{spelling}
use Rattle.wire_xdr.specs.Cursor.{IsBytes}
use Rattle.server_laws.specs.Acts.{acts_of, sent_of, told}
use Rattle.server_laws.specs.Slots.{IsCompoundStep, IsFair}
use Rattle.server_laws.specs.View.{view}
use Rattle.server_laws.proofs.SlotKept as kept
use Rattle.server_laws.proofs.SlotReplies.{results_are, root_there}
use Rattle.server_laws.proofs.SlotSteps.{only_sent}
use Rattle.server_laws.proofs.SlotTold.{not_run}

abbrev name_of : (session slot number : ℕ) → SlotName
name_of session slot number = record { session = session; slot = slot; number = number }

some_is : {A : Type 0} (a b : A) → Some a ≡ Some b → a ≡ b
some_is a b same = cc

module _ {X C : Type 0} (rules : Rules X C) (codes : Codes) (owner : End) (accepts : List ℕ → Option (List ℕ)) (whose : List ℕ → Option End)
    (conn : ℕ) (bytes : List ℕ) (now : ℕ) (s : HostState X C) (t : Stepped X C) (fair : IsFair owner codes bytes s t)
    (k : IsCompoundStep rules codes conn bytes (max s.second now) s t) where
  abbrev spell : Spelling
  spell = spelling accepts whose

  abbrev sessions : SessionTable
  sessions = s.state.sessions

  abbrev second : ℕ
  second = max s.second now

  abbrev root : ℕ
  root = kept.root rules codes conn bytes second s t fair.slots k

  abbrev given : Given X
  given = kept.given rules codes conn bytes second s t fair.slots k

  turn : Turns (is_retry root k.compound sessions) root k.compound.tag k.compound.ops sessions given.state.sessions given.body
  turn = kept.turn rules codes conn bytes second s t fair.slots k

  sessions_are : t.host.state.sessions ≡ given.state.sessions
  sessions_are = kept.sessions_are rules codes conn bytes second s t fair.slots k

  abbrev reply : Outgoing
  reply = result_back codes s.contexts conn k.call given.body (Reply (compound_label k.compound.ops) (status_in given.body))

  sent_is : t.out.sent ≡ reply ∷ []
  sent_is = ap (λ x. x.out.sent) k.step_is

  abbrev seal : Seal
  seal = seal_in s.contexts k.asked.number k.asked.seq

  sealed : reply.seal ≡ Some seal
  sealed = ap (λ u. reply_seal s.contexts u) k.asked.under_is

  accepted_is : t.out.accepted ≡ Some seal
  accepted_is = ap (λ x. x.out.accepted) k.step_is ∙ k.asked.accepted

  results_back : results_of reply.bytes ≡ given.body
  results_back =
      let short : All (λ (o : Outgoing). length o.bytes ≤ RECORD_LIMIT) (reply ∷ []) = subst (λ (xs : List Outgoing). All (λ o. length o.bytes ≤ RECORD_LIMIT) xs) sent_is fair.short in
      results_are codes.mic s.contexts bytes k.args k.call k.asked given.body fair.sized
      (call_fits codes.mic (max s.second now) bytes s.contexts k.call fair.are_bytes k.judged_is)
      (All-head (λ (o : Outgoing). length o.bytes ≤ RECORD_LIMIT) reply [] short)

  -- ---- the slot that a wire sees

  named_is : (session slot number : ℕ) → Names k.compound.ops sessions session slot number → slot_of bytes ≡ Some (name_of session slot number)
  named_is session slot number names =
      let few = fair.slots.few in
      let small : session < 2 ^ 32 = omega (arith, names.made, few, fair.left) in
      let id : session_in names.sequence.session ≡ session = ap session_in (sym names.id_is) ∙ session_back sessions.boot session small in
      k.asked.slot_is ∙ ap slot_asked k.read ∙ ap first_slot names.first
      ∙ ap (λ n. Some (name_of n names.sequence.slot names.sequence.sequence)) id
      ∙ ap (λ n. Some (name_of session n names.sequence.sequence)) (sym names.slot_is)
      ∙ ap (λ n. Some (name_of session slot n)) (sym names.number_is)

  -- ---- what is told

  executed_is : is_retry root k.compound sessions ≡ false
      → (acts_of codes bytes now s t).executed ≡ Some (record { ops = ops_of bytes; results = results_of reply.bytes })
  executed_is new =
      ap (λ b. told b bytes t.out.sent) (k.told_is ∙ ap not new) ∙ ap (λ (xs : List Outgoing). told true bytes xs) sent_is

  executes : is_retry root k.compound sessions ≡ false → (name : SlotName) → slot_of bytes ≡ Some name → (results : List ℕ) → results_of reply.bytes ≡ results
      → Executes spell owner (view s) (view t.host) (acts_of codes bytes now s t) name root results
  executes new name named results back = record {
    call = bytes;
    seal = seal;
    took = refl;
    accepted = accepted_is;
    own = fair.owner_is;
    same_boot = sym fair.same_boot;
    in_boot = refl;
    name_is = named;
    root_is = root_there s.contexts k.asked.number k.asked.context k.asked.there;
    executed = executed_is new ∙ ap (λ (xs : List ℕ). Some (record { ops = ops_of bytes; results = xs })) back;
  }

  -- ---- the laws

  pub compound_kept : (name : SlotName) (r : ℕ) (results : List ℕ) → Keeps (view t.host) name r results
      → (((view s).boot ≡ (view t.host).boot) × Keeps (view s) name r results) ⊎ Executes spell owner (view s) (view t.host) (acts_of codes bytes now s t) name r results
  compound_kept name r results keeps =
      elim (turns_kept (is_retry root k.compound sessions) root k.compound.tag k.compound.ops sessions given.state.sessions given.body fair.slots.sound turn
      name.session name.slot (record { number = name.number; root = r; results = results })
      (ap (λ (x : SessionTable). kept_in x name.session name.slot) (sym sessions_are) ∙ keeps)) [
        | inl before ↦ inl (sym fair.same_boot, before)
        | inr new ↦
            let root_is : r ≡ root = ap (λ (x : Kept). x.root) new.2 in
            let body_is : results ≡ given.body = ap (λ (x : Kept). x.results) new.2 in
            inr (subst (λ q. Executes spell owner (view s) (view t.host) (acts_of codes bytes now s t) name q results) (sym root_is)
            (executes new.0 name (named_is name.session name.slot name.number new.1) results (results_back ∙ sym body_is)))
      ]

  -- whichever it is answered by
  answered : (retry : Bool) → is_retry root k.compound sessions ≡ retry → (name : SlotName) → slot_of bytes ≡ Some name
      → Executes spell owner (view s) (view t.host) (acts_of codes bytes now s t) name root (results_of reply.bytes) ⊎ Keeps (view s) name root (results_of reply.bytes)
  answered false new name named = inl (executes new name named (results_of reply.bytes) refl)
  answered true again name named =
      let a = turns_again (is_retry root k.compound sessions) root k.compound.tag k.compound.ops sessions given.state.sessions given.body fair.slots.sound turn again in
      let same : name_of a.session a.slot a.number ≡ name = some_is _ name (sym (named_is a.session a.slot a.number a.names) ∙ named) in
      inr (subst (λ n. Keeps (view s) n root (results_of reply.bytes)) same
      (subst (λ (xs : List ℕ). Keeps (view s) (name_of a.session a.slot a.number) root xs) (sym results_back) a.keeps))

  pub compound_slot : (call answer : List ℕ) (under : Seal) (name : SlotName) → (acts_of codes bytes now s t).took ≡ Some call → slot_of call ≡ Some name
      → Sends (acts_of codes bytes now s t) answer (Some under)
      → IsAnswered spell owner (view s) (view t.host) (acts_of codes bytes now s t) name under answer
  compound_slot call answer under name took named sends =
      let bytes_is : bytes ≡ call = some_is bytes call took in
      let here : slot_of bytes ≡ Some name = subst (λ (xs : List ℕ). slot_of xs ≡ Some name) (sym bytes_is) named in
      let only : sent_of reply ≡ record { bytes = answer; seal = Some under } =
      only_sent (sent_of reply) _ (subst (λ (xs : List Outgoing). Contains (map sent_of xs) (record { bytes = answer; seal = Some under })) sent_is sends) in
      let answer_is : reply.bytes ≡ answer = ap (λ (x : Sent). x.bytes) only in
      let seal_is : seal ≡ under = some_is seal under (sym sealed ∙ ap (λ (x : Sent). x.seal) only) in
      subst (λ u. IsAnswered spell owner (view s) (view t.host) (acts_of codes bytes now s t) name u answer) seal_is
      (subst (λ (xs : List ℕ). IsAnswered spell owner (view s) (view t.host) (acts_of codes bytes now s t) name seal xs) answer_is
      (record {
        accepted = accepted_is;
        in_boot = refl;
        same_boot = sym fair.same_boot;
        root = root;
        root_is = root_there s.contexts k.asked.number k.asked.context k.asked.there;
        results = answered (is_retry root k.compound sessions) refl name here;
      }))

  -- results are told where it isn't a retry, and are those of the reply
  told_new : (retry : Bool) → is_retry root k.compound sessions ≡ retry → (results : List ℕ)
      → (acts_of codes bytes now s t).executed ≡ Some (record { ops = ops_of bytes; results = results }) → (retry ≡ false) × (given.body ≡ results)
  told_new true again results is =
      absurd (let none = ap (λ b. told b bytes t.out.sent) (k.told_is ∙ ap not again) in let both = sym none ∙ is in cc)
  told_new false new results is =
      let same : record { ops = ops_of bytes; results = results_of reply.bytes } ≡ record { ops = ops_of bytes; results = results } =
      some_is {A = Executed} _ _ (sym (executed_is new) ∙ is) in
      (refl, sym results_back ∙ ap (λ (x : Executed). x.results) same)

  once_at : (name : SlotName) → slot_of bytes ≡ Some name → IsRunOnce k.compound.ops sessions given.state.sessions
      → (last_of (view s) name < name.number) × (name.number ≤ last_of (view t.host) name)
  once_at name named o =
      let same : name_of o.session o.slot o.number ≡ name = some_is _ name (sym (named_is o.session o.slot o.number o.names) ∙ named) in
      let now_is : last_in t.host.state.sessions o.session o.slot ≡ o.number = ap (λ (x : SessionTable). last_in x o.session o.slot) sessions_are ∙ o.last in
      subst (λ n. (last_of (view s) n < n.number) × (n.number ≤ last_of (view t.host) n)) same (o.above, omega (arith, now_is))

  pub compound_once : (name : SlotName) (r : ℕ) (results : List ℕ) → Executes spell owner (view s) (view t.host) (acts_of codes bytes now s t) name r results
      → has_run results ≡ true → (last_of (view s) name < name.number) × (name.number ≤ last_of (view t.host) name)
  compound_once name r results x ran =
      let bytes_is : bytes ≡ x.call = some_is bytes x.call x.took in
      let named : slot_of bytes ≡ Some name = subst (λ (xs : List ℕ). slot_of xs ≡ Some name) (sym bytes_is) x.name_is in
      let executed = subst (λ (xs : List ℕ). (acts_of codes bytes now s t).executed ≡ Some (record { ops = ops_of xs; results = results })) (sym bytes_is) x.executed in
      let new = told_new (is_retry root k.compound sessions) refl results executed in
      let tag = tag_is_short k.args k.compound (subst IsBytes k.asked.ops_are (ops_are_bytes bytes fair.are_bytes)) k.read in
      elim (turns_once (is_retry root k.compound sessions) root k.compound.tag k.compound.ops sessions given.state.sessions given.body fair.slots.sound turn new.0
      s.steps (omega (arith, fair.left)) fair.slots.below) [
        | inl none ↦ absurd (false≢true (sym (not_run k.compound.tag given.body tag none) ∙ ap has_run new.1 ∙ ran))
        | inr once ↦ once_at name named once
      ]

  pub compound_last : (name : SlotName) → last_of (view s) name ≤ last_of (view t.host) name
  compound_last name =
      subst (λ (x : SessionTable). last_in sessions name.session name.slot ≤ last_in x name.session name.slot) (sym sessions_are)
      (turns_last (is_retry root k.compound sessions) root k.compound.tag k.compound.ops sessions given.state.sessions given.body fair.slots.sound turn
      s.steps (omega (arith, fair.left)) fair.slots.below name.session name.slot)
