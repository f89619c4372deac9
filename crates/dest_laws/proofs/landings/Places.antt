-- What is awaited at the places of a mount, in each of its calls: what stays in a slot asks the same.
use Rattle.std.proofs.Common.{◌≡◌, ◌∙◌, ◌⊎◌, inl, inr, ℕ, zero, suc, Bool, true, false, List, [], ◌∷◌, Option, Some, None, Result, Ok, Err, refl, sym, ap, subst, get_or, set}
use Rattle.std.specs.Prelude.{◌≢◌, ◌&&◌, if◌then◌else◌, map, option_map, slice_index_or}
use Rattle.std.proofs.lemmas.Bool.{cases_eq}
use Rattle.std.proofs.lemmas.List.{get_or-set_other}
use Rattle.dest_laws.specs.Landings.Posted.{Asks, asked_at, asked_in}
use Rattle.gss_ctx.specs.Replies.{begun_of}
use Rattle.gss_ctx.specs.Seals.{Mic}
use Rattle.gss_ctx.specs.declared.begin.Begun.{Begun}
use Rattle.gss_ctx.specs.declared.begin.Begun.TheVariants as begins
use Rattle.mount.specs.Falling.{fallen, given_up, staying, stays_pending}
use Rattle.mount.specs.Sending as sends
use Rattle.mount.specs.State.{Mounted, awaited_at, context_of, emptied, is_present, pending_in}
use Rattle.mount.specs.Taking.{Means, after_call, after_create, after_init, after_reply, after_setup, after_step, by_aim, by_awaiting, by_context, by_pending, child_for, fallen_if, is_lost, parent_of, taken_at}
use Rattle.mount.specs.declared.machine.SendAt.{SendAt}
use Rattle.mount.specs.declared.machine.Sent.{Sent}
use Rattle.mount.specs.declared.state.Aim.{Aim}
use Rattle.mount.specs.declared.state.Aim.TheVariants as aims
use Rattle.mount.specs.declared.state.Awaiting.{Awaiting}
use Rattle.mount.specs.declared.state.Context.{Context}
use Rattle.mount.specs.declared.state.Pending.{Pending}
use Rattle.mount.specs.declared.state.Pending.TheVariants.{Init, Under}
use Rattle.mount.specs.declared.state.Standing.{Standing}
use Rattle.mount.specs.declared.state.Standing.TheVariants as standings
use Rattle.nfs_base.specs.declared.seal.Seal.{Seal}
use Rattle.nfs_base.specs.declared.status.Status.{Status}
use Rattle.nfs_compound.specs.declared.reply.Reply.{Reply}
use Rattle.session_calls.specs.Calls.{slot_compound}
use Rattle.session_calls.specs.declared.slot_call.SlotCall.{SlotCall}
use Rattle.session_calls.specs.declared.slot_call.SlotUse.{SlotUse}
use Rattle.session_client.specs.Answers.{child_of, taken_of}
use Rattle.session_client.specs.Asked.{ops_of}
use Rattle.session_client.specs.Pending.{Asking, Beginning}
use Rattle.session_client.specs.Setup.{after_answer}
use Rattle.session_client.specs.declared.answers.Taken.{Taken}
use Rattle.session_client.specs.declared.answers.Taken.TheVariants as answers
use Rattle.session_client.specs.declared.answers.TakenChild.{TakenChild}
use Rattle.session_client.specs.declared.answers.TakenChild.TheVariants as children
use Rattle.session_client.specs.declared.asked.Asked.{Asked}
use Rattle.session_client.specs.declared.asked.Asked.TheVariants.{Compound}
use Rattle.session_client.specs.declared.sealing.SealedCall.{SealedCall}
use Rattle.session_client.specs.declared.setup.Setup.{Setup}

-- ---- a list with one element set

set_same : {X : Type 0} (xs : List X) (i : ℕ) (y d : X) → (get_or (set xs i y) i d ≡ y) ⊎ (get_or (set xs i y) i d ≡ d)
set_same [] zero y d = inr refl
set_same [] (suc i) y d = inr refl
set_same (x ∷ xs) zero y d = inl refl
set_same (x ∷ xs) (suc i) y d = set_same xs i y d

-- where it was set, or past the end, and elsewhere
pub set_cases : {X : Type 0} (P : X → Type 0) (xs : List X) (i j : ℕ) (y d : X) → (j ≡ i → P y) → P d → (j ≢ i → P (get_or xs j d)) → P (get_or (set xs i y) j d)
set_cases P xs i j y d here past there =
    elim (cases_eq j i) [
      | inl same ↦ elim (set_same xs i y d) [
        | inl e ↦ subst (λ (k : ℕ). P (get_or (set xs i y) k d)) (sym same) (subst P (sym e) (here same))
        | inr e ↦ subst (λ (k : ℕ). P (get_or (set xs i y) k d)) (sym same) (subst P (sym e) past)
      ]
      | inr other ↦ subst P (sym (get_or-set_other xs i j y d other)) (there other)
    ]

-- ---- what is seen of a place

abbrev pub seen_of : Option Awaiting → Option (Option Asked)
seen_of a = option_map asked_in (pending_in a)

-- at each place the same is asked as before, or nothing is awaited
abbrev pub Fewer : Mounted → Mounted → Type 0
Fewer m w = (place : ℕ) → (asked_at w place ≡ asked_at m place) ⊎ (asked_at w place ≡ None)

pub fewer_same : (m w : Mounted) → w.places ≡ m.places → Fewer m w
fewer_same m w same place = inl (ap (λ (places : List (Option Awaiting)). seen_of (slice_index_or places place None)) same)

fewer_by : (a b c : Option (Option Asked)) → (b ≡ a) ⊎ (b ≡ None) → (c ≡ b) ⊎ (c ≡ None) → (c ≡ a) ⊎ (c ≡ None)
fewer_by a b c first (inr none) = inr none
fewer_by a b c (inl is) (inl same) = inl (same ∙ is)
fewer_by a b c (inr none) (inl same) = inr (same ∙ none)

pub fewer_joins : (m u w : Mounted) → Fewer m u → Fewer u w → Fewer m w
fewer_joins m u w first second place = fewer_by (asked_at m place) (asked_at u place) (asked_at w place) (first place) (second place)

pub fewer_emptied : (place : ℕ) (m : Mounted) → Fewer m (emptied place m)
fewer_emptied place m other =
    set_cases (λ (a : Option Awaiting). (seen_of a ≡ asked_at m other) ⊎ (seen_of a ≡ None)) m.places place other None None (λ _. inr refl) (inr refl) (λ _. inl refl)

pub fewer_given_up : (place : ℕ) (m : Mounted) → Fewer m (given_up place m)
fewer_given_up place m = fewer_emptied place m

staying_at : (xs : List (Option Awaiting)) (i : ℕ) → get_or (map staying xs) i None ≡ staying (get_or xs i None)
staying_at [] zero = refl
staying_at [] (suc i) = refl
staying_at (x ∷ xs) zero = refl
staying_at (x ∷ xs) (suc i) = staying_at xs i

kept_if : (a : Awaiting) (b : Bool) → (seen_of (if b then Some a else None) ≡ seen_of (Some a)) ⊎ (seen_of (if b then Some a else None) ≡ None)
kept_if a true = inl refl
kept_if a false = inr refl

staying_seen : (a : Option Awaiting) → (seen_of (staying a) ≡ seen_of a) ⊎ (seen_of (staying a) ≡ None)
staying_seen None = inl refl
staying_seen (Some a) = kept_if a (stays_pending a.pending)

pub fewer_fallen : (m : Mounted) → Fewer m (fallen m)
fewer_fallen m place =
    elim (staying_seen (awaited_at m place)) [
      | inl same ↦ inl (ap seen_of (staying_at m.places place) ∙ same)
      | inr none ↦ inr (ap seen_of (staying_at m.places place) ∙ none)
    ]

pub fewer_fallen_if : (b : Bool) (m : Mounted) → Fewer m (fallen_if b m)
fewer_fallen_if true m = fewer_fallen m
fewer_fallen_if false m = fewer_same m m refl

-- ---- a record is taken at a place

module _ (place : ℕ) (m : Mounted) where
  abbrev empty : Mounted
  empty = emptied place m

  done : Fewer m empty
  done = fewer_emptied place m

  falls : Fewer m (fallen empty)
  falls = fewer_joins m empty (fallen empty) done (fewer_fallen empty)

  falls_if : (b : Bool) → Fewer m (fallen_if b empty)
  falls_if b = fewer_joins m empty (fallen_if b empty) done (fewer_fallen_if b empty)

  init_fewer : (init : Beginning) (begun : Begun) → Fewer m (after_init place init begun m).1
  init_fewer init (begins.Made handle key) = done
  init_fewer init (begins.Refused major) = falls
  init_fewer init (begins.Failed stat) = done
  init_fewer init (begins.Denied why) = falls
  init_fewer init begins.Unmatched = fewer_same m m refl

  create_fewer : (derived : List ℕ → ℕ → List ℕ → List ℕ) (child : ℕ) (c : Context) (seal : Seal) (xid : ℕ) (taken : TakenChild)
      → Fewer m (after_create derived place child (parent_of c) seal xid taken m).1
  create_fewer derived child c seal xid (children.Made handle) = done
  create_fewer derived child c seal xid (children.Refused major) = done
  create_fewer derived child c seal xid children.Misspelt = done
  create_fewer derived child c seal xid (children.Failed stat) = done
  create_fewer derived child c seal xid (children.Denied why) = done
  create_fewer derived child c seal xid children.Unmatched = fewer_same m m refl

  step_fewer : (next : Result Setup Status) (accepted : Option Seal) → Fewer m (after_step next accepted empty).1
  step_fewer (Ok setup) accepted = done
  step_fewer (Err status) accepted = falls_if (is_lost status)

  setup_fewer : (standing : Standing) (reply : Reply) (accepted : Option Seal) → Fewer m (after_setup standing reply accepted empty).1
  setup_fewer (standings.Down kept) reply accepted = done
  setup_fewer (standings.Rooted root) reply accepted = step_fewer (after_answer m.reclaims reply.status reply.results root.setup) accepted

  reply_fewer : (aim : Aim) (present : Bool) (reply : Reply) (accepted : Option Seal) → Fewer m (after_reply aim present reply accepted empty).1
  reply_fewer aims.Setup present reply accepted = setup_fewer m.standing reply accepted
  reply_fewer (aims.Child child) present reply accepted = done
  reply_fewer aims.Slot present reply accepted = falls_if (present && is_lost reply.status)
  reply_fewer aims.End present reply accepted = done

  call_fewer : (aim : Aim) (present : Bool) (seal : Seal) (taken : Taken) → Fewer m (after_call place aim present seal taken m).1
  call_fewer aim present seal (answers.Answer reply) = reply_fewer aim present reply (Some seal)
  call_fewer aim present seal answers.Misspelt = done
  call_fewer aim present seal (answers.Failed stat) = done
  call_fewer aim present seal (answers.Denied why) = falls_if present
  call_fewer aim present seal answers.Unmatched = fewer_same m m refl

  module _ (means : Means) (message : List ℕ) where
    aim_fewer : (child : Option ℕ) (aim : Aim) (call : Asking) (c : Context) → Fewer m (by_aim means place message child aim call c m).1
    aim_fewer (Some child) aim call c =
        create_fewer means.derived child c call.seal call.awaited.xid (child_of means.mic c.caller.key call.awaited message)
    aim_fewer None aim call c =
        call_fewer aim (is_present m.standing c) call.seal (taken_of means.mic c.caller.key call.awaited (ops_of call.asked) message)

    context_fewer : (aim : Aim) (call : Asking) (c : Option Context) → Fewer m (by_context means place message aim call c m).1
    context_fewer aim call None = fewer_same m m refl
    context_fewer aim call (Some c) = aim_fewer (child_for aim) aim call c

    pending_fewer : (pending : Pending) → Fewer m (by_pending means place message pending m).1
    pending_fewer (Init init) = init_fewer init (begun_of means.mic (means.finished init.nonce) init.xid message)
    pending_fewer (Under context aim call) = context_fewer aim call (context_of context m.contexts)

    awaiting_fewer : (a : Option Awaiting) → Fewer m (by_awaiting means place message a m).1
    awaiting_fewer None = fewer_same m m refl
    awaiting_fewer (Some a) = pending_fewer a.pending

    pub taken_fewer : Fewer m (taken_at means place message m).1
    taken_fewer = awaiting_fewer (awaited_at m place)

-- ---- what is awaited goes out again

pending_same : (context : ℕ) (aim : Aim) (call : Asking) (sealed : Option SealedCall) → asked_in (sends.pending_under context aim call sealed) ≡ asked_in (Under context aim call)
pending_same context aim call None = refl
pending_same context aim call (Some sealed) = refl

anew_same : (mic : Mic) (xid : ℕ) (contexts : List Context) (pending : Pending) → asked_in (sends.pending_anew mic xid contexts pending) ≡ asked_in pending
anew_same mic xid contexts (Init init) = refl
anew_same mic xid contexts (Under context aim call) = pending_same context aim call (sends.sealed_by mic context xid call.asked contexts).0

module _ (mic : Mic) (at : SendAt) (m : Mounted) where
  placed_fewer : (a : Awaiting) (out : Option Sent) (contexts : List Context) (pending : Pending) → awaited_at m at.place ≡ Some a → asked_in pending ≡ asked_in a.pending
      → Fewer m (sends.awaits_anew at out contexts pending m).1
  placed_fewer a None contexts pending is same = fewer_same m m refl
  placed_fewer a (Some sent) contexts pending is same =
      λ other.
      let new : Awaiting = record { sent_at = at.now; pending = pending } in
      set_cases (λ (b : Option Awaiting). (seen_of b ≡ asked_at m other) ⊎ (seen_of b ≡ None)) m.places at.place other (Some new) None
      (λ here. inl (ap (λ (x : Option Asked). Some x) same ∙ sym (ap seen_of (ap (awaited_at m) here ∙ is)))) (inr refl) (λ _. inl refl)

  anew_fewer : (a : Option Awaiting) → awaited_at m at.place ≡ a → Fewer m (sends.sent_anew mic at a m).1
  anew_fewer None is = fewer_same m m refl
  anew_fewer (Some a) is =
      placed_fewer a (sends.out_anew mic at.xid m.contexts a.pending) (sends.contexts_anew mic at.xid m.contexts a.pending) (sends.pending_anew mic at.xid m.contexts a.pending)
      is (anew_same mic at.xid m.contexts a.pending)

  pub again_fewer : Fewer m (sends.sent_again mic at m).1
  again_fewer = anew_fewer (awaited_at m at.place) refl

-- ---- a call in a slot goes out

some_slot : (a b : Option Asked) → Some a ≡ Some b → a ≡ b
some_slot a b e = cc

module _ (mic : Mic) (at : SendAt) (call : SlotCall) where
  -- what is awaited at its place asks so
  abbrev AsksIt : Option Sent × Mounted → Type 0
  AsksIt o = (sent : Sent) → o.0 ≡ Some sent → Asks (asked_at o.1 at.place) call

  abbrev IsOne : Asked → Type 0
  IsOne asked = (slot : SlotUse) × (asked ≡ Compound (slot_compound slot call))

  awaits_it : (context : ℕ) (asked : Asked) (sealed : Option SealedCall) (m : Mounted) → IsOne asked → AsksIt (sends.call_awaits at context aims.Slot asked sealed m)
  awaits_it context asked None m one sent is = absurd cc
  awaits_it context asked (Some sealed) m one sent is =
      let new : Awaiting = record { sent_at = at.now; pending = Under context aims.Slot (record { asked = asked; seal = sealed.seal; awaited = sealed.awaited }) } in
      set_cases (λ (b : Option Awaiting). Asks (seen_of b) call) m.places at.place at.place (Some new) None
      (λ _ a e. (one.0, sym (some_slot (Some asked) a e) ∙ ap (λ (x : Asked). Some x) one.1)) (λ a e. absurd cc) (λ other. absurd (other refl))

  numbered_it : (sent : Option Sent) (m : Mounted) → AsksIt (sent, m) → AsksIt (sends.numbered at.place sent m)
  numbered_it None m it = it
  numbered_it (Some sent) m it = it

  sent_it : (context : Option ℕ) (asked : Option Asked) (m : Mounted) → ((x : Asked) → asked ≡ Some x → IsOne x) → AsksIt (sends.sent_by mic at context aims.Slot asked m)
  sent_it None asked m one = λ sent is. absurd cc
  sent_it (Some context) None m one = λ sent is. absurd cc
  sent_it (Some context) (Some asked) m one =
      awaits_it context asked (sends.sealed_by mic context at.xid asked m.contexts).0
      (record m { contexts = (sends.sealed_by mic context at.xid asked m.contexts).1 }) (one asked refl)

  asked_one : (numbers : List ℕ) (session : Option (List ℕ)) (x : Asked) → option_map (sends.slot_asked at.place numbers call) session ≡ Some x → IsOne x
  asked_one numbers None x is = absurd cc
  asked_one numbers (Some session) x is =
      let same : sends.slot_asked at.place numbers call session ≡ x = cc in
      (record { session = session; slot = at.place; number = slice_index_or numbers at.place 0 }, sym same)

  asked_is : (standing : Standing) (x : Asked) → sends.slot_asked_in at.place call standing ≡ Some x → IsOne x
  asked_is (standings.Down kept) x is = absurd cc
  asked_is (standings.Rooted root) x is = asked_one root.numbers (sends.session_in root.setup) x is

  pub slotted_asks : (context : Option ℕ) (m : Mounted) → AsksIt (sends.slotted mic at context aims.Slot call m)
  slotted_asks context m =
      let o = sends.sent_by mic at context aims.Slot (sends.slot_asked_in at.place call m.standing) m in
      numbered_it o.0 o.1 (sent_it context (sends.slot_asked_in at.place call m.standing) m (asked_is m.standing))
