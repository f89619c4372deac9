-- What a mount sends is sealed for its server.
use Rattle.std.proofs.Common.{◌≡◌, ◌∙◌, ℕ, zero, suc, ◌<◌, Bool, true, false, List, [], ◌∷◌, get_or, Option, Some, None, refl, sym, ap, arith}
use Rattle.std.specs.Prelude.{Contains, nat_lt, option_map}
use Rattle.caller_laws.specs.Good.{Identity, IsGood}
use Rattle.caller_laws.specs.Moves.{Again, Begin, BeginAnew, Falls, Finish, Forgets, GivesUp, InSlot, Make, Move, Reclaim, Rests, Send, Sends, SetUp, Takes, done, out_of, sent_by}
use Rattle.caller_laws.specs.View.{face}
use Rattle.gss_ctx.specs.Calls.{Side}
use Rattle.gss_ctx.specs.Seals.{Mic}
use Rattle.mount.specs.Sending as sending
use Rattle.mount.specs.State.{Mounted, awaited_at, context_of, kept_in, root_name}
use Rattle.mount.specs.Taking.{Means}
use Rattle.mount.specs.declared.calling.Ending.{Ending}
use Rattle.mount.specs.declared.machine.SendAt.{SendAt}
use Rattle.mount.specs.declared.machine.Sent as out
use Rattle.mount.specs.declared.state.Aim.{Aim}
use Rattle.mount.specs.declared.state.Aim.TheVariants as aims
use Rattle.mount.specs.declared.state.Awaiting.{Awaiting}
use Rattle.mount.specs.declared.state.Context as held
use Rattle.mount.specs.declared.state.Pending.{Pending}
use Rattle.mount.specs.declared.state.Pending.TheVariants.{Init, Under}
use Rattle.mount.specs.declared.state.Standing.{Standing}
use Rattle.mount.specs.declared.state.Standing.TheVariants.{Down, Rooted}
use Rattle.nfs_base.specs.declared.seal.End.{End}
use Rattle.nfs_base.specs.declared.seal.Seal.{Seal}
use Rattle.session_calls.specs.declared.slot_call.SlotCall.TheVariants.{ReclaimComplete}
use Rattle.session_calls.specs.declared.sole_call.BackChannel.{BackChannel}
use Rattle.session_client.specs.Asked.{asked_call, called_if}
use Rattle.session_client.specs.Pending.{Beginning}
use Rattle.session_client.specs.declared.asked.Asked.{Asked}
use Rattle.session_client.specs.declared.sealing.SealedCall.{SealedCall}
use Rattle.wire_model.specs.Wire as wire

-- each seal of what goes out is of this owner
abbrev pub IsFor : End → Option out.Sent → Type 0
IsFor owner o = (sent : out.Sent) → o ≡ Some sent → (seal : Seal) → sent.seal ≡ Some seal → seal.owner ≡ owner

abbrev IsSealedFor : End → Option SealedCall → Type 0
IsSealedFor owner o = (call : SealedCall) → o ≡ Some call → call.seal.owner ≡ owner

for_none : (owner : End) → IsFor owner None
for_none owner sent is seal sealed = absurd cc

for_open : (owner : End) (bytes : List ℕ) → IsFor owner (Some (record { bytes = bytes; seal = None }))
for_open owner bytes sent is seal sealed =
    let none : None ≡ sent.seal = ap (λ (o : Option out.Sent). seal_in o) is in
    let both : None ≡ Some seal = none ∙ sealed in
    absurd cc
  where
    seal_in : Option out.Sent → Option Seal
    seal_in None = None
    seal_in (Some s) = s.seal

for_sealed : (owner : End) (bytes : List ℕ) (had : Seal) → had.owner ≡ owner → IsFor owner (Some (record { bytes = bytes; seal = Some had }))
for_sealed owner bytes had is_own sent is seal sealed =
    let one : Some had ≡ sent.seal = ap (λ (o : Option out.Sent). seal_in o) is in
    let both : Some had ≡ Some seal = one ∙ sealed in
    let same : had ≡ seal = cc in
    ap (λ (s : Seal). s.owner) (sym same) ∙ is_own
  where
    seal_in : Option out.Sent → Option Seal
    seal_in None = None
    seal_in (Some s) = s.seal

-- ---- a call under a context

called_owner : (b : Bool) (mic : Mic) (side : Side) (xid : ℕ) (asked : Asked) (owner : End) → side.owner ≡ owner → IsSealedFor owner (called_if b mic side xid asked).0
called_owner true mic side xid asked owner own call is =
    let same : asked_call mic side xid asked ≡ call = cc in
    ap (λ (c : SealedCall). c.seal.owner) (sym same) ∙ own
called_owner false mic side xid asked owner own call is = absurd cc

context_owner : (mic : Mic) (xid : ℕ) (asked : Asked) (o : Option held.Context) (owner : End) → ((c : held.Context) → o ≡ Some c → c.caller.owner ≡ owner)
    → IsSealedFor owner (sending.call_under mic xid asked o)
context_owner mic xid asked None owner own call is = absurd cc
context_owner mic xid asked (Some c) owner own call is = called_owner (nat_lt c.caller.next 2147483648) mic c.caller xid asked owner (own c refl) call is

held_owner : (who : Identity) (m : Mounted) (name : ℕ) → IsGood who m → (c : held.Context) → context_of name m.contexts ≡ Some c → c.caller.owner ≡ m.server
held_owner who m name g c is = (g.held name (face c) (ap (option_map face) is)).owner

awaits_for : (owner : End) (at : SendAt) (context : ℕ) (aim : Aim) (asked : Asked) (o : Option SealedCall) (m : Mounted) → IsSealedFor owner o
    → IsFor owner (sending.call_awaits at context aim asked o m).0
awaits_for owner at context aim asked None m own = for_none owner
awaits_for owner at context aim asked (Some call) m own = for_sealed owner call.bytes call.seal (own call refl)

asked_for : (who : Identity) (mic : Mic) (at : SendAt) (context : Option ℕ) (aim : Aim) (asked : Option Asked) (m : Mounted) → IsGood who m
    → IsFor m.server (sending.sent_by mic at context aim asked m).0
asked_for who mic at None aim asked m g = for_none m.server
asked_for who mic at (Some context) aim None m g = for_none m.server
asked_for who mic at (Some context) aim (Some asked) m g =
    awaits_for m.server at context aim asked (sending.call_under mic at.xid asked (context_of context m.contexts)) (record m { contexts = (sending.sealed_by mic context at.xid asked m.contexts).1 })
    (context_owner mic at.xid asked (context_of context m.contexts) m.server (held_owner who m context g))

numbered_for : (owner : End) (slot : ℕ) (o : Option out.Sent) (m : Mounted) → IsFor owner o → IsFor owner (sending.numbered slot o m).0
numbered_for owner slot None m own = own
numbered_for owner slot (Some sent) m own = own

steps_for : (who : Identity) (mic : Mic) (at : SendAt) (me : List ℕ) (back : Option BackChannel) (st : Standing) (m : Mounted) → IsGood who m
    → IsFor m.server (sending.stepped_in mic at me back st m).0
steps_for who mic at me back (Down kept) m g = for_none m.server
steps_for who mic at me back (Rooted root) m g = asked_for who mic at (Some root.name) aims.Setup (sending.step_asked me back root.setup) m g

ends_for : (who : Identity) (mic : Mic) (at : SendAt) (ending : Ending) (st : Standing) (m : Mounted) → IsGood who m → IsFor m.server (sending.ended_in mic at ending st m).0
ends_for who mic at ending (Down kept) m g = for_none m.server
ends_for who mic at ending (Rooted root) m g = asked_for who mic at (Some root.name) aims.End (sending.ending_call ending root.setup) m g

begins_for : (owner : End) (at : SendAt) (nonce : List ℕ) (token : Option (List ℕ)) (m : Mounted) → IsFor owner (sending.begun at nonce token m).0
begins_for owner at nonce None m = for_none owner
begins_for owner at nonce (Some token) m = for_open owner _

begun_for : (owner : End) (at : SendAt) (o : Option Beginning) (m : Mounted) → IsFor owner (sending.begun_by at o m).0
begun_for owner at None m = for_none owner
begun_for owner at (Some init) m = for_open owner _

anew_for : (owner : End) (o : Option SealedCall) → IsSealedFor owner o → IsFor owner (sending.under_anew o)
anew_for owner None own = for_none owner
anew_for owner (Some call) own = for_sealed owner call.bytes call.seal (own call refl)

pending_for : (who : Identity) (mic : Mic) (xid : ℕ) (p : Pending) (m : Mounted) → IsGood who m → IsFor m.server (sending.out_anew mic xid m.contexts p)
pending_for who mic xid (Init init) m g = for_open m.server _
pending_for who mic xid (Under context aim call) m g =
    anew_for m.server (sending.call_under mic xid call.asked (context_of context m.contexts)) (context_owner mic xid call.asked (context_of context m.contexts) m.server (held_owner who m context g))

goes_anew : (owner : End) (at : SendAt) (o : Option out.Sent) (contexts : List held.Context) (p : Pending) (m : Mounted) → IsFor owner o → IsFor owner (sending.awaits_anew at o contexts p m).0
goes_anew owner at None contexts p m own = own
goes_anew owner at (Some sent) contexts p m own = own

again_for : (who : Identity) (mic : Mic) (at : SendAt) (o : Option Awaiting) (m : Mounted) → IsGood who m → IsFor m.server (sending.sent_anew mic at o m).0
again_for who mic at None m g = for_none m.server
again_for who mic at (Some a) m g = goes_anew m.server at (sending.out_anew mic at.xid m.contexts a.pending) _ _ m (pending_for who mic at.xid a.pending m g)

sent_for : (who : Identity) (mic : Mic) (at : SendAt) (send : Send) (m : Mounted) → IsGood who m → IsFor m.server (sent_by mic at send m).0
sent_for who mic at (Begin nonce token) m g = begins_for m.server at nonce token m
sent_for who mic at BeginAnew m g = begun_for m.server at (kept_in m.standing) m
sent_for who mic at (SetUp me back) m g = steps_for who mic at me back m.standing m g
sent_for who mic at Reclaim m g =
    let o = sending.sent_by mic at (root_name m.standing) aims.Setup (sending.slot_asked_in at.place ReclaimComplete m.standing) m in
    numbered_for m.server at.place o.0 o.1 (asked_for who mic at (root_name m.standing) aims.Setup (sending.slot_asked_in at.place ReclaimComplete m.standing) m g)
sent_for who mic at (InSlot under call) m g =
    let o = sending.sent_by mic at (sending.name_under under m) aims.Slot (sending.slot_asked_in at.place call m.standing) m in
    numbered_for m.server at.place o.0 o.1 (asked_for who mic at (sending.name_under under m) aims.Slot (sending.slot_asked_in at.place call m.standing) m g)
sent_for who mic at (Make child name privilege) m g = asked_for who mic at (root_name m.standing) (aims.Child child) _ m g
sent_for who mic at (Finish ending) m g = ends_for who mic at ending m.standing m g
sent_for who mic at Again m g = again_for who mic at (awaited_at m at.place) m g

-- ---- as it is seen

one_of : (x y : wire.Sent) → Contains (y ∷ []) x → y ≡ x
one_of x y c = by c.0 c.1 c.2
  where
    by : (k : ℕ) → k < 1 → get_or (y ∷ []) k x ≡ x → y ≡ x
    by zero lt is = is
    by (suc k) lt is = absurd (omega arith)

none_of : {A : Type 0} (x : wire.Sent) → Contains [] x → A
none_of x c = let lt = c.1 in absurd (omega arith)

seen_for : (owner : End) (o : Option out.Sent) → IsFor owner o → (bytes : List ℕ) (seal : Seal) → Contains (out_of o) (record { bytes = bytes; seal = Some seal }) → seal.owner ≡ owner
seen_for owner None own bytes seal there = none_of _ there
seen_for owner (Some sent) own bytes seal there =
    let same = one_of (record { bytes = bytes; seal = Some seal }) (record { bytes = sent.bytes; seal = sent.seal }) there in
    own sent refl seal (ap (λ (s : wire.Sent). s.seal) same)

pub sealed_for : (who : Identity) (means : Means) (move : Move) (m : Mounted) → IsGood who m → (bytes : List ℕ) (seal : Seal)
    → wire.Sends (done means move m).shown bytes (Some seal) → seal.owner ≡ m.server
sealed_for who means (Sends at send) m g bytes seal there = seen_for m.server (sent_by means.mic at send m).0 (sent_for who means.mic at send m g) bytes seal there
sealed_for who means (Takes place message) m g bytes seal there = none_of _ there
sealed_for who means (GivesUp place) m g bytes seal there = none_of _ there
sealed_for who means (Forgets child) m g bytes seal there = none_of _ there
sealed_for who means Falls m g bytes seal there = none_of _ there
sealed_for who means Rests m g bytes seal there = none_of _ there
