-- What goes out of a mount is counted.
use Rattle.std.proofs.Common.{◌≡◌, ℕ, Bool, true, false, List, Option, Some, None, refl, ap, subst, ◌∙◌}
use Rattle.std.specs.Prelude.{nat_lt, slice_index_or}
use Rattle.std.proofs.lemmas.List.{get_or-set_other}
use Rattle.gss_ctx.specs.Calls.{Side}
use Rattle.gss_ctx.specs.Init.{init_message}
use Rattle.gss_ctx.specs.Seals.{Mic}
use Rattle.session_calls.specs.declared.slot_call.SlotCall.{SlotCall}
use Rattle.session_calls.specs.declared.sole_call.BackChannel.{BackChannel}
use Rattle.session_client.specs.Asked.{asked_call, called_if}
use Rattle.session_client.specs.Pending.{Asking, Beginning}
use Rattle.session_client.specs.Records.{IsCallOf}
use Rattle.session_client.specs.declared.asked.Asked.{Asked}
use Rattle.session_client.specs.declared.sealing.SealedCall.{SealedCall}
use Rattle.mount.specs.Laws.{Goes, Went}
use Rattle.mount.specs.Sending.{init_awaits, begun, begun_by, begun_anew, call_under, contexts_after, sealed_by, call_awaits, sent_under, sent_by, step_asked, stepped_in, slot_asked_in, numbered, slotted, child_asked, ending_call, ended_in, under_anew, pending_under, awaits_anew, out_anew, contexts_anew, pending_anew, sent_anew, sent_again}
use Rattle.mount.specs.State.{Mounted, awaited_at, context_of, kept_in, root_name}
use Rattle.mount.specs.declared.calling.Ending.{Ending}
use Rattle.mount.specs.declared.machine.SendAt.{SendAt}
use Rattle.mount.specs.declared.machine.Sent.{Sent}
use Rattle.mount.specs.declared.state.Aim.{Aim}
use Rattle.mount.specs.declared.state.Aim.TheVariants as aims
use Rattle.mount.specs.declared.state.Awaiting.{Awaiting}
use Rattle.mount.specs.declared.state.Context.{Context}
use Rattle.mount.specs.declared.state.Pending.{Pending}
use Rattle.mount.specs.declared.state.Pending.TheVariants as pendings
use Rattle.mount.specs.declared.state.Standing.{Standing}
use Rattle.mount.specs.declared.state.Standing.TheVariants.{Down, Rooted}

-- what callers' calls are: those under a context, and INIT
abbrev pub SealedAreCalls : Type 0
SealedAreCalls = (mic : Mic) (side : Side) (xid : ℕ) (asked : Asked) → IsCallOf xid (asked_call mic side xid asked).bytes

abbrev pub InitsAreCalls : Type 0
InitsAreCalls = (xid : ℕ) (token : List ℕ) → IsCallOf xid (init_message xid token)

-- ---- INIT

init_went : InitsAreCalls → (at : SendAt) (init : Beginning) (m w : Mounted) → w.places ≡ m.places → Went at m (init_awaits at init w)
init_went inits at init m w same = record {
  is_call = inits at.xid init.token;
  calls = refl;
  others = λ place other. get_or-set_other w.places at.place place _ None other ∙ ap (λ ps. slice_index_or ps place None) same;
}

pub begun_went : InitsAreCalls → (at : SendAt) (nonce : List ℕ) (token : Option (List ℕ)) (m : Mounted) → Went at m (begun at nonce token m)
begun_went inits at nonce None m = refl
begun_went inits at nonce (Some token) m = init_went inits at (record { nonce = nonce; token = token; xid = at.xid }) m (record m { standing = Down None }) refl

kept_went : InitsAreCalls → (at : SendAt) (kept : Option Beginning) (m : Mounted) → Went at m (begun_by at kept m)
kept_went inits at None m = refl
kept_went inits at (Some init) m = init_went inits at init m (record m { standing = Down None }) refl

pub anew_went : InitsAreCalls → (at : SendAt) (m : Mounted) → Went at m (begun_anew at m)
anew_went inits at m = kept_went inits at (kept_in m.standing) m

-- ---- a call under a context

called_is : SealedAreCalls → (b : Bool) (mic : Mic) (side : Side) (xid : ℕ) (asked : Asked) (call : SealedCall)
    → (called_if b mic side xid asked).0 ≡ Some call → IsCallOf xid call.bytes
called_is sealed true mic side xid asked call e =
    let same : asked_call mic side xid asked ≡ call = cc in
    subst (λ (c : SealedCall). IsCallOf xid c.bytes) same (sealed mic side xid asked)
called_is sealed false mic side xid asked call e = absurd cc

under_is : SealedAreCalls → (mic : Mic) (xid : ℕ) (asked : Asked) (found : Option Context) (call : SealedCall)
    → call_under mic xid asked found ≡ Some call → IsCallOf xid call.bytes
under_is sealed mic xid asked None call e = absurd cc
under_is sealed mic xid asked (Some c) call e = called_is sealed (nat_lt c.caller.next 2147483648) mic c.caller xid asked call e

-- where nothing is sealed, the contexts are as they were
contexts_same : (mic : Mic) (name xid : ℕ) (asked : Asked) (contexts : List Context) (found : Option Context)
    → call_under mic xid asked found ≡ None → contexts_after mic name xid asked found contexts ≡ contexts
contexts_same mic name xid asked contexts None e = refl
contexts_same mic name xid asked contexts (Some c) e = rw e refl

call_went : (at : SendAt) (context : ℕ) (aim : Aim) (asked : Asked) (told : Option SealedCall) (contexts : List Context) (m : Mounted)
    → ((call : SealedCall) → told ≡ Some call → IsCallOf at.xid call.bytes) → (told ≡ None → contexts ≡ m.contexts)
    → Went at m (call_awaits at context aim asked told (record m { contexts = contexts }))
call_went at context aim asked None contexts m is same = ap (λ (cs : List Context). let w : Mounted = record m { contexts = cs } in w) (same refl)
call_went at context aim asked (Some call) contexts m is same = record {
  is_call = is call refl;
  calls = refl;
  others = λ place other. get_or-set_other m.places at.place place _ None other;
}

under_went : SealedAreCalls → (mic : Mic) (at : SendAt) (context : ℕ) (aim : Aim) (asked : Asked) (m : Mounted) → Went at m (sent_under mic at context aim asked m)
under_went sealed mic at context aim asked m =
    call_went at context aim asked (sealed_by mic context at.xid asked m.contexts).0 (sealed_by mic context at.xid asked m.contexts).1 m
    (λ call e. under_is sealed mic at.xid asked (context_of context m.contexts) call e)
    (λ e. contexts_same mic context at.xid asked m.contexts (context_of context m.contexts) e)

by_went : SealedAreCalls → (mic : Mic) (at : SendAt) (context : Option ℕ) (aim : Aim) (asked : Option Asked) (m : Mounted) → Went at m (sent_by mic at context aim asked m)
by_went sealed mic at None aim asked m = refl
by_went sealed mic at (Some context) aim None m = refl
by_went sealed mic at (Some context) aim (Some asked) m = under_went sealed mic at context aim asked m

pub step_went : SealedAreCalls → (mic : Mic) (at : SendAt) (principal : List ℕ) (back : Option BackChannel) (standing : Standing) (m : Mounted)
    → Went at m (stepped_in mic at principal back standing m)
step_went sealed mic at principal back (Down kept) m = refl
step_went sealed mic at principal back (Rooted root) m = by_went sealed mic at (Some root.name) aims.Setup (step_asked principal back root.setup) m

numbered_went : (at : SendAt) (slot : ℕ) (m : Mounted) (sent : Option Sent) (w : Mounted) → Goes at m sent w → Went at m (numbered slot sent w)
numbered_went at slot m None w h = h
numbered_went at slot m (Some sent) w h = record { is_call = h.is_call; calls = h.calls; others = h.others }

pub slot_went : SealedAreCalls → (mic : Mic) (at : SendAt) (context : Option ℕ) (aim : Aim) (call : SlotCall) (m : Mounted) → Went at m (slotted mic at context aim call m)
slot_went sealed mic at context aim call m =
    numbered_went at at.place m (sent_by mic at context aim (slot_asked_in at.place call m.standing) m).0 (sent_by mic at context aim (slot_asked_in at.place call m.standing) m).1
    (by_went sealed mic at context aim (slot_asked_in at.place call m.standing) m)

pub child_went : SealedAreCalls → (mic : Mic) (at : SendAt) (child : ℕ) (name privilege : List ℕ) (m : Mounted) → Went at m (child_asked mic at child name privilege m)
child_went sealed mic at child name privilege m = by_went sealed mic at (root_name m.standing) (aims.Child child) (Some _) m

pub end_went : SealedAreCalls → (mic : Mic) (at : SendAt) (ending : Ending) (standing : Standing) (m : Mounted) → Went at m (ended_in mic at ending standing m)
end_went sealed mic at ending (Down kept) m = refl
end_went sealed mic at ending (Rooted root) m = by_went sealed mic at (Some root.name) aims.End (ending_call ending root.setup) m

-- ---- sent again

sealed_again : (at : SendAt) (context : ℕ) (aim : Aim) (call : Asking) (told : Option SealedCall) (contexts : List Context) (m : Mounted)
    → ((c : SealedCall) → told ≡ Some c → IsCallOf at.xid c.bytes)
    → Went at m (awaits_anew at (under_anew told) contexts (pending_under context aim call told) m)
sealed_again at context aim call None contexts m is = refl
sealed_again at context aim call (Some c) contexts m is = record {
  is_call = is c refl;
  calls = refl;
  others = λ place other. get_or-set_other m.places at.place place _ None other;
}

pending_went : InitsAreCalls → SealedAreCalls → (mic : Mic) (at : SendAt) (pending : Pending) (m : Mounted)
    → Went at m (awaits_anew at (out_anew mic at.xid m.contexts pending) (contexts_anew mic at.xid m.contexts pending) (pending_anew mic at.xid m.contexts pending) m)
pending_went inits sealed mic at (pendings.Init init) m = record {
  is_call = inits at.xid init.token;
  calls = refl;
  others = λ place other. get_or-set_other m.places at.place place _ None other;
}
pending_went inits sealed mic at (pendings.Under context aim call) m =
    sealed_again at context aim call (sealed_by mic context at.xid call.asked m.contexts).0 (sealed_by mic context at.xid call.asked m.contexts).1 m
    (λ c e. under_is sealed mic at.xid call.asked (context_of context m.contexts) c e)

awaiting_went : InitsAreCalls → SealedAreCalls → (mic : Mic) (at : SendAt) (a : Option Awaiting) (m : Mounted) → Went at m (sent_anew mic at a m)
awaiting_went inits sealed mic at None m = refl
awaiting_went inits sealed mic at (Some a) m = pending_went inits sealed mic at a.pending m

pub again_went : InitsAreCalls → SealedAreCalls → (mic : Mic) (at : SendAt) (m : Mounted) → Went at m (sent_again mic at m)
again_went inits sealed mic at m = awaiting_went inits sealed mic at (awaited_at m at.place) m
