-- A call goes out under a context that is there, whose numbers haven't run out.
use Rattle.std.proofs.Common.{◌≡◌, ◌⊎◌, inl, inr, ⊎_elim, ℕ, zero, suc, ◌+◌, ◌≤◌, Bool, true, false, List, [], ◌∷◌, get_or, replicate, slice_set, refl, sym, ap, subst}
use Rattle.std.proofs.lemmas.Bool.{le-leb, lt-ltb}
use Rattle.std.specs.Prelude.{◌&&◌, nat_le, is_none, is_some, length, if◌then◌else◌, IsSome, Option, Some, None, option_map}
use Rattle.copy_privs.specs.Forms.{privilege_name, privilege_spell}
use Rattle.copy_privs.specs.declared.privilege.Privilege.{Privilege}
use Rattle.dest_tasks.specs.declared.seats.TheConstants.{SEATS}
use Rattle.dest_tasks.specs.Tasks.{has_context}
use Rattle.dest_work.specs.Sending.{call_sent, confirm_sent, confirmed_under, created_by, is_down, privilege_of, step_by}
use Rattle.dest_work.specs.Work.{has_session, seen_from}
use Rattle.gss_ctx.specs.Seals.{Mic}
use Rattle.job_table.specs.declared.job.Plan.{Plan}
use Rattle.mount.specs.Sending.{begun_by, call_awaits, call_under, child_asked, contexts_after, numbered, sent_by, sent_under, session_in, slot_asked, slot_asked_in, step_asked, stepped_in}
use Rattle.mount.specs.State.{Mounted, child_name, context_of, kept_in, root_context, root_name, setup_in}
use Rattle.mount.specs.State as states
use Rattle.mount.specs.declared.machine.SendAt.{SendAt}
use Rattle.mount.specs.declared.machine.Sent.{Sent}
use Rattle.mount.specs.declared.state.Aim.{Aim}
use Rattle.mount.specs.declared.state.Aim.TheVariants as aims
use Rattle.mount.specs.declared.state.Context.{Context}
use Rattle.mount.specs.declared.state.Standing.{Standing}
use Rattle.mount.specs.declared.state.Standing.TheVariants.{Down, Rooted}
use Rattle.nfs_base.specs.declared.limits.TheConstants.{NAME_LIMIT, PRIVILEGE_LIMIT}
use Rattle.session_calls.specs.declared.slot_call.FileCall.{FileCall}
use Rattle.session_calls.specs.declared.slot_call.SlotCall.{SlotCall}
use Rattle.session_calls.specs.declared.slot_call.SlotCall.TheVariants.{OnFile}
use Rattle.session_client.specs.Asked.{called_if, create_args}
use Rattle.session_client.specs.Pending.{Beginning}
use Rattle.session_client.specs.declared.asked.Asked.{Asked}
use Rattle.session_client.specs.declared.asked.Asked.TheVariants.{Create}
use Rattle.session_client.specs.declared.sealing.SealedCall.{SealedCall}
use Rattle.session_client.specs.declared.setup.Setup.{Setup}
use Rattle.session_client.specs.declared.setup.Setup.TheVariants as setups
use Rattle.dest_laws.specs.Going.{CanCall, HasNext}

-- ---- under a context

called_some : (mic : Mic) (xid : ℕ) (asked : Asked) (found : Option Context) → HasNext found → IsSome (call_under mic xid asked found)
called_some mic xid asked None has = absurd has
called_some mic xid asked (Some c) has =
    subst (λ (left : Bool). IsSome (called_if left mic c.caller xid asked).0) (sym (lt-ltb c.caller.next 2147483648 has)) refl

awaits_some : (at : SendAt) (context : ℕ) (aim : Aim) (asked : Asked) (call : Option SealedCall) (m : Mounted) → IsSome call → IsSome (call_awaits at context aim asked call m).0
awaits_some at context aim asked None m some = absurd (cc)
awaits_some at context aim asked (Some call) m some = refl

under_some : (mic : Mic) (at : SendAt) (name : ℕ) (aim : Aim) (asked : Asked) (m : Mounted) → HasNext (context_of name m.contexts)
    → IsSome (sent_under mic at name aim asked m).0
under_some mic at name aim asked m has =
    awaits_some at name aim asked (call_under mic at.xid asked (context_of name m.contexts))
    (record m { contexts = contexts_after mic name at.xid asked (context_of name m.contexts) m.contexts }) (called_some mic at.xid asked (context_of name m.contexts) has)

by_some : (mic : Mic) (at : SendAt) (name : Option ℕ) (aim : Aim) (asked : Option Asked) (m : Mounted) → IsSome name → IsSome asked
    → ((n : ℕ) → name ≡ Some n → HasNext (context_of n m.contexts)) → IsSome (sent_by mic at name aim asked m).0
by_some mic at None aim asked m named some has = absurd (cc)
by_some mic at (Some name) aim None m named some has = absurd (cc)
by_some mic at (Some name) aim (Some asked) m named some has = under_some mic at name aim asked m (has name refl)

-- ---- a step of the setup

begun_some : (at : SendAt) (kept : Option Beginning) (m : Mounted) → is_none kept ≡ false → IsSome (begun_by at kept m).0
begun_some at None m is = absurd (cc)
begun_some at (Some init) m is = refl

asked_some : (me : List ℕ) (setup : Setup) → is_some (session_in setup) ≡ false → is_down setup ≡ false → IsSome (step_asked me None setup)
asked_some me setups.Down none up = absurd (cc)
asked_some me (setups.Rooted verifier) none up = refl
asked_some me (setups.Registered client sequence) none up = refl
asked_some me (setups.Joined client session) none up = absurd (cc)
asked_some me (setups.Up client session) none up = absurd (cc)

stepped_some : (mic : Mic) (at : SendAt) (me : List ℕ) (standing : Standing) (m : Mounted) → is_some (session_in (setup_in standing)) ≡ false
    → is_down (setup_in standing) ≡ false → ((n : ℕ) → root_name standing ≡ Some n → HasNext (context_of n m.contexts))
    → IsSome (stepped_in mic at me None standing m).0
stepped_some mic at me (Down kept) m none up has = absurd (cc)
stepped_some mic at me (Rooted root) m none up has =
    by_some mic at (Some root.name) aims.Setup (step_asked me None root.setup) m refl (asked_some me root.setup none up) has

pub setup_some : (mic : Mic) (at : SendAt) (me : List ℕ) (m : Mounted) (setup : Setup) → setup_in m.standing ≡ setup → is_some (session_in setup) ≡ false
    → (is_down setup && is_none (kept_in m.standing)) ≡ false → CanCall m → IsSome (step_by setup mic at me m).0
setup_some mic at me m setups.Down is none wants can = begun_some at (kept_in m.standing) m wants
setup_some mic at me m (setups.Rooted verifier) is none wants can =
    stepped_some mic at me m.standing m (ap (λ (s : Setup). is_some (session_in s)) is) (ap is_down is) can.root
setup_some mic at me m (setups.Registered client sequence) is none wants can =
    stepped_some mic at me m.standing m (ap (λ (s : Setup). is_some (session_in s)) is) (ap is_down is) can.root
setup_some mic at me m (setups.Joined client session) is none wants can = absurd (cc)
setup_some mic at me m (setups.Up client session) is none wants can = absurd (cc)

-- ---- CREATE

root_there : (standing : Standing) → is_some (session_in (setup_in standing)) ≡ true → IsSome (root_name standing)
root_there (Down kept) has = absurd (cc)
root_there (Rooted root) has = refl

if_so : {X : Type 0} (b : Bool) (x y : Option Sent × X) → b ≡ true → IsSome x.0 → IsSome (if b then x else y).0
if_so true x y is some = some
if_so false x y is some = absurd (cc)

next_there : (found : Option Context) → HasNext found → IsSome found
next_there None has = absurd has
next_there (Some c) has = refl

root_some : (name : Option ℕ) (contexts : List Context) → IsSome name → ((n : ℕ) → name ≡ Some n → HasNext (context_of n contexts)) → IsSome (states.named name contexts)
root_some None contexts there has = absurd (cc)
root_some (Some name) contexts there has = next_there (context_of name contexts) (has name refl)

created_some : (mic : Mic) (at : SendAt) (seat : ℕ) (privilege : Privilege) (m : Mounted) → length (privilege_spell privilege) ≤ PRIVILEGE_LIMIT
    → IsSome (root_name m.standing) → CanCall m → IsSome (created_by mic at seat privilege m).0
created_some mic at seat privilege m short there can =
    if_so (nat_le (length (privilege_spell privilege)) PRIVILEGE_LIMIT) (child_asked mic at seat (privilege_name privilege) (privilege_spell privilege) m) (None, m) (le-leb (length (privilege_spell privilege)) PRIVILEGE_LIMIT short)
    (by_some mic at (root_name m.standing) (aims.Child seat) (Some (Create (create_args (privilege_name privilege) (privilege_spell privilege)))) m there refl can.root)

under_root : (mic : Mic) (at : SendAt) (seat : ℕ) (plan : Plan) (root : Option Context) (m : Mounted) → IsSome root
    → ((c : Context) → root ≡ Some c → length (privilege_spell (privilege_of mic c.key plan)) ≤ PRIVILEGE_LIMIT)
    → IsSome (root_name m.standing) → CanCall m → IsSome (confirmed_under mic at seat plan root m).0
under_root mic at seat plan None m some short there can = absurd (cc)
under_root mic at seat plan (Some root) m some short there can = created_some mic at seat (privilege_of mic root.key plan) m (short root refl) there can

pub confirm_some : (mic : Mic) (at : SendAt) (seat : ℕ) (plan : Plan) (m : Mounted) → length plan.user ≤ NAME_LIMIT
    → ((c : Context) → root_context m ≡ Some c → length (privilege_spell (privilege_of mic c.key plan)) ≤ PRIVILEGE_LIMIT)
    → has_session m ≡ true → CanCall m → IsSome (confirm_sent mic at seat plan m).0
confirm_some mic at seat plan m user short session can =
    let there = root_there m.standing session in
    if_so (nat_le (length plan.user) NAME_LIMIT) (confirmed_under mic at seat plan (root_context m) m) (None, m) (le-leb (length plan.user) NAME_LIMIT user)
    (under_root mic at seat plan (root_context m) m (root_some (root_name m.standing) m.contexts there can.root) short there can)

-- ---- a call in a slot, under a child's context

mapped : {A B : Type 0} (f : A → B) (o : Option A) → is_some o ≡ true → IsSome (option_map f o)
mapped f None has = absurd (cc)
mapped f (Some a) has = refl

slot_some : (slot : ℕ) (call : SlotCall) (standing : Standing) → is_some (session_in (setup_in standing)) ≡ true → IsSome (slot_asked_in slot call standing)
slot_some slot call (Down kept) has = absurd (cc)
slot_some slot call (Rooted root) has = mapped (slot_asked slot root.numbers call) (session_in root.setup) has

numbered_some : (slot : ℕ) (sent : Option Sent) (m : Mounted) → IsSome sent → IsSome (numbered slot sent m).0
numbered_some slot None m some = absurd (cc)
numbered_some slot (Some sent) m some = refl

pub call_some : (mic : Mic) (at : SendAt) (seat : ℕ) (plan : Plan) (call : FileCall) (m : Mounted) → IsSome (child_name m seat) → has_session m ≡ true → CanCall m
    → IsSome (call_sent mic at seat plan call m).0
call_some mic at seat plan call m there session can =
    let asked = slot_asked_in at.place (OnFile plan.source call) m.standing in
    let sent = sent_by mic at (child_name m seat) aims.Slot asked m in
    numbered_some at.place sent.0 sent.1
    (by_some mic at (child_name m seat) aims.Slot asked m there (slot_some at.place (OnFile plan.source call) m.standing session) (λ n is. can.children seat n is))

-- ---- a context that is seen is there

set_so : (xs : List Bool) (i j : ℕ) (v : Bool) → get_or (slice_set xs i v) j false ≡ true → ((v ≡ true) × (i ≡ j)) ⊎ (get_or xs j false ≡ true)
set_so [] i j v is = inr is
set_so (x ∷ xs) zero zero v is = inl (is, refl)
set_so (x ∷ xs) zero (suc j) v is = inr is
set_so (x ∷ xs) (suc i) zero v is = inr is
set_so (x ∷ xs) (suc i) (suc j) v is =
    ⊎_elim (λ (h : (v ≡ true) × (i ≡ j)). inl (h.0, ap suc h.1)) (λ (h : get_or xs j false ≡ true). inr h) (set_so xs i j v is)

seen_so : (m : Mounted) (left from : ℕ) (seen : List Bool) (seat : ℕ) → get_or (seen_from m left from seen) seat false ≡ true
    → (get_or seen seat false ≡ true) ⊎ (is_some (child_name m seat) ≡ true)
unfolding seen_from
seen_so m zero from seen seat is = inl is
seen_so m (suc left) from seen seat is =
    ⊎_elim
    (λ (early : get_or (slice_set seen from (is_some (child_name m from))) seat false ≡ true). ⊎_elim
    (λ (here : (is_some (child_name m from) ≡ true) × (from ≡ seat)). inr (subst (λ (s : ℕ). is_some (child_name m s) ≡ true) here.1 here.0))
    (λ (before : get_or seen seat false ≡ true). inl before)
    (set_so seen from seat (is_some (child_name m from)) early))
    (λ (there : is_some (child_name m seat) ≡ true). inr there)
    (seen_so m left (from + 1) (slice_set seen from (is_some (child_name m from))) seat is)

none_seen : (n j : ℕ) → get_or (replicate n false) j false ≡ true → ⊥
none_seen zero j is = absurd (cc)
none_seen (suc n) zero is = absurd (cc)
none_seen (suc n) (suc j) is = none_seen n j is

pub seen_there : (m : Mounted) (seat : ℕ) → has_context (seen_from m SEATS 0 (replicate SEATS false)) (Some seat) ≡ true → IsSome (child_name m seat)
seen_there m seat is =
    ⊎_elim (λ (h : get_or (replicate SEATS false) seat false ≡ true). absurd (none_seen SEATS seat h)) (λ (h : is_some (child_name m seat) ≡ true). h)
    (seen_so m SEATS 0 (replicate SEATS false) seat is)
