-- What the steps of a mount leave at its places.
use Rattle.std.proofs.Common.{◌≡◌, ◌≢◌, ◌∙◌, ℕ, zero, suc, ◌<◌, Bool, true, false, List, [], ◌∷◌, length, map, get_or, set, get_or-set_same, get_or-set_other, Option, Some, None, refl, sym, ap, subst, inl, inr, ◌⊎◌}
use Rattle.std.specs.Prelude.{if◌then◌else◌, option_map}
use Rattle.std.proofs.lemmas.Bool.{cases_eq}
use Rattle.std.proofs.lemmas.List.{length-set, length-map}
use Rattle.client_copies.specs.Table.{Copies, copy_at}
use Rattle.client_copies.specs.declared.copy.ClientCopy.{ClientCopy}
use Rattle.client_laws.specs.Speaking.Places.{FitsCopy, FitsFirst, FitsOwn, IsPlaced}
use Rattle.client_site.specs.declared.site.OpenFile.{OpenFile}
use Rattle.client_site.specs.declared.site.Site.{Site}
use Rattle.gss_ctx.specs.Seals.{Mic}
use Rattle.mount.specs.Falling.{fallen, stays_pending, staying}
use Rattle.mount.specs.Sending.{begun, call_awaits, child_asked, numbered, numbered_in, out_anew, contexts_anew, pending_anew, pending_under, awaits_anew, sealed_by, sent_again, sent_anew, sent_by, slot_asked, slot_asked_in, slotted, slotted_by, session_in, step_asked, stepped_in}
use Rattle.mount.specs.State.{Mounted, awaited_at, awaiting_at, emptied, pending_at, pending_in, root_name}
use Rattle.mount.specs.declared.machine.SendAt.{SendAt}
use Rattle.mount.specs.declared.machine.Sent.{Sent}
use Rattle.mount.specs.declared.state.Aim.{Aim}
use Rattle.mount.specs.declared.state.Aim.TheVariants as aims
use Rattle.mount.specs.declared.state.Awaiting.{Awaiting}
use Rattle.mount.specs.declared.state.Context.{Context}
use Rattle.mount.specs.declared.state.Pending.{Pending}
use Rattle.mount.specs.declared.state.Pending.TheVariants.{Init, Under}
use Rattle.mount.specs.declared.state.Root.{Root}
use Rattle.mount.specs.declared.state.Standing.{Standing}
use Rattle.mount.specs.declared.state.Standing.TheVariants.{Down, Rooted}
use Rattle.nfs_base.specs.declared.side.Side.{Side}
use Rattle.session_calls.specs.Calls.{slot_compound}
use Rattle.session_calls.specs.declared.slot_call.SlotCall.{SlotCall}
use Rattle.session_calls.specs.declared.slot_call.SlotUse.{SlotUse}
use Rattle.session_calls.specs.declared.sole_call.BackChannel.{BackChannel}
use Rattle.session_client.specs.Asked.{create_args}
use Rattle.session_client.specs.Pending.{Asking, Beginning}
use Rattle.session_client.specs.Slots.{after_new}
use Rattle.session_client.specs.declared.asked.Asked.{Asked}
use Rattle.session_client.specs.declared.asked.Asked.TheVariants.{Compound, Create}
use Rattle.session_client.specs.declared.sealing.SealedCall.{SealedCall}
use Rattle.session_client.specs.declared.setup.Setup.TheVariants as setups

-- ---- lists of places

pub set_none : (l : List (Option Awaiting)) (n : ℕ) → get_or (set l n None) n None ≡ None
set_none [] zero = refl
set_none [] (suc n) = refl
set_none (x ∷ xs) zero = refl
set_none (x ∷ xs) (suc n) = set_none xs n

mapped_at : (l : List (Option Awaiting)) (n : ℕ) → get_or (map staying l) n None ≡ staying (get_or l n None)
mapped_at [] zero = refl
mapped_at [] (suc n) = refl
mapped_at (x ∷ xs) zero = refl
mapped_at (x ∷ xs) (suc n) = mapped_at xs n

pub some_is : {X : Type 0} (x y : X) → Some x ≡ Some y → x ≡ y
some_is x y e = cc

pub none_some : {X A : Type 0} (o : Option X) (x : X) → o ≡ None → o ≡ Some x → A
none_some o x none some =
    let both : None ≡ Some x = sym none ∙ some in
    absurd cc

-- what is awaited at an awaited place
pub record IsAwaited (o : Option Awaiting) (p : Pending) : Type 0 where
  pub a : Awaiting
  pub is : o ≡ Some a
  pub gives : a.pending ≡ p

pub awaited : (o : Option Awaiting) (p : Pending) → pending_in o ≡ Some p → IsAwaited o p
awaited None p e = absurd cc
awaited (Some a) p e = record { a = a; is = refl; gives = cc }

-- ---- one more is awaited

pub record Awaits (place : ℕ) (p : Pending) (m n : Mounted) : Type 0 where
  pub here : pending_at n place ≡ Some p
  pub others : (other : ℕ) → other ≢ place → pending_at n other ≡ pending_at m other
  pub many : length n.places ≡ length m.places

pub placed : (place : ℕ) (a : Awaiting) (m : Mounted) → place < length m.places → Awaits place a.pending m (awaiting_at place a m)
placed place a m lt = record {
  here = ap pending_in (get_or-set_same m.places place (Some a) None lt);
  others = λ other apart. ap pending_in (get_or-set_other m.places place other (Some a) None apart);
  many = length-set m.places place (Some a);
}

-- ---- a call under a context

record IsUnder (at : SendAt) (aim : Aim) (asked : Asked) (m n : Mounted) : Type 0 where
  context : ℕ
  asking : Asking
  asked_is : asking.asked ≡ asked
  awaits : Awaits at.place (Under context aim asking) m n
  standing : n.standing ≡ m.standing

under_goes : (at : SendAt) (context : ℕ) (aim : Aim) (asked : Asked) (o : Option SealedCall) (contexts : List Context) (m : Mounted) (sent : Sent) → at.place < length m.places
    → (call_awaits at context aim asked o (record m { contexts = contexts })).0 ≡ Some sent
    → IsUnder at aim asked m (call_awaits at context aim asked o (record m { contexts = contexts })).1
under_goes at context aim asked None contexts m sent lt e = absurd cc
under_goes at context aim asked (Some call) contexts m sent lt e =
    let a : Awaiting = record { sent_at = at.now; pending = Under context aim (record { asked = asked; seal = call.seal; awaited = call.awaited }) } in
    let x = placed at.place a m lt in
    record {
      context = context;
      asking = record { asked = asked; seal = call.seal; awaited = call.awaited };
      asked_is = refl;
      awaits = record { here = x.here; others = x.others; many = x.many };
      standing = refl;
    }

by_goes : (mic : Mic) (at : SendAt) (name : Option ℕ) (aim : Aim) (asked : Asked) (m : Mounted) (sent : Sent) → at.place < length m.places
    → (sent_by mic at name aim (Some asked) m).0 ≡ Some sent → IsUnder at aim asked m (sent_by mic at name aim (Some asked) m).1
by_goes mic at None aim asked m sent lt e = absurd cc
by_goes mic at (Some context) aim asked m sent lt e =
    under_goes at context aim asked (sealed_by mic context at.xid asked m.contexts).0 (sealed_by mic context at.xid asked m.contexts).1 m sent lt e

-- ---- a call in a slot

pub record IsSlotted (at : SendAt) (aim : Aim) (call : SlotCall) (m n : Mounted) : Type 0 where
  pub context : ℕ
  pub asking : Asking
  pub slot : SlotUse
  pub asked_is : asking.asked ≡ Compound (slot_compound slot call)
  pub awaits : Awaits at.place (Under context aim asking) m n
  pub root : Root
  pub was : m.standing ≡ Rooted root
  pub new : Root
  pub is : n.standing ≡ Rooted new
  pub setup : new.setup ≡ root.setup

numbered_goes : (at : SendAt) (aim : Aim) (asked : Asked) (slot : SlotUse) (call : SlotCall) (root : Root) (m : Mounted) (o : Option Sent × Mounted) (told : Option Sent) (sent : Sent)
    → m.standing ≡ Rooted root → asked ≡ Compound (slot_compound slot call) → ((s : Sent) → o.0 ≡ Some s → IsUnder at aim asked m o.1) → o.0 ≡ told → (numbered at.place told o.1).0 ≡ Some sent
    → IsSlotted at aim call m (numbered at.place told o.1).1
numbered_goes at aim asked slot call root m o None sent was asks goes is e = absurd cc
numbered_goes at aim asked slot call root m o (Some s) sent was asks goes is e =
    let u = goes s is in
    record {
      context = u.context;
      asking = u.asking;
      slot = slot;
      asked_is = u.asked_is ∙ asks;
      awaits = record { here = u.awaits.here; others = u.awaits.others; many = u.awaits.many };
      root = root;
      was = was;
      new = record root { numbers = after_new root.numbers at.place };
      is = ap (numbered_in at.place) (u.standing ∙ was);
      setup = refl;
    }

slot_in : (mic : Mic) (at : SendAt) (name : Option ℕ) (aim : Aim) (call : SlotCall) (root : Root) (o : Option (List ℕ)) (m : Mounted) (sent : Sent) → at.place < length m.places
    → m.standing ≡ Rooted root → (slotted_by at.place (sent_by mic at name aim (option_map (slot_asked at.place root.numbers call) o) m)).0 ≡ Some sent
    → IsSlotted at aim call m (slotted_by at.place (sent_by mic at name aim (option_map (slot_asked at.place root.numbers call) o) m)).1
slot_in mic at None aim call root None m sent lt was e = absurd cc
slot_in mic at (Some context) aim call root None m sent lt was e = absurd cc
slot_in mic at name aim call root (Some session) m sent lt was e =
    let asked = slot_asked at.place root.numbers call session in
    let o = sent_by mic at name aim (Some asked) m in
    numbered_goes at aim asked _ call root m o o.0 sent was refl (λ s gone. by_goes mic at name aim asked m s lt gone) refl e

slot_by : (mic : Mic) (at : SendAt) (name : Option ℕ) (aim : Aim) (call : SlotCall) (st : Standing) (m : Mounted) (sent : Sent) → at.place < length m.places → m.standing ≡ st
    → (slotted_by at.place (sent_by mic at name aim (slot_asked_in at.place call st) m)).0 ≡ Some sent
    → IsSlotted at aim call m (slotted_by at.place (sent_by mic at name aim (slot_asked_in at.place call st) m)).1
slot_by mic at None aim call (Down kept) m sent lt was e = absurd cc
slot_by mic at (Some context) aim call (Down kept) m sent lt was e = absurd cc
slot_by mic at name aim call (Rooted root) m sent lt was e = slot_in mic at name aim call root (session_in root.setup) m sent lt was e

pub slot_goes : (mic : Mic) (at : SendAt) (name : Option ℕ) (aim : Aim) (call : SlotCall) (m : Mounted) (sent : Sent) → at.place < length m.places
    → (slotted mic at name aim call m).0 ≡ Some sent → IsSlotted at aim call m (slotted mic at name aim call m).1
slot_goes mic at name aim call m sent lt e = slot_by mic at name aim call m.standing m sent lt refl e

-- ---- a call that makes a child, or sets up

pub record IsCalled (at : SendAt) (aim : Aim) (m n : Mounted) : Type 0 where
  pub context : ℕ
  pub asking : Asking
  pub awaits : Awaits at.place (Under context aim asking) m n
  pub standing : n.standing ≡ m.standing
  pub rooted : root_name m.standing ≡ None → ⊥

pub rooted_by : (name : Option ℕ) (mic : Mic) (at : SendAt) (aim : Aim) (asked : Asked) (m : Mounted) (sent : Sent) → at.place < length m.places → root_name m.standing ≡ name
    → (sent_by mic at name aim (Some asked) m).0 ≡ Some sent → IsCalled at aim m (sent_by mic at name aim (Some asked) m).1
rooted_by None mic at aim asked m sent lt is e = absurd cc
rooted_by (Some context) mic at aim asked m sent lt is e =
    let u = by_goes mic at (Some context) aim asked m sent lt e in
    record { context = u.context; asking = u.asking; awaits = u.awaits; standing = u.standing; rooted = λ none. none_some (root_name m.standing) context none is }

pub child_goes : (mic : Mic) (at : SendAt) (child : ℕ) (name privilege : List ℕ) (m : Mounted) (sent : Sent) → at.place < length m.places
    → (child_asked mic at child name privilege m).0 ≡ Some sent → IsCalled at (aims.Child child) m (child_asked mic at child name privilege m).1
child_goes mic at child name privilege m sent lt e = rooted_by (root_name m.standing) mic at (aims.Child child) (Create (create_args name privilege)) m sent lt refl e

step_in : (mic : Mic) (at : SendAt) (root : Root) (o : Option Asked) (m : Mounted) (sent : Sent) → at.place < length m.places → m.standing ≡ Rooted root
    → (sent_by mic at (Some root.name) aims.Setup o m).0 ≡ Some sent → IsCalled at aims.Setup m (sent_by mic at (Some root.name) aims.Setup o m).1
step_in mic at root None m sent lt was e = absurd cc
step_in mic at root (Some asked) m sent lt was e = rooted_by (Some root.name) mic at aims.Setup asked m sent lt (ap root_name was) e

step_by : (mic : Mic) (at : SendAt) (principal : List ℕ) (back : Option BackChannel) (st : Standing) (m : Mounted) (sent : Sent) → at.place < length m.places → m.standing ≡ st
    → (stepped_in mic at principal back st m).0 ≡ Some sent → IsCalled at aims.Setup m (stepped_in mic at principal back st m).1
step_by mic at principal back (Down kept) m sent lt was e = absurd cc
step_by mic at principal back (Rooted root) m sent lt was e = step_in mic at root (step_asked principal back root.setup) m sent lt was e

pub step_goes : (mic : Mic) (at : SendAt) (principal : List ℕ) (back : Option BackChannel) (m : Mounted) (sent : Sent) → at.place < length m.places
    → (stepped_in mic at principal back m.standing m).0 ≡ Some sent → IsCalled at aims.Setup m (stepped_in mic at principal back m.standing m).1
step_goes mic at principal back m sent lt e = step_by mic at principal back m.standing m sent lt refl e

-- ---- what a side keeps

-- a root's setup isn't down
abbrev pub IsUp : Mounted → Type 0
IsUp m = (root : Root) → m.standing ≡ Rooted root → root.setup ≡ setups.Down → ⊥

abbrev pub IsIdle : Mounted → Type 0
IsIdle m = root_name m.standing ≡ None → (place context : ℕ) (aim : Aim) (asking : Asking) → pending_at m place ≡ Some (Under context aim asking) → ⊥

pub rooted_idle : (m : Mounted) → (root_name m.standing ≡ None → ⊥) → IsIdle m
rooted_idle m rooted none = absurd (rooted none)

abbrev pub FitsAt : Side → List OpenFile → Copies → ℕ → Pending → Type 0
FitsAt side files t place p = (place ≡ 0 → FitsFirst p) × ((place ≡ 0 → ⊥) → FitsCopy side files (copy_at place t) p)

-- with one more awaited; only the copy of that place may have changed
pub placed_more : (side : Side) (s : Site) (n : Mounted) (t u : Copies) (place : ℕ) (p : Pending) → IsPlaced side s t → Awaits place p s.mount n → FitsAt side s.files u place p
    → ((j : ℕ) → j ≢ place → copy_at j u ≡ copy_at j t) → IsUp n → IsIdle n → IsPlaced side (record s { mount = n }) u
placed_more side s n t u place p old x fits same up idle = record {
  many = x.many ∙ old.many;
  up = up;
  down = idle;
  first = λ q is. by_first q is (cases_eq 0 place);
  others = λ j some q is. by_other j some q is (cases_eq j place);
}
  where
    by_first : (q : Pending) → pending_at n 0 ≡ Some q → (0 ≡ place) ⊎ (0 ≢ place) → FitsFirst q
    by_first q is (inl here) = subst FitsFirst (some_is p q (sym x.here ∙ sym (ap (pending_at n) here) ∙ is)) (fits.0 (sym here))
    by_first q is (inr apart) = old.first q (sym (x.others 0 apart) ∙ is)

    by_other : (j : ℕ) → (j ≡ 0 → ⊥) → (q : Pending) → pending_at n j ≡ Some q → (j ≡ place) ⊎ (j ≢ place) → FitsCopy side s.files (copy_at j u) q
    by_other j some q is (inl here) =
        subst (FitsCopy side s.files (copy_at j u)) (some_is p q (sym x.here ∙ sym (ap (pending_at n) here) ∙ is))
        (subst (λ (i : ℕ). FitsCopy side s.files (copy_at i u) p) (sym here) (fits.1 (λ zero. some (here ∙ zero))))
    by_other j some q is (inr apart) =
        subst (λ (o : Option ClientCopy). FitsCopy side s.files o q) (sym (same j apart)) (old.others j some q (sym (x.others j apart) ∙ is))

-- with fewer awaited
abbrev pub IsLess : Mounted → Mounted → Type 0
IsLess m n = (j : ℕ) (p : Pending) → pending_at n j ≡ Some p → pending_at m j ≡ Some p

pub placed_fewer : (side : Side) (s : Site) (n : Mounted) (t : Copies) → IsPlaced side s t → length n.places ≡ length s.mount.places → IsLess s.mount n → IsUp n → IsIdle n
    → IsPlaced side (record s { mount = n }) t
placed_fewer side s n t old many less up idle = record {
  many = many ∙ old.many;
  up = up;
  down = idle;
  first = λ p is. old.first p (less 0 p is);
  others = λ j some p is. old.others j some p (less j p is);
}

-- ---- a place is emptied, or a mount falls

pub emptied_gone : (place : ℕ) (m : Mounted) → pending_at (emptied place m) place ≡ None
emptied_gone place m = ap pending_in (set_none m.places place)

pub emptied_less : (place : ℕ) (m : Mounted) → IsLess m (emptied place m)
emptied_less place m j p is = by (cases_eq j place)
  where
    by : (j ≡ place) ⊎ (j ≢ place) → pending_at m j ≡ Some p
    by (inl here) = none_some (pending_at (emptied place m) place) p (emptied_gone place m) (sym (ap (pending_at (emptied place m)) here) ∙ is)
    by (inr apart) = sym (ap pending_in (get_or-set_other m.places place j None None apart)) ∙ is

pub emptied_many : (place : ℕ) (m : Mounted) → length (emptied place m).places ≡ length m.places
emptied_many place m = length-set m.places place None

staying_if : (b : Bool) (a : Awaiting) (p : Pending) → pending_in (if b then Some a else None) ≡ Some p → pending_in (Some a) ≡ Some p
staying_if true a p is = is
staying_if false a p is = absurd cc

staying_was : (o : Option Awaiting) (p : Pending) → pending_in (staying o) ≡ Some p → pending_in o ≡ Some p
staying_was None p is = is
staying_was (Some a) p is = staying_if (stays_pending a.pending) a p is

pub fallen_less : (m : Mounted) → IsLess m (fallen m)
fallen_less m j p is = staying_was (awaited_at m j) p (sym (ap pending_in (mapped_at m.places j)) ∙ is)

pub fallen_many : (m : Mounted) → length (fallen m).places ≡ length m.places
fallen_many m = length-map m.places staying

pub down_up : (m : Mounted) (kept : Option Beginning) → m.standing ≡ Down kept → IsUp m
down_up m kept is root e down =
    let both : Down kept ≡ Rooted root = sym is ∙ e in
    absurd cc

-- ---- INIT goes out

pub begin_placed : (side : Side) (s : Site) (t : Copies) (at : SendAt) (nonce token : List ℕ) → at.place ≡ 0 → IsPlaced side s t → root_name s.mount.standing ≡ None → 0 < length s.mount.places
    → IsPlaced side (record s { mount = (begun at nonce (Some token) s.mount).1 }) t
begin_placed side s t at nonce token place old none lt =
    let init : Beginning = record { nonce = nonce; token = token; xid = at.xid } in
    let m = s.mount in
    let n = (begun at nonce (Some token) m).1 in
    let here_lt : at.place < length m.places = subst (λ (k : ℕ). k < length m.places) (sym place) lt in
    let x = placed at.place (record { sent_at = at.now; pending = Init init }) m here_lt in
    let y : Awaits at.place (Init init) m n = record { here = x.here; others = x.others; many = x.many } in
    placed_more side s n t t at.place (Init init) old y (λ e. tt, λ some. absurd (some place)) (λ j apart. refl) (down_up n None refl)
    (λ down other context aim asking is. idle other context aim asking is (cases_eq other at.place))
  where
    idle : (other context : ℕ) (aim : Aim) (asking : Asking) → pending_at (begun at nonce (Some token) s.mount).1 other ≡ Some (Under context aim asking) → (other ≡ at.place) ⊎ (other ≢ at.place) → ⊥
    idle other context aim asking is (inl here) =
        let here_lt : at.place < length s.mount.places = subst (λ (k : ℕ). k < length s.mount.places) (sym place) lt in
        let x = placed at.place (record { sent_at = at.now; pending = Init (record { nonce = nonce; token = token; xid = at.xid }) }) s.mount here_lt in
        let there : pending_at (begun at nonce (Some token) s.mount).1 at.place ≡ Some (Init (record { nonce = nonce; token = token; xid = at.xid })) = x.here in
        let both : Some (Init (record { nonce = nonce; token = token; xid = at.xid })) ≡ Some (Under context aim asking) = sym there ∙ sym (ap (pending_at (begun at nonce (Some token) s.mount).1) here) ∙ is in
        absurd cc
    idle other context aim asking is (inr apart) =
        old.down none other context aim asking (sym (ap pending_in (get_or-set_other s.mount.places at.place other _ None apart)) ∙ is)

-- ---- what is awaited goes out once more

pub record Alike (p q : Pending) : Type 0 where
  pub first : FitsFirst p → FitsFirst q
  pub own : (side : Side) (files : List OpenFile) (c : ClientCopy) → FitsOwn side files c p → FitsOwn side files c q
  pub under : (context : ℕ) (aim : Aim) (asking : Asking) → q ≡ Under context aim asking → (was : Asking) × (p ≡ Under context aim was) × (asking.asked ≡ was.asked)

same_asked : (context : ℕ) (aim : Aim) (call : Asking) (sealed : SealedCall) (k : ℕ) (other : Aim) (asking : Asking)
    → Under context aim (record { asked = call.asked; seal = sealed.seal; awaited = sealed.awaited }) ≡ Under k other asking
    → (was : Asking) × (Under context aim call ≡ Under k other was) × (asking.asked ≡ was.asked)
same_asked context aim call sealed k other asking e =
    let is : ◌≡◌ {A = Asking} (record { asked = call.asked; seal = sealed.seal; awaited = sealed.awaited }) asking = cc in
    (call, cc, sym (ap (λ (x : Asking). x.asked) is))

alike_call : (context : ℕ) (aim : Aim) (call : Asking) (sealed : SealedCall)
    → Alike (Under context aim call) (Under context aim (record { asked = call.asked; seal = sealed.seal; awaited = sealed.awaited }))
alike_call context aims.Setup call sealed = record { first = λ f. f; own = λ side files c f. f; under = λ k aim asking e. same_asked context aims.Setup call sealed k aim asking e }
alike_call context aims.Slot call sealed = record { first = λ f. f; own = λ side files c f. f; under = λ k aim asking e. same_asked context aims.Slot call sealed k aim asking e }
alike_call context (aims.Child child) call sealed = record { first = λ f. f; own = λ side files c f. f; under = λ k aim asking e. same_asked context (aims.Child child) call sealed k aim asking e }
alike_call context aims.End call sealed = record { first = λ f. f; own = λ side files c f. f; under = λ k aim asking e. same_asked context aims.End call sealed k aim asking e }

alike_under : (context : ℕ) (aim : Aim) (call : Asking) (o : Option SealedCall) → Alike (Under context aim call) (pending_under context aim call o)
alike_under context aim call None = record { first = λ f. f; own = λ side files c f. f; under = λ k other asking e. (asking, e, refl) }
alike_under context aim call (Some sealed) = alike_call context aim call sealed

pub alike_anew : (mic : Mic) (xid : ℕ) (contexts : List Context) (p : Pending) → Alike p (pending_anew mic xid contexts p)
alike_anew mic xid contexts (Init init) = record { first = λ f. f; own = λ side files c f. f; under = λ k aim asking e. absurd cc }
alike_anew mic xid contexts (Under context aim call) = alike_under context aim call (sealed_by mic context xid call.asked contexts).0

module _ (side : Side) (s : Site) (t : Copies) (old : IsPlaced side s t) (mic : Mic) (at : SendAt) (within : at.place < length s.mount.places) where
  anew_placed : (a : Awaiting) (out : Option Sent) (contexts : List Context) (q : Pending) → awaited_at s.mount at.place ≡ Some a → Alike a.pending q
      → IsPlaced side (record s { mount = (awaits_anew at out contexts q s.mount).1 }) t
  anew_placed a None contexts q is alike = old
  anew_placed a (Some sent) contexts q is alike =
      let m = s.mount in
      let n = (awaits_anew at (Some sent) contexts q m).1 in
      let x = placed at.place (record { sent_at = at.now; pending = q }) m within in
      let y : Awaits at.place q m n = record { here = x.here; others = x.others; many = x.many } in
      let was : pending_at m at.place ≡ Some a.pending = ap pending_in is in
      placed_more side s n t t at.place q old y (
        λ here. alike.first (old.first a.pending (sym (ap (pending_at m) here) ∙ was)),
        λ some. let f = old.others at.place some a.pending was in record { own = f.own; own_is = f.own_is; fits = alike.own side s.files f.own f.fits },
      ) (λ j apart. refl) old.up
      (λ none place context aim asking there. idle a q was alike y none place context aim asking there (cases_eq place at.place))
    where
      idle : (a : Awaiting) (q : Pending) → pending_at s.mount at.place ≡ Some a.pending → Alike a.pending q → {n : Mounted} → Awaits at.place q s.mount n → root_name s.mount.standing ≡ None
          → (place context : ℕ) (aim : Aim) (asking : Asking) → pending_at n place ≡ Some (Under context aim asking) → (place ≡ at.place) ⊎ (place ≢ at.place) → ⊥
      idle a q was alike {n} y none place context aim asking there (inl here) =
          let same = some_is q (Under context aim asking) (sym y.here ∙ sym (ap (pending_at n) here) ∙ there) in
          let u = alike.under context aim asking same in
          old.down none at.place context aim u.0 (was ∙ ap (λ (p : Pending). Some p) u.1)
      idle a q was alike y none place context aim asking there (inr apart) = old.down none place context aim asking (sym (y.others place apart) ∙ there)

  again_by : (o : Option Awaiting) → awaited_at s.mount at.place ≡ o → IsPlaced side (record s { mount = (sent_anew mic at o s.mount).1 }) t
  again_by None is = old
  again_by (Some a) is = anew_placed a (out_anew mic at.xid s.mount.contexts a.pending) (contexts_anew mic at.xid s.mount.contexts a.pending)
      (pending_anew mic at.xid s.mount.contexts a.pending) is (alike_anew mic at.xid s.mount.contexts a.pending)

  pub again_placed : IsPlaced side (record s { mount = (sent_again mic at s.mount).1 }) t
  again_placed = again_by (awaited_at s.mount at.place) refl
