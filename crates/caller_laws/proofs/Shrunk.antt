-- A mount to which nothing came is as it should be if it was so before, and shows a wire nothing new.
use Rattle.std.proofs.Common.{◌≡◌, inl, ℕ, ◌≤◌, true, false, List, length, Option, Some, None, refl, sym, ap, subst, ◌∙◌, arith}
use Rattle.std.specs.Prelude.{Contains, option_map, slice_index}
use Rattle.nfs_base.specs.declared.seal.Seal.{Seal}
use Rattle.nfs_compound.specs.Compounds.{compound_bytes}
use Rattle.nfs_compound.specs.declared.compound.Compound.{Compound}
use Rattle.session_client.specs.Pending.{Asking, Beginning}
use Rattle.session_client.specs.declared.asked.Asked.{Asked}
use Rattle.session_client.specs.declared.asked.Asked.TheVariants as asks
use Rattle.session_client.specs.declared.setup.Setup.TheVariants as setups
use Rattle.mount.specs.Falling.{stays_for}
use Rattle.mount.specs.State.{Mounted, awaited_at, child_name, kept_in, pending_at, pending_in, root_name}
use Rattle.mount.specs.declared.state.Aim.{Aim}
use Rattle.mount.specs.declared.state.Awaiting.{Awaiting}
use Rattle.mount.specs.declared.state.Context as held
use Rattle.mount.specs.declared.state.Pending.{Pending}
use Rattle.mount.specs.declared.state.Pending.TheVariants.{Init, Under}
use Rattle.mount.specs.declared.state.Root.{Root}
use Rattle.mount.specs.declared.state.Standing.{Standing}
use Rattle.mount.specs.declared.state.Standing.TheVariants.{Down, Rooted}
use Rattle.wire_model.specs.CallerLaws.{CallerLaws, LearnsRoot}
use Rattle.wire_model.specs.Spelling.{Context, SlotName}
use Rattle.wire_model.specs.Wire.{Acts, Awaited, Call, Purpose, Sent, What, Begins, Slotted, context_of}
use Rattle.wire_spelling.specs.Slots.{first_slot}
use Rattle.wire_spelling.specs.Spelling.{spelling}
use Rattle.caller_laws.specs.Good.{Identity, IsAsked, IsFair, IsGood, IsNumbered, IsOwnToken}
use Rattle.caller_laws.specs.Lawful.{GoesOn}
use Rattle.caller_laws.specs.View.{Above, Face, awaited_in, caller_of, face_of, handle_named, has_in, mount_in, next_in, purpose_of, root_seen, what_asked, what_named, what_under}
use Rattle.caller_laws.proofs.Faces.{held_found, some_is}

-- ---- what is seen to be awaited

pub record IsMapped {A B : Type 0} (f : A → B) (o : Option A) (y : B) : Type 0 where
  pub from : A
  pub was : o ≡ Some from
  pub gives : f from ≡ y

pub mapped : {A B : Type 0} (f : A → B) (o : Option A) (y : B) → option_map f o ≡ Some y → IsMapped f o y
mapped f None y h = absurd cc
mapped f (Some x) y h = record { from = x; was = refl; gives = some_is (f x) y h }

pub record IsAwaiting (o : Option Awaiting) (p : Pending) : Type 0 where
  pub a : Awaiting
  pub is : o ≡ Some a
  pub pending : a.pending ≡ p

pub awaiting_of : (o : Option Awaiting) (p : Pending) → pending_in o ≡ Some p → IsAwaiting o p
awaiting_of None p h = absurd cc
awaiting_of (Some a) p h = record { a = a; is = refl; pending = some_is a.pending p h }

abbrev pub seen : ℕ → What → Awaited
seen xid what = record { xid = xid; what = what }

pub awaited_same : (p : Pending) (xs ys : List held.Context) (purpose other : Purpose) → purpose ≡ other
    → ((context : ℕ) (aim : Aim) (call : Asking) → p ≡ Under context aim call → face_of context xs ≡ face_of context ys)
    → awaited_in xs purpose p ≡ awaited_in ys other p
awaited_same (Init init) xs ys purpose other same faces = refl
awaited_same (Under context aim call) xs ys purpose other same faces =
    ap (λ (f : Option Face). seen call.awaited.xid (what_under f call.seal (purpose_of aim purpose) call.asked)) (faces context aim call refl)
    ∙ ap (λ (q : Purpose). seen call.awaited.xid (what_under (face_of context ys) call.seal (purpose_of aim q) call.asked)) same

-- ---- a slot's call is awaited in the place of its slot, under a context that is held

named_held : (place : ℕ) (seal seal' : Seal) (root : Context) (ops : List ℕ) (purpose : Purpose) (call : Call) (name : Option SlotName)
    → what_named seal root ops purpose name ≡ Slotted seal' call → ((n : SlotName) → name ≡ Some n → n.slot ≡ place)
    → (place ≡ call.slot) × (seal ≡ seal') × (root ≡ call.root)
named_held place seal seal' root ops purpose call None h slot = absurd cc
named_held place seal seal' root ops purpose call (Some name) h slot =
    let made : Call = record { root = root; slot = name.slot; number = name.number; ops = ops; purpose = purpose } in
    let calls : made ≡ call = cc in
    let seals : seal ≡ seal' = cc in
    (sym (slot name refl) ∙ ap (λ (c : Call). c.slot) calls, seals, ap (λ (c : Call). c.root) calls)

asked_held : (place : ℕ) (k : Asking) (root : Context) (purpose : Purpose) (seal : Seal) (call : Call) (asked : Asked)
    → what_asked k.seal root purpose asked ≡ Slotted seal call → ((c : Compound) → asked ≡ asks.Compound c → (n : SlotName) → first_slot c.ops ≡ Some n → n.slot ≡ place)
    → (place ≡ call.slot) × (k.seal ≡ seal) × (root ≡ call.root)
asked_held place k root purpose seal call (asks.Compound c) h slot =
    named_held place k.seal seal root (compound_bytes c) purpose call (first_slot c.ops) h (slot c refl)
asked_held place k root purpose seal call (asks.Create args) h slot = absurd cc
asked_held place k root purpose seal call asks.Destroy h slot = absurd cc

slot_held : (who : Identity) (m : Mounted) (place xid : ℕ) (purpose : Purpose) (seal : Seal) (call : Call) (p : Pending) → IsFair who m place p
    → awaited_in m.contexts purpose p ≡ record { xid = xid; what = Slotted seal call }
    → (place ≡ call.slot) × (has_in m.contexts (context_of seal) call.root ≡ true)
slot_held who m place xid purpose seal call (Init init) fair h =
    let same : Begins ≡ Slotted seal call = ap (λ (a : Awaited). a.what) h in
    absurd cc
slot_held who m place xid purpose seal call (Under context aim k) fair h =
    let what : what_under (face_of context m.contexts) k.seal (purpose_of aim purpose) k.asked ≡ Slotted seal call = ap (λ (a : Awaited). a.what) h in
    let seen : what_asked k.seal (handle_named fair.face.root) (purpose_of aim purpose) k.asked ≡ Slotted seal call =
    ap (λ (f : Option Face). what_under f k.seal (purpose_of aim purpose) k.asked) (sym fair.there) ∙ what in
    let told = asked_held place k (handle_named fair.face.root) (purpose_of aim purpose) seal call k.asked seen (slot_named place k.asked fair.asked) in
    let found = held_found m.contexts context fair.face fair.there in (
      told.0,
      subst (λ (c : Context). has_in m.contexts c call.root ≡ true) (sym fair.under ∙ ap context_of told.1)
          (subst (λ (r : Context). has_in m.contexts (handle_named fair.face.handle) r ≡ true) told.2 found),
    )
  where
    slot_named : (place : ℕ) (asked : Asked) → IsAsked place asked → (c : Compound) → asked ≡ asks.Compound c → (n : SlotName) → first_slot c.ops ≡ Some n → n.slot ≡ place
    slot_named place asked ours c is n named = (subst (IsAsked place) is ours).slot n named

pub in_slot : (who : Identity) (above : Above) (m : Mounted) (place xid : ℕ) (seal : Seal) (call : Call) → IsGood who m
    → (caller_of above m).awaits place ≡ Some (record { xid = xid; what = Slotted seal call })
    → (place ≡ call.slot) × (has_in m.contexts (context_of seal) call.root ≡ true)
in_slot who above m place xid seal call g h =
    let it = mapped (awaited_in m.contexts (above.purpose place)) (pending_at m place) (record { xid = xid; what = Slotted seal call }) h in
    slot_held who m place xid (above.purpose place) seal call it.from (g.fair place it.from it.was) it.gives

-- ---- nothing came

-- the root that is there was there, with its numbers
pub record StaysRooted (m w : Mounted) (r : Root) : Type 0 where
  pub was : Root
  pub is : m.standing ≡ Rooted was
  pub name : r.name ≡ was.name
  pub numbers : r.numbers ≡ was.numbers
  pub set_up : r.setup ≡ setups.Down → was.setup ≡ setups.Down
  pub face : face_of r.name w.contexts ≡ face_of r.name m.contexts

pub record Shrinks (who : Identity) (m w : Mounted) : Type 0 where
  pub server : w.server ≡ m.server
  pub calls : w.calls ≡ m.calls
  pub places : length w.places ≡ length m.places
  pub faces : (name : ℕ) (f : Face) → face_of name w.contexts ≡ Some f → face_of name m.contexts ≡ Some f
  pub holds : (context root : Context) → has_in w.contexts context root ≡ true → has_in m.contexts context root ≡ true
  pub awaited : (place : ℕ) (p : Pending) → pending_at w place ≡ Some p → pending_at m place ≡ Some p
  pub under : (place context : ℕ) (aim : Aim) (call : Asking) → pending_at w place ≡ Some (Under context aim call) → face_of context w.contexts ≡ face_of context m.contexts
  pub aims : (place context : ℕ) (aim : Aim) (call : Asking) → pending_at w place ≡ Some (Under context aim call) → stays_for aim ≡ false
      → root_name w.standing ≡ root_name m.standing
  pub standing : (r : Root) → w.standing ≡ Rooted r → StaysRooted m w r
  pub children : (child name : ℕ) → child_name w child ≡ Some name → child_name m child ≡ Some name
  pub kept : (init : Beginning) → kept_in w.standing ≡ Some init → IsOwnToken who init.token

-- what shrinks twice has shrunk
pub shrinks_on : (who : Identity) (m u w : Mounted) → Shrinks who m u → Shrinks who u w → Shrinks who m w
shrinks_on who m u w s t = record {
  server = t.server ∙ s.server;
  calls = t.calls ∙ s.calls;
  places = t.places ∙ s.places;
  faces = λ name f there. s.faces name f (t.faces name f there);
  holds = λ context root there. s.holds context root (t.holds context root there);
  awaited = λ place p there. s.awaited place p (t.awaited place p there);
  under = λ place context aim call there. t.under place context aim call there ∙ s.under place context aim call (t.awaited place (Under context aim call) there);
  aims = λ place context aim call there other.
      t.aims place context aim call there other ∙ s.aims place context aim call (t.awaited place (Under context aim call) there) other;
  standing = λ r is.
      let k = t.standing r is in
      let l = s.standing k.was k.is in
      record {
        was = l.was;
        is = l.is;
        name = k.name ∙ l.name;
        numbers = k.numbers ∙ l.numbers;
        set_up = λ down. l.set_up (k.set_up down);
        face = k.face ∙ subst (λ (n : ℕ). face_of n u.contexts ≡ face_of n m.contexts) (sym k.name) l.face;
      };
  children = λ child name there. s.children child name (t.children child name there);
  kept = t.kept;
}

-- ---- it is as it should be

pub record IsRooted (st : Standing) (name : ℕ) : Type 0 where
  pub r : Root
  pub is : st ≡ Rooted r
  pub name_is : r.name ≡ name

pub rooted_by : (st : Standing) (name : ℕ) → root_name st ≡ Some name → IsRooted st name
rooted_by (Down kept) name h = absurd cc
rooted_by (Rooted r) name h = record { r = r; is = refl; name_is = some_is r.name name h }

pub none_stays : (a b : Option Face) → ((f : Face) → a ≡ Some f → b ≡ Some f) → b ≡ None → a ≡ None
none_stays None b was none = refl
none_stays (Some f) b was none = let there : b ≡ Some f = was f refl in absurd cc

module _ (who : Identity) (m w : Mounted) (s : Shrinks who m w) where
  numbered_stays : (xid : ℕ) → IsNumbered m xid → IsNumbered w xid
  numbered_stays xid n = record {
    below = subst (λ (c : ℕ). xid ≤ c) (sym s.calls) n.below;
    unnamed = none_stays (face_of xid w.contexts) (face_of xid m.contexts) (s.faces xid) n.unnamed;
  }

  down_stays : (st : Standing) → w.standing ≡ st → root_name m.standing ≡ None → root_name st ≡ None
  down_stays (Down kept) is down = refl
  down_stays (Rooted r) is down =
      let k = s.standing r is in
      let there : root_name m.standing ≡ Some k.was.name = ap root_name k.is in
      absurd cc

  fair_stays : (place : ℕ) (p : Pending) → pending_at w place ≡ Some p → IsFair who m place p → IsFair who w place p
  fair_stays place (Init init) there fair = record {
    numbered = numbered_stays init.xid fair.numbered;
    token = fair.token;
    down = down_stays w.standing refl fair.down;
  }
  fair_stays place (Under context aim call) there fair = record {
    numbered = numbered_stays call.awaited.xid fair.numbered;
    face = fair.face;
    there = s.under place context aim call there ∙ fair.there;
    owner = fair.owner ∙ sym s.server;
    under = fair.under;
    asked = fair.asked;
    aim_fits = fair.aim_fits;
    rooted = λ other. s.aims place context aim call there other ∙ fair.rooted other;
  }

  root_was : (name : ℕ) → root_name w.standing ≡ Some name → root_name m.standing ≡ Some name
  root_was name h =
      let at = rooted_by w.standing name h in
      let k = s.standing at.r at.is in
      ap root_name k.is ∙ ap (λ (n : ℕ). Some n) (sym k.name ∙ at.name_is)

  root_face : (name : ℕ) → root_name w.standing ≡ Some name → face_of name w.contexts ≡ face_of name m.contexts
  root_face name h =
      let at = rooted_by w.standing name h in
      subst (λ (n : ℕ). face_of n w.contexts ≡ face_of n m.contexts) at.name_is (s.standing at.r at.is).face

  pub shrunk_good : IsGood who m → IsGood who w
  shrunk_good g = record {
    places = s.places ∙ g.places;
    held = λ name f there.
        let h = g.held name f (s.faces name f there) in
        record { handle = h.handle; owner = h.owner ∙ sym s.server; below = subst (λ (c : ℕ). name ≤ c) (sym s.calls) h.below };
    fair = λ place p there. fair_stays place p there (g.fair place p (s.awaited place p there));
    distinct = λ place other p q at_place at_other same. g.distinct place other p q (s.awaited place p at_place) (s.awaited other q at_other) same;
    alone = λ place other a b at_place at_other. g.alone place other a b (s.awaited place (Init a) at_place) (s.awaited other (Init b) at_other);
    root = λ name h.
        let r = g.root name (root_was name h) in
        record { face = r.face; there = root_face name h ∙ r.there; own = r.own };
    up = λ r is.
        let k = s.standing r is in
        let u = g.up k.was k.is in
        record { numbers = ap length k.numbers ∙ u.numbers; set_up = λ down. u.set_up (k.set_up down) };
    children = λ child name root f h there face_there root_there root_face_there.
        g.children child name root f h (s.children child name there) (s.faces name f face_there) (root_was root root_there) (s.faces root h root_face_there);
    kept = s.kept;
  }

  -- ---- it shows nothing new

  module _ (before after : Above) (g : IsGood who m) (goes : GoesOn m before after) where
    awaits_was : (place : ℕ) (x : Awaited) → (caller_of after w).awaits place ≡ Some x → (caller_of before m).awaits place ≡ Some x
    awaits_was place x h =
        let it = mapped (awaited_in w.contexts (after.purpose place)) (pending_at w place) x h in
        let was = s.awaited place it.from it.was in
        let a = awaiting_of (awaited_at m place) it.from was in
        let same : awaited_in m.contexts (before.purpose place) it.from ≡ awaited_in w.contexts (after.purpose place) it.from =
        awaited_same it.from m.contexts w.contexts (before.purpose place) (after.purpose place) (sym (goes.purpose place a.a a.is))
        (λ context aim call is. sym (s.under place context aim call (it.was ∙ ap (λ (p : Pending). Some p) is))) in
        ap (option_map (awaited_in m.contexts (before.purpose place))) was ∙ ap (λ (y : Awaited). Some y) (same ∙ it.gives)

    mount_was : (st : Standing) (root : Context) → w.standing ≡ st → mount_in st w.contexts ≡ Some root
        → (mount_in m.standing m.contexts ≡ Some root) × ((slot : ℕ) → next_in m.standing slot ≤ next_in st slot)
    mount_was (Down kept) root is h = absurd cc
    mount_was (Rooted r) root is h =
        let k = s.standing r is in (
          ap (λ (st : Standing). mount_in st m.contexts) k.is
              ∙ ap (λ (n : ℕ). root_seen (face_of n m.contexts)) (sym k.name)
              ∙ ap root_seen (sym k.face)
              ∙ h,
          λ slot.
              let same : next_in m.standing slot ≡ slice_index r.numbers slot =
              ap (λ (st : Standing). next_in st slot) k.is ∙ ap (λ (ns : List ℕ). slice_index ns slot) (sym k.numbers) in
              omega (arith, same),
        )

    pub shrunk_obeys : (a : Acts) → ((x : Sent) → Contains a.out x → ⊥)
        → ((root : Context) → LearnsRoot (spelling who.accepts who.whose) m.server (caller_of before m) a root → ⊥)
        → CallerLaws (spelling who.accepts who.whose) m.server who.own (caller_of before m) (caller_of after w) a
    shrunk_obeys a silent unlearnt = record {
      boot = omega (arith, goes.boot);
      calls = λ same. goes.calls;
      fresh = λ bytes seal sends call. absurd (silent (record { bytes = bytes; seal = seal }) sends);
      one = λ bytes other seal seal' sends sends' call call' same. absurd (silent (record { bytes = bytes; seal = seal }) sends);
      directed = λ bytes call seal sends own reply took. absurd (silent (record { bytes = bytes; seal = Some seal }) sends);
      simple = λ bytes seal name sends own named. absurd (silent (record { bytes = bytes; seal = Some seal }) sends);
      has = λ context root there. inl (s.holds context root there);
      begin = λ root learnt. absurd (unlearnt root learnt);
      mount = λ root there. inl (mount_was w.standing root refl there);
      awaits = λ place x there. inl (goes.boot, awaits_was place x there);
      goes_on = λ place xid seal call there. inl (goes.boot, (xid, seal, awaits_was place (record { xid = xid; what = Slotted seal call }) there));
      sends = λ bytes seal name sends own named. absurd (silent (record { bytes = bytes; seal = Some seal }) sends);
      in_slot = λ place xid seal call there. in_slot who after w place xid seal call (shrunk_good g) there;
    }
