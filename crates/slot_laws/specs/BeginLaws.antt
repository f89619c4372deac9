-- What is known of a slot on which a number is new, or is a retry.
use Rattle.std.proofs.Common.{◌≡◌, ℕ, ◌<◌, Bool, true, false, cond, List, [], ◌∷◌, Option, Some, None, refl, sym, ap, subst, ◌∙◌}
use Rattle.std.specs.Prelude.{◌==◌, bytes_eq, find, if◌then◌else◌, nat_le}
use Rattle.std.proofs.lemmas.Bool.{eqb-true, eq-eqb, leb-false}
use Rattle.std.proofs.lemmas.Slice.Eq.{bytes_eq-Decides}
use Rattle.nfs_base.specs.declared.limits.TheConstants.{SLOTS}
use Rattle.sess_slots.specs.declared.answers.Begin.TheVariants.{New, Replay, FalseRetry, BadSlot, Misordered}
use Rattle.sess_slots.specs.declared.answers.Place.{Place}
use Rattle.sess_slots.specs.declared.session.Session.{Session}
use Rattle.sess_slots.specs.declared.slot.Kept.{Kept}
use Rattle.sess_slots.specs.declared.slot.Slot.{Slot}
use Rattle.sess_slots.specs.Begins.{begin_in, begin_of}
use Rattle.sess_slots.specs.Slots.{begin_at, next_number, retry_at, slot_at}
use Rattle.sess_slots.specs.Table.{SessionTable, has_id, session_id, session_numbered, session_of_id}

-- A place is there, and a session's ID and a slot name it.
pub record IsNamed (table : SessionTable) (id : List ℕ) (slot : ℕ) (place : Place) : Type 0 where
  pub session : Session
  pub found : session_numbered table.sessions place.session ≡ Some session
  pub id_is : session_id table.boot place.session ≡ id
  pub slot_is : place.slot ≡ slot
  pub within : place.slot < SLOTS

-- a place's slot, where it is there
abbrev pub slot_named : (table : SessionTable) (id : List ℕ) (slot : ℕ) (place : Place) → IsNamed table id slot place → Slot
slot_named table id slot place named = slot_at named.session.slots place.slot

-- the number is the slot's next one
pub record IsNext (table : SessionTable) (id : List ℕ) (slot number : ℕ) (place : Place) : Type 0 where
  pub named : IsNamed table id slot place
  pub next : number ≡ next_number (slot_named table id slot place named).last

-- the number is the slot's own, and a reply is kept for this root context
pub record IsRetry (table : SessionTable) (id : List ℕ) (slot number root : ℕ) (place : Place) : Type 0 where
  pub named : IsNamed table id slot place
  pub last : number ≡ (slot_named table id slot place named).last
  pub reply : List ℕ
  pub kept : (slot_named table id slot place named).kept ≡ Some (record { root = root; reply = reply })

-- ---- the session that an ID names is the one that its number names

found_passes : {X : Type 0} (test : X → Bool) (xs : List X) (s : X) → find test xs ≡ Some s → test s ≡ true
found_passes test [] s h = absurd cc
found_passes {X} test (x ∷ xs) s h = by (test x) refl (found_passes test xs s)
  where
    by : (b : Bool) → test x ≡ b → (find test xs ≡ Some s → test s ≡ true) → test s ≡ true
    by true e later =
        let here : Some x ≡ Some s = rw e at h in
        let same : x ≡ s = cc in
        ap test (sym same) ∙ e
    by false e later = later (rw e at h)

-- the first that passes one test is the first that passes a narrower one, if it does
find_narrower : {X : Type 0} (wide narrow : X → Bool) (xs : List X) (s : X) → find wide xs ≡ Some s → narrow s ≡ true
    → ((x : X) → narrow x ≡ true → wide x ≡ true) → find narrow xs ≡ Some s
find_narrower wide narrow [] s h passes within = absurd cc
find_narrower {X} wide narrow (x ∷ xs) s h passes within = by (wide x) (narrow x) refl refl (λ later. find_narrower wide narrow xs s later passes within)
  where
    by : (a b : Bool) → wide x ≡ a → narrow x ≡ b → (find wide xs ≡ Some s → find narrow xs ≡ Some s) → cond (narrow x) (Some x) (find narrow xs) ≡ Some s
    by true true w n rest = let here : Some x ≡ Some s = rw w at h in rw n here
    by true false w n rest =
        let here : Some x ≡ Some s = rw w at h in
        let same : x ≡ s = cc in
        let passed : narrow x ≡ true = ap narrow same ∙ passes in
        absurd cc
    by false true w n rest = let passed : wide x ≡ true = within x n in absurd cc
    by false false w n rest = rw n (rest (rw w at h))

numbered : (table : SessionTable) (id : List ℕ) (s : Session) → session_of_id table id ≡ Some s → session_numbered table.sessions s.number ≡ Some s
numbered table id s h =
    let named : has_id table.boot id s ≡ true = found_passes (has_id table.boot id) table.sessions s h in
    find_narrower (has_id table.boot id) (λ x. x.number == s.number) table.sessions s h (eq-eqb s.number s.number refl)
    (λ x same. subst (λ n. bytes_eq (session_id table.boot n) id ≡ true) (sym (eqb-true x.number s.number same)) named)

abbrev place_of : Session → (slot : ℕ) → Place
place_of s slot = record { session = s.number; slot = slot }

abbrev named_by : (table : SessionTable) (id : List ℕ) (s : Session) (slot : ℕ) → session_of_id table id ≡ Some s → nat_le SLOTS slot ≡ false
    → IsNamed table id slot (place_of s slot)
named_by table id s slot found small = record {
  session = s;
  found = numbered table id s found;
  id_is = (bytes_eq-Decides (session_id table.boot s.number) id).0 (found_passes (has_id table.boot id) table.sessions s found);
  slot_is = refl;
  within = leb-false SLOTS slot small;
}

-- ---- a number that is new

retry_never_new : (kept : Option Kept) (root : ℕ) (place other : Place) → retry_at kept root place ≡ New other → ⊥
retry_never_new None root place other h = absurd cc
retry_never_new (Some kept) root place other h =
    elim (kept.root == root) as (λ b. (if b then Replay place else FalseRetry) ≡ New other → ⊥) [
      | true ↦ λ e. absurd cc
      | false ↦ λ e. absurd cc
    ] h

new_at : (next again : Bool) (slot : Slot) (number root : ℕ) (place other : Place) → (number == next_number slot.last) ≡ next
    → (if next then New place else (if again then retry_at slot.kept root place else Misordered)) ≡ New other
    → (place ≡ other) × (number ≡ next_number slot.last)
new_at true again slot number root place other e h = (cc, eqb-true number (next_number slot.last) e)
new_at false true slot number root place other e h = absurd (retry_never_new slot.kept root place other h)
new_at false false slot number root place other e h = absurd cc

new_in : (found : Option Session) (table : SessionTable) (id : List ℕ) (slot number root : ℕ) (place : Place) → session_of_id table id ≡ found
    → begin_in found slot number root ≡ New place → IsNext table id slot number place
new_in None table id slot number root place found h = absurd cc
new_in (Some s) table id slot number root place found h = by (nat_le SLOTS slot) refl h
  where
    by : (past : Bool) → nat_le SLOTS slot ≡ past
        → (if past then BadSlot else begin_at (slot_at s.slots slot) number root (place_of s slot)) ≡ New place
        → IsNext table id slot number place
    by true e h = absurd cc
    by false e h =
        let x = slot_at s.slots slot in
        let new = new_at (number == next_number x.last) (number == x.last) x number root (place_of s slot) place refl h in
        subst (λ p. IsNext table id slot number p) new.0 (record { named = named_by table id s slot found e; next = new.1 })

pub begins_new : (table : SessionTable) (id : List ℕ) (slot number root : ℕ) (place : Place) → begin_of table id slot number root ≡ New place
    → IsNext table id slot number place
begins_new table id slot number root place h = new_in (session_of_id table id) table id slot number root place refl h

-- ---- a retry

retry_kept : (kept : Option Kept) (root : ℕ) (place other : Place) → retry_at kept root place ≡ Replay other
    → (place ≡ other) × ((reply : List ℕ) × (kept ≡ Some (record { root = root; reply = reply })))
retry_kept None root place other h = absurd cc
retry_kept (Some kept) root place other h = by (kept.root == root) refl h
  where
    by : (b : Bool) → (kept.root == root) ≡ b → (if b then Replay place else FalseRetry) ≡ Replay other
        → (place ≡ other) × ((reply : List ℕ) × (Some kept ≡ Some (record { root = root; reply = reply })))
    by true e h =
        let same : place ≡ other = cc in
        (same, (kept.reply, ap (λ r. Some (record { root = r; reply = kept.reply })) (eqb-true kept.root root e)))
    by false e h = absurd cc

record WasReplayed (slot : Slot) (number root : ℕ) (place other : Place) : Type 0 where
  place_is : place ≡ other
  last : number ≡ slot.last
  reply : List ℕ
  kept : slot.kept ≡ Some (record { root = root; reply = reply })

replayed_at : (next again : Bool) (slot : Slot) (number root : ℕ) (place other : Place) → (number == slot.last) ≡ again
    → (if next then New place else (if again then retry_at slot.kept root place else Misordered)) ≡ Replay other
    → WasReplayed slot number root place other
replayed_at true again slot number root place other e h = absurd cc
replayed_at false true slot number root place other e h =
    let k = retry_kept slot.kept root place other h in
    record { place_is = k.0; last = eqb-true number slot.last e; reply = k.1.0; kept = k.1.1 }
replayed_at false false slot number root place other e h = absurd cc

replayed_in : (found : Option Session) (table : SessionTable) (id : List ℕ) (slot number root : ℕ) (place : Place) → session_of_id table id ≡ found
    → begin_in found slot number root ≡ Replay place → IsRetry table id slot number root place
replayed_in None table id slot number root place found h = absurd cc
replayed_in (Some s) table id slot number root place found h = by (nat_le SLOTS slot) refl h
  where
    by : (past : Bool) → nat_le SLOTS slot ≡ past
        → (if past then BadSlot else begin_at (slot_at s.slots slot) number root (place_of s slot)) ≡ Replay place
        → IsRetry table id slot number root place
    by true e h = absurd cc
    by false e h =
        let x = slot_at s.slots slot in
        let r = replayed_at (number == next_number x.last) (number == x.last) x number root (place_of s slot) place refl h in
        subst (λ p. IsRetry table id slot number root p) r.place_is
        (record { named = named_by table id s slot found e; last = r.last; reply = r.reply; kept = r.kept })

pub begins_again : (table : SessionTable) (id : List ℕ) (slot number root : ℕ) (place : Place) → begin_of table id slot number root ≡ Replay place
    → IsRetry table id slot number root place
begins_again table id slot number root place h = replayed_in (session_of_id table id) table id slot number root place refl h
