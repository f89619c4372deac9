-- The place that `begin` answers is there.
use Rattle.std.proofs.Common.{◌≡◌, ℕ, ◌<◌, Bool, true, false, List, [], ◌∷◌, Option, Some, None, refl, sym, subst, arith}
use Rattle.std.specs.Prelude.{◌==◌, nat_le, find, if◌then◌else◌, IsSome, bytes_eq}
use Rattle.std.proofs.lemmas.Bool.{eqb-true, leb-false}
use Rattle.std.proofs.lemmas.Grind.{common_steps}
use Rattle.nfs_base.specs.declared.limits.TheConstants.{SLOTS}
use Rattle.sess_slots.specs.declared.answers.Begin.TheVariants.{New, Replay, FalseRetry, BadSlot, Misordered}
use Rattle.sess_slots.specs.declared.answers.Place.{Place}
use Rattle.sess_slots.specs.declared.session.Session.{Session}
use Rattle.sess_slots.specs.declared.slot.Slot.{Slot}
use Rattle.sess_slots.specs.declared.slot.Kept.{Kept}
use Rattle.sess_slots.specs.Slots.{next_number, begin_at, retry_at, slot_at}
use Rattle.sess_slots.specs.Table.{SessionTable, has_id, session_id, session_numbered, session_of_id}
use Rattle.sess_slots.specs.Begins.{IsThere, begin_in, begin_of, client_at, reply_at}

found_passes : {X : Type 0} (test : X → Bool) (xs : List X) (s : X) → find test xs ≡ Some s → test s ≡ true
found_passes test [] s h = cc
found_passes {X} test (x ∷ xs) s h = grind (arith, common_steps, found_passes test xs s)

-- the first that passes one test is the first that passes a narrower one, if it does
find_narrower : {X : Type 0} (wide narrow : X → Bool) (xs : List X) (s : X) → find wide xs ≡ Some s → narrow s ≡ true → ((x : X) → narrow x ≡ true → wide x ≡ true) → find narrow xs ≡ Some s
find_narrower wide narrow [] s h passes within = cc
find_narrower {X} wide narrow (x ∷ xs) s h passes within = grind (arith, common_steps, find_narrower wide narrow xs s, within x)

-- the session that an ID names is the one that its number names
numbered : (table : SessionTable) (id : List ℕ) (s : Session) → session_of_id table id ≡ Some s → session_numbered table.sessions s.number ≡ Some s
numbered table id s h =
    let named : has_id table.boot id s ≡ true = found_passes (has_id table.boot id) table.sessions s h in
    find_narrower (has_id table.boot id) (λ x. x.number == s.number) table.sessions s h (eqb-same s.number)
    (λ x same. subst (λ n. bytes_eq (session_id table.boot n) id ≡ true) (sym (eqb-true x.number s.number same)) named)
  where
    eqb-same : (n : ℕ) → (n == n) ≡ true
    eqb-same n = grind arith

is_some_from : {X : Type 0} (o : Option X) (x : X) → o ≡ Some x → IsSome o
is_some_from o x e = subst (λ p. IsSome p) (sym e) refl

retry_there : (table : SessionTable) (kept : Option Kept) (root : ℕ) (place : Place) → IsSome (client_at table place.session) → place.slot < SLOTS
    → ((k : Kept) → kept ≡ Some k → reply_at table place ≡ Some k.reply) → IsThere table (retry_at kept root place)
retry_there table None root place client slot reply = tt
retry_there table (Some kept) root place client slot reply =
    elim (kept.root == root) as (λ b. IsThere table (if b then Replay place else FalseRetry)) [
      | true ↦ (client, slot, is_some_from (reply_at table place) kept.reply (reply kept refl))
      | false ↦ tt
    ]

slot_there : (table : SessionTable) (slot : Slot) (number root : ℕ) (place : Place) → IsSome (client_at table place.session) → place.slot < SLOTS
    → ((k : Kept) → slot.kept ≡ Some k → reply_at table place ≡ Some k.reply) → IsThere table (begin_at slot number root place)
slot_there table slot number root place client within reply =
    elim (number == next_number slot.last) as (λ b. IsThere table (if b then New place else (if number == slot.last then retry_at slot.kept root place else Misordered))) [
      | true ↦ (client, within)
      | false ↦ elim (number == slot.last) as (λ b. IsThere table (if b then retry_at slot.kept root place else Misordered)) [
        | true ↦ retry_there table slot.kept root place client within reply
        | false ↦ tt
      ]
    ]

found_there : (table : SessionTable) (id : List ℕ) (slot number root : ℕ) (found : Option Session) → session_of_id table id ≡ found → IsThere table (begin_in found slot number root)
found_there table id slot number root None h = tt
found_there table id slot number root (Some s) h =
    at_slot (nat_le SLOTS slot) refl
  where
    place : Place
    place = record { session = s.number; slot = slot }

    at_slot : (b : Bool) → nat_le SLOTS slot ≡ b → IsThere table (if b then BadSlot else begin_at (slot_at s.slots slot) number root (record { session = s.number; slot = slot }))
    at_slot true e = tt
    at_slot false e =
        let same : session_numbered table.sessions s.number ≡ Some s = numbered table id s h in
        let within : slot < SLOTS = leb-false SLOTS slot e in
        slot_there table (slot_at s.slots slot) number root (record { session = s.number; slot = slot })
        (rw same refl) within (λ k is. rw same (rw is refl))

pub begin_there : (table : SessionTable) (id : List ℕ) (slot number root : ℕ) → IsThere table (begin_of table id slot number root)
begin_there table id slot number root = found_there table id slot number root (session_of_id table id) refl
