-- Where one slot moves: what it keeps then, and that the others are as before.
use Rattle.std.proofs.Common.{◌≡◌, ◌⊎◌, inl, inr, ℕ, suc, ◌<◌, ◌≤◌, List, length, Option, Some, None, refl, sym, ap, subst, ◌∙◌, arith}
use Rattle.std.specs.Prelude.{◌==◌, IfSome, option_map, option_and_then, nat_le}
use Rattle.std.proofs.lemmas.Bool.{cases_eq}
use Rattle.std.proofs.lemmas.List.{get_or-set_same, get_or-set_other, length-set}
use Rattle.nfs_base.specs.declared.limits.TheConstants.{SLOTS}
use Rattle.sess_slots.specs.declared.answers.Place.{Place}
use Rattle.sess_slots.specs.declared.session.Session.{Session}
use Rattle.sess_slots.specs.declared.slot.Slot.{Slot}
use Rattle.sess_slots.specs.Slots.{after_reply, fresh_slot, next_number, slot_at, slots_after}
use Rattle.sess_slots.specs.Table.{SessionTable, session_numbered}
use Rattle.wire_model.specs.Wire.{Kept}
use Rattle.slot_laws.specs.View.{kept_at, kept_in, last_at, last_in, past_all}
use Rattle.slot_laws.specs.Sound.{AreBelow, IsSound}
use Rattle.slot_laws.specs.Moves.{Moves}
use Rattle.slot_laws.specs.ListLaws.{changed_other, changed_same, rising_changed}
use Rattle.slot_laws.specs.RestLaws.{below_at, slot_in}

-- a session once a slot of it has moved
abbrev pub moved : Place → (root : ℕ) → (reply : List ℕ) → Session → Session
moved place root reply s = record s { slots = slots_after s.slots place.slot root reply }

pub slot_moved : (slots : List Slot) (n root : ℕ) (reply : List ℕ) → n < length slots
    → slot_at (slots_after slots n root reply) n ≡ after_reply (slot_at slots n) root reply
slot_moved slots n root reply within = get_or-set_same slots n (after_reply (slot_at slots n) root reply) fresh_slot within

pub slot_stays : (slots : List Slot) (n m root : ℕ) (reply : List ℕ) → (m ≡ n → ⊥) → slot_at (slots_after slots n root reply) m ≡ slot_at slots m
slot_stays slots n m root reply apart = get_or-set_other slots n m (after_reply (slot_at slots n) root reply) fresh_slot apart

some_is : {A : Type 0} (a b : A) → Some a ≡ Some b → a ≡ b
some_is a b same = cc

-- a slot is that of a place, or it isn't
here_or_apart : (place : Place) (session slot : ℕ)
    → ((place.session ≡ session) × (place.slot ≡ slot)) ⊎ (place.session ≡ session → place.slot ≡ slot → ⊥)
here_or_apart place session slot = elim (cases_eq place.session session) [
  | inl same ↦ elim (cases_eq place.slot slot) [
    | inl both ↦ inl (same, both)
    | inr other ↦ inr (λ e f. other f)
  ]
  | inr other ↦ inr (λ e f. other e)
]

pub below_more : (most : ℕ) (o : Option Slot) → IfSome o (λ x. x.last ≤ most) → IfSome o (λ x. x.last ≤ suc most)
below_more most None h = tt
below_more most (Some x) h = omega (arith, h)

-- A slot of a session moves, which is there.
module _ (place : Place) (root : ℕ) (reply : List ℕ) (v w : SessionTable) (s : Session) (moves : Moves place root reply v w)
    (found : session_numbered v.sessions place.session ≡ Some s) (sound : IsSound v) (within : place.slot < SLOTS) where
  session_moved : session_numbered w.sessions place.session ≡ Some (moved place root reply s)
  session_moved =
      ap (λ xs. session_numbered xs place.session) moves.sessions
      ∙ changed_same place.session (moved place root reply) (λ x. refl) v.sessions
      ∙ ap (option_map (moved place root reply)) found

  session_stays : (n : ℕ) → (place.session ≡ n → ⊥) → session_numbered w.sessions n ≡ session_numbered v.sessions n
  session_stays n apart =
      ap (λ xs. session_numbered xs n) moves.sessions
      ∙ changed_other place.session n (moved place root reply) (λ x. refl) apart v.sessions

  fits : place.slot < length s.slots
  fits = omega (arith, within, sound.slots place.session s found)

  -- the slot that moved
  pub slot_now : slot_in (session_numbered w.sessions place.session) place.slot ≡ Some (after_reply (slot_at s.slots place.slot) root reply)
  slot_now = ap (λ o. slot_in o place.slot) session_moved ∙ ap Some (slot_moved s.slots place.slot root reply fits)

  -- every other slot is as before
  pub slot_before : (session slot : ℕ) → (place.session ≡ session → place.slot ≡ slot → ⊥)
      → slot_in (session_numbered w.sessions session) slot ≡ slot_in (session_numbered v.sessions session) slot
  slot_before session slot apart = elim (cases_eq place.session session) [
    | inl same ↦
        subst (λ n. slot_in (session_numbered w.sessions n) slot ≡ slot_in (session_numbered v.sessions n) slot) same
        (ap (λ o. slot_in o slot) session_moved
        ∙ ap Some (slot_stays s.slots place.slot slot root reply (λ e. apart same (sym e)))
        ∙ ap (λ o. slot_in o slot) (sym found))
    | inr other ↦ ap (λ o. slot_in o slot) (session_stays session other)
  ]

  -- ---- what is kept

  pub kept_now : kept_in w place.session place.slot
      ≡ Some (record { number = next_number (slot_at s.slots place.slot).last; root = root; results = reply })
  kept_now = ap (option_and_then kept_at) slot_now

  -- what is kept was kept, or it is this reply
  pub moves_kept : (session slot : ℕ) (k : Kept) → kept_in w session slot ≡ Some k
      → (kept_in v session slot ≡ Some k) ⊎ ((place.session ≡ session) × (place.slot ≡ slot)
      × (k ≡ record { number = next_number (slot_at s.slots place.slot).last; root = root; results = reply }))
  moves_kept session slot k keeps = elim (here_or_apart place session slot) [
    | inl here ↦
        let there : kept_in w place.session place.slot ≡ Some k =
        subst (λ n. kept_in w n place.slot ≡ Some k) (sym here.0) (subst (λ m. kept_in w session m ≡ Some k) (sym here.1) keeps) in
        let both = sym kept_now ∙ there in
        inr (here.0, here.1, sym (some_is _ k both))
    | inr apart ↦ inl (ap (option_and_then kept_at) (sym (slot_before session slot apart)) ∙ keeps)
  ]

  -- ---- the last numbers

  pub last_before : last_in v place.session place.slot ≡ (slot_at s.slots place.slot).last
  last_before = ap (λ o. last_at (slot_in o place.slot) (nat_le place.session v.sessions_made)) found

  pub last_now : last_in w place.session place.slot ≡ next_number (slot_at s.slots place.slot).last
  last_now = ap (λ o. last_at o (nat_le place.session w.sessions_made)) slot_now

  pub moves_last : (most : ℕ) → suc most < past_all → AreBelow most v → (session slot : ℕ) → last_in v session slot ≤ last_in w session slot
  moves_last most small below session slot = elim (here_or_apart place session slot) [
    | inl here ↦
        subst (λ n. last_in v n slot ≤ last_in w n slot) here.0
        (subst (λ m. last_in v place.session m ≤ last_in w place.session m) here.1
        (omega (arith, last_before, last_now, below_at most v below place.session place.slot s found, small)))
    | inr apart ↦
        let same : last_in w session slot ≡ last_in v session slot =
        ap (λ o. last_at o (nat_le session w.sessions_made)) (slot_before session slot apart)
        ∙ ap (λ n. last_at (slot_in (session_numbered v.sessions session) slot) (nat_le session n)) moves.made in
        omega (arith, same)
  ]

  pub moves_below : (most : ℕ) → AreBelow most v → AreBelow (suc most) w
  moves_below most below p = elim (here_or_apart place p.session p.slot) [
    | inl here ↦
        subst (λ n. IfSome (slot_in (session_numbered w.sessions n) p.slot) (λ (x : Slot). x.last ≤ suc most)) here.0
        (subst (λ m. IfSome (slot_in (session_numbered w.sessions place.session) m) (λ (x : Slot). x.last ≤ suc most)) here.1
        (subst (λ o. IfSome o (λ (x : Slot). x.last ≤ suc most)) (sym slot_now)
        (omega (arith, below_at most v below place.session place.slot s found))))
    | inr apart ↦
        subst (λ o. IfSome o (λ (x : Slot). x.last ≤ suc most)) (sym (slot_before p.session p.slot apart)) (below_more most (slot_in (session_numbered v.sessions p.session) p.slot) (below p))
  ]

  -- ---- the sessions

  pub moves_sound : IsSound w
  moves_sound = record {
    numbers =
        rw (moves.sessions, moves.made)
        (rising_changed (λ x. x.number == place.session) (moved place root reply) (λ x. refl) 1 v.sessions v.sessions_made sound.numbers);
    slots = λ n t e. elim (cases_eq place.session n) [
      | inl same ↦
          let here : session_numbered w.sessions place.session ≡ Some t = subst (λ m. session_numbered w.sessions m ≡ Some t) (sym same) e in
          let is : moved place root reply s ≡ t = some_is _ t (sym session_moved ∙ here) in
          ap (λ (x : Session). length x.slots) (sym is) ∙ length-set s.slots place.slot _ ∙ sound.slots place.session s found
      | inr other ↦ sound.slots n t (sym (session_stays n other) ∙ e)
    ];
  }
