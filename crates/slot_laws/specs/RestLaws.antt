-- Where no slot moves: what is kept was kept, and no slot's last number falls.
use Rattle.std.proofs.Common.{◌≡◌, inl, inr, ℕ, ◌≤◌, Bool, true, false, Option, Some, None, refl, sym, ap, subst, ◌∙◌, arith}
use Rattle.std.specs.Prelude.{IfSome, option_map, option_and_then, nat_le}
use Rattle.std.proofs.lemmas.Bool.{leb-true, leb-false, le-leb, lt-leb}
use Rattle.nfs_base.specs.declared.limits.TheConstants.{SLOTS}
use Rattle.sess_slots.specs.declared.session.Session.{Session}
use Rattle.sess_slots.specs.declared.slot.Slot.{Slot}
use Rattle.sess_slots.specs.Slots.{slot_at}
use Rattle.sess_slots.specs.Table.{SessionTable, session_numbered}
use Rattle.wire_model.specs.Wire.{Kept}
use Rattle.slot_laws.specs.View.{kept_at, kept_in, last_at, last_gone, last_in, past_all}
use Rattle.slot_laws.specs.Sound.{AreBelow, IsSound}
use Rattle.slot_laws.specs.Moves.{IsFresh, Rests}
use Rattle.slot_laws.specs.ListLaws.{found_within, fresh_at}

-- a slot of a session, by whether the session is found
abbrev pub slot_in : Option Session → (slot : ℕ) → Option Slot
slot_in found slot = option_map (λ s. slot_at s.slots slot) found

-- the slots of a session that was just made
pub fresh_slot_at : (v : SessionTable) (n slot : ℕ) (s : Session) → IsFresh v n s → (kept_at (slot_at s.slots slot) ≡ None) × ((slot_at s.slots slot).last ≡ 0)
fresh_slot_at v n slot s new =
    let same = ap (λ slots. slot_at slots slot) new.slots ∙ fresh_at SLOTS slot in
    (ap kept_at same, ap (λ (x : Slot). x.last) same)

pub below_at : (most : ℕ) (v : SessionTable) → AreBelow most v → (n slot : ℕ) (s : Session) → session_numbered v.sessions n ≡ Some s → (slot_at s.slots slot).last ≤ most
below_at most v below n slot s e =
    subst (λ o. IfSome (slot_in o slot) (λ (x : Slot). x.last ≤ most)) e (below (record { session = n; slot = slot }))

pub rests_kept : (v w : SessionTable) → Rests v w → (session slot : ℕ) (k : Kept) → kept_in w session slot ≡ Some k → kept_in v session slot ≡ Some k
rests_kept v w rests session slot k keeps = by (session_numbered w.sessions session) refl keeps
  where
    by : (o : Option Session) → session_numbered w.sessions session ≡ o → option_and_then kept_at (slot_in o slot) ≡ Some k → kept_in v session slot ≡ Some k
    by None e keeps = absurd cc
    by (Some s) e keeps = elim (rests.found session s e) [
      | inl same ↦ ap (λ o. option_and_then kept_at (slot_in o slot)) same ∙ keeps
      | inr new ↦ absurd (let none = (fresh_slot_at v session slot s new).0 in cc)
    ]

gone_longer : (n before after : ℕ) → before ≤ after → (a b : Bool) → nat_le n before ≡ a → nat_le n after ≡ b → last_gone a ≤ last_gone b
gone_longer n before after le true true first second = omega arith
gone_longer n before after le true false first second = absurd (omega (arith, le, leb-true n before first, leb-false n after second))
gone_longer n before after le false b first second = omega arith

pub rests_last : (v w : SessionTable) → IsSound v → Rests v w → (most : ℕ) → most ≤ past_all → AreBelow most v
    → (session slot : ℕ) → last_in v session slot ≤ last_in w session slot
rests_last v w sound rests most small below session slot = by (session_numbered v.sessions session) (session_numbered w.sessions session) refl refl
  where
    by : (o p : Option Session) → session_numbered v.sessions session ≡ o → session_numbered w.sessions session ≡ p
        → last_at (slot_in o slot) (nat_le session v.sessions_made) ≤ last_at (slot_in p slot) (nat_le session w.sessions_made)
    by None None before after = gone_longer session v.sessions_made w.sessions_made rests.made (nat_le session v.sessions_made) (nat_le session w.sessions_made) refl refl
    by (Some s) None before after =
        let within = found_within 1 session v.sessions v.sessions_made s sound.numbers before in
        let was_made : nat_le session w.sessions_made ≡ true = le-leb session w.sessions_made (omega (arith, within.1, rests.made)) in
        rw was_made (omega (arith, below_at most v below session slot s before, small))
    by None (Some t) before after = elim (rests.found session t after) [
      | inl same ↦ absurd (let both = sym before ∙ same in cc)
      | inr new ↦ rw (lt-leb session v.sessions_made new.above) (omega arith)
    ]
    by (Some s) (Some t) before after = elim (rests.found session t after) [
      | inl found ↦
          let both = sym before ∙ found in
          let same : s ≡ t = cc in
          omega (arith, ap (λ (x : Session). (slot_at x.slots slot).last) same)
      | inr new ↦
          let within = found_within 1 session v.sessions v.sessions_made s sound.numbers before in
          absurd (omega (arith, within.1, new.above))
    ]

pub rests_below : (most : ℕ) (v w : SessionTable) → Rests v w → AreBelow most v → AreBelow most w
rests_below most v w rests below place = by (session_numbered w.sessions place.session) refl
  where
    by : (o : Option Session) → session_numbered w.sessions place.session ≡ o → IfSome (slot_in o place.slot) (λ (x : Slot). x.last ≤ most)
    by None e = tt
    by (Some s) e = elim (rests.found place.session s e) [
      | inl same ↦ below_at most v below place.session place.slot s same
      | inr new ↦ omega (arith, (fresh_slot_at v place.session place.slot s new).1)
    ]

-- once more, where no session is made then
pub rests_then : (u v w : SessionTable) → Rests u v → Rests v w → w.sessions_made ≡ v.sessions_made → Rests u w
rests_then u v w first second same = record {
  made = omega (arith, first.made, second.made);
  few = omega (arith, first.few, same);
  found = λ n s e. elim (second.found n s e) [
    | inl before ↦ first.found n s before
    | inr new ↦ inr (record { above = omega (arith, new.above, first.made); slots = new.slots })
  ];
  sound = second.sound;
}
