-- What each COMPOUND does to slots, as a wire sees it, by what it is to them.
use Rattle.std.proofs.Common.{◌≡◌, ◌⊎◌, inl, inr, ℕ, suc, ◌<◌, ◌≤◌, Bool, true, false, List, Some, refl, sym, ap, subst, ◌∙◌, arith}
use Rattle.std.specs.Prelude.{option_and_then, option_map}
use Rattle.nfs_compound.specs.declared.op.Op.{Op}
use Rattle.sess_slots.specs.declared.slot.Kept as slots
use Rattle.sess_slots.specs.Begins.{reply_at}
use Rattle.sess_slots.specs.Slots.{slot_at}
use Rattle.sess_slots.specs.Table.{SessionTable, session_numbered}
use Rattle.wire_model.specs.Wire.{Kept}
use Rattle.compound_server.specs.Compounds.{kept_bytes}
use Rattle.slot_laws.specs.BeginLaws.{IsNext, IsRetry, begins_again, begins_new}
use Rattle.slot_laws.specs.Effects.{IsAnsweredAsKept, IsRunOnce, Names}
use Rattle.slot_laws.specs.Fronts.{SaysNotRun}
use Rattle.slot_laws.specs.ListLaws.{found_within}
use Rattle.slot_laws.specs.MoveLaws.{below_more, last_before, last_now, moves_below, moves_kept, moves_last, moves_sound}
use Rattle.slot_laws.specs.RestLaws.{below_at, rests_below, rests_kept, rests_last, slot_in}
use Rattle.slot_laws.specs.Sound.{AreBelow, IsSound}
use Rattle.slot_laws.specs.Turns.{Repeats, Runs, Turns}
use Rattle.slot_laws.specs.View.{kept_at, kept_in, last_in, past_all}

-- ---- a call that runs

module _ (root : ℕ) (tag : List ℕ) (ops : List Op) (v w : SessionTable) (body : List ℕ) (r : Runs root tag ops v w body) (sound : IsSound v) where
  abbrev next : IsNext v r.means.sequence.session r.means.sequence.slot r.means.sequence.sequence r.place
  next = begins_new v r.means.sequence.session r.means.sequence.slot r.means.sequence.sequence root r.place r.means.answer_is

  runs_names : Names ops v r.place.session r.place.slot r.means.sequence.sequence
  runs_names = record {
    sequence = r.means.sequence;
    behind = r.means.behind;
    first = r.means.first;
    made = (found_within 1 r.place.session v.sessions v.sessions_made next.named.session sound.numbers next.named.found).1;
    id_is = next.named.id_is;
    slot_is = next.named.slot_is;
    number_is = refl;
  }

  runs_kept : (session slot : ℕ) (k : Kept) → kept_in w session slot ≡ Some k
      → (kept_in v session slot ≡ Some k) ⊎ (Names ops v session slot k.number × (k ≡ record { number = k.number; root = root; results = body }))
  runs_kept session slot k keeps =
      elim (moves_kept r.place root body v w next.named.session r.moves next.named.found sound next.named.within session slot k keeps) [
        | inl before ↦ inl before
        | inr now ↦
            let number_is : k.number ≡ r.means.sequence.sequence = ap (λ (x : Kept). x.number) now.2 ∙ sym next.next in
            inr (
              subst (λ n. Names ops v session slot n) (sym number_is)
                  (subst (λ m. Names ops v session m r.means.sequence.sequence) now.1 (subst (λ n. Names ops v n r.place.slot r.means.sequence.sequence) now.0 runs_names)),
              now.2 ∙ ap (λ (n : ℕ). record { number = n; root = root; results = body }) (sym (ap (λ (x : Kept). x.number) now.2)),
            )
      ]

  runs_once : (most : ℕ) → suc most < past_all → AreBelow most v → IsRunOnce ops v w
  runs_once most small below =
      let before = last_before r.place root body v w next.named.session r.moves next.named.found sound next.named.within in
      let now = last_now r.place root body v w next.named.session r.moves next.named.found sound next.named.within in
      let low = below_at most v below r.place.session r.place.slot next.named.session next.named.found in
      record {
        session = r.place.session;
        slot = r.place.slot;
        number = r.means.sequence.sequence;
        names = runs_names;
        above = omega (arith, before, low, small, next.next);
        last = now ∙ sym next.next;
      }

  runs_last : (most : ℕ) → suc most < past_all → AreBelow most v → (session slot : ℕ) → last_in v session slot ≤ last_in w session slot
  runs_last most small below = moves_last r.place root body v w next.named.session r.moves next.named.found sound next.named.within most small below

  runs_below : (most : ℕ) → AreBelow most v → AreBelow (suc most) w
  runs_below most below = moves_below r.place root body v w next.named.session r.moves next.named.found sound next.named.within most below

  runs_sound : IsSound w
  runs_sound = moves_sound r.place root body v w next.named.session r.moves next.named.found sound next.named.within

-- ---- a retry

module _ (root : ℕ) (ops : List Op) (v w : SessionTable) (body : List ℕ) (r : Repeats root ops v w body) (sound : IsSound v) where
  abbrev again : IsRetry v r.means.sequence.session r.means.sequence.slot r.means.sequence.sequence root r.place
  again = begins_again v r.means.sequence.session r.means.sequence.slot r.means.sequence.sequence root r.place r.means.answer_is

  repeats_answered : IsAnsweredAsKept root ops v w body
  repeats_answered =
      let s = again.named.session in
      let x = slot_at s.slots r.place.slot in
      let reply_is : reply_at v r.place ≡ Some again.reply =
      ap (λ o. option_map (λ (k : slots.Kept). k.reply) (option_and_then (λ slot. slot.kept) (slot_in o r.place.slot))) again.named.found
      ∙ ap (λ o. option_map (λ (k : slots.Kept). k.reply) o) again.kept in
      let body_is : body ≡ again.reply = r.body_is ∙ ap kept_bytes reply_is in
      record {
        session = r.place.session;
        slot = r.place.slot;
        number = r.means.sequence.sequence;
        names = record {
          sequence = r.means.sequence;
          behind = r.means.behind;
          first = r.means.first;
          made = (found_within 1 r.place.session v.sessions v.sessions_made s sound.numbers again.named.found).1;
          id_is = again.named.id_is;
          slot_is = again.named.slot_is;
          number_is = refl;
        };
        keeps =
            ap (λ o. option_and_then kept_at (slot_in o r.place.slot)) again.named.found
            ∙ ap (λ o. option_map (λ (k : slots.Kept). record { number = x.last; root = k.root; results = k.reply }) o) again.kept
            ∙ ap (λ (n : ℕ). Some (record { number = n; root = root; results = again.reply })) (sym again.last)
            ∙ ap (λ (bytes : List ℕ). Some (record { number = r.means.sequence.sequence; root = root; results = bytes })) (sym body_is);
        same = r.same;
      }

-- ---- each of them

pub below_later : (most : ℕ) (v : SessionTable) → AreBelow most v → AreBelow (suc most) v
below_later most v below place = below_more most (slot_in (session_numbered v.sessions place.session) place.slot) (below place)

pub turns_sound : (retry : Bool) (root : ℕ) (tag : List ℕ) (ops : List Op) (v w : SessionTable) (body : List ℕ) → IsSound v
    → Turns retry root tag ops v w body → IsSound w
turns_sound true root tag ops v w body sound t = subst (λ x. IsSound x) (sym t.same) sound
turns_sound false root tag ops v w body sound (inl r) = runs_sound root tag ops v w body r sound
turns_sound false root tag ops v w body sound (inr t) = t.rests.sound

pub turns_few : (retry : Bool) (root : ℕ) (tag : List ℕ) (ops : List Op) (v w : SessionTable) (body : List ℕ)
    → Turns retry root tag ops v w body → w.sessions_made ≤ suc v.sessions_made
turns_few true root tag ops v w body t = omega (arith, ap (λ x. x.sessions_made) t.same)
turns_few false root tag ops v w body (inl r) = omega (arith, r.moves.made)
turns_few false root tag ops v w body (inr t) = t.rests.few

pub turns_kept : (retry : Bool) (root : ℕ) (tag : List ℕ) (ops : List Op) (v w : SessionTable) (body : List ℕ) → IsSound v
    → Turns retry root tag ops v w body → (session slot : ℕ) (k : Kept) → kept_in w session slot ≡ Some k
    → (kept_in v session slot ≡ Some k) ⊎ ((retry ≡ false) × Names ops v session slot k.number × (k ≡ record { number = k.number; root = root; results = body }))
turns_kept true root tag ops v w body sound t session slot k keeps = inl (subst (λ x. kept_in x session slot ≡ Some k) t.same keeps)
turns_kept false root tag ops v w body sound (inl r) session slot k keeps = elim (runs_kept root tag ops v w body r sound session slot k keeps) [
  | inl before ↦ inl before
  | inr now ↦ inr (refl, now.0, now.1)
]
turns_kept false root tag ops v w body sound (inr t) session slot k keeps = inl (rests_kept v w t.rests session slot k keeps)

pub turns_again : (retry : Bool) (root : ℕ) (tag : List ℕ) (ops : List Op) (v w : SessionTable) (body : List ℕ) → IsSound v
    → Turns retry root tag ops v w body → retry ≡ true → IsAnsweredAsKept root ops v w body
turns_again true root tag ops v w body sound t is = repeats_answered root ops v w body t sound
turns_again false root tag ops v w body sound t is = absurd cc

pub turns_once : (retry : Bool) (root : ℕ) (tag : List ℕ) (ops : List Op) (v w : SessionTable) (body : List ℕ) → IsSound v
    → Turns retry root tag ops v w body → retry ≡ false → (most : ℕ) → suc most < past_all → AreBelow most v
    → SaysNotRun tag body ⊎ IsRunOnce ops v w
turns_once true root tag ops v w body sound t is most small below = absurd cc
turns_once false root tag ops v w body sound (inl r) is most small below = inr (runs_once root tag ops v w body r sound most small below)
turns_once false root tag ops v w body sound (inr t) is most small below = inl t.says

pub turns_last : (retry : Bool) (root : ℕ) (tag : List ℕ) (ops : List Op) (v w : SessionTable) (body : List ℕ) → IsSound v
    → Turns retry root tag ops v w body → (most : ℕ) → suc most < past_all → AreBelow most v
    → (session slot : ℕ) → last_in v session slot ≤ last_in w session slot
turns_last true root tag ops v w body sound t most small below session slot = omega (arith, ap (λ x. last_in x session slot) t.same)
turns_last false root tag ops v w body sound (inl r) most small below session slot = runs_last root tag ops v w body r sound most small below session slot
turns_last false root tag ops v w body sound (inr t) most small below session slot =
    rests_last v w sound t.rests most (omega (arith, small)) below session slot

pub turns_below : (retry : Bool) (root : ℕ) (tag : List ℕ) (ops : List Op) (v w : SessionTable) (body : List ℕ) → IsSound v
    → Turns retry root tag ops v w body → (most : ℕ) → AreBelow most v → AreBelow (suc most) w
turns_below true root tag ops v w body sound t most below = subst (λ x. AreBelow (suc most) x) (sym t.same) (below_later most v below)
turns_below false root tag ops v w body sound (inl r) most below = runs_below root tag ops v w body r sound most below
turns_below false root tag ops v w body sound (inr t) most below = below_later most w (rests_below most v w t.rests below)
