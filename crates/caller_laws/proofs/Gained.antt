-- A mount that holds a context more, whose call's answer was taken at a place: the root that an INIT gave, or the child of a CREATE.
use Rattle.std.proofs.Common.{◌≡◌, ◌⊎◌, inl, inr, ℕ, ◌≤◌, Bool, true, false, List, [], ◌∷◌, ◌++◌, length, get_or, set, Option, Some, None, refl, sym, ap, subst, ◌∙◌}
use Rattle.std.specs.Prelude.{option_map}
use Rattle.std.proofs.lemmas.Bool.{and_parts}
use Rattle.session_client.specs.Pending.{Asking}
use Rattle.mount.specs.Falling.{is_used, stays_for, tidied}
use Rattle.mount.specs.Places.{xid_awaited}
use Rattle.mount.specs.State.{Mounted, awaited_at, pending_at, pending_in, root_name}
use Rattle.mount.specs.declared.state.Aim.{Aim}
use Rattle.mount.specs.declared.state.Context as held
use Rattle.mount.specs.declared.state.Pending.{Pending}
use Rattle.mount.specs.declared.state.Pending.TheVariants.{Under}
use Rattle.mount.specs.declared.state.Standing.{Standing}
use Rattle.wire_model.specs.Spelling.{Context}
use Rattle.wire_model.specs.Wire.{Awaited}
use Rattle.caller_laws.specs.Good.{Identity, IsFace, IsFairCall, IsGood, IsNumbered}
use Rattle.caller_laws.specs.Lawful.{GoesOn}
use Rattle.caller_laws.specs.View.{Above, Face, awaited_in, caller_of, face, face_of, handle_named, has_in, is_same}
use Rattle.caller_laws.proofs.Faces.{face_new, face_other, face_stays, face_was, has_more, has_was, kept_face, same_are}
use Rattle.caller_laws.proofs.Losses.{emptied_is, pending_was, used_awaited}
use Rattle.caller_laws.proofs.Shrunk.{awaited_same, awaiting_of, mapped}

-- the context more, and what is needed is left
abbrev pub gained : Mounted → ℕ → held.Context → Standing → List (Option ℕ) → Mounted
gained m place new st children = tidied (record m { contexts = m.contexts ++ new ∷ []; standing = st; children = children; places = set m.places place None })

module _ (who : Identity) (m : Mounted) (place : ℕ) (new : held.Context) (st : Standing) (children : List (Option ℕ)) (g : IsGood who m) where
  abbrev w : Mounted
  w = gained m place new st children

  abbrev used : ℕ → Bool
  used = is_used (root_name st) children (set m.places place None)

  -- a context was there, or is the new one
  pub face_is : (n : ℕ) (f : Face) → face_of n (gained m place new st children).contexts ≡ Some f → (face_of n m.contexts ≡ Some f) ⊎ ((new.name ≡ n) × (face new ≡ f))
  face_is n f there = face_other m.contexts new n f (face_was used (m.contexts ++ new ∷ []) n f there)

  pub face_needed : (n : ℕ) (f : Face) → is_used (root_name st) children (set m.places place None) n ≡ true → face_of n m.contexts ≡ Some f
      → face_of n (gained m place new st children).contexts ≡ Some f
  face_needed n f needed there = kept_face used (m.contexts ++ new ∷ []) n needed ∙ face_stays m.contexts new n f there

  pub face_gained : is_used (root_name st) children (set m.places place None) new.name ≡ true → face_of new.name m.contexts ≡ None
      → face_of new.name (gained m place new st children).contexts ≡ Some (face new)
  face_gained needed none = kept_face used (m.contexts ++ new ∷ []) new.name needed ∙ face_new m.contexts new none

  pub has_is : (context root : Context) → has_in (gained m place new st children).contexts context root ≡ true
      → (has_in m.contexts context root ≡ true) ⊎ ((context ≡ handle_named new.caller.handle) × (root ≡ handle_named new.root))
  has_is context root there =
      elim (has_more m.contexts new context root (has_was used (m.contexts ++ new ∷ []) context root there)) [
        | inl was ↦ inl was
        | inr is ↦
            let parts = and_parts (is_same (handle_named new.caller.handle) context) (is_same (handle_named new.root) root) is in
            inr (sym (same_are (handle_named new.caller.handle) context parts.0), sym (same_are (handle_named new.root) root parts.1))
      ]

  -- what is awaited was, and elsewhere
  pub pending_is : (other : ℕ) (p : Pending) → pending_at (gained m place new st children) other ≡ Some p → pending_at m other ≡ Some p
  pending_is other p there = pending_was m.places place other p there

  pub apart : (other : ℕ) (p : Pending) → pending_at (gained m place new st children) other ≡ Some p → other ≡ place → ⊥
  apart other p there same =
      let none : get_or (set m.places place None) place None ≡ None = emptied_is m.places place in
      let here : pending_in (get_or (set m.places place None) place None) ≡ Some p =
      ap (λ (n : ℕ). pending_in (get_or (set m.places place None) n None)) (sym same) ∙ there in
      let nothing : pending_in None ≡ Some p = ap pending_in (sym none) ∙ here in
      absurd cc

  pub under_is : (other context : ℕ) (aim : Aim) (call : Asking) → pending_at (gained m place new st children) other ≡ Some (Under context aim call)
      → face_of context (gained m place new st children).contexts ≡ face_of context m.contexts
  under_is other context aim call there =
      let fair = g.fair other (Under context aim call) (pending_is other (Under context aim call) there) in
      face_needed context fair.face (used_awaited (root_name st) children (set m.places place None) other context aim call there) fair.there ∙ sym fair.there

  pub unnamed_is : (p : Pending) (xid other : ℕ) → pending_at m place ≡ Some p → xid_awaited p ≡ new.name → (q : Pending) → pending_at (gained m place new st children) other ≡ Some q
      → xid_awaited q ≡ xid → IsNumbered m xid → IsNumbered (gained m place new st children) xid
  unnamed_is p xid other here name q there xid_is numbered = record {
    below = numbered.below;
    unnamed = by (face_of xid w.contexts) refl;
  }
    where
      by : (o : Option Face) → face_of xid (gained m place new st children).contexts ≡ o → o ≡ None
      by None is = refl
      by (Some f) is =
          elim (face_is xid f is) [
            | inl was ↦ let none = numbered.unnamed in absurd cc
            | inr that ↦
                absurd (apart other q there (g.distinct other place q p (pending_is other q there) here (xid_is ∙ sym that.0 ∙ sym name)))
          ]

  pub held_is : (n : ℕ) (f : Face) → length new.caller.handle ≡ 8 → new.caller.owner ≡ m.server → new.name ≤ m.calls
      → face_of n (gained m place new st children).contexts ≡ Some f → IsFace (gained m place new st children) n f
  held_is n f eight own below there =
      elim (face_is n f there) [
        | inl was ↦ let h = g.held n f was in record { handle = h.handle; owner = h.owner; below = h.below }
        | inr that ↦
            record {
              handle = ap (λ (x : Face). length x.handle) (sym that.1) ∙ eight;
              owner = ap (λ (x : Face). x.owner) (sym that.1) ∙ own;
              below = subst (λ (k : ℕ). k ≤ m.calls) that.0 below;
            }
      ]

  pub fair_is : (p : Pending) (other context : ℕ) (aim : Aim) (call : Asking) → pending_at m place ≡ Some p → xid_awaited p ≡ new.name
      → pending_at (gained m place new st children) other ≡ Some (Under context aim call) → (stays_for aim ≡ false → root_name st ≡ Some context)
      → IsFairCall (gained m place new st children) other context aim call
  fair_is p other context aim call here name there rooted =
      let fair = g.fair other (Under context aim call) (pending_is other (Under context aim call) there) in
      record {
        numbered = unnamed_is p call.awaited.xid other here name (Under context aim call) there refl fair.numbered;
        face = fair.face;
        there = under_is other context aim call there ∙ fair.there;
        owner = fair.owner;
        under = fair.under;
        asked = fair.asked;
        aim_fits = fair.aim_fits;
        rooted = rooted;
      }

  pub awaits_is : (before after : Above) → GoesOn m before after → (other : ℕ) (x : Awaited) → (caller_of after (gained m place new st children)).awaits other ≡ Some x
      → (caller_of before m).awaits other ≡ Some x
  awaits_is before after goes other x h =
      let it = mapped (awaited_in w.contexts (after.purpose other)) (pending_at w other) x h in
      let was = pending_is other it.from it.was in
      let a = awaiting_of (awaited_at m other) it.from was in
      let same : awaited_in m.contexts (before.purpose other) it.from ≡ awaited_in w.contexts (after.purpose other) it.from =
      awaited_same it.from m.contexts w.contexts (before.purpose other) (after.purpose other) (sym (goes.purpose other a.a a.is))
      (λ context aim call is. sym (under_is other context aim call (it.was ∙ ap (λ (p : Pending). Some p) is))) in
      ap (option_map (awaited_in m.contexts (before.purpose other))) was ∙ ap (λ (y : Awaited). Some y) (same ∙ it.gives)
