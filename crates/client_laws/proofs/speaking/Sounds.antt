-- Over a turn each copy knows no more than its stage lets it, and what is known of it stays.
use Rattle.std.proofs.Common.{◌≡◌, ◌∙◌, ℕ, zero, suc, List, get_or, replicate, Option, Some, None, refl, sym, ap, subst, inl, inr}
use Rattle.std.specs.Prelude.{option_map}
use Rattle.client_copies.specs.Copies.{begun}
use Rattle.client_copies.specs.Table.{copy_at, no_copies}
use Rattle.client_copies.specs.Words.{ran}
use Rattle.client_copies.specs.declared.copy.ClientCopy.{ClientCopy}
use Rattle.client_copies.specs.declared.copy.First.{First}
use Rattle.client_copies.specs.declared.event.Event.{Event}
use Rattle.client_copies.specs.declared.table.TheConstants.{MOST_COPIES}
use Rattle.client_core.specs.Endings.{Ways}
use Rattle.client_core.specs.State.{ClientState}
use Rattle.client_laws.proofs.speaking.Mounts.{none_some}
use Rattle.client_laws.proofs.speaking.Words.{New, Same, Starts, start_some, starts}
use Rattle.client_laws.specs.Sound.{AreSound, IsSound}
use Rattle.client_laws.specs.SoundLaws.{begun_sound, first_stays, id_stays, ran_sound}
use Rattle.client_laws.specs.TurnLaws.{TurnChanges}
use Rattle.client_laws.specs.Turns.{MayTurn, Turn}
use Rattle.client_laws.specs.WordLaws.{Knew}
use Rattle.nfs_base.specs.declared.state_id.StateId.{StateId}
use Rattle.outbox.specs.declared.outgoing.Outbox.{Outbox}

some_is : (x y : ClientCopy) → Some x ≡ Some y → x ≡ y
some_is x y e = cc

sound_start : (before start : Option ClientCopy) (copy : ClientCopy) → ((x : ClientCopy) → before ≡ Some x → IsSound x) → Starts before start → start ≡ Some copy → IsSound copy
sound_start before start copy sound (Same same) is = sound copy (sym same ∙ is)
sound_start before start copy sound (New spec secret gone (inl new)) is =
    subst IsSound (some_is (begun spec secret) copy (sym new ∙ is)) (begun_sound (begun spec secret) refl refl)
sound_start before start copy sound (New spec secret gone (inr none)) is = none_some start copy none is

module _ {M : Type 0} (ways : Ways) (turn : Turn) (c d : ClientState M) (out : Outbox) (changes : TurnChanges ways turn c d out) (may : MayTurn turn c) (sound : AreSound c.copies) where
  begins_at : (j : ℕ) → Starts (copy_at j c.copies) (copy_at j changes.start)
  begins_at j = starts turn c changes.start j may changes.begins

  pub sound_after : AreSound d.copies
  sound_after j copy is = by (copy_at j changes.start) refl
    where
      es : List Event
      es = (changes.each j).events

      by : (o : Option ClientCopy) → copy_at j changes.start ≡ o → IsSound copy
      by None none = none_some (copy_at j d.copies) copy ((changes.each j).copy ∙ ap (option_map (ran es)) none) is
      by (Some x) some =
          let now = some_is (ran es x) copy (sym ((changes.each j).copy ∙ ap (option_map (ran es)) some) ∙ is) in
          subst IsSound now (ran_sound es x (sound_start (copy_at j c.copies) (copy_at j changes.start) x (sound j) (begins_at j) some))

  -- a copy that there was is what events made of it
  gone_on : (j : ℕ) (x : ClientCopy) → copy_at j c.copies ≡ Some x → copy_at j d.copies ≡ Some (ran (changes.each j).events x)
  gone_on j x some =
      (changes.each j).copy ∙ ap (option_map (ran (changes.each j).events)) (start_some (copy_at j c.copies) (copy_at j changes.start) x (begins_at j) some)

  pub first_after : (j : ℕ) (known : First) → Knew (λ (x : ClientCopy). x.first) known (copy_at j c.copies) → Knew (λ (x : ClientCopy). x.first) known (copy_at j d.copies)
  first_after j known knew = by (copy_at j c.copies) refl knew
    where
      by : (o : Option ClientCopy) → copy_at j c.copies ≡ o → Knew (λ (x : ClientCopy). x.first) known o → Knew (λ (x : ClientCopy). x.first) known (copy_at j d.copies)
      by None none k = absurd k
      by (Some x) some k = subst (Knew (λ (x : ClientCopy). x.first) known) (sym (gone_on j x some)) (first_stays (changes.each j).events x known (sound j x some) k)

  pub name_after : (j : ℕ) (id : StateId) → Knew (λ (x : ClientCopy). x.id) id (copy_at j c.copies) → Knew (λ (x : ClientCopy). x.id) id (copy_at j d.copies)
  name_after j id knew = by (copy_at j c.copies) refl knew
    where
      by : (o : Option ClientCopy) → copy_at j c.copies ≡ o → Knew (λ (x : ClientCopy). x.id) id o → Knew (λ (x : ClientCopy). x.id) id (copy_at j d.copies)
      by None none k = absurd k
      by (Some x) some k = subst (Knew (λ (x : ClientCopy). x.id) id) (sym (gone_on j x some)) (id_stays (changes.each j).events x id (sound j x some) k)

-- before the first turn there is no copy
none_in : {X : Type 0} (n j : ℕ) → get_or (replicate {A = Option X} n None) j None ≡ None
none_in zero zero = refl
none_in zero (suc j) = refl
none_in (suc n) zero = refl
none_in (suc n) (suc j) = none_in n j

pub sound_first : AreSound no_copies
sound_first j copy is = none_some (copy_at j no_copies) copy (none_in MOST_COPIES j) is
