-- What is known of a copy stays in a turn that follows a run.
use Rattle.std.proofs.Common.{◌≡◌, ◌≢◌, ◌∙◌, inl, inr, ℕ, Bool, true, false, length, List, [], ◌∷◌, Option, Some, None, refl, sym, ap, subst, get_or-set_other, arith}
use Rattle.std.specs.Prelude.{◌==◌, nat_lt, option_map}
use Rattle.std.proofs.lemmas.List.{length-replicate}
use Rattle.client_copies.specs.Copies.{begun}
use Rattle.client_copies.specs.Table.{Copies, copy_at, with_begun}
use Rattle.client_copies.specs.Words.{ran}
use Rattle.client_copies.specs.declared.copy.ClientCopy.{ClientCopy}
use Rattle.client_copies.specs.declared.copy.First.{First}
use Rattle.client_copies.specs.declared.event.Event.{Event}
use Rattle.client_copies.specs.declared.table.TheConstants.{MOST_COPIES}
use Rattle.client_copies.specs.declared.told.Word.{Word}
use Rattle.client_core.specs.Endings.{Ways}
use Rattle.client_core.specs.State.{ClientState, new_client}
use Rattle.client_steps.specs.declared.setting.Setting.{Setting}
use Rattle.nfs_base.specs.declared.copy_spec.CopySpec.{CopySpec}
use Rattle.nfs_base.specs.declared.state_id.StateId.{StateId}
use Rattle.outbox.specs.declared.note.Note.{Note}
use Rattle.outbox.specs.declared.outgoing.Outbox.{Outbox}
use Rattle.streams.specs.declared.draws.Drawn.{Drawn}
use Rattle.client_laws.proofs.RunWords.{below, few_of, none_if, run_lives}
use Rattle.client_laws.proofs.TurnMoves.{turn_changes}
use Rattle.client_laws.specs.Causes.{Cause}
use Rattle.client_laws.specs.Changes.{Changes}
use Rattle.client_laws.specs.Lives.{Lives}
use Rattle.client_laws.specs.Sound.{IsSound}
use Rattle.client_laws.specs.SoundLaws.{begun_sound, first_stays, id_stays, ran_sound}
use Rattle.client_laws.specs.Telling.{words_of}
use Rattle.client_laws.specs.TurnLaws.{IsStart, TurnChanges}
use Rattle.client_laws.specs.Turns.{IsRun, IsTurn, MayTurn, Turn, Asks, Begins, Hears, Retries, Ticks, Works}
use Rattle.client_laws.specs.WordLaws.{Knew}

some_is : (x y : ClientCopy) → Some x ≡ Some y → x ≡ y
some_is x y e = cc

-- every copy of a run is sound
sound_of : (c : ClientCopy) (ws : List Word) → Lives (Some c) ws → IsSound c
sound_of c ws (inl none) =
    let gone = none.0 in
    absurd cc
sound_of c ws (inr life) =
    let same = some_is c (ran life.events (begun life.spec life.secret)) life.is in
    subst IsSound (sym same) (ran_sound life.events (begun life.spec life.secret) (begun_sound (begun life.spec life.secret) refl refl))

stays_first : (cause : Event → Type 0) (known : First) (o start after : Option ClientCopy) (ws more : List Word) → Lives o ws
    → ((c : ClientCopy) → o ≡ Some c → start ≡ Some c) → Changes cause start after more → Knew (λ (x : ClientCopy). x.first) known o
    → Knew (λ (x : ClientCopy). x.first) known after
stays_first cause known None start after ws more life there f knew = absurd knew
stays_first cause known (Some c) start after ws more life there f knew =
    let is : after ≡ Some (ran f.events c) = f.copy ∙ ap (option_map (ran f.events)) (there c refl) in
    subst (Knew (λ (x : ClientCopy). x.first) known) (sym is) (first_stays f.events c known (sound_of c ws life) knew)

stays_id : (cause : Event → Type 0) (id : StateId) (o start after : Option ClientCopy) (ws more : List Word) → Lives o ws
    → ((c : ClientCopy) → o ≡ Some c → start ≡ Some c) → Changes cause start after more → Knew (λ (x : ClientCopy). x.id) id o
    → Knew (λ (x : ClientCopy). x.id) id after
stays_id cause id None start after ws more life there f knew = absurd knew
stays_id cause id (Some c) start after ws more life there f knew =
    let is : after ≡ Some (ran f.events c) = f.copy ∙ ap (option_map (ran f.events)) (there c refl) in
    subst (Knew (λ (x : ClientCopy). x.id) id) (sym is) (id_stays f.events c id (sound_of c ws life) knew)

-- ---- a copy that is there isn't begun anew

begun_other : {M : Type 0} (b : Bool) (i j : ℕ) (spec : CopySpec) (secret : List ℕ) (c : ClientState M) (x : ClientCopy) → (i == j) ≡ b → copy_at i c.copies ≡ None
    → copy_at j c.copies ≡ Some x → copy_at j (with_begun i spec secret c.copies) ≡ Some x
begun_other false i j spec secret c x e none there =
    let other : j ≢ i = grind (arith, e) in
    get_or-set_other c.copies.copies i j (Some (begun spec secret)) None other ∙ there
begun_other true i j spec secret c x e none there =
    let same : i ≡ j = grind (arith, e) in
    let gone : None ≡ Some x = sym (subst (λ (n : ℕ). copy_at n c.copies ≡ None) same none) ∙ there in
    absurd cc

start_same : {M : Type 0} (turn : Turn) (c : ClientState M) (t : Copies) (j : ℕ) → MayTurn turn c → IsStart turn c.copies t
    → (x : ClientCopy) → copy_at j c.copies ≡ Some x → copy_at j t ≡ Some x
start_same (Begins i spec now) c t j may (inl same) x there = ap (copy_at j) same ∙ there
start_same (Begins i spec now) c t j may (inr begun_one) x there =
    ap (copy_at j) begun_one.1
    ∙ begun_other (i == j) i j spec begun_one.0 c x refl (none_if (nat_lt i MOST_COPIES) i c (below i MOST_COPIES may.1) may.2) there
start_same (Asks query i now) c t j may same x there = ap (copy_at j) same ∙ there
start_same (Works side work now) c t j may same x there = ap (copy_at j) same ∙ there
start_same (Ticks now) c t j may same x there = ap (copy_at j) same ∙ there
start_same (Retries now) c t j may same x there = ap (copy_at j) same ∙ there
start_same (Hears side message now) c t j may same x there = ap (copy_at j) same ∙ there

-- ---- the copies stay as many

many_from : {M W : Type 0} (ways : Ways) (gives : W → Drawn → W → Type 0) (turns : List Turn) (c d : ClientState M) (told : List Note)
    → length c.copies.copies ≡ MOST_COPIES → IsRun ways gives turns c d told → length d.copies.copies ≡ MOST_COPIES
many_from ways gives [] c d told many run = ap (λ (x : ClientState _). length x.copies.copies) run.0 ∙ many
many_from ways gives (turn ∷ turns) c d told many run =
    let changes = turn_changes ways gives turn c run.2 run.3 run.0 run.1 (few_of (length c.copies.copies) many) run.5 run.6 in
    many_from ways gives turns run.0 d run.4 (changes.many ∙ many) run.8

module _ {M W : Type 0} (ways : Ways) (gives : W → Drawn → W → Type 0) (turns : List Turn) (s : Setting M) (c : ClientState M) (told : List Note) (turn : Turn)
    (d : ClientState M) (v w : W) (out : Outbox) (j : ℕ) (run : IsRun ways gives turns (new_client s) c told) (may : MayTurn turn c)
    (step : IsTurn ways gives turn c v w (d, out)) where
  changes : TurnChanges ways turn c d out
  changes =
      let many = many_from ways gives turns (new_client s) c told (length-replicate {A = Option ClientCopy} MOST_COPIES None) run in
      turn_changes ways gives turn c v w d out (few_of (length c.copies.copies) many) may step

  pub first_in_turn : (known : First) → Knew (λ (x : ClientCopy). x.first) known (copy_at j c.copies) → Knew (λ (x : ClientCopy). x.first) known (copy_at j d.copies)
  first_in_turn known knew =
      let t = changes in
      stays_first (Cause ways turn c j) known (copy_at j c.copies) (copy_at j t.start) (copy_at j d.copies) (words_of j told) (words_of j out.notes)
      (run_lives ways gives turns s c told j run) (start_same turn c t.start j may t.begins) (t.each j) knew

  pub id_in_turn : (id : StateId) → Knew (λ (x : ClientCopy). x.id) id (copy_at j c.copies) → Knew (λ (x : ClientCopy). x.id) id (copy_at j d.copies)
  id_in_turn id knew =
      let t = changes in
      stays_id (Cause ways turn c j) id (copy_at j c.copies) (copy_at j t.start) (copy_at j d.copies) (words_of j told) (words_of j out.notes)
      (run_lives ways gives turns s c told j run) (start_same turn c t.start j may t.begins) (t.each j) knew
