-- A copy that is told in a step to be stable or exact is so behind it.
use Rattle.std.proofs.Common.{◌≡◌, ◌∙◌, ℕ, ◌≤◌, Bool, true, false, List, [], ◌∷◌, length, Option, Some, None, refl, sym, ap, subst, inl, inr, ◌⊎◌}
use Rattle.std.specs.Prelude.{◌==◌, ◌||◌}
use Rattle.std.specs.List.{list_any}
use Rattle.std.proofs.lemmas.List.Folds.{list_any-append}
use Rattle.caller_laws.specs.Good.{Identity}
use Rattle.client_copies.specs.Laws.{ByCallback, ByStatus, IsDone}
use Rattle.client_copies.specs.Steps.{after, asked_step, completed, ends_with, is_going, on_offloaded, on_progressed, on_told, stood_still, synced, told_by}
use Rattle.client_copies.specs.Table.{copy_at}
use Rattle.client_copies.specs.Words.{is_exact_word, is_stable_word, ran, told, told_by_run}
use Rattle.client_copies.specs.declared.copy.ClientCopy.{ClientCopy}
use Rattle.client_copies.specs.declared.copy.Session.{Session}
use Rattle.client_copies.specs.declared.copy.Stage.TheVariants.{Accepted, Asked}
use Rattle.client_copies.specs.declared.copy.Step.{Step}
use Rattle.client_copies.specs.declared.copy.Step.TheVariants.{Last}
use Rattle.client_copies.specs.declared.event.Event.{Event}
use Rattle.client_copies.specs.declared.event.Event.TheVariants as events
use Rattle.client_copies.specs.declared.told.Word.TheVariants as words
use Rattle.client_copies.specs.declared.told.Word.{Word}
use Rattle.client_core.specs.Endings.{Ways}
use Rattle.client_core.specs.State.{ClientState}
use Rattle.client_laws.specs.Speaking.SayingLaws.{ExactLaw, StableLaw, exact_kept, stable_kept}
use Rattle.client_laws.specs.Changes.{Changes}
use Rattle.client_laws.specs.Speaking.Carried.{IsCarried}
use Rattle.client_laws.specs.Speaking.Views.{says_exact, says_stable}
use Rattle.client_laws.specs.Telling.{tells_stable, word_if, words_in, words_of}
use Rattle.client_laws.specs.TurnLaws.{TurnChanges}
use Rattle.client_laws.specs.Turns.{IsTurn, MayTurn, Turn}
use Rattle.client_laws.specs.WholeTurns.{Purposes}
use Rattle.copy_ops.specs.declared.callback.OffloadEnd.TheVariants as ends
use Rattle.nfs_base.specs.declared.written.Stability.{Stability}
use Rattle.nfs_base.specs.declared.written.Stability.TheVariants.{FileSync}
use Rattle.outbox.specs.declared.note.Note.{Note}
use Rattle.outbox.specs.declared.note.Note.TheVariants as notes
use Rattle.outbox.specs.declared.outgoing.Outbox.{Outbox}
use Rattle.run_ends.specs.Ends.{Words, ways}
use Rattle.run_promise.proofs.client.Turning.{is_turn}
use Rattle.run_promise.specs.Client.Along.{Goes}
use Rattle.run_promise.specs.Client.Told.{tells_exact}
use Rattle.run_promise.specs.Client.Turns.{turn_of}
use Rattle.wire_machine.specs.Ends.{ClientAct}
use Rattle.wire_machine.specs.World.{Part}

-- ---- what a note tells is a word of its copy

word_told : (is : Word → Bool) (b : Bool) (word : Word) → is word ≡ true → b ≡ true → list_any is (word_if b word) ≡ true
word_told is true word so e = ap (λ (t : Bool). t || false) so
word_told is false word so e = absurd cc

pub stable_word : (n : ℕ) (note : Note) → tells_stable n note ≡ true → list_any is_stable_word (words_in n note) ≡ true
stable_word n (notes.Stable copy) e = word_told is_stable_word (copy == n) words.Stable refl e
stable_word n _ e = absurd cc

pub exact_word : (n : ℕ) (note : Note) → tells_exact n note ≡ true → list_any is_exact_word (words_in n note) ≡ true
exact_word n (notes.Exact copy) e = word_told is_exact_word (copy == n) words.Exact refl e
exact_word n _ e = absurd cc

in_either : (a b : Bool) → (a ≡ true) ⊎ (b ≡ true) → (a || b) ≡ true
in_either true b e = refl
in_either false b (inl e) = absurd cc
in_either false b (inr e) = e

either_of : (a b : Bool) → (a || b) ≡ true → (a ≡ true) ⊎ (b ≡ true)
either_of true b e = inl refl
either_of false b e = inr e

words_told : (tells : Note → Bool) (is : Word → Bool) (n : ℕ) → ((note : Note) → tells note ≡ true → list_any is (words_in n note) ≡ true) → (ns : List Note)
    → list_any tells ns ≡ true → list_any is (words_of n ns) ≡ true
words_told tells is n law [] e = absurd cc
words_told tells is n law (note ∷ ns) e =
    list_any-append is (words_in n note) (words_of n ns)
    ∙ in_either (list_any is (words_in n note)) (list_any is (words_of n ns))
    (elim (either_of (tells note) (list_any tells ns) e) [
      | inl one ↦ inl (law note one)
      | inr more ↦ inr (words_told tells is n law ns more)
    ])

-- ---- behind the event that tells it

synced_stable : (level : Stability) (c : ClientCopy) → level ≡ FileSync → says_stable (synced level c).1.stage ≡ true
synced_stable level c e = ap (λ (x : Stability). says_stable (synced x c).1.stage) e

done_stable : (event : Event) (c : ClientCopy) → c.stage ≡ Accepted → IsDone event → says_stable (after event c).1.stage ≡ true
unfolding after
done_stable event c was (ByCallback response level) =
    ap (λ (b : Bool). says_stable (on_offloaded (ends.Done response) b c).1.stage) (ap is_going was) ∙ synced_stable response.committed c level
done_stable event c was (ByStatus count sent_at status ok) =
    let d : ClientCopy = record c { query = None; asked_at = sent_at } in
    ap (λ (b : Bool). says_stable (on_progressed count (Some status) b d).1.stage) (ap is_going was)
    ∙ ap (λ (number : ℕ). says_stable (completed count (number == 0) status d).1.stage) ok

last_exact : (b : Bool) (c : ClientCopy) → list_any is_exact_word (told (ends_with (told_by b) c).0) ≡ true → says_exact (ends_with (told_by b) c).1.stage ≡ true
last_exact true c e = refl
last_exact false c e = absurd cc

told_exact : (change : ℕ) (session : Session) (c : ClientCopy) → c.stage ≡ Asked Last → list_any is_exact_word (told (after (events.Told change session) c).0) ≡ true
    → says_exact (after (events.Told change session) c).1.stage ≡ true
unfolding after
told_exact change session c was e =
    subst (λ (o : Option Step). list_any is_exact_word (told (on_told change session o c).0) ≡ true → says_exact (on_told change session o c).1.stage ≡ true)
    (sym (ap asked_step was)) (last_exact (stood_still change session c.first) c) e

-- ---- behind events, and in a step, where what is said stays

-- once such a word is told of a copy this is said of it
pub record Says (is : Word → Bool) (says : ClientCopy → Bool) : Type 0 where
  pub then : (event : Event) (c : ClientCopy) → list_any is (told (after event c).0) ≡ true → says (after event c).1 ≡ true
  pub kept : (events : List Event) (c : ClientCopy) → says c ≡ true → says (ran events c) ≡ true

pub stable_says : StableLaw → Says is_stable_word (λ c. says_stable c.stage)
stable_says law = record {
  then = λ event c e. let said = law event c e in done_stable event c said.accepted said.done;
  kept = stable_kept;
}

pub exact_says : ExactLaw → Says is_exact_word (λ c. says_exact c.stage)
exact_says law = record {
  then = λ event c e.
      let said = law event c e in
      subst (λ (x : Event). list_any is_exact_word (told (after x c).0) ≡ true → says_exact (after x c).1.stage ≡ true) (sym said.told)
      (told_exact said.first.change said.session c said.asked) e;
  kept = exact_kept;
}

-- of a copy that was begun
abbrev pub says_of : (ClientCopy → Bool) → Option ClientCopy → Bool
says_of says None = false
says_of says (Some c) = says c

module _ (is : Word → Bool) (says : ClientCopy → Bool) (x : Says is says) where
  said_behind : (events : List Event) (c : ClientCopy) → list_any is (told_by_run events c) ≡ true → says (ran events c) ≡ true
  said_behind [] c e = absurd cc
  said_behind (event ∷ events) c e =
      let next = (after event c).1 in
      elim (either_of (list_any is (told (after event c).0)) (list_any is (told_by_run events next))
      (sym (list_any-append is (told (after event c).0) (told_by_run events next)) ∙ e)) [
        | inl now ↦ x.kept events next (x.then event c now)
        | inr more ↦ said_behind events next more
      ]

  said_changed : (cause : Event → Type 0) (a b : Option ClientCopy) (ws : List Word) → Changes cause a b ws → list_any is ws ≡ true → says_of says b ≡ true
  said_changed cause None b ws f e =
      let none : false ≡ true = sym (ap (list_any is) f.words) ∙ e in
      absurd cc
  said_changed cause (Some c) b ws f e = ap (says_of says) f.copy ∙ said_behind f.events c (sym (ap (list_any is) f.words) ∙ e)

  module _ {M : Type 0} (words : Words M ℕ) where
    abbrev pub ChangeLaw : Type 0
    ChangeLaw =
        (ways : Ways) (turn : Turn) (c d : ClientState M) (v w : ℕ) (out : Outbox) → length c.copies.copies ≤ 256 → MayTurn turn c
        → IsTurn ways words.gives turn c v w (d, out) → TurnChanges ways turn c d out

    pub said_in_step : ChangeLaw → (who : Identity) (p q : Purposes) (o : Option ClientAct) (now : ℕ) (c d : ClientState M) (part : Part) (tells : Note → Bool) (n : ℕ)
        → ((note : Note) → tells note ≡ true → list_any is (words_in n note) ≡ true) → Goes words who p q o now c d part → IsCarried who 0 p c
        → list_any tells part.out.notes ≡ true → says_of says (copy_at n d.copies) ≡ true
    said_in_step law who p q None now c d part tells n is_word goes carried e =
        let none : false ≡ true = sym (ap (λ (y : Part). list_any tells y.out.notes) goes.0.idle_is) ∙ e in
        absurd cc
    said_in_step law who p q (Some act) now c d part tells n is_word goes carried e =
        let did = law (ways words c) (turn_of act now) c d goes.acted.draws goes.acted.after part.out carried.few goes.may
        (is_turn words act now c d goes.acted.draws goes.acted.after part.out goes.acted.goes.0) in
        said_changed _ (copy_at n did.start) (copy_at n d.copies) (words_of n part.out.notes) (did.each n) (words_told tells is n is_word part.out.notes e)
