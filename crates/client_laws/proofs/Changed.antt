-- What happens to copies over a desk: it can be joined, and what changes neither copies nor notes is nothing.
use Rattle.std.proofs.Common.{◌≡◌, ◌≢◌, ◌∙◌, ℕ, ◌<◌, Bool, true, false, List, [], ◌∷◌, ◌++◌, length, Option, Some, None, refl, sym, ap, subst, set, arith}
use Rattle.std.specs.Prelude.{◌==◌, option_map}
use Rattle.std.specs.List.{AllByRecursion}
use Rattle.std.proofs.lemmas.Grind.{flat_map-append}
use Rattle.std.proofs.lemmas.List.{append-nil, append_assoc, length-set}
use Rattle.client_copies.specs.Steps.{after}
use Rattle.client_copies.specs.Table.{Copies, copy_after, copy_at, said_of, told_at}
use Rattle.client_copies.specs.Words.{ran, told, told_by_run}
use Rattle.client_copies.specs.declared.copy.ClientCopy.{ClientCopy}
use Rattle.client_copies.specs.declared.event.Event.{Event}
use Rattle.client_copies.specs.declared.told.Said.{Said}
use Rattle.client_copies.specs.declared.told.Said.TheVariants.{Nothing, One, Two}
use Rattle.client_copies.specs.declared.told.Word.{Word}
use Rattle.client_copies.specs.declared.told.Word.TheVariants as words
use Rattle.client_steps.specs.Desks.{in_note, noted, said_by, told_to, word_note}
use Rattle.client_steps.specs.declared.desk.Desk.{Desk}
use Rattle.outbox.specs.declared.note.Note.{Note}
use Rattle.client_laws.specs.Changes.{Changes, told_by}
use Rattle.client_laws.specs.Telling.{word_if, words_in, words_of}
use Rattle.client_laws.specs.TableLaws.{copy_kept, copy_written}

-- ---- runs of events, one behind the other

pub all_behind : {X : Type 0} (P : X → Type 0) (xs ys : List X) → AllByRecursion P xs → AllByRecursion P ys → AllByRecursion P (xs ++ ys)
all_behind P [] ys a b = b
all_behind P (x ∷ xs) ys a b = (a.0, all_behind P xs ys a.1 b)

pub all_wider : {X : Type 0} (P Q : X → Type 0) → ((x : X) → P x → Q x) → (xs : List X) → AllByRecursion P xs → AllByRecursion Q xs
all_wider P Q wider [] a = tt
all_wider P Q wider (x ∷ xs) a = (wider x a.0, all_wider P Q wider xs a.1)

pub ran_append : (es fs : List Event) (c : ClientCopy) → ran (es ++ fs) c ≡ ran fs (ran es c)
ran_append [] fs c = refl
ran_append (e ∷ es) fs c = ran_append es fs (after e c).1

pub told_append : (es fs : List Event) (c : ClientCopy) → told_by_run (es ++ fs) c ≡ told_by_run es c ++ told_by_run fs (ran es c)
told_append [] fs c = refl
told_append (e ∷ es) fs c =
    ap (λ ws. told (after e c).0 ++ ws) (told_append es fs (after e c).1)
    ∙ sym (append_assoc (told (after e c).0) (told_by_run es (after e c).1) (told_by_run fs (ran es (after e c).1)))

ran_behind : (es fs : List Event) (o : Option ClientCopy) → option_map (ran (es ++ fs)) o ≡ option_map (ran fs) (option_map (ran es) o)
ran_behind es fs None = refl
ran_behind es fs (Some c) = ap (λ d. Some d) (ran_append es fs c)

told_behind : (es fs : List Event) (o : Option ClientCopy) → told_by (es ++ fs) o ≡ told_by es o ++ told_by fs (option_map (ran es) o)
told_behind es fs None = refl
told_behind es fs (Some c) = told_append es fs c

ran_none : (o : Option ClientCopy) → o ≡ option_map (ran []) o
ran_none None = refl
ran_none (Some c) = refl

told_none : (o : Option ClientCopy) → [] ≡ told_by [] o
told_none None = refl
told_none (Some c) = refl

ran_one : (event : Event) (o : Option ClientCopy) → copy_after event o ≡ option_map (ran (event ∷ [])) o
ran_one event None = refl
ran_one event (Some c) = refl

told_one : (event : Event) (o : Option ClientCopy) → told (said_of event o) ≡ told_by (event ∷ []) o
told_one event None = refl
told_one event (Some c) = sym (append-nil (told (after event c).0))

-- ---- changes

pub changes_none : (cause : Event → Type 0) (o : Option ClientCopy) → Changes cause o o []
changes_none cause o = record { events = []; caused = tt; copy = ran_none o; words = told_none o }

pub changes_one : (cause : Event → Type 0) (event : Event) (o : Option ClientCopy) → cause event
    → Changes cause o (copy_after event o) (told (said_of event o))
changes_one cause event o why = record { events = event ∷ []; caused = (why, tt); copy = ran_one event o; words = told_one event o }

pub changes_then : (cause : Event → Type 0) (a b c : Option ClientCopy) (xs ys : List Word)
    → Changes cause a b xs → Changes cause b c ys → Changes cause a c (xs ++ ys)
changes_then cause a b c xs ys f g = record {
  events = f.events ++ g.events;
  caused = all_behind cause f.events g.events f.caused g.caused;
  copy = g.copy ∙ ap (option_map (ran g.events)) f.copy ∙ sym (ran_behind f.events g.events a);
  words =
      ap (λ ws. ws ++ ys) f.words ∙ ap (λ ws. told_by f.events a ++ ws) (g.words ∙ ap (told_by g.events) f.copy)
      ∙ sym (told_behind f.events g.events a);
}

pub changes_wider : (P Q : Event → Type 0) → ((e : Event) → P e → Q e) → (a b : Option ClientCopy) (ws : List Word) → Changes P a b ws → Changes Q a b ws
changes_wider P Q wider a b ws f = record { events = f.events; caused = all_wider P Q wider f.events f.caused; copy = f.copy; words = f.words }

-- ---- words in notes

pub words_append : (j : ℕ) (xs ys : List Note) → words_of j (xs ++ ys) ≡ words_of j xs ++ words_of j ys
words_append j xs ys = flat_map-append (words_in j) xs ys

-- a copy's number is one byte
number_is : (i : ℕ) → i < 256 → in_note i ≡ i
number_is i small = grind (arith, small)

word_told : (j i : ℕ) (word : Word) → i < 256 → words_in j (word_note i word) ≡ word_if (i == j) word
word_told j i words.Started small = rw (number_is i small) refl
word_told j i (words.Copied count) small = rw (number_is i small) refl
word_told j i words.Stable small = rw (number_is i small) refl
word_told j i (words.Failed status) small = rw (number_is i small) refl
word_told j i words.Exact small = rw (number_is i small) refl
word_told j i words.Unsure small = rw (number_is i small) refl
word_told j i words.Cancelled small = rw (number_is i small) refl

-- the notes of what is said
abbrev pub notes_said : ℕ → Said → List Note
notes_said i Nothing = []
notes_said i (One word) = word_note i word ∷ []
notes_said i (Two first second) = word_note i first ∷ word_note i second ∷ []

pub said_notes : (i : ℕ) (said : Said) (d : Desk) → (said_by i said d).out.notes ≡ d.out.notes ++ notes_said i said
said_notes i Nothing d = sym (append-nil d.out.notes)
said_notes i (One word) d = refl
said_notes i (Two first second) d = append_assoc d.out.notes (word_note i first ∷ []) (word_note i second ∷ [])

pub said_copies : (i : ℕ) (said : Said) (d : Desk) → (said_by i said d).copies ≡ d.copies
said_copies i Nothing d = refl
said_copies i (One word) d = refl
said_copies i (Two first second) d = refl

-- the words of one copy in them: all, or none
abbrev pub said_if : Bool → Said → List Word
said_if true said = told said
said_if false said = []

one_word : (b : Bool) (word : Word) → word_if b word ++ [] ≡ said_if b (One word)
one_word true word = refl
one_word false word = refl

two_words : (b : Bool) (first second : Word) → word_if b first ++ (word_if b second ++ []) ≡ said_if b (Two first second)
two_words true first second = refl
two_words false first second = refl

none_said : (b : Bool) → [] ≡ said_if b Nothing
none_said true = refl
none_said false = refl

pub words_said : (j i : ℕ) (said : Said) → i < 256 → words_of j (notes_said i said) ≡ said_if (i == j) said
words_said j i Nothing small = none_said (i == j)
words_said j i (One word) small = ap (λ (ws : List Word). ws ++ []) (word_told j i word small) ∙ one_word (i == j) word
words_said j i (Two first second) small =
    ap (λ (ws : List Word). ws ++ (words_in j (word_note i second) ++ [])) (word_told j i first small)
    ∙ ap (λ (ws : List Word). word_if (i == j) first ++ (ws ++ [])) (word_told j i second small)
    ∙ two_words (i == j) first second

-- ---- what happens over a desk

pub record Moves (cause : ℕ → Event → Type 0) (d e : Desk) : Type 0 where
  pub held : e.copies.held ≡ d.copies.held
  pub many : length e.copies.copies ≡ length d.copies.copies
  pub told : List Note
  pub notes : e.out.notes ≡ d.out.notes ++ told
  pub each : (j : ℕ) → Changes (cause j) (copy_at j d.copies) (copy_at j e.copies) (words_of j told)

pub moves_then : {cause : ℕ → Event → Type 0} {d e f : Desk} → Moves cause d e → Moves cause e f → Moves cause d f
moves_then {cause = cause} {d = d} {e = e} {f = f} m n = record {
  held = n.held ∙ m.held;
  many = n.many ∙ m.many;
  told = m.told ++ n.told;
  notes = n.notes ∙ ap (λ ns. ns ++ n.told) m.notes ∙ append_assoc d.out.notes m.told n.told;
  each = λ j.
      subst (Changes (cause j) (copy_at j d.copies) (copy_at j f.copies)) (sym (words_append j m.told n.told))
      (changes_then (cause j) (copy_at j d.copies) (copy_at j e.copies) (copy_at j f.copies) (words_of j m.told) (words_of j n.told) (m.each j) (n.each j));
}

pub moves_wider : {P Q : ℕ → Event → Type 0} {d e : Desk} → ((j : ℕ) (event : Event) → P j event → Q j event) → Moves P d e → Moves Q d e
moves_wider {P = P} {Q = Q} {d = d} {e = e} wider m = record {
  held = m.held;
  many = m.many;
  told = m.told;
  notes = m.notes;
  each = λ j. changes_wider (P j) (Q j) (wider j) (copy_at j d.copies) (copy_at j e.copies) (words_of j m.told) (m.each j);
}

-- neither copies nor notes change
pub record IsStill (d e : Desk) : Type 0 where
  pub copies : e.copies ≡ d.copies
  pub notes : e.out.notes ≡ d.out.notes

pub moves_still : {cause : ℕ → Event → Type 0} {d e : Desk} → IsStill d e → Moves cause d e
moves_still {cause = cause} {d = d} {e = e} still = record {
  held = ap (λ (t : Copies). t.held) still.copies;
  many = ap (λ (t : Copies). length t.copies) still.copies;
  told = [];
  notes = still.notes ∙ sym (append-nil d.out.notes);
  each = λ j.
      subst (λ (t : Copies). Changes (cause j) (copy_at j d.copies) (copy_at j t) []) (sym still.copies) (changes_none (cause j) (copy_at j d.copies));
}

pub moves_none : {cause : ℕ → Event → Type 0} (d : Desk) → Moves cause d d
moves_none d = moves_still (record { copies = refl; notes = refl })

-- a note that tells of no copy
pub moves_noted : {cause : ℕ → Event → Type 0} (note : Note) (d : Desk) → ((j : ℕ) → words_in j note ≡ []) → Moves cause d (noted note d)
moves_noted {cause = cause} note d silent = record {
  held = refl;
  many = refl;
  told = note ∷ [];
  notes = refl;
  each = λ j.
      subst (Changes (cause j) (copy_at j d.copies) (copy_at j d.copies)) (sym (ap (λ (ws : List Word). ws ++ []) (silent j)))
      (changes_none (cause j) (copy_at j d.copies));
}

pub told_each : (cause : ℕ → Event → Type 0) (b : Bool) (j i : ℕ) (event : Event) (t : Copies) → (i == j) ≡ b → cause i event
    → Changes (cause j) (copy_at j t) (copy_at j (told_at i event t).1) (said_if b (said_of event (copy_at i t)))
told_each cause true j i event t e why =
    let same : i ≡ j = grind (arith, e) in
    subst
    (λ (n : ℕ). Changes (cause n) (copy_at n t) (copy_at n (told_at i event t).1) (told (said_of event (copy_at i t)))) same
    (subst (λ (o : Option ClientCopy). Changes (cause i) (copy_at i t) o (told (said_of event (copy_at i t)))) (sym (copy_written event i t))
    (changes_one (cause i) event (copy_at i t) why))
told_each cause false j i event t e why =
    let other : j ≢ i = grind (arith, e) in
    subst (λ (o : Option ClientCopy). Changes (cause j) (copy_at j t) o []) (sym (copy_kept i j (copy_after event (copy_at i t)) t other))
    (changes_none (cause j) (copy_at j t))

-- something happens to a copy
pub moves_told : {cause : ℕ → Event → Type 0} (i : ℕ) (event : Event) (d : Desk) → i < 256 → cause i event → Moves cause d (told_to i event d)
moves_told {cause = cause} i event d small why =
    let said = said_of event (copy_at i d.copies) in
    let next : Desk = record d { copies = (told_at i event d.copies).1 } in
    let same = said_copies i said next in
    record {
      held = ap (λ (t : Copies). t.held) same;
      many = ap (λ (t : Copies). length t.copies) same ∙ length-set d.copies.copies i (copy_after event (copy_at i d.copies));
      told = notes_said i said;
      notes = said_notes i said next;
      each = λ j.
          subst (Changes (cause j) (copy_at j d.copies) (copy_at j (told_to i event d).copies)) (sym (words_said j i said small))
          (subst (λ (t : Copies). Changes (cause j) (copy_at j d.copies) (copy_at j t) (said_if (i == j) said)) (sym same)
          (told_each cause (i == j) j i event d.copies refl why));
    }
