-- The events of lines, turn by turn and line by line.
use Rattle.std.proofs.Common.{◌≡◌, ℕ, zero, suc, ◌+◌, ◌-◌, ◌<◌, Bool, true, false, Option, None, Some, List, [], ◌∷◌, ◌++◌, length, get_or, take, drop, refl, sym, ap, subst, ◌∙◌, append_assoc, append-nil, arith, add-one, take-append-drop, IsTrue}
use Rattle.std.proofs.Math.Seq.{drop-cons}
use Rattle.std.proofs.lemmas.List.{take_more}
use Rattle.std.specs.Prelude.{Result, Ok, Err, IfOk, OnErr}
use Rattle.streams.specs.Stream.{Taking}
use Rattle.wire_machine.specs.Check.{Reading}
use Rattle.wire_machine.specs.Runs.{Numbered, events_in, numbered}
use Rattle.run_ends.specs.Ends.{RunMachines}
use Rattle.wire_run.specs.Running.{Running}
use Rattle.wire_run.specs.Trace.{Happen, Happens, IsCut, turn_of}
use Rattle.wire_run.specs.declared.run.Ran.{Ran}
use Rattle.wire_run.proofs.Tracing.{admitted_join, context_along, happen_end, happen_join, happen_one, numbered_events, numbered_join}
use Rattle.wire_schedule.specs.Expansion.{after_all, are_admitted, events_of, events_of_all, repeated}
use Rattle.wire_schedule.specs.declared.context.Context.{Context}
use Rattle.wire_schedule.specs.declared.directive.Entry.{Entry}
use Rattle.wire_schedule.specs.declared.event.Event.{Event}
use Rattle.wire_schedule.specs.declared.event.Event.TheVariants as kinds

-- ---- events many times over

repeated_split : (n k : ℕ) (events : List Event) → repeated (n + k) events ≡ repeated n events ++ repeated k events
repeated_split zero k events = ap (λ (i : ℕ). repeated i events) (omega arith)
repeated_split (suc n) k events =
    let on : suc n + k ≡ suc (n + k) = omega arith in
    ap (λ (i : ℕ). repeated i events) on
    ∙ (ap (λ (xs : List Event). events ++ xs) (repeated_split n k events) ∙ sym (append_assoc events (repeated n events) (repeated k events)))

repeated_one : (events : List Event) → repeated 1 events ≡ events
repeated_one events = append-nil events

repeated_on : (n : ℕ) (events : List Event) → repeated (n + 1) events ≡ repeated n events ++ events
repeated_on n events = repeated_split n 1 events ∙ ap (λ (xs : List Event). repeated n events ++ xs) (repeated_one events)

-- so many, one more, and those that are left
turns_split : (n times : ℕ) (events : List Event) → n < times
    → repeated times events ≡ repeated n events ++ (events ++ repeated (times - (n + 1)) events)
turns_split n times events lt =
    ap (λ (k : ℕ). repeated k events) (omega arith)
    ∙ (repeated_split n (1 + (times - (n + 1))) events
    ∙ ap (λ (xs : List Event). repeated n events ++ xs)
    (repeated_split 1 (times - (n + 1)) events ∙ ap (λ (xs : List Event). xs ++ repeated (times - (n + 1)) events) (repeated_one events)))

left_split : (n times : ℕ) (events : List Event) → n < times → repeated (times - n) events ≡ events ++ repeated (times - (n + 1)) events
left_split n times events lt =
    ap (λ (k : ℕ). repeated k events) (omega arith)
    ∙ (repeated_split 1 (times - (n + 1)) events ∙ ap (λ (xs : List Event). xs ++ repeated (times - (n + 1)) events) (repeated_one events))

pub turn_admitted : (context : Context) (n times : ℕ) (events : List Event) → n < times → IsTrue (are_admitted context (repeated (times - n) events))
    → IsTrue (are_admitted context events) × IsTrue (are_admitted (after_all context events) (repeated (times - (n + 1)) events))
turn_admitted context n times events lt admitted =
    admitted_join context events (repeated (times - (n + 1)) events)
    (subst (λ (xs : List Event). IsTrue (are_admitted context xs)) (left_split n times events lt) admitted)

-- ---- lines

entry_split : (entries : List Entry) (i : ℕ) (entry : Entry) → i < length entries → entry ≡ get_or entries i entry → drop i entries ≡ entry ∷ drop (i + 1) entries
entry_split entries i entry lt is = rw add-one (drop-cons entries i entry lt ∙ ap (λ (x : Entry). x ∷ drop (suc i) entries) (sym is))

pub entry_admitted : (context : Context) (entries : List Entry) (i : ℕ) (entry : Entry) → i < length entries → entry ≡ get_or entries i entry
    → IsTrue (are_admitted context (events_of_all (drop i entries)))
    → IsTrue (are_admitted context (events_of entry.directive))
    × IsTrue (are_admitted (after_all context (events_of entry.directive)) (events_of_all (drop (i + 1) entries)))
entry_admitted context entries i entry lt is admitted =
    admitted_join context (events_of entry.directive) (events_of_all (drop (i + 1) entries))
    (subst (λ (xs : List Entry). IsTrue (are_admitted context (events_of_all xs))) (entry_split entries i entry lt is) admitted)

entries_join : (xs ys : List Entry) → events_in (xs ++ ys) ≡ events_in xs ++ events_in ys
entries_join [] ys = refl
entries_join (x ∷ xs) ys =
    ap (λ (events : List Numbered). numbered x.line (events_of x.directive) ++ events) (entries_join xs ys)
    ∙ sym (append_assoc (numbered x.line (events_of x.directive)) (events_in xs) (events_in ys))

entries_on : (entries : List Entry) (i : ℕ) (entry : Entry) → i < length entries → entry ≡ get_or entries i entry
    → events_in (take (i + 1) entries) ≡ events_in (take i entries) ++ numbered entry.line (events_of entry.directive)
entries_on entries i entry lt is =
    ap events_in (take_more entries i entry lt ∙ ap (λ (x : Entry). take i entries ++ x ∷ []) (sym is))
    ∙ (entries_join (take i entries) (entry ∷ [])
    ∙ ap (λ (events : List Numbered). events_in (take i entries) ++ events) (append-nil (numbered entry.line (events_of entry.directive))))

entries_split : (entries : List Entry) (i : ℕ) (entry : Entry) → i < length entries → entry ≡ get_or entries i entry
    → events_in entries ≡ events_in (take i entries) ++ (numbered entry.line (events_of entry.directive) ++ events_in (drop (i + 1) entries))
entries_split entries i entry lt is =
    ap events_in (sym (take-append-drop i entries) ∙ ap (λ (xs : List Entry). take i entries ++ xs) (entry_split entries i entry lt is))
    ∙ entries_join (take i entries) (entry ∷ drop (i + 1) entries)

-- ---- an answer with more to it

pub if_ok : {T E : Type 0} (r : Result T E) (P Q : T → Type 0) → ((x : T) → P x → Q x) → IfOk r P → IfOk r Q
if_ok (Ok x) P Q more p = more x p
if_ok (Err e) P Q more p = tt

pub if_err : {T E : Type 0} (r : Result T E) (P Q : Type 0) → (P → Q) → OnErr r P → OnErr r Q
if_err (Ok x) P Q more p = tt
if_err (Err e) P Q more p = more p

pub on_err : {T E : Type 0} (r : Result T E) (P : Type 0) → P → OnErr r P
on_err (Ok x) P p = tt
on_err (Err e) P p = p

module _ {D M : Type 0} (told : Type 0) (m : RunMachines M) (read : Reading) (faults size : D → ℕ) where
  abbrev On : List Numbered → (old new : Running D M) → (before now : Taking) → Option Ran → Type 0
  On events old new before now result = Happen told m read faults size events old new before now result

  -- ---- memory runs out

  -- at once
  pub cut_now : (events : List Numbered) (old : Running D M) (before now : Taking) → now ≡ before → IsCut told m read faults size events old before now
  cut_now events old before now is = record { done = []; rest = events; are = refl; new = old; happened = (refl, is, refl) }

  -- behind events that happened, and before others
  pub cut_behind : (xs ys zs : List Numbered) (old middle : Running D M) (before put now : Taking) → On xs old middle before put None
      → IsCut told m read faults size ys middle put now → IsCut told m read faults size (xs ++ (ys ++ zs)) old before now
  cut_behind xs ys zs old middle before put now first cut = record {
    done = xs ++ cut.done;
    rest = cut.rest ++ zs;
    are = ap (λ (events : List Numbered). xs ++ (events ++ zs)) cut.are
        ∙ (ap (λ (events : List Numbered). xs ++ events) (append_assoc cut.done cut.rest zs) ∙ sym (append_assoc xs cut.done (cut.rest ++ zs)));
    new = cut.new;
    happened = happen_join told m read faults size xs cut.done old middle cut.new before put now None first cut.happened;
  }

  -- ---- an event of a line

  pub one_on : (line : ℕ) (event : Event) (old new : Running D M) (before now : Taking) (result : Option Ran)
      → Happens told m read faults size (record { line = line; event = event }) old new before now result → On (numbered line (event ∷ [])) old new before now result
  one_on line event old new before now result happens = happen_one told m read faults size (record { line = line; event = event }) old new before now result happens

  -- ---- a turn

  pub turn_over : (works : Bool) (line : ℕ) (old new : Running D M) (before now : Taking) (end : Ran)
      → Happens told m read faults size (record { line = line; event = kinds.Flow }) old new before now (Some end)
      → On (numbered line (turn_of works)) old new before now (Some end)
  turn_over true line old new before now end happens =
      happen_end told m read faults size (numbered line (kinds.Flow ∷ [])) (numbered line (kinds.Work 1 ∷ [])) old new before now end
      (one_on line kinds.Flow old new before now (Some end) happens)
  turn_over false line old new before now end happens = one_on line kinds.Flow old new before now (Some end) happens

  pub turn_flow : (works : Bool) (line : ℕ) (old new : Running D M) (before now : Taking) → works ≡ false
      → Happens told m read faults size (record { line = line; event = kinds.Flow }) old new before now None
      → On (numbered line (turn_of works)) old new before now None
  turn_flow true line old new before now is happens = absurd (cc)
  turn_flow false line old new before now is happens = one_on line kinds.Flow old new before now None happens

  pub turn_works : (works : Bool) (line : ℕ) (old middle new : Running D M) (before put now : Taking) (result : Option Ran) → works ≡ true
      → Happens told m read faults size (record { line = line; event = kinds.Flow }) old middle before put None
      → Happens told m read faults size (record { line = line; event = kinds.Work 1 }) middle new put now result
      → On (numbered line (turn_of works)) old new before now result
  turn_works true line old middle new before put now result is flow work =
      happen_join told m read faults size (numbered line (kinds.Flow ∷ [])) (numbered line (kinds.Work 1 ∷ [])) old middle new before put now result
      (one_on line kinds.Flow old middle before put None flow) (one_on line (kinds.Work 1) middle new put now result work)
  turn_works false line old middle new before put now result is flow work = absurd (cc)

  pub turn_cut : (works : Bool) (line : ℕ) (old middle : Running D M) (before put now : Taking) → works ≡ true
      → Happens told m read faults size (record { line = line; event = kinds.Flow }) old middle before put None → now ≡ put
      → IsCut told m read faults size (numbered line (turn_of works)) old before now
  turn_cut true line old middle before put now is flow same =
      cut_behind (numbered line (kinds.Flow ∷ [])) (numbered line (kinds.Work 1 ∷ [])) [] old middle before put now
      (one_on line kinds.Flow old middle before put None flow) (cut_now (numbered line (kinds.Work 1 ∷ [])) middle put now same)
  turn_cut false line old middle before put now is flow same = absurd (cc)

  -- ---- turns

  pub turns_on : (line n : ℕ) (events : List Event) (old middle new : Running D M) (before put now : Taking)
      → On (numbered line (repeated n events)) old middle before put None → On (numbered line events) middle new put now None
      → On (numbered line (repeated (n + 1) events)) old new before now None
  turns_on line n events old middle new before put now first later =
      subst (λ (xs : List Numbered). On xs old new before now None)
      (sym (ap (numbered line) (repeated_on n events) ∙ numbered_join line (repeated n events) events))
      (happen_join told m read faults size (numbered line (repeated n events)) (numbered line events) old middle new before put now None first later)

  numbered_split : (line n times : ℕ) (events : List Event) → n < times
      → numbered line (repeated times events) ≡ numbered line (repeated n events) ++ (numbered line events ++ numbered line (repeated (times - (n + 1)) events))
  numbered_split line n times events lt =
      ap (numbered line) (turns_split n times events lt)
      ∙ (numbered_join line (repeated n events) (events ++ repeated (times - (n + 1)) events)
      ∙ ap (λ (xs : List Numbered). numbered line (repeated n events) ++ xs) (numbered_join line events (repeated (times - (n + 1)) events)))

  pub turns_end : (line n times : ℕ) (events : List Event) → n < times → (old middle new : Running D M) (before put now : Taking) (end : Ran)
      → On (numbered line (repeated n events)) old middle before put None → On (numbered line events) middle new put now (Some end)
      → On (numbered line (repeated times events)) old new before now (Some end)
  turns_end line n times events lt old middle new before put now end first later =
      subst (λ (xs : List Numbered). On xs old new before now (Some end)) (sym (numbered_split line n times events lt))
      (happen_join told m read faults size (numbered line (repeated n events)) (numbered line events ++ numbered line (repeated (times - (n + 1)) events)) old middle new before put now (Some end) first
      (happen_end told m read faults size (numbered line events) (numbered line (repeated (times - (n + 1)) events)) middle new put now end later))

  pub turns_cut : (line n times : ℕ) (events : List Event) → n < times → (old middle : Running D M) (before put now : Taking)
      → On (numbered line (repeated n events)) old middle before put None → IsCut told m read faults size (numbered line events) middle put now
      → IsCut told m read faults size (numbered line (repeated times events)) old before now
  turns_cut line n times events lt old middle before put now first cut =
      subst (λ (xs : List Numbered). IsCut told m read faults size xs old before now) (sym (numbered_split line n times events lt))
      (cut_behind (numbered line (repeated n events)) (numbered line events) (numbered line (repeated (times - (n + 1)) events)) old middle before put now first cut)

  -- the context after a turn or a line
  pub context_on : (line : ℕ) (events : List Event) (old new : Running D M) (before now : Taking) → On (numbered line events) old new before now None
      → new.context ≡ after_all old.context events
  context_on line events old new before now happened =
      context_along told m read faults size (numbered line events) old new before now happened
      ∙ ap (λ (xs : List Event). after_all old.context xs) (numbered_events line events)

  -- ---- lines

  pub entries_go : (entries : List Entry) (i : ℕ) (entry : Entry) → i < length entries → entry ≡ get_or entries i entry → (old middle new : Running D M) (before put now : Taking)
      → On (events_in (take i entries)) old middle before put None → On (numbered entry.line (events_of entry.directive)) middle new put now None
      → On (events_in (take (i + 1) entries)) old new before now None
  entries_go entries i entry lt is old middle new before put now first later =
      subst (λ (xs : List Numbered). On xs old new before now None) (sym (entries_on entries i entry lt is))
      (happen_join told m read faults size (events_in (take i entries)) (numbered entry.line (events_of entry.directive)) old middle new before put now None first later)

  pub entries_end : (entries : List Entry) (i : ℕ) (entry : Entry) → i < length entries → entry ≡ get_or entries i entry → (old middle new : Running D M) (before put now : Taking) (end : Ran)
      → On (events_in (take i entries)) old middle before put None → On (numbered entry.line (events_of entry.directive)) middle new put now (Some end)
      → On (events_in entries) old new before now (Some end)
  entries_end entries i entry lt is old middle new before put now end first later =
      subst (λ (xs : List Numbered). On xs old new before now (Some end)) (sym (entries_split entries i entry lt is))
      (happen_join told m read faults size (events_in (take i entries)) (numbered entry.line (events_of entry.directive) ++ events_in (drop (i + 1) entries)) old middle new before put now (Some end) first
      (happen_end told m read faults size (numbered entry.line (events_of entry.directive)) (events_in (drop (i + 1) entries)) middle new put now end later))

  pub entries_cut : (entries : List Entry) (i : ℕ) (entry : Entry) → i < length entries → entry ≡ get_or entries i entry → (old middle : Running D M) (before put now : Taking)
      → On (events_in (take i entries)) old middle before put None → IsCut told m read faults size (numbered entry.line (events_of entry.directive)) middle put now
      → IsCut told m read faults size (events_in entries) old before now
  entries_cut entries i entry lt is old middle before put now first cut =
      subst (λ (xs : List Numbered). IsCut told m read faults size xs old before now) (sym (entries_split entries i entry lt is))
      (cut_behind (events_in (take i entries)) (numbered entry.line (events_of entry.directive)) (events_in (drop (i + 1) entries)) old middle before put now first cut)
