-- Events that happen one after the other, and what is counted of their lines.
use Rattle.std.proofs.Common.{◌≡◌, ℕ, suc, ◌+◌, ◌*◌, ◌^◌, ◌<◌, ◌≤◌, inl, Option, None, Some, List, [], ◌∷◌, ◌++◌, length, get_or, take, drop, take-append-drop, refl, sym, ap, subst, ◌∙◌, append_assoc, append-nil, add-one, arith, IsTrue}
use Rattle.std.proofs.Math.Seq.{drop-cons}
use Rattle.std.proofs.lemmas.Bool.{and_parts}
use Rattle.std.proofs.lemmas.List.{take_more}
use Rattle.run_ends.specs.Ends.{RunMachines}
use Rattle.streams.specs.Stream.{Taking}
use Rattle.wire_lines.specs.LineText.{lines_text}
use Rattle.wire_lines.specs.declared.line.Line.{Line}
use Rattle.wire_machine.specs.Check.{Reading}
use Rattle.wire_machine.specs.Runs.{Numbered, numbered}
use Rattle.wire_run.proofs.large_runs.Serving.{whole_text}
use Rattle.wire_run.specs.LargeRuns.Large.{as_taken}
use Rattle.wire_run.specs.LargeRuns.Tallying.{HasGrown, HasRoom, IsServed, Tallies}
use Rattle.wire_run.specs.Running.{ArmsRight, HasDisks, Running, StepIs, context_after, mech_of, text_in}
use Rattle.wire_run.specs.Trace.{Happen, Happens, PutsLines, ended_by, events_at}
use Rattle.wire_run.specs.declared.run.Ran.{Ran}
use Rattle.wire_run.specs.declared.run.Ran.TheVariants as ran
use Rattle.wire_run.specs.declared.system.Stepped.{Stepped}
use Rattle.wire_run.specs.declared.system.Stepped.TheVariants as stepped
use Rattle.wire_schedule.specs.Admission.{admits, after, at_start}
use Rattle.wire_schedule.specs.Expansion.{are_admitted}
use Rattle.wire_schedule.specs.declared.context.Context.{Context}
use Rattle.wire_schedule.specs.declared.event.Event.{Event}
use Rattle.wire_tally.specs.Tally.{IsWholeText, no_tally, tallied}
use Rattle.wire_tally.specs.declared.tally.Tally.{Tally}

-- ---- a tally of so many texts at most

pub record IsOfTexts (n : ℕ) (t : Tally) : Type 0 where
  pub stable : t.stable ≤ n * 2 ^ 64
  pub exact : t.exact ≤ n * 2 ^ 64
  pub landed : t.landed ≤ n * 2 ^ 96

pub of_none : (t : Tally) → t ≡ no_tally → IsOfTexts 0 t
of_none t is =
    let stable = ap (λ (x : Tally). x.stable) is in
    let exact = ap (λ (x : Tally). x.exact) is in
    let landed = ap (λ (x : Tally). x.landed) is in
    record { stable = omega (arith, stable); exact = omega (arith, exact); landed = omega (arith, landed) }

pub room_for : (n : ℕ) (t : Tally) → n < 2 ^ 32 → IsOfTexts n t → HasRoom t
room_for n t lt of = record { stable = omega arith; exact = omega arith; landed = omega arith }

pub of_more : (n : ℕ) (old new : Tally) → IsOfTexts n old → HasGrown old new → IsOfTexts (n + 1) new
of_more n old new of grown = record { stable = omega arith; exact = omega arith; landed = omega arith }

-- one more text
pub grown_by : (text : List ℕ) (old new : Tally) → new ≡ tallied text old → length text < 2 ^ 64
    → (tallied text old).stable ≤ old.stable + length text → (tallied text old).exact ≤ old.exact + length text
    → (tallied text old).landed ≤ old.landed + length text * 2 ^ 32 → HasGrown old new
grown_by text old new is short stable exact landed =
    subst (λ (t : Tally). HasGrown old t) (sym is) (record { stable = omega arith; exact = omega arith; landed = omega arith })

-- a text without lines
pub tallied_none : (t : Tally) → tallied [] t ≡ t
unfolding tallied
tallied_none t = refl

-- ---- events by their place

numbered_join : (line : ℕ) (xs ys : List Event) → numbered line (xs ++ ys) ≡ numbered line xs ++ numbered line ys
numbered_join line [] ys = refl
numbered_join line (x ∷ xs) ys = ap (λ (events : List Numbered). record { line = line; event = x } ∷ events) (numbered_join line xs ys)

event_on : (events : List Event) (i : ℕ) (event : Event) → i < length events → event ≡ get_or events i event → take (i + 1) events ≡ take i events ++ event ∷ []
event_on events i event lt is = take_more events i event lt ∙ ap (λ (x : Event). take i events ++ x ∷ []) (sym is)

event_split : (events : List Event) (i : ℕ) (event : Event) → i < length events → event ≡ get_or events i event → drop i events ≡ event ∷ drop (i + 1) events
event_split events i event lt is = rw add-one (drop-cons events i event lt ∙ ap (λ (x : Event). x ∷ drop (suc i) events) (sym is))

-- those before it, it, and the others
all_split : (events : List Event) (i : ℕ) (event : Event) → i < length events → event ≡ get_or events i event → events ≡ (take i events ++ event ∷ []) ++ drop (i + 1) events
all_split events i event lt is = sym (take-append-drop (i + 1) events) ∙ ap (λ (xs : List Event). xs ++ drop (i + 1) events) (event_on events i event lt is)

pub event_admitted : (context : Context) (events : List Event) (i : ℕ) (event : Event) → i < length events → event ≡ get_or events i event
    → IsTrue (are_admitted context (drop i events)) → IsTrue (admits context event) × IsTrue (are_admitted (after context event) (drop (i + 1) events))
event_admitted context events i event lt is admitted =
    and_parts (admits context event) (are_admitted (after context event) (drop (i + 1) events))
    (subst (λ (xs : List Event). IsTrue (are_admitted context xs)) (event_split events i event lt is) admitted)

-- from the start, as a run numbers them
pub admitted_there : (context : Context) (events : List Event) → context ≡ at_start → events_at (numbered 1 events) ≡ events
    → IsTrue (are_admitted at_start events) → IsTrue (are_admitted context (events_at (numbered 1 events)))
admitted_there context events is listed admitted =
    subst (λ (c : Context). IsTrue (are_admitted c (events_at (numbered 1 events)))) (sym is)
    (subst (λ (xs : List Event). IsTrue (are_admitted at_start xs)) (sym listed) admitted)

module _ {D M : Type 0} (told : Type 0) (m : RunMachines M) (read : Reading) (faults size : D → ℕ) where
  abbrev On : List Numbered → (old new : Running D M) → (before now : Taking) → Option Ran → Type 0
  On events old new before now result = Happen told m read faults size events old new before now result

  abbrev Counts : List Event → (old new : Running D M) → (tally_old tally_new : Tally) → Option Ran → Type 0
  Counts events old new tally_old tally_new result = Tallies told m read faults size events old new tally_old tally_new result

  -- what is known of events that follow events, and of texts behind texts
  pub record Laws : Type 0 where
    pub join : (xs ys : List Numbered) (old middle new : Running D M) (before put now : Taking) (result : Option Ran)
        → On xs old middle before put None → On ys middle new put now result → On (xs ++ ys) old new before now result
    pub last : (xs ys : List Numbered) (old new : Running D M) (before now : Taking) (end : Ran)
        → On xs old new before now (Some end) → On (xs ++ ys) old new before now (Some end)
    pub add : (a b : List ℕ) (t : Tally) → IsWholeText a → tallied (a ++ b) t ≡ tallied b (tallied a t)
    pub whole : (a b : List ℕ) → IsWholeText a → IsWholeText b → IsWholeText (a ++ b)

  pub counts_none : (r : Running D M) (t : Tally) → Counts [] r r t t None
  counts_none r t = record {
    text = [];
    happen = λ before. (refl, ap as_taken (append-nil before), refl);
    tally = λ t_is. sym (tallied_none t);
    whole = λ t_is. tt;
    ends = λ whole. cc;
  }

  counts_join : Laws → (xs ys : List Event) (old middle new : Running D M) (first next now : Tally) (result : Option Ran)
      → Counts xs old middle first next None → Counts ys middle new next now result → Counts (xs ++ ys) old new first now result
  counts_join laws xs ys old middle new first next now result one other = record {
    text = one.text ++ other.text;
    happen = λ before.
        let put = before ++ one.text in
        subst (λ (events : List Numbered). On events old new (as_taken before) (as_taken (before ++ (one.text ++ other.text))) result) (sym (numbered_join 1 xs ys))
        (subst (λ (text : List ℕ). On (numbered 1 xs ++ numbered 1 ys) old new (as_taken before) (as_taken text) result) (append_assoc before one.text other.text)
        (laws.join (numbered 1 xs) (numbered 1 ys) old middle new (as_taken before) (as_taken put) (as_taken (put ++ other.text)) result (one.happen before)
        (other.happen put)));
    tally = λ t. other.tally t ∙ (ap (λ (x : Tally). tallied other.text x) (one.tally t) ∙ sym (laws.add one.text other.text first (one.whole t)));
    whole = λ t. laws.whole one.text other.text (one.whole t) (other.whole t);
    ends = other.ends;
  }

  counts_last : Laws → (xs ys : List Event) (old new : Running D M) (first now : Tally) (end : Ran)
      → Counts xs old new first now (Some end) → Counts (xs ++ ys) old new first now (Some end)
  counts_last laws xs ys old new first now end over = record {
    text = over.text;
    happen = λ before.
        subst (λ (events : List Numbered). On events old new (as_taken before) (as_taken (before ++ over.text)) (Some end)) (sym (numbered_join 1 xs ys))
        (laws.last (numbered 1 xs) (numbered 1 ys) old new (as_taken before) (as_taken (before ++ over.text)) end (over.happen before));
    tally = over.tally;
    whole = over.whole;
    ends = over.ends;
  }

  -- so many events, and one more
  pub counts_on : Laws → (events : List Event) (i : ℕ) (event : Event) → i < length events → event ≡ get_or events i event
      → (old middle new : Running D M) (first next now : Tally) → Counts (take i events) old middle first next None
      → Counts (event ∷ []) middle new next now None → Counts (take (i + 1) events) old new first now None
  counts_on laws events i event lt is old middle new first next now before more =
      subst (λ (xs : List Event). Counts xs old new first now None) (sym (event_on events i event lt is))
      (counts_join laws (take i events) (event ∷ []) old middle new first next now None before more)

  -- one more, with which the run ends
  pub counts_end : Laws → (events : List Event) (i : ℕ) (event : Event) → i < length events → event ≡ get_or events i event
      → (old middle new : Running D M) (first next now : Tally) (end : Ran) → Counts (take i events) old middle first next None
      → Counts (event ∷ []) middle new next now (Some end) → Counts events old new first now (Some end)
  counts_end laws events i event lt is old middle new first next now end before more =
      subst (λ (xs : List Event). Counts xs old new first now (Some end)) (sym (all_split events i event lt is))
      (counts_last laws (take i events ++ event ∷ []) (drop (i + 1) events) old new first now end
      (counts_join laws (take i events) (event ∷ []) old middle new first next now (Some end) before more))

  -- ---- one event

  puts_lines : (became : Stepped) (before : List ℕ) → PutsLines 1 became (as_taken before) (as_taken (before ++ text_in became)) (ended_by 1 became)
  puts_lines (stepped.Went text) before = record { later = omega arith; put = inl (refl, refl) }
  puts_lines (stepped.OverLimit text) before = record { later = omega arith; put = inl (refl, refl) }
  puts_lines (stepped.Mistaken text mistake) before = record { later = omega arith; put = inl (refl, refl) }
  puts_lines (stepped.Unmade cause) before = (ap as_taken (append-nil before), refl)
  puts_lines (stepped.Lost side cause) before = (ap as_taken (append-nil before), refl)

  never_whole : (became : Stepped) → ended_by 1 became ≡ Some ran.Whole → ⊥
  never_whole (stepped.Went text) is = cc
  never_whole (stepped.OverLimit text) is = cc
  never_whole (stepped.Mistaken text mistake) is = cc
  never_whole (stepped.Unmade cause) is = cc
  never_whole (stepped.Lost side cause) is = cc

  -- what an event is, and its text with whole lines
  pub record OneLaws : Type 0 where
    pub one : (e : Numbered) (old new : Running D M) (before now : Taking) (result : Option Ran)
        → Happens told m read faults size e old new before now result → On (e ∷ []) old new before now result
    pub lines : (lines : List Line) → IsWholeText (lines_text lines)

  pub counts_one : OneLaws → (event : Event) (old new : Running D M) (became : Stepped) (first now : Tally) → IsTrue (admits old.context event) → IsServed old
      → StepIs told m read faults size (mech_of old) old new event became → new.context ≡ context_after old.context event became → HasDisks new → ArmsRight old new event
      → now ≡ tallied (text_in became) first → Counts (event ∷ []) old new first now (ended_by 1 became)
  counts_one laws event old new became first now admitted served is context disks arms counted = record {
    text = text_in became;
    happen = λ before.
        laws.one (record { line = 1; event = event }) old new (as_taken before) (as_taken (before ++ text_in became)) (ended_by 1 became)
        (record { became = became; is = is; context = context; disks = disks; arms = arms; puts = puts_lines became before });
    tally = λ t. counted;
    whole = whole_text told m read faults size (mech_of old) laws.lines old new event became admitted served is;
    ends = never_whole became;
  }
