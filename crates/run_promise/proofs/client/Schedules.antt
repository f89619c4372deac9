-- The events of a schedule are accepted, and so is a front of accepted ones.
use Rattle.std.proofs.Common.{◌≡◌, ℕ, zero, suc, true, List, [], ◌∷◌, ◌++◌, take, IsTrue, lit<}
use Rattle.std.proofs.lemmas.Bool.{and_parts}
use Rattle.std.specs.List.{AllByRecursion}
use Rattle.run_promise.specs.Client.Accepted.{AreAccepted}
use Rattle.wire_machine.specs.Runs.{Numbered, events_in, numbered}
use Rattle.wire_schedule.specs.Admission.{admits, after}
use Rattle.wire_schedule.specs.Expansion.{after_all, are_admitted, events_of, events_of_all, one_round, repeated}
use Rattle.wire_schedule.specs.Spelling.{EventFits, FitsFields}
use Rattle.wire_schedule.specs.declared.context.Context.{Context}
use Rattle.wire_schedule.specs.declared.directive.Directive.{Directive}
use Rattle.wire_schedule.specs.declared.directive.Directive.TheVariants.{Once, Flows, Rounds}
use Rattle.wire_schedule.specs.declared.directive.Entry.{Entry}
use Rattle.wire_schedule.specs.declared.event.Event.{Event}
use Rattle.wire_schedule.specs.declared.event.Event.TheVariants.{Flow}

-- ---- the numbers of each event of a line

flows_fit : (times : ℕ) → AllByRecursion EventFits (repeated times (Flow ∷ []))
flows_fit zero = tt
flows_fit (suc times) = (tt, flows_fit times)

rounds_fit : (times : ℕ) → AllByRecursion EventFits (repeated times one_round)
rounds_fit zero = tt
rounds_fit (suc times) = (tt, (lit< tt, rounds_fit times))

line_fits : (directive : Directive) → FitsFields directive → AllByRecursion EventFits (events_of directive)
line_fits (Once event) fits = (fits, tt)
line_fits (Flows times) fits = flows_fit times
line_fits (Rounds times) fits = rounds_fit times

-- ---- line by line

line_accepted : (context : Context) (line : ℕ) (events : List Event) (others : List Numbered) → are_admitted context events ≡ true
    → AllByRecursion EventFits events → AreAccepted (after_all context events) others → AreAccepted context (numbered line events ++ others)
line_accepted context line [] others admitted fits more = more
line_accepted context line (event ∷ events) others admitted fits more =
    let parts = and_parts (admits context event) (are_admitted (after context event) events) admitted in
    (parts.0, fits.0, line_accepted (after context event) line events others parts.1 fits.1 more)

-- the events of a front may come, and behind it the others
abbrev pub Parts : Type 0
Parts = (context : Context) (front more : List Event) → IsTrue (are_admitted context (front ++ more))
    → IsTrue (are_admitted context front) × IsTrue (are_admitted (after_all context front) more)

pub lines_accepted : Parts → (context : Context) (entries : List Entry) → AllByRecursion (λ (entry : Entry). FitsFields entry.directive) entries
    → are_admitted context (events_of_all entries) ≡ true → AreAccepted context (events_in entries)
lines_accepted parts context [] fits admitted = tt
lines_accepted parts context (entry ∷ entries) fits admitted =
    let events = events_of entry.directive in
    let both = parts context events (events_of_all entries) admitted in
    line_accepted context entry.line events (events_in entries) both.0 (line_fits entry.directive fits.0)
    (lines_accepted parts (after_all context events) entries fits.1 both.1)

-- ---- a front

pub front_accepted : (context : Context) (events : List Numbered) (n : ℕ) → AreAccepted context events → AreAccepted context (take n events)
front_accepted context events zero are = tt
front_accepted context [] (suc n) are = tt
front_accepted context (e ∷ events) (suc n) are = (are.0, are.1, front_accepted (after context e.event) events n are.2)
