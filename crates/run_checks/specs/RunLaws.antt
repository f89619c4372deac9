-- The small steps of a schedule that were done are steps one after the other, none of which takes a record by mistake, however
-- the schedule ends. So its run passes the check that a wire's laws ask.
use Rattle.std.proofs.Common.{◌≡◌, ℕ, List, [], ◌∷◌, ◌++◌, Option, None, Some, refl, sym, subst}
use Rattle.wire_schedule.specs.declared.event.Event.{Event}
use Rattle.wire_model.specs.Check.{IsUnmistaken}
use Rattle.wire_model.specs.Meaning.{Meaning}
use Rattle.wire_model.specs.Spelling.{Spelling}
use Rattle.wire_machine.specs.declared.mistake.Mistake.{Mistake}
use Rattle.wire_machine.specs.Check.{Reading, mistake}
use Rattle.wire_machine.specs.Ends.{Machines}
use Rattle.wire_machine.specs.History.{Telling, acts_at}
use Rattle.wire_machine.specs.Runs.{End, Fault, Goes, GoesBy, Numbered, Runs, RunsBy, fault_by, fault_of}
use Rattle.wire_machine.specs.Steps.{AreSteps, IsStep, Step, after_steps, small_steps}
use Rattle.wire_machine.specs.World.{World, bytes_of}
use Rattle.run_checks.specs.CheckLaws.{AreRight, opening_at, unmistaken}
use Rattle.run_checks.specs.Listed.{reading_of}

no_mistake : (o : Option Mistake) (bytes : ℕ) → fault_by o bytes ≡ None → o ≡ None
no_mistake None bytes is = refl
no_mistake (Some mistake) bytes is = absurd (cc)

module _ {S T C W : Type 0} (m : Machines S T C W) (read : Reading) where
  pub record AreRightSteps (before : World S T C W) (done : List (Step S T C W)) : Type 0 where
    pub steps : AreSteps m before done
    pub right : AreRight m read before done

  none_done : (before : World S T C W) (steps : List (Step S T C W)) → steps ≡ [] → AreRightSteps before steps
  none_done before steps is = subst (AreRightSteps before) (sym is) (record { steps = tt; right = tt })

  by_fault : (before : World S T C W) (s : Step S T C W) (o : Option Fault) (steps : List (Step S T C W)) (go_on : List (Step S T C W) → Type 0) (end : Option Fault)
      → fault_of m read before s ≡ o → IsStep m before s → ((rest : List (Step S T C W)) → go_on rest → AreRightSteps s.after rest)
      → GoesBy m read o s go_on steps end → AreRightSteps before steps
  by_fault before s None steps go_on end is step next by =
      let rest = next by.0 by.2 in
      subst (AreRightSteps before) (sym by.1)
      (record { steps = (step, rest.steps); right = (no_mistake (mistake m read before s.parts) (bytes_of s.after.log) is, rest.right) })
  by_fault before s (Some fault) steps go_on end is step next by = none_done before steps by.0

  -- small steps one after the other
  pub goes_right : (before : World S T C W) (smalls : List Event) (steps : List (Step S T C W)) (end : Option Fault)
      → Goes m read before smalls steps end → AreRightSteps before steps
  goes_right before [] steps end goes = none_done before steps goes.0
  goes_right before (small ∷ smalls) steps end goes =
      by_fault before goes.0 (fault_of m read before goes.0) steps _ end refl goes.2
      (λ rest on. goes_right goes.0.after smalls rest end on) goes.3

  both_right : (before : World S T C W) (steps others : List (Step S T C W)) → AreRightSteps before steps → AreRightSteps (after_steps before steps) others
      → AreRightSteps before (steps ++ others)
  both_right before [] others one two = two
  both_right before (s ∷ steps) others one two =
      let rest = both_right s.after steps others (record { steps = one.steps.1; right = one.right.1 }) two in
      record { steps = (one.steps.0, rest.steps); right = (one.right.0, rest.right) }

  by_event : (before : World S T C W) (first : List (Step S T C W)) (o : Option Fault) (line : ℕ) (steps : List (Step S T C W))
      (go_on : List (Step S T C W) → Type 0) (end : End) → AreRightSteps before first
      → ((rest : List (Step S T C W)) → go_on rest → AreRightSteps (after_steps before first) rest)
      → RunsBy m read o line first go_on steps end → AreRightSteps before steps
  by_event before first None line steps go_on end right next by =
      subst (AreRightSteps before) (sym by.1) (both_right before first by.0 right (next by.0 by.2))
  by_event before first (Some fault) line steps go_on end right next by = subst (AreRightSteps before) (sym by.0) right

  -- the events of a schedule
  pub runs_right : (before : World S T C W) (events : List Numbered) (steps : List (Step S T C W)) (end : End) → Runs m read before events steps end → AreRightSteps before steps
  runs_right before [] steps end runs = none_done before steps runs.0
  runs_right before (e ∷ events) steps end runs =
      by_event before runs.0 runs.1 e.line steps _ end (goes_right before (small_steps before e.event) runs.0 runs.1 runs.2)
      (λ rest on. runs_right (after_steps before runs.0) events rest end on) runs.3

-- A schedule's run, begun before the first step and with no record sent, passes the check.
module _ {S T C W : Type 0} (m : Machines S T C W) (tell : Telling S T) (spell : Spelling) (meaning : Meaning) where
  pub runs_unmistaken : (first : World S T C W) (events : List Numbered) (steps : List (Step S T C W)) (end : End) → first.log ≡ [] → first.steps ≡ 0
      → Runs m (reading_of spell) first events steps end
      → IsUnmistaken spell (acts_at m tell spell meaning first steps) (opening_at m tell spell meaning first steps)
  runs_unmistaken first events steps end empty none runs =
      let are = runs_right m (reading_of spell) first events steps end runs in
      unmistaken m tell spell meaning first steps empty none are.steps are.right
