-- Small steps that went through, and then others: they are small steps one after the other, and so are their lines.
use Rattle.std.proofs.Common.{◌≡◌, List, [], ◌∷◌, ◌++◌, Option, None, Some, refl, sym, ap, subst, ◌∙◌, append_assoc}
use Rattle.wire_lines.specs.declared.line.Line.{Line}
use Rattle.wire_schedule.specs.declared.event.Event.{Event}
use Rattle.wire_machine.specs.Check.{Reading}
use Rattle.wire_machine.specs.Ends.{Machines}
use Rattle.wire_machine.specs.Lines.{lines_of, step_lines}
use Rattle.wire_machine.specs.Runs.{Fault, Goes, GoesBy, fault_of}
use Rattle.wire_machine.specs.Steps.{Step, after_steps}
use Rattle.wire_machine.specs.World.{World}

module _ {S T C W : Type 0} (m : Machines S T C W) (read : Reading) where
  -- behind these, wherever they begin
  abbrev pub GoOn : (smalls more : List Event) → Type 0
  GoOn smalls more =
      (before : World S T C W) (steps others : List (Step S T C W)) (end : Option Fault) → Goes m read before smalls steps None
      → Goes m read (after_steps before steps) more others end → Goes m read before (smalls ++ more) (steps ++ others) end

  by_fault : (before : World S T C W) (smalls more : List Event) (steps others : List (Step S T C W)) (end : Option Fault) (s : Step S T C W) (fault : Option Fault)
      → GoOn smalls more → GoesBy m read fault s (λ rest. Goes m read s.after smalls rest None) steps None
      → Goes m read (after_steps before steps) more others end
      → GoesBy m read fault s (λ rest. Goes m read s.after (smalls ++ more) rest end) (steps ++ others) end
  by_fault before smalls more steps others end s None next by rest =
      let later : Goes m read (after_steps s.after by.0) more others end =
      subst (λ (did : List (Step S T C W)). Goes m read (after_steps before did) more others end) by.1 rest in
      (by.0 ++ others, ap (λ (did : List (Step S T C W)). did ++ others) by.1, next s.after by.0 others end by.2 later)
  by_fault before smalls more steps others end s (Some fault) next by rest = absurd (cc by.1)

  pub goes_on : (smalls more : List Event) → GoOn smalls more
  goes_on [] more =
      λ before steps others end done rest.
      subst (λ (did : List (Step S T C W)). Goes m read before more (did ++ others) end) (sym done.0)
      (subst (λ (did : List (Step S T C W)). Goes m read (after_steps before did) more others end) done.0 rest)
  goes_on (small ∷ smalls) more =
      λ before steps others end done rest.
      (done.0, done.1, done.2, by_fault before smalls more steps others end done.0 (fault_of m read before done.0) (goes_on smalls more) done.3 rest)

module _ {S T C W : Type 0} (m : Machines S T C W) where
  pub lines_join : (before : World S T C W) (steps others : List (Step S T C W)) → lines_of m before (steps ++ others) ≡ lines_of m before steps ++ lines_of m (after_steps before steps) others
  lines_join before [] others = refl
  lines_join before (s ∷ steps) others =
      ap (λ (later : List Line). step_lines m before s ++ later) (lines_join s.after steps others)
      ∙ sym (append_assoc (step_lines m before s) (lines_of m s.after steps) (lines_of m (after_steps s.after steps) others))
