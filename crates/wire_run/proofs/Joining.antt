-- Small steps and events, one after the other.
use Rattle.std.proofs.Common.{◌≡◌, ℕ, List, [], ◌∷◌, ◌++◌, Option, None, Some, refl, sym, ap, subst, ◌∙◌, append_assoc, append-nil}
use Rattle.nfs_base.specs.declared.side.Side.{Side}
use Rattle.wire_lines.specs.declared.line.Line.{Line}
use Rattle.wire_machine.specs.Check.{Reading}
use Rattle.wire_machine.specs.Ends.{Machines}
use Rattle.wire_machine.specs.Lines.{lines_of, step_lines}
use Rattle.wire_machine.specs.Runs.{End, EventGoes, Fault, Goes, GoesBy, Mistaken, Numbered, Runs, RunsBy, TooLarge, Whole, end_by, fault_of}
use Rattle.wire_machine.specs.Steps.{NeverStops, Step, after_steps}
use Rattle.wire_machine.specs.World.{World}
use Rattle.wire_schedule.specs.declared.event.Event.{Event}

module _ {S T C W : Type 0} where
  pub after_join : (w : World S T C W) (steps more : List (Step S T C W)) → after_steps w (steps ++ more) ≡ after_steps (after_steps w steps) more
  after_join w [] more = refl
  after_join w (s ∷ steps) more = after_join s.after steps more

  pub lines_join : (m : Machines S T C W) (w : World S T C W) (steps more : List (Step S T C W))
      → lines_of m w (steps ++ more) ≡ lines_of m w steps ++ lines_of m (after_steps w steps) more
  lines_join m w [] more = refl
  lines_join m w (s ∷ steps) more =
      ap (λ (later : List Line). step_lines m w s ++ later) (lines_join m s.after steps more)
      ∙ sym (append_assoc (step_lines m w s) (lines_of m s.after steps) (lines_of m (after_steps s.after steps) more))

  pub never_join : (side : Side) (w : World S T C W) (steps more : List (Step S T C W)) → NeverStops side w steps → NeverStops side (after_steps w steps) more
      → NeverStops side w (steps ++ more)
  never_join side w [] more first later = later
  never_join side w (s ∷ steps) more first later = (first.0, never_join side s.after steps more first.1 later)

-- ---- small steps

no_fault : (fault : Fault) → ◌≡◌ {A = Option Fault} None (Some fault) → ⊥
no_fault fault is = cc

module _ {S T C W : Type 0} (m : Machines S T C W) (read : Reading) where
  abbrev GoesOn : List Event → List Event → Type 0
  GoesOn done rest =
      (w : World S T C W) (steps more : List (Step S T C W)) (end : Option Fault) → Goes m read w done steps None
      → Goes m read (after_steps w steps) rest more end → Goes m read w (done ++ rest) (steps ++ more) end

  goes_by : (w : World S T C W) (done rest : List Event) (steps more : List (Step S T C W)) (end : Option Fault) → GoesOn done rest
      → (s : Step S T C W) (fault : Option Fault) → GoesBy m read fault s (λ (r : List (Step S T C W)). Goes m read s.after done r None) steps None
      → Goes m read (after_steps w steps) rest more end
      → GoesBy m read fault s (λ (r : List (Step S T C W)). Goes m read s.after (done ++ rest) r end) (steps ++ more) end
  goes_by w done rest steps more end next s None by later =
      let tail = by.0 in
      let are : steps ≡ s ∷ tail = by.1 in (
        tail ++ more,
        ap (λ (xs : List (Step S T C W)). xs ++ more) are,
        next s.after tail more end by.2 (subst (λ (xs : List (Step S T C W)). Goes m read (after_steps w xs) rest more end) are later),
      )
  goes_by w done rest steps more end next s (Some fault) by later = absurd (no_fault fault by.1)

  pub goes_join : (done rest : List Event) → GoesOn done rest
  goes_join [] rest = λ w steps more end was later.
      subst (λ (xs : List (Step S T C W)). Goes m read w rest (xs ++ more) end) (sym was.0)
      (subst (λ (xs : List (Step S T C W)). Goes m read (after_steps w xs) rest more end) was.0 later)
  goes_join (small ∷ done) rest = λ w steps more end was later.
      (was.0, was.1, was.2, goes_by w done rest steps more end (goes_join done rest) was.0 (fault_of m read w was.0) was.3 later)

-- ---- events

-- an event that a fault ends is the last
not_whole : (fault : Fault) (line : ℕ) → Whole ≡ end_by fault line → ⊥
not_whole (Mistaken mistake) line is = cc
not_whole TooLarge line is = cc

module _ {S T C W : Type 0} (m : Machines S T C W) (read : Reading) where
  abbrev Joins : List Numbered → List Numbered → Type 0
  Joins done more =
      (w : World S T C W) (steps others : List (Step S T C W)) (end : End) → Runs m read w done steps Whole
      → Runs m read (after_steps w steps) more others end → Runs m read w (done ++ more) (steps ++ others) end

  joined : (w : World S T C W) (e : Numbered) (done more : List Numbered) (steps others : List (Step S T C W)) (end : End) → Joins done more
      → (first : List (Step S T C W)) (fault : Option Fault) → EventGoes m read w e.event first fault
      → RunsBy m read fault e.line first (λ rest. Runs m read (after_steps w first) done rest Whole) steps Whole
      → Runs m read (after_steps w steps) more others end → Runs m read w (e ∷ (done ++ more)) (steps ++ others) end
  joined w e done more steps others end next first None goes by rest =
      let tail = by.0 in
      let are : steps ≡ first ++ tail = by.1 in
      let later : Runs m read (after_steps (after_steps w first) tail) more others end =
      subst (λ (v : World S T C W). Runs m read v more others end) (ap (λ (xs : List (Step S T C W)). after_steps w xs) are ∙ after_join w first tail) rest in
      let are_all : steps ++ others ≡ first ++ (tail ++ others) = ap (λ (xs : List (Step S T C W)). xs ++ others) are ∙ append_assoc first tail others in
      (first, None, goes, (tail ++ others, are_all, next (after_steps w first) tail others end by.2 later))
  joined w e done more steps others end next first (Some fault) goes by rest = absurd (not_whole fault e.line by.1)

  pub runs_join : (done more : List Numbered) → Joins done more
  runs_join [] more = λ w steps others end was rest.
      subst (λ (xs : List (Step S T C W)). Runs m read w more (xs ++ others) end) (sym was.0)
      (subst (λ (xs : List (Step S T C W)). Runs m read (after_steps w xs) more others end) was.0 rest)
  runs_join (e ∷ done) more = λ w steps others end was rest.
      joined w e done more steps others end (runs_join done more) was.0 was.1 was.2 was.3 rest

  -- an event is carried out
  pub one_runs : (w : World S T C W) (e : Numbered) (steps : List (Step S T C W)) → EventGoes m read w e.event steps None → Runs m read w (e ∷ []) steps Whole
  one_runs w e steps goes = (steps, None, goes, ([], sym (append-nil steps), (refl, refl)))

  -- a fault ends it, whatever comes behind it
  pub one_ends : (w : World S T C W) (e : Numbered) (rest : List Numbered) (steps : List (Step S T C W)) (fault : Fault)
      → EventGoes m read w e.event steps (Some fault) → Runs m read w (e ∷ rest) steps (end_by fault e.line)
  one_ends w e rest steps fault goes = (steps, Some fault, goes, (refl, refl))
