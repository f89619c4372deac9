use Rattle.wire_run.proofs.Turns.{cut_now, if_err, if_ok, on_err, turn_cut, turn_flow, turn_over, turn_works}
use Rattle.wire_run.proofs.system.System.run_turn.Goals as goal

pub returns-in_err-ran-clause-err : goal.returns-in_err-ran-clause-err
returns-in_err-ran-clause-err g c = on_err _ _ (cut_now _ _ _ _ _ _ c.args.self.now _ _ c.in_err-ran.ensures.err)

pub returns-in-Some-clause-ran : goal.returns-in-Some-clause-ran
returns-in-Some-clause-ran g c = turn_over _ _ _ _ _ c.args.works c.args.line _ _ _ _ c.in-Some.ran (rw c.in-Some.is at c.in_ok-ran.ensures.ran)

pub returns-then-works-clause-ran : goal.returns-then-works-clause-ran
returns-then-works-clause-ran g c =
    if_ok c.run_event-then-works.result _ _
    (λ r happens. turn_works _ _ _ _ _ c.args.works c.args.line _ _ _ _ _ _ r c.if-works.true (rw c.in_default.is at c.in_ok-ran.ensures.ran) happens) c.run_event-then-works.ensures.ran

pub returns-then-works-clause-err : goal.returns-then-works-clause-err
returns-then-works-clause-err g c =
    if_err c.run_event-then-works.result _ _
    (λ same. turn_cut _ _ _ _ _ c.args.works c.args.line _ _ _ _ _ c.if-works.true (rw c.in_default.is at c.in_ok-ran.ensures.ran) same) c.run_event-then-works.ensures.err

pub returns-else-works-clause-ran : goal.returns-else-works-clause-ran
returns-else-works-clause-ran g c = turn_flow _ _ _ _ _ c.args.works c.args.line _ _ _ _ c.if-works.false (rw c.in_default.is at c.in_ok-ran.ensures.ran)
