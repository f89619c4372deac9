use Rattle.std.proofs.Common.{sym, subst, IsTrue, ◌+◌, ◌-◌}
use Rattle.wire_run.specs.Trace.{turn_of}
use Rattle.wire_run.proofs.Tracing.{disks_along}
use Rattle.wire_run.proofs.Turns.{context_on, on_err, turn_admitted, turns_cut, turns_end, turns_on}
use Rattle.wire_run.proofs.system.System.run_turns.Goals as goal
use Rattle.wire_schedule.specs.Expansion.{are_admitted, repeated}
use Rattle.wire_schedule.specs.declared.context.Context.{Context}

pub run_turn-requires-clause-admitted : goal.run_turn-requires-clause-admitted
run_turn-requires-clause-admitted g c =
    (turn_admitted c.loop-done.self.context c.loop-done.done c.args.times (turn_of c.args.works) c.loop-done-test.true c.loop-done.invariant.admitted).0

pub returns-in_err-ran-clause-err : goal.returns-in_err-ran-clause-err
returns-in_err-ran-clause-err g c =
    on_err _ _
    (turns_cut _ _ _ _ _ c.args.line c.loop-done.done c.args.times (turn_of c.args.works) c.loop-done-test.true _ _ _ _ _ c.loop-done.invariant.happened
    c.in_err-ran.ensures.err)

pub returns-in-Some-clause-ran : goal.returns-in-Some-clause-ran
returns-in-Some-clause-ran g c =
    turns_end _ _ _ _ _ c.args.line c.loop-done.done c.args.times (turn_of c.args.works) c.loop-done-test.true _ _ _ _ _ _ c.in-Some.ran
    c.loop-done.invariant.happened (rw c.in-Some.is at c.in_ok-ran.ensures.ran)

pub loop-done-preserved : goal.loop-done-preserved
loop-done-preserved g c =
    let on = rw c.in_default.is at c.in_ok-ran.ensures.ran in
    let left = turn_admitted c.loop-done.self.context c.loop-done.done c.args.times (turn_of c.args.works) c.loop-done-test.true c.loop-done.invariant.admitted in
    record {
      happened = turns_on _ _ _ _ _ c.args.line c.loop-done.done (turn_of c.args.works) _ _ _ _ _ _ c.loop-done.invariant.happened on;
      admitted = subst (λ (context : Context). IsTrue (are_admitted context (repeated (c.args.times - (c.loop-done.done + 1)) (turn_of c.args.works))))
          (sym (context_on _ _ _ _ _ c.args.line (turn_of c.args.works) _ _ _ _ on)) left.1;
      disks = disks_along _ _ _ _ _ _ c.loop-done.self _ _ _ _ c.loop-done.invariant.disks on;
    }
