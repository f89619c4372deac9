use Rattle.std.proofs.Common.{refl, ◌∙◌, arith}
use Rattle.single_copy.proofs.Looping.{went_down, went_halts, went_more, went_short, went_start}
use Rattle.single_copy.proofs.Outcomes.{on_err}
use Rattle.single_copy.proofs.copying.make_turns.Goals as goal

pub turns-init : goal.turns-init
turns-init g c = record { went = went_start _ _ c.requires.new; failing = refl }

pub turn-requires-clause-few : goal.turn-requires-clause-few
turn-requires-clause-few g c = omega (arith, c.turns.invariant.went.steps)

pub turn-requires-clause-new : goal.turn-requires-clause-new
turn-requires-clause-new g c = c.turns.invariant.went.new

pub turns-preserved : goal.turns-preserved
turns-preserved g c = record {
  went = went_more _ _ _ _ _ _ _ _ c.turns.invariant.went (rw c.in-Some.is at c.in_ok-turn.ensures.some);
  failing = c.turn.ensures.failing ∙ c.turns.invariant.failing;
}

pub turns-smaller : goal.turns-smaller
turns-smaller g c = (rw c.in-Some.is at c.in_ok-turn.ensures.some).fewer

pub returns-in-None-clause-ok : goal.returns-in-None-clause-ok
returns-in-None-clause-ok g c = went_halts _ _ _ _ _ _ c.turns.invariant.went (rw c.in-None.is at c.in_ok-turn.ensures.none)

pub returns-in_err-turn-clause-err : goal.returns-in_err-turn-clause-err
returns-in_err-turn-clause-err g c =
    on_err _ _
    (went_short _ _ _ _ _ _ _ _ _ c.turns.invariant.went
    (record { source = c.both_up.ensures.source c.turns-test.true; dest = c.both_up.ensures.dest c.turns-test.true }) c.in_err-turn.ensures.err)

pub returns-clause-ok : goal.returns-clause-ok
returns-clause-ok g c = went_down _ _ _ _ _ c.turns.invariant.went (c.both_up.ensures.down c.turns-test.false)
