use Rattle.std.proofs.Common.{refl, arith}
use Rattle.core_desk.proofs.desk.CoreDeskDesk.turn.Goals as goal

pub returns-clause-turn : goal.returns-clause-turn
returns-clause-turn g c = rw (← c.self.view_is) (record {
  step = λ few. c.in_ok-out.ensures.step;
  full = λ full. absurd (omega (arith, full, c.if-calls-ge-MOST_CALLS.false, c.calls.ensures));
  rest = c.in_ok-out.ensures.rest;
  later = omega (arith, c.in_ok-out.ensures.counted);
  err = tt;
  asked = refl;
})
