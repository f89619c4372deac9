use Rattle.std.proofs.Common.{arith, refl, rules}
use Rattle.link_server.specs.Answering.{Full, Step}
use Rattle.link_server.proofs.Reaching.{reached_made, reached_refused}
use Rattle.link_server.proofs.counted.Counted.answer.Goals as goal

pub returns-then-calls-ge-MOST_CALLS-clause-answered : goal.returns-then-calls-ge-MOST_CALLS-clause-answered
returns-then-calls-ge-MOST_CALLS-clause-answered g c = Full c.self.inside.machine (record {
  known = c.self.invariant.reached;
  full = search rules;
  nothing = search rules;
  same = search rules;
})

pub returns-clause-answered : goal.returns-clause-answered
returns-clause-answered g c = Step c.self.inside.machine c.on_record.new.self (record {
  known = c.self.invariant.reached;
  enough = omega arith;
  few = search rules;
  stepped = c.in_ok-reply.ensures.step;
  counted = search rules;
})

-- the machine found no memory
pub invariant_of-self-in_err-reply : goal.invariant_of-self-in_err-reply
invariant_of-self-in_err-reply g c = record {
  booked = search rules;
  reached = reached_refused _ _ _ g.C.Origin.origin c.self.inside.machine c.on_record.new.self c.self.invariant.reached (search rules) (search rules);
}

-- it answered
pub invariant_of-self-2 : goal.invariant_of-self-2
invariant_of-self-2 g c = record {
  booked = search rules;
  reached = reached_made _ _ _ g.C.Origin.origin c.self.inside.machine c.on_record.new.self c.args.conn c.args.record_.now _ c.self.invariant.reached
      c.in_ok-reply.ensures.step (search rules);
}
