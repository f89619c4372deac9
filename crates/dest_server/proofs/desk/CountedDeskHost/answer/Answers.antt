use Rattle.std.proofs.Common.{◌≡◌, ◌<◌, ◌∙◌, ap, arith, refl, rules}
use Rattle.callback_server.specs.Replies.{reply_to}
use Rattle.core_desk.specs.declared.machine.TheConstants.{MOST_CALLS}
use Rattle.link_server.specs.Answering.{Full, Short, Step}
use Rattle.dest_server.specs.Coming.{core_words, OfRecord}
use Rattle.dest_server.proofs.Going.{comes_more, on_err}
use Rattle.dest_server.proofs.desk.CountedDeskHost.answer.Goals as goal

-- the machine had no step left
pub returns-then-calls-ge-MOST_CALLS-clause-answered : goal.returns-then-calls-ge-MOST_CALLS-clause-answered
returns-then-calls-ge-MOST_CALLS-clause-answered g c =
    let calls : c.calls.result ≡ g.K.Core.steps c.self.inside.desk.core = c.calls.ensures ∙ ap g.K.Core.steps c.core.ensures.is in
    Full c.self.inside.desk (record {
      known = record { booked = c.core.ensures.booked; came = c.self.invariant.came };
      full = omega (arith, calls, c.if-calls-ge-MOST_CALLS.true);
      nothing = ap (reply_to c.args.conn) c.new.ensures;
      same = search rules;
    })

-- it found no memory
pub returns-in_err-out-clause-err : goal.returns-in_err-out-clause-err
returns-in_err-out-clause-err g c =
    let calls : c.calls.result ≡ g.K.Core.steps c.self.inside.desk.core = c.calls.ensures ∙ ap g.K.Core.steps c.core.ensures.is in
    on_err c.from_residual.result (Short c.self.inside.desk c.on_record.new.self (record {
      known = record { booked = c.core.ensures.booked; came = c.self.invariant.came };
      enough = omega (arith, c.audit.ensures.bound, c.audit.ensures.total, c.audit.ensures.amount, c.self.invariant.few);
      few = omega (arith, calls, c.if-calls-ge-MOST_CALLS.false);
      stays = c.in_err-out.ensures.err;
      error = refl;
      same = search rules;
    }))

-- it answered
pub invariant_of-self-2 : goal.invariant_of-self-2
invariant_of-self-2 g c =
    let old = c.self.inside.desk in
    let new = c.on_record.new.self in
    let calls : c.calls.result ≡ g.K.Core.steps old.core = c.calls.ensures ∙ ap g.K.Core.steps c.core.ensures.is in
    let few : g.K.Core.steps old.core < MOST_CALLS = omega (arith, calls, c.if-calls-ge-MOST_CALLS.false) in
    let gave = c.in_ok-out.ensures.step few in
    record {
      few = omega (arith, c.add.ensures.total, c.audit.ensures.total, c.in_ok-out.ensures.counted few, c.self.invariant.few);
      came = comes_more (core_words g.K.Core.takes_record g.K.Core.ticks g.K.Core.works g.K.Core.takes_reply g.K.Core.fails_link) g.Q.Origin.origin
          old.core new.core (OfRecord c.args.conn c.args.record_.now gave.now old.draws new.draws gave.told gave.step_is) c.self.invariant.came;
    }

pub returns-clause-answered : goal.returns-clause-answered
returns-clause-answered g c =
    let calls : c.calls.result ≡ g.K.Core.steps c.self.inside.desk.core = c.calls.ensures ∙ ap g.K.Core.steps c.core.ensures.is in
    let few : g.K.Core.steps c.self.inside.desk.core < MOST_CALLS = omega (arith, calls, c.if-calls-ge-MOST_CALLS.false) in
    let gave = c.in_ok-out.ensures.step few in
    Step c.self.inside.desk c.on_record.new.self (record {
      known = record { booked = c.core.ensures.booked; came = c.self.invariant.came };
      enough = omega (arith, c.audit.ensures.bound, c.audit.ensures.total, c.audit.ensures.amount, c.self.invariant.few);
      few = few;
      stepped = record { now = gave.now; told = gave.told; step = gave.step_is; replies = ap (reply_to c.args.conn) gave.sent };
      counted = search rules;
    })
