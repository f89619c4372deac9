use Rattle.std.proofs.Common.{◌≡◌, ◌≤◌, List, [], ℕ, length, take, arith, sym, ◌∙◌, refl, length-take}
use Rattle.std.specs.declared.option.Option.TheVariants.{None, Some}
use Rattle.std.specs.Io.KnownBytes.{Appends}
use Rattle.std.proofs.KnownBytes.{Consumes-nil}
use Rattle.streams.specs.Sink.{AppendsFront}
use Rattle.streams.specs.FrontLaws.{front_join}
use Rattle.rpc_msg.specs.FeedLaws.{flow-nil, none_given}
use Rattle.rpc_msg.proofs.Pumping.{passed_quiet, appends_join, running_taken, ran_stopped, ran_short, ran_end, ran_much, ran_none}
use Rattle.rpc_msg.proofs.Pumping.{on_err}
use Rattle.rpc_msg.proofs.pump.pump_records.Goals as goal

-- the length of what was taken
taken_len : (n : ℕ) (room : List ℕ) → n ≤ length room → length (take n room) ≡ n
taken_len n room within = rw (length-take n room) (omega arith)

pub returns-then-left-eq0-clause-pumped : goal.returns-then-left-eq0-clause-pumped
returns-then-left-eq0-clause-pumped g c = (ran_none _ _ _ _ _ _ _, c.if-left-eq0.true)

pub returns-in-Some-clause-pumped : goal.returns-in-Some-clause-pumped
returns-in-Some-clause-pumped g c =
    let large : c.args.feed.now.large ≡ Some c.in-Some.len = sym c.large.ensures ∙ c.in-Some.is in
    (rw large (ran_none _ _ _ _ _ _ _), large, omega (arith, c.if-left-eq0.false))

pub takes-init : goal.takes-init
takes-init g c =
    let small : c.args.feed.now.large ≡ None = sym c.large.ensures ∙ c.in_default.is in (
      record {
        bytes = [];
        taken = Consumes-nil _;
        spent = omega arith;
        passed = rw small (passed_quiet _ _ _ _ _ _ _ (flow-nil _));
        small = omega arith;
        open_now = small;
        some = omega (arith, c.if-left-eq0.false);
      },
      omega arith,
      refl,
      omega arith,
      refl,
      refl,
      refl,
      refl,
    )

pub takes-preserved : goal.takes-preserved
takes-preserved g c =
    let kept = c.takes.invariant in
    let took = rw c.in-Took.is at c.take_some.ensures.within in
    let gave = rw c.in-Took.is at c.take_some.ensures.bytes in
    let read = rw c.in-Took.is at c.take_some.ensures.cause in
    let calls = c.in_ok-after-in-Took.ensures in
    let passed = rw c.in-Taken.is at calls.passed in
    let len = taken_len c.in-Took.count c.take_some.new.room took.2 in (
      running_taken _ _ _ _ _ _ _ _ _ _ _ _ _ _ _ _ _ _ _ _ (take c.in-Took.count c.take_some.new.room) c.in-Took.count
          kept.0 gave len took.1 passed.0 passed.1 passed.2 (rw c.in-Taken.is at calls.within),
      omega (arith, kept.1, read),
      c.take_some.ensures.failing ∙ kept.2,
      omega (arith, kept.3, calls.later),
      calls.failing ∙ kept.4,
      c.take_some.ensures.same_whole ∙ kept.5,
      c.take_some.ensures.puts ∙ kept.6,
      calls.gives ∙ kept.7,
    )

pub returns-in-TooLarge-clause-pumped : goal.returns-in-TooLarge-clause-pumped
returns-in-TooLarge-clause-pumped g c =
    let kept = c.takes.invariant in
    let took = rw c.in-Took.is at c.take_some.ensures.within in
    let gave = rw c.in-Took.is at c.take_some.ensures.bytes in
    let passed = rw c.in-TooLarge.is at c.in_ok-after-in-Took.ensures.passed in
    let len = taken_len c.in-Took.count c.take_some.new.room took.2 in (
      ran_stopped _ Appends appends_join _ _ _ _ _ _ _ _ _ _ _ _ _ _ _ _ _ _ (take c.in-Took.count c.take_some.new.room)
          kept.0 gave (omega (arith, len, took.1)) passed.0,
      passed.1,
      passed.2,
    )

pub returns-in-Enough-clause-pumped : goal.returns-in-Enough-clause-pumped
returns-in-Enough-clause-pumped g c =
    let kept = c.takes.invariant in
    let took = rw c.in-Took.is at c.take_some.ensures.within in
    let gave = rw c.in-Took.is at c.take_some.ensures.bytes in
    let passed = rw c.in-Enough.is at c.in_ok-after-in-Took.ensures.passed in
    let len = taken_len c.in-Took.count c.take_some.new.room took.2 in (
      ran_stopped _ Appends appends_join _ _ _ _ _ _ _ _ _ _ _ _ _ _ _ _ _ _ (take c.in-Took.count c.take_some.new.room)
          kept.0 gave (omega (arith, len, took.1)) passed.0,
      passed.1,
    )

pub returns-in-WriteFault-clause-pumped : goal.returns-in-WriteFault-clause-pumped
returns-in-WriteFault-clause-pumped g c =
    let kept = c.takes.invariant in
    let took = rw c.in-Took.is at c.take_some.ensures.within in
    let gave = rw c.in-Took.is at c.take_some.ensures.bytes in
    let passed = rw c.in-WriteFault.is at c.in_ok-after-in-Took.ensures.passed in
    let len = taken_len c.in-Took.count c.take_some.new.room took.2 in
    ran_stopped _ AppendsFront front_join _ _ _ _ _ _ _ _ _ _ _ _ _ _ _ _ _ _ (take c.in-Took.count c.take_some.new.room)
    kept.0 gave (omega (arith, len, took.1)) passed

pub returns-in-End-clause-pumped : goal.returns-in-End-clause-pumped
returns-in-End-clause-pumped g c =
    let run = c.takes.invariant.0 in
    let gave = rw c.in-End.is at c.take_some.ensures.bytes in
    let ran = ran_end _ _ _ _ _ _ _ _ _ _ _ _ _ _ _ run (none_given _ _ gave.0) in
    (ran.0, ran.1, gave.1, run.some)

pub returns-in-Took-take_some-clause-pumped : goal.returns-in-Took-take_some-clause-pumped
returns-in-Took-take_some-clause-pumped g c =
    let run = c.takes.invariant.0 in
    let took = rw c.in-Took-take_some.is at c.take_some-2.ensures.within in
    let gave = rw c.in-Took-take_some.is at c.take_some-2.ensures.bytes in
    let len = taken_len c.in-Took-take_some.field-0 c.take_some-2.new.room took.2 in
    let ran = ran_much _ _ _ _ _ _ _ _ _ _ _ _ _ _ _ (take c.in-Took-take_some.field-0 c.take_some-2.new.room) run
    c.takes-test.false (omega (arith, len, took.0)) gave in
    (c.takes.rest, ran.0, ran.1, ran.2, run.some)

pub returns-in-End-take_some-clause-pumped : goal.returns-in-End-take_some-clause-pumped
returns-in-End-take_some-clause-pumped g c =
    let run = c.takes.invariant.0 in
    let gave = rw c.in-End-take_some.is at c.take_some-2.ensures.bytes in
    let ran = ran_end _ _ _ _ _ _ _ _ _ _ _ _ _ _ _ run (none_given _ _ gave.0) in
    (ran.0, ran.1, gave.1, run.some)

pub returns-in_err-after-in-Took-clause-err : goal.returns-in_err-after-in-Took-clause-err
returns-in_err-after-in-Took-clause-err g c =
    let kept = c.takes.invariant in
    let took = rw c.in-Took.is at c.take_some.ensures.within in
    let gave = rw c.in-Took.is at c.take_some.ensures.bytes in
    let len = taken_len c.in-Took.count c.take_some.new.room took.2 in
    on_err _ _ (ran_short _ _ _ _ _ _ _ _ _ _ _ _ _ _ _ _ _ _ _ (take c.in-Took.count c.take_some.new.room)
    kept.0 gave (omega (arith, len, took.1)) c.in_err-after-in-Took.ensures.err)
