use Rattle.std.proofs.Common.{◌≡◌, ◌≤◌, ◌∙◌, List, [], ℕ, refl, length, take, arith, length-take}
use Rattle.std.proofs.KnownBytes.{Consumes-nil}
use Rattle.rpc_msg.specs.Underway.{fresh, Open}
use Rattle.rpc_msg.specs.FeedLaws.{flow-nil, none_given}
use Rattle.wire_show.proofs.Streams.{passed_quiet, running_taken}
use Rattle.wire_show.proofs.Endings.{ends_whole, ends_large, ends_much, ends_here, ends_fault, show_err}
use Rattle.wire_show.proofs.show.do_show.Goals as goal

-- the length of what was taken
taken_len : (n : ℕ) (room : List ℕ) → n ≤ length room → length (take n room) ≡ n
taken_len n room within = rw (length-take n room) (omega arith)

pub takes-init : goal.takes-init
takes-init g c = (
  record {
    bytes = [];
    taken = Consumes-nil _;
    spent = omega arith;
    passed = rw c.in_ok-feed.ensures.0 (passed_quiet (Open 0 fresh) (Open 0 fresh) _ 1 [] (flow-nil _));
    small = omega arith;
    few = omega arith;
    open_now = c.in_ok-feed.ensures.1;
  },
  omega arith,
  omega arith,
  refl,
  refl,
)

pub returns-in_err-after-in-Took-clause-shown : goal.returns-in_err-after-in-Took-clause-shown
returns-in_err-after-in-Took-clause-shown g c =
    let kept = c.takes.invariant in
    let took = rw c.in-Took.is at c.take_some.ensures.within in
    let gave = rw c.in-Took.is at c.take_some.ensures.bytes in
    let len = taken_len c.in-Took.count c.take_some.new.room took.2 in
    show_err _ _ _ _ c.from_residual-in_err-after-in-Took.result c.from_residual-in_err-after-in-Took.ensures.0
    (ends_fault _ _ _ _ _ _ _ _ _ _ (take c.in-Took.count c.take_some.new.room) kept.0 gave (omega (arith, len, took.1)) c.in_err-after-in-Took.ensures.passed)

pub takes-preserved : goal.takes-preserved
takes-preserved g c =
    let kept = c.takes.invariant in
    let took = rw c.in-Took.is at c.take_some.ensures.within in
    let gave = rw c.in-Took.is at c.take_some.ensures.bytes in
    let read = rw c.in-Took.is at c.take_some.ensures.cause in
    let calls = c.in_ok-after-in-Took.ensures in
    let passed = rw c.in-Taken.is at calls.passed in
    let len = taken_len c.in-Took.count c.take_some.new.room took.2 in (
      running_taken _ _ _ _ _ _ _ _ _ _ _ _ _ (take c.in-Took.count c.take_some.new.room) c.in-Took.count
          kept.0 gave len took.1 passed.0 passed.1 (rw c.in-Taken.is at calls.within) calls.few,
      omega (arith, kept.1, read),
      omega (arith, kept.2, calls.later),
      c.take_some.ensures.failing ∙ kept.3,
      calls.failing ∙ kept.4,
    )

pub returns-in-TooLarge-clause-shown : goal.returns-in-TooLarge-clause-shown
returns-in-TooLarge-clause-shown g c =
    let kept = c.takes.invariant in
    let took = rw c.in-Took.is at c.take_some.ensures.within in
    let gave = rw c.in-Took.is at c.take_some.ensures.bytes in
    let passed = rw c.in-TooLarge.is at c.in_ok-after-in-Took.ensures.passed in
    let len = taken_len c.in-Took.count c.take_some.new.room took.2 in
    ends_large _ _ _ _ _ _ _ _ _ _ _ _ _ (take c.in-Took.count c.take_some.new.room) _ kept.0 gave (omega (arith, len, took.1)) passed c.put_last.ensures.last

pub returns-in-WriteFault-clause-shown : goal.returns-in-WriteFault-clause-shown
returns-in-WriteFault-clause-shown g c =
    let kept = c.takes.invariant in
    let took = rw c.in-Took.is at c.take_some.ensures.within in
    let gave = rw c.in-Took.is at c.take_some.ensures.bytes in
    let passed = rw c.in-WriteFault.is at c.in_ok-after-in-Took.ensures.passed in
    let len = taken_len c.in-Took.count c.take_some.new.room took.2 in
    ends_fault _ _ _ _ _ _ _ _ _ _ (take c.in-Took.count c.take_some.new.room) kept.0 gave (omega (arith, len, took.1)) passed

pub returns-in-End-clause-shown : goal.returns-in-End-clause-shown
returns-in-End-clause-shown g c =
    let gave = rw c.in-End.is at c.take_some.ensures.bytes in
    ends_whole _ _ _ _ _ _ _ _ _ _ _ c.takes.invariant.0 (none_given _ _ gave.0) gave.1 c.put_last-in-End.ensures.last

pub returns-in-Failed-clause-shown : goal.returns-in-Failed-clause-shown
returns-in-Failed-clause-shown g c =
    let gave = rw c.in-Failed.is at c.take_some.ensures.bytes in
    ends_here _ _ _ _ _ _ _ _ _ c.takes.invariant.0 (none_given _ _ gave)

pub returns-in-Took-take_some-clause-shown : goal.returns-in-Took-take_some-clause-shown
returns-in-Took-take_some-clause-shown g c =
    let took = rw c.in-Took-take_some.is at c.take_some-2.ensures.within in
    let gave = rw c.in-Took-take_some.is at c.take_some-2.ensures.bytes in
    let len = taken_len c.in-Took-take_some.field-0 c.take_some-2.new.room took.2 in
    ends_much _ _ _ _ _ _ _ _ _ _ (take c.in-Took-take_some.field-0 c.take_some-2.new.room) _ c.takes.invariant.0 c.takes-test.false gave
    (omega (arith, len, took.0)) c.put_last-in-Took-take_some.ensures.last

pub returns-in-End-take_some-clause-shown : goal.returns-in-End-take_some-clause-shown
returns-in-End-take_some-clause-shown g c =
    let gave = rw c.in-End-take_some.is at c.take_some-2.ensures.bytes in
    ends_whole _ _ _ _ _ _ _ _ _ _ _ c.takes.invariant.0 (none_given _ _ gave.0) gave.1 c.put_last-in-End-take_some.ensures.last

pub returns-clause-shown : goal.returns-clause-shown
returns-clause-shown g c =
    let gave = rw c.in-Failed-take_some.is at c.take_some-2.ensures.bytes in
    ends_here _ _ _ _ _ _ _ _ _ c.takes.invariant.0 (none_given _ _ gave)
