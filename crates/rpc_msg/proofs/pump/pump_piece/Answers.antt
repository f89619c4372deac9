use Rattle.std.proofs.Common.{◌+◌, ◌≤◌, length, arith, ◌∙◌, refl}
use Rattle.std.specs.Io.KnownBytes.{Appends}
use Rattle.streams.specs.Sink.{AppendsFront}
use Rattle.rpc_msg.specs.Serving.{StopsFront}
use Rattle.rpc_msg.specs.Underway.{Open}
use Rattle.streams.specs.FrontLaws.{front_join}
use Rattle.rpc_msg.specs.FeedLaws.{flow-nil, said_now, within_now}
use Rattle.rpc_msg.proofs.Pumping.{passed_quiet, passed_need, passed_large, passed_whole, stops_whole, appends_join}
use Rattle.rpc_msg.proofs.Pumping.{on_err}
use Rattle.rpc_msg.proofs.pump.pump_piece.Goals as goal

pub feeds-init : goal.feeds-init
feeds-init g c =
    (passed_quiet _ _ _ _ _ _ _ (flow-nil _), omega arith, c.requires.open_now, c.requires.some, omega arith, refl, omega arith, refl)

pub feeds-preserved-in-Need : goal.feeds-preserved-in-Need
feeds-preserved-in-Need g c =
    let kept = c.feeds.invariant in
    let fed = c.feed-count.ensures.exact in
    let inside : c.feeds.at + c.feed-count.result.0 ≤ length c.args.piece.now = within_now _ _ _ kept.1 c.feed-count.ensures.within in (
      passed_need _ _ _ c.feeds.feed c.feed-count.new.self _ _ _ _ _ _ c.args.piece.now c.feeds.at c.feed-count.result kept.2 fed kept.0 c.in-Need.is,
      inside,
      rw c.in-Need.is at (said_now c.feeds.feed c.feed-count.new.self c.args.piece.now c.feeds.at c.feed-count.result kept.2 fed),
      kept.3,
      kept.4,
      kept.5,
      omega (arith, kept.6),
      kept.7,
    )

pub returns-in-TooLarge-clause-passed : goal.returns-in-TooLarge-clause-passed
returns-in-TooLarge-clause-passed g c =
    let kept = c.feeds.invariant in
    let fed = c.feed-count.ensures.exact in (
      record {
        count = c.feeds.at + c.feed-count.result.0;
        within = within_now _ _ _ kept.1 c.feed-count.ensures.within;
        passed = passed_large _ _ _ _ c.feeds.feed c.feed-count.new.self _ _ _ _ _ _ c.args.piece.now c.feeds.at c.feed-count.result kept.2 fed kept.0 c.in-TooLarge.is;
      },
      rw c.in-TooLarge.is at (said_now c.feeds.feed c.feed-count.new.self c.args.piece.now c.feeds.at c.feed-count.result kept.2 fed),
      kept.3,
    )

pub returns-in-Err-clause-passed : goal.returns-in-Err-clause-passed
returns-in-Err-clause-passed g c =
    let kept = c.feeds.invariant in
    let fed = c.feed-count.ensures.exact in
    let served = c.in_ok-serve-in-Whole.ensures.served in
    let said = rw c.in-Whole.is at (said_now c.feeds.feed c.feed-count.new.self c.args.piece.now c.feeds.at c.feed-count.result kept.2 fed) in
    record {
      count = c.feeds.at + c.feed-count.result.0;
      within = within_now _ _ _ kept.1 c.feed-count.ensures.within;
      passed = rw (said.1, said.0) (passed_whole _ AppendsFront front_join _ _ c.feeds.feed c.feed-count.new.self _ _ _ _ _ _ _ _ _ c.args.piece.now c.feeds.at c.feed-count.result _ served.reply
          kept.2 fed kept.0 c.in-Whole.is c.record.ensures served.answered (rw c.in-Err.is at served.all_put) served.offered c.in_ok-serve-in-Whole.ensures.counted);
    }

pub returns-then-left-eq0-clause-passed : goal.returns-then-left-eq0-clause-passed
returns-then-left-eq0-clause-passed g c =
    let kept = c.feeds.invariant in
    let fed = c.feed-count.ensures.exact in
    let served = c.in_ok-serve-in-Whole.ensures.served in
    let said = rw c.in-Whole.is at (said_now c.feeds.feed c.feed-count.new.self c.args.piece.now c.feeds.at c.feed-count.result kept.2 fed) in (
      record {
        count = c.feeds.at + c.feed-count.result.0;
        within = within_now _ _ _ kept.1 c.feed-count.ensures.within;
        passed = rw (said.1, said.0) (passed_whole _ Appends appends_join _ _ c.feeds.feed c.feed-count.new.self _ _ _ _ _ _ _ _ _ c.args.piece.now c.feeds.at c.feed-count.result _ served.reply
            kept.2 fed kept.0 c.in-Whole.is c.record.ensures served.answered (rw c.in-Ok.is at served.all_put) served.offered c.in_ok-serve-in-Whole.ensures.counted);
      },
      c.if-left-eq0.true,
    )

pub feeds-preserved : goal.feeds-preserved
feeds-preserved g c =
    let kept = c.feeds.invariant in
    let fed = c.feed-count.ensures.exact in
    let served = c.in_ok-serve-in-Whole.ensures.served in
    let calls = c.in_ok-serve-in-Whole.ensures in
    let said = rw c.in-Whole.is at (said_now c.feeds.feed c.feed-count.new.self c.args.piece.now c.feeds.at c.feed-count.result kept.2 fed) in (
      rw said.0 (passed_whole _ Appends appends_join _ _ c.feeds.feed c.feed-count.new.self _ _ _ _ _ _ _ _ _ c.args.piece.now c.feeds.at c.feed-count.result _ served.reply
          kept.2 fed kept.0 c.in-Whole.is c.record.ensures served.answered (rw c.in-Ok.is at served.all_put) served.offered calls.counted),
      within_now _ _ _ kept.1 c.feed-count.ensures.within,
      said.1,
      omega (arith, c.if-left-eq0.false),
      omega (arith, kept.4, calls.later),
      calls.failing ∙ kept.5,
      omega arith,
      calls.gives ∙ kept.7,
    )

pub returns-in_err-serve-in-Whole-clause-err : goal.returns-in_err-serve-in-Whole-clause-err
returns-in_err-serve-in-Whole-clause-err g c =
    let kept = c.feeds.invariant in
    let fed = c.feed-count.ensures.exact in
    let calls = c.in_err-serve-in-Whole.ensures in
    let short : StopsFront g.H.Handler.answers (Open c.args.rest c.args.feed.now.under) c.args.handler.now c.serve.new.handler
    (g.K.Stream.takes c.args.sink.now) (g.K.Stream.takes c.serve.new.sink) c.args.left.now c.serve.new.left c.args.piece.now c.feed-count.new.self =
    rw (calls.err_handler, calls.err_sink, calls.err_left) (record {
      count = c.feeds.at + c.feed-count.result.0;
      within = within_now _ _ _ kept.1 c.feed-count.ensures.within;
      stopped = stops_whole _ _ _ c.feeds.feed c.feed-count.new.self _ _ _ _ _ _ c.args.piece.now c.feeds.at c.feed-count.result kept.2 fed kept.0 c.in-Whole.is;
    }) in
    on_err _ _ short
