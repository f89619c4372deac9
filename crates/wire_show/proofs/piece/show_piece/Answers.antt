use Rattle.std.proofs.Common.{◌∙◌, refl, arith}
use Rattle.rpc_msg.specs.FeedLaws.{flow-nil, said_now, within_now}
use Rattle.wire_show.proofs.Streams.{passed_quiet, passed_need, passed_large, passed_whole, passed_fault, piece_err}
use Rattle.wire_show.proofs.piece.show_piece.Goals as goal

pub feeds-init : goal.feeds-init
feeds-init g c = (passed_quiet _ _ _ _ _ (flow-nil _), omega arith, c.requires.open_now, omega arith, omega arith, omega arith, refl)

pub feeds-preserved-in-Need : goal.feeds-preserved-in-Need
feeds-preserved-in-Need g c =
    let kept = c.feeds.invariant in
    let fed = c.feed-count.ensures.exact in (
      passed_need _ _ c.feeds.feed c.feed-count.new.self _ _ _ _ c.args.piece.now c.feeds.at c.feed-count.result kept.2 fed kept.0 c.in-Need.is,
      within_now _ _ _ kept.1 c.feed-count.ensures.within,
      rw c.in-Need.is at (said_now c.feeds.feed c.feed-count.new.self c.args.piece.now c.feeds.at c.feed-count.result kept.2 fed),
      kept.3,
      omega (arith, kept.4),
      omega (arith, kept.5),
      kept.6,
    )

pub returns-in-TooLarge-clause-passed : goal.returns-in-TooLarge-clause-passed
returns-in-TooLarge-clause-passed g c =
    let kept = c.feeds.invariant in
    passed_large _ _ _ c.feeds.feed c.feed-count.new.self _ _ _ _ c.args.piece.now c.feeds.at c.feed-count.result kept.2 c.feed-count.ensures.exact kept.0 c.in-TooLarge.is

pub returns-in_err-show_record-in-Whole-clause-passed : goal.returns-in_err-show_record-in-Whole-clause-passed
returns-in_err-show_record-in-Whole-clause-passed g c =
    let kept = c.feeds.invariant in
    piece_err _ c.feed-count.new.self _ _ _ c.feeds.number _ c.from_residual.result c.from_residual.ensures.0
    (passed_fault _ _ c.feeds.feed c.feed-count.new.self _ _ _ _ _ c.args.piece.now c.feeds.at c.feed-count.result c.record.result.now kept.2 c.feed-count.ensures.exact kept.0 c.in-Whole.is c.record.ensures
    c.in_err-show_record-in-Whole.ensures.puts)

pub returns-in-Err-clause-passed : goal.returns-in-Err-clause-passed
returns-in-Err-clause-passed g c =
    let kept = c.feeds.invariant in
    passed_fault _ _ c.feeds.feed c.feed-count.new.self _ _ _ _ _ c.args.piece.now c.feeds.at c.feed-count.result c.record.result.now kept.2 c.feed-count.ensures.exact kept.0 c.in-Whole.is c.record.ensures
    (rw c.in-Err.is at c.in_ok-show_record-in-Whole.ensures.puts)

pub feeds-preserved : goal.feeds-preserved
feeds-preserved g c =
    let kept = c.feeds.invariant in
    let fed = c.feed-count.ensures.exact in
    let said = rw c.in-Whole.is at (said_now c.feeds.feed c.feed-count.new.self c.args.piece.now c.feeds.at c.feed-count.result kept.2 fed) in
    let calls = c.in_ok-show_record-in-Whole.ensures in (
      rw said.0 (passed_whole _ _ c.feeds.feed c.feed-count.new.self _ _ _ _ _ c.args.piece.now c.feeds.at c.feed-count.result c.record.result.now kept.2 fed kept.0 c.in-Whole.is c.record.ensures
          (rw c.in-Ok.is at calls.puts)),
      within_now _ _ _ kept.1 c.feed-count.ensures.within,
      said.1,
      omega (arith, kept.3, calls.later),
      omega arith,
      omega (arith, kept.5, c.feed-count.ensures.some c.in-Whole.is),
      calls.failing ∙ kept.6,
    )
