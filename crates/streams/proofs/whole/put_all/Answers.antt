use Rattle.std.proofs.Common.{◌∙◌, refl, arith}
use Rattle.streams.proofs.Progress.{put_none, put_more, offered_none, offered_more, offers_whole}
use Rattle.streams.proofs.whole.put_all.Goals as goal

pub puts-init : goal.puts-init
puts-init g c = (put_none _ _ _, refl, refl, offered_none _ _)

pub puts-preserved : goal.puts-preserved
puts-preserved g c =
    let has = c.puts.invariant in
    let put = c.in-Put.ensures in
    (put_more _ _ _ _ _ _ _ _ _ has.0 put.within.0 put.bytes put.cause, put.failing ∙ has.1, put.takes ∙ has.2, offered_more _ has.3 refl put.pieces put.within.1 c.puts-test.true)

pub returns-in-Failed-clause-pieces : goal.returns-in-Failed-clause-pieces
returns-in-Failed-clause-pieces g c =
    let offered = offered_more 1 c.puts.invariant.3 refl c.in-Failed.ensures.pieces (λ some. omega arith) c.puts-test.true in
    offers_whole offered (λ some. omega arith)

pub returns-clause-pieces : goal.returns-clause-pieces
returns-clause-pieces g c = offers_whole c.puts.invariant.3 (λ some. omega (arith, c.puts-test.false, some))
