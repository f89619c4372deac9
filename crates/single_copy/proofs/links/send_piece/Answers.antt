use Rattle.std.proofs.Common.{ap, ◌∙◌, arith, length-drop}
use Rattle.single_copy.specs.Links.{is_failed}
use Rattle.single_copy.proofs.Puts.{sends_more, sends_rest}
use Rattle.single_copy.proofs.links.send_piece.Goals as goal

pub puts-preserved : goal.puts-preserved
puts-preserved g c =
    let within = rw c.in-Put.is at c.put_once.ensures.within in
    let sends = rw c.in-Put.is at c.put_once.ensures.sends in
    record {
      within = omega (arith, within.0, length-drop c.puts.at c.args.piece.now, c.puts-test.true);
      up = c.put_once.ensures.down ∙ ap is_failed c.in-Put.is;
      sent = sends_more _ _ _ _ _ c.args.piece.now c.puts.at c.in-Put.count c.puts.invariant.sent sends;
    }

pub returns-in-Failed : goal.returns-in-Failed
returns-in-Failed g c =
    let sends = rw c.in-Failed.is at c.put_once.ensures.sends in
    sends_rest _ _ _ _ _ c.args.piece.now c.puts.at c.puts.invariant.sent sends
