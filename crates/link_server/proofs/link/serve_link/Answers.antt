use Rattle.link_server.specs.HangingLaws.{went_few}
use Rattle.link_server.proofs.link.serve_link.Goals as goal

pub returns-clause-served : goal.returns-clause-served
returns-clause-served g c = record {
  conn = c.args.conn;
  last = c.pump-end.new.handler;
  start = record { brings = g.F.Stream.gives c.args.from; takes = g.T.Stream.takes c.args.to };
  new = c.requires.new;
  same = c.pump-end.ensures.whole;
  few = went_few _ _ _ _ _ _ _ _ c.pump-end.ensures.went;
  went = rw (← c.requires.calls, ← c.new-handler.ensures) c.pump-end.ensures.went;
}
