use Rattle.link_server.specs.HangingLaws.{unread, went_few}
use Rattle.callback_server.proofs.connection.serve_link.Goals as goal

pub returns-clause-served : goal.returns-clause-served
returns-clause-served g c = record {
  conn = c.args.conn;
  last = c.pump-end.new.handler;
  start = g.F.Stream.gives c.args.from;
  failed = c.pump-end.new.sending;
  new = unread (record { brings = g.F.Stream.gives c.args.from; takes = g.T.Stream.takes c.args.to }) c.requires.new;
  same = c.pump-end.ensures.whole;
  few = went_few _ _ _ _ _ _ _ _ c.pump-end.ensures.went;
  counted = c.close-back.ensures.failed;
  went = rw (c.new-handler.ensures, c.split_off-2.ensures.amount, c.open-sending.ensures) at c.pump-end.ensures.went;
}
