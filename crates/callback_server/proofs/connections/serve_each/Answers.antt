use Rattle.std.proofs.Common.{◌∙◌, arith}
use Rattle.net_links.specs.Links.{Standing}
use Rattle.link_server.specs.Keeping.{books_of}
use Rattle.callback_server.specs.Keeping.{ServesOne}
use Rattle.callback_server.proofs.Steps.{serves_more, tally_grows}
use Rattle.callback_server.proofs.connections.serve_each.Goals as goal

pub conns-preserved : goal.conns-preserved
conns-preserved g c =
    let served = c.serve_link-closed.result in
    let link : Standing = record { brings = g.F.Stream.gives served.from; takes = g.T.Stream.takes served.to } in
    let hung = c.hang.ensures in
    let one : ServesOne g.H.Host.answers link c.conns.tally c.hang.new.tally = record {
      given = c.min-given.result;
      unused = served.unused;
      end = served.end;
      served = c.serve_link-closed.ensures.served;
      gave = c.min-given.ensures;
      is = hung.tally;
    } in
    let grown = tally_grows _ link _ _ one c.conns.invariant.starved c.conns.invariant.left in
    record {
      served = λ told. serves_more _ _ _ (books_of g.N.Net.hung g.N.Net.up g.N.Net.accepted c.accept.new.self)
          (books_of g.N.Net.hung g.N.Net.up g.N.Net.accepted c.hang.new.net) _ _ link (c.conns.invariant.served told)
          (c.in-Up.ensures.hung told) (c.in-Up.ensures.up told) (c.in-Up.ensures.accepted told) one (hung.hung told) (hung.up told)
          (hung.accepted told);
      few = omega (arith, grown.0, c.conns-test.true);
      starved = grown.1;
      left = grown.2;
      stop = grown.3 ∙ c.conns.invariant.stop;
      faults = omega (arith, c.conns.invariant.faults, c.in-Up.ensures.cause, hung.faults);
      calls = c.serve_link-closed.ensures.calls;
      own = c.serve_link-closed.ensures.own;
    }
