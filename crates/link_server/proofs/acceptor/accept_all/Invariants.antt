use Rattle.std.proofs.Common.{◌≡◌, ◌-◌, ◌≤◌}
use Rattle.link_server.specs.Answering.{Answers}
use Rattle.link_server.specs.Accepting.{KeptAt}
use Rattle.link_server.specs.Keeping.{books_of}
use Rattle.link_server.specs.declared.tally.Stop.TheVariants.{All}
use Rattle.link_server.proofs.acceptor.accept_all.Given as goal

abbrev pub invariant-conns : goal.invariant-conns
invariant-conns g l = record {
  kept : g.N.Net.Told → KeptAt (Answers g.K.Machine.calls_of g.K.Machine.step g.K.Machine.kept g.C.Origin.origin) (books_of g.N.Net.hung g.N.Net.up g.N.Net.accepted l.net) l.site;
  before : l.site.before ≡ l.initial.site.before;
  few : l.site.tally.accepted ≤ l.conns;
  stop : l.stop ≡ All;
  faults : g.N.Net.faults l.initial.net ≤ g.N.Net.faults l.net;
}

abbrev pub decreases-conns : goal.decreases-conns
decreases-conns g l = l.conns - l.site.tally.accepted
