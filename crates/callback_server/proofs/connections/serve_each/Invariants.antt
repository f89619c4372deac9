use Rattle.std.proofs.Common.{◌≡◌, ◌-◌, ◌≤◌}
use Rattle.link_server.specs.Keeping.{books_of}
use Rattle.link_server.specs.declared.tally.Stop.TheVariants.{All}
use Rattle.link_server.specs.declared.tally.TheConstants.{ALL_RECORDS}
use Rattle.callback_server.specs.Keeping.{Serves}
use Rattle.callback_server.proofs.connections.serve_each.Given as goal

abbrev pub invariant-conns : goal.invariant-conns
invariant-conns g l = record {
  served : g.N.Net.Told → Serves g.H.Host.answers (books_of g.N.Net.hung g.N.Net.up g.N.Net.accepted l.initial.net) (books_of g.N.Net.hung g.N.Net.up g.N.Net.accepted l.net) l.tally;
  few : l.tally.accepted ≤ l.conns;
  starved : l.tally.starved ≤ l.tally.accepted;
  left : l.tally.left ≤ ALL_RECORDS;
  stop : l.tally.stop ≡ All;
  faults : g.N.Net.faults l.initial.net ≤ g.N.Net.faults l.net;
  calls : 2 ≤ l.calls.parts;
  own : (l.own.parts ≡ 1) × (l.own.amount ≡ 0);
}

abbrev pub decreases-conns : goal.decreases-conns
decreases-conns g l = l.conns - l.tally.accepted
