use Rattle.std.proofs.Common.{◌≡◌, ◌≤◌}
use Rattle.link_server.specs.Answering.{Answers}
use Rattle.link_server.specs.Accepting.{KeptAt, Waits}
use Rattle.link_server.specs.Keeping.{books_of}
use Rattle.link_server.specs.declared.tally.TheConstants.{EACH_RECORDS}
use Rattle.link_server.proofs.site.Site.get_records.Given as goal

abbrev pub invariant-short : goal.invariant-short
invariant-short g l = record {
  kept : g.N.Net.Told → KeptAt (Answers g.K.Machine.calls_of g.K.Machine.step g.K.Machine.kept g.C.Origin.origin) (books_of g.N.Net.hung g.N.Net.up g.N.Net.accepted l.net) l.self;
  fewer : l.self.running ≤ l.initial.self.running;
  enough : EACH_RECORDS ≤ l.initial.self.tally.left → l.self ≡ l.initial.self;
  waits : Waits l.initial.self l.self;
  coming : g.N.Net.Told → g.N.Net.coming l.net ≡ g.N.Net.coming l.initial.net;
  faults : g.N.Net.faults l.net ≡ g.N.Net.faults l.initial.net;
}

abbrev pub decreases-short : goal.decreases-short
decreases-short g l = l.self.running
