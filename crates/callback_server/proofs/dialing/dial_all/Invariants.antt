use Rattle.std.proofs.Common.{◌≡◌, ◌-◌, ◌≤◌, length, vec_capacity}
use Rattle.copy_workers.specs.Workers.{AllUnsent}
use Rattle.link_server.specs.Keeping.{books_of}
use Rattle.callback_server.specs.Crew.{Dials}
use Rattle.callback_server.proofs.dialing.dial_all.Given as goal

abbrev pub invariant-workers : goal.invariant-workers
invariant-workers g l = record {
  unsent : AllUnsent l.crew.items;
  few : length l.crew.items ≤ l.workers;
  room : l.workers ≤ vec_capacity l.crew;
  dials : g.N.Net.Told → Dials (length l.crew.items) (books_of g.N.Net.hung g.N.Net.up g.N.Net.accepted l.initial.net) (books_of g.N.Net.hung g.N.Net.up g.N.Net.accepted l.net);
  coming : g.N.Net.Told → g.N.Net.coming l.net ≡ g.N.Net.coming l.initial.net;
  faults : g.N.Net.faults l.initial.net ≤ g.N.Net.faults l.net;
}

abbrev pub decreases-workers : goal.decreases-workers
decreases-workers g l = l.workers - length l.crew.items
