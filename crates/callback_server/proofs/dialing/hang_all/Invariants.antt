use Rattle.std.proofs.Common.{◌≡◌, ◌≤◌, length}
use Rattle.link_server.specs.Keeping.{Books, books_of}
use Rattle.callback_server.specs.Crew.{standing_of, HangsAll}
use Rattle.callback_server.proofs.dialing.hang_all.Given as goal

-- Once those that are left are hung up, all are.
abbrev pub invariant-links : goal.invariant-links
invariant-links g l = record {
  up : g.N.Net.Told → length l.crew.items ≤ g.N.Net.up l.net;
  hangs : g.N.Net.Told → (now : Books) → HangsAll (standing_of l.crew.items) (books_of g.N.Net.hung g.N.Net.up g.N.Net.accepted l.net) now
      → HangsAll (standing_of l.initial.crew.items) (books_of g.N.Net.hung g.N.Net.up g.N.Net.accepted l.initial.net) now;
  coming : g.N.Net.Told → g.N.Net.coming l.net ≡ g.N.Net.coming l.initial.net;
  faults : g.N.Net.faults l.net ≡ g.N.Net.faults l.initial.net;
}

abbrev pub decreases-links : goal.decreases-links
decreases-links g l = length l.crew.items
