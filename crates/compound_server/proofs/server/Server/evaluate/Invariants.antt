use Rattle.std.proofs.Common.{◌≡◌, ◌+◌, ◌<◌, ◌≤◌, ◌^◌, length, map}
use Rattle.file_server.specs.Answering.{Ready}
use Rattle.nfs_base.specs.declared.limits.TheConstants.{MOST_OPERATIONS}
use Rattle.server_volume.specs.Choices.{Choice, Agrees}
use Rattle.server_volume.specs.Moments.{Counted}
use Rattle.server_volume.specs.Store.{seat_of}
use Rattle.sess_slots.specs.Table.{numbers_made}
use Rattle.compound_server.specs.Course.{course_of}
use Rattle.compound_server.specs.Preparing.{op_of, AreSuited}
use Rattle.compound_server.specs.Walking.{results_of, walk}
use Rattle.compound_server.proofs.server.Server.evaluate.Given as goal

abbrev pub invariant-operations : goal.invariant-operations
invariant-operations g l = record {
  ready : Ready l.p (length l.rest.items + 1);
  suited : AreSuited g.X.Serving.suits l.carry l.rest.items;
  few : length l.rest.items + l.count ≤ MOST_OPERATIONS;
  opens : l.self.files.opens.made + length l.rest.items < 2 ^ 32;
  given : g.X.Serving.given l.self.files.extra + length l.rest.items < 2 ^ 32;
  opened : l.self.files.opens.made + length l.rest.items ≤ l.initial.self.files.opens.made + length l.initial.rest.items;
  gave : g.X.Serving.given l.self.files.extra + length l.rest.items ≤ g.X.Serving.given l.initial.self.files.extra + length l.initial.rest.items;
  seats : l.self.sessions.sessions ≡ l.initial.self.sessions.sessions;
  numbers : numbers_made l.self.sessions ≡ numbers_made l.initial.self.sessions;
  landed : g.X.Serving.landed l.self.files.extra ≡ g.X.Serving.landed l.initial.self.files.extra;
  room : l.p.page.room ≡ l.initial.p.page.room;
  ran : Counted g.D.Disk.Told (seat_of g.D.Disk.size g.D.Disk.fuse g.D.Disk.timeline g.D.Disk.faults l.initial.self.files.volume) (seat_of g.D.Disk.size g.D.Disk.fuse g.D.Disk.timeline g.D.Disk.faults l.self.files.volume) l.initial.p.used l.p.used;
  walks : g.D.Disk.Told → (choice : Choice) → Agrees choice l.p.used
      → results_of (walk (record { gate = g.X.Extension.gated; serve = g.X.Serving.serves }) choice l.caller l.carry l.tail (map op_of l.initial.rest.items) (course_of g.D.Disk.size l.initial.self l.initial.p)) l.initial.p.page.bytes l.initial.count
      ≡ results_of (walk (record { gate = g.X.Extension.gated; serve = g.X.Serving.serves }) choice l.caller l.carry l.tail (map op_of l.rest.items) (course_of g.D.Disk.size l.self l.p)) l.p.page.bytes l.count;
}

abbrev pub decreases-operations : goal.decreases-operations
decreases-operations g l = length l.rest.items
