use Rattle.run_ends.proofs.stops.Anew.{between, fails, fresh, may, noted, stops, unset}
use Rattle.run_ends.proofs.stops.laws.servers_open_anew.Goals as goal

pub returns : goal.returns
returns g c = record {
  may = may g.D.Disk.Told g.D.Disk.size g.D.Disk.fuse g.D.Disk.timeline g.D.Disk.faults c.stops_leave_volumes.ensures.opens;
  stops = stops g.D.Disk.Told g.D.Disk.size g.D.Disk.fuse g.D.Disk.timeline g.D.Disk.faults c.stops_leave_volumes.ensures.stops;
  fails = fails g.D.Disk.Told g.D.Disk.size g.D.Disk.fuse g.D.Disk.timeline g.D.Disk.faults c.stops_leave_volumes.ensures.sound;
  noted = noted g.D.Disk.Told g.D.Disk.size g.D.Disk.fuse g.D.Disk.timeline g.D.Disk.faults c.failed_commits_are_pending.ensures.pending;
  unset = unset g.D.Disk.Told g.D.Disk.size g.D.Disk.fuse g.D.Disk.timeline g.D.Disk.faults;
  fresh = fresh g.D.Disk.Told g.D.Disk.size g.D.Disk.fuse g.D.Disk.timeline g.D.Disk.faults;
  between = between g.D.Disk.Told g.D.Disk.size g.D.Disk.fuse g.D.Disk.timeline g.D.Disk.faults c.stops_leave_volumes.ensures.between;
}
