use Rattle.std.proofs.Common.{◌≡◌, ◌*◌}
use Rattle.std.specs.Prelude.{length}
use Rattle.wire_run.proofs.large_runs.Both.{AreAlikeTo}
use Rattle.wire_run.proofs.large_runs.alike.files_are_alike.Given as goal
use Rattle.wire_run.specs.LargeRuns.Alike.{LeavesAll}
use Rattle.wire_run.specs.Running.{HasDisks, Later}

abbrev pub invariant-loop-chunk : goal.invariant-loop-chunk
invariant-loop-chunk g l =
    record {
      alike : g.D.Disk.Told → AreAlikeTo l.fn.system (l.chunk * 65536);
      still : g.D.Disk.Told → LeavesAll l.fn.system l.system;
      context : l.system.context ≡ l.fn.system.context;
      disks : HasDisks l.system;
      source_later : Later g.D.Disk.faults g.D.Disk.size 0 l.fn.system.source l.system.source;
      dest_later : Later g.D.Disk.faults g.D.Disk.size 0 l.fn.system.dest l.system.dest;
      source_len : length l.source.items ≡ 65536;
      dest_len : length l.dest.items ≡ 65536;
    }
