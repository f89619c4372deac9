use Rattle.volume_format.specs.DiskWords.{disk_words}
use Rattle.command_line.proofs.Having.{any_suffice, both_suffice, dest_suffices, none_suffices, one_suffices, source_suffices}
use Rattle.command_line.proofs.disks.disks_suffice.Goals as goal

pub returns-clause-both : goal.returns-clause-both
returns-clause-both g c = both_suffice (disk_words g.D.Disk.Told g.D.Disk.faults g.D.Disk.size g.D.Disk.timeline)

pub returns-clause-one : goal.returns-clause-one
returns-clause-one g c = one_suffices (disk_words g.D.Disk.Told g.D.Disk.faults g.D.Disk.size g.D.Disk.timeline)

pub returns-clause-any : goal.returns-clause-any
returns-clause-any g c = any_suffice (disk_words g.D.Disk.Told g.D.Disk.faults g.D.Disk.size g.D.Disk.timeline)

pub returns-clause-dest : goal.returns-clause-dest
returns-clause-dest g c = dest_suffices (disk_words g.D.Disk.Told g.D.Disk.faults g.D.Disk.size g.D.Disk.timeline)

pub returns-clause-source : goal.returns-clause-source
returns-clause-source g c = source_suffices (disk_words g.D.Disk.Told g.D.Disk.faults g.D.Disk.size g.D.Disk.timeline)

pub returns-clause-none : goal.returns-clause-none
returns-clause-none g c = none_suffices (disk_words g.D.Disk.Told g.D.Disk.faults g.D.Disk.size g.D.Disk.timeline)
