-- The program's exit statuses, and the status of each end of a command. Own numbers.
use Rattle.std.specs.Prelude.{◌≡◌, ℕ}
use Rattle.linked_copy.specs.declared.ends.CopyEnd.{CopyEnd}
use Rattle.linked_copy.specs.declared.ends.CopyEnd.TheVariants as copy
use Rattle.volume_format.specs.declared.formatting.FormatEnd.{FormatEnd}
use Rattle.source_server.specs.declared.serving.ServeEnd.{ServeEnd}
use Rattle.source_server.specs.declared.serving.ServeEnd.TheVariants as serve
use Rattle.volume_format.specs.declared.formatting.FormatEnd.TheVariants as format
use Rattle.command_line.specs.declared.exit_status.ExitStatus.{ExitStatus}
use Rattle.command_line.specs.declared.exit_status.ExitStatus.TheVariants.{Done, Usage, Refused, ReadFault, WriteFault, NoMemory, DiskFault, NoVolume, NetFault, CopyFailed, Mistaken}
use Rattle.command_line.specs.declared.ends.UsageEnd.{UsageEnd}
use Rattle.command_line.specs.declared.ends.UsageEnd.TheVariants as usage
use Rattle.command_line.specs.declared.ends.RunEnd.{RunEnd}
use Rattle.command_line.specs.declared.ends.RunEnd.TheVariants as run
use Rattle.command_line.specs.declared.ends.GenEnd.{GenEnd}
use Rattle.command_line.specs.declared.ends.GenEnd.TheVariants as gen
use Rattle.command_line.specs.declared.ends.ShowEnd.{ShowEnd}
use Rattle.command_line.specs.declared.ends.ShowEnd.TheVariants as show

abbrev pub code_of : ExitStatus → ℕ
code_of Done = 0
code_of Usage = 1
code_of Refused = 2
code_of ReadFault = 3
code_of WriteFault = 4
code_of NoMemory = 5
code_of DiskFault = 6
code_of NoVolume = 7
code_of NetFault = 8
code_of CopyFailed = 9
code_of Mistaken = 10

abbrev pub usage_status : UsageEnd → ExitStatus
usage_status usage.Put = Usage
usage_status usage.WriteFault = WriteFault

abbrev pub run_status : RunEnd → ExitStatus
run_status run.Done = Done
run_status run.Refused = Refused
run_status run.OverLimit = Refused
run_status run.Mistaken = Mistaken
run_status run.ReadFault = ReadFault
run_status run.WriteFault = WriteFault
run_status run.NoMemory = NoMemory
run_status run.DiskFault = DiskFault
run_status run.NoVolume = NoVolume

abbrev pub gen_status : GenEnd → ExitStatus
gen_status gen.Done = Done
gen_status gen.OverLimit = Refused
gen_status gen.Mistaken = Mistaken
gen_status gen.WriteFault = WriteFault
gen_status gen.NoMemory = NoMemory
gen_status gen.DiskFault = DiskFault
gen_status gen.NoVolume = NoVolume

abbrev pub show_status : ShowEnd → ExitStatus
show_status show.Done = Done
show_status show.Refused = Refused
show_status show.ReadFault = ReadFault
show_status show.WriteFault = WriteFault
show_status show.NoMemory = NoMemory

abbrev pub format_status : FormatEnd → ExitStatus
format_status format.Done = Done
format_status format.WriteFault = WriteFault
format_status format.NoMemory = NoMemory
format_status format.DiskFault = DiskFault
format_status format.TooSmall = NoVolume

abbrev pub serve_status : ServeEnd → ExitStatus
serve_status serve.Done = Done
serve_status serve.WriteFault = WriteFault
serve_status serve.NoMemory = NoMemory
serve_status serve.DiskFault = DiskFault
serve_status serve.NotVolume = NoVolume
serve_status serve.NetFault = NetFault

abbrev pub copy_status : CopyEnd → ExitStatus
copy_status copy.Stable = Done
copy_status copy.Failed = CopyFailed
copy_status copy.LinkFault = NetFault
copy_status copy.DrawFault = NetFault
copy_status copy.DialFault = NetFault
copy_status copy.WriteFault = WriteFault
copy_status copy.NoMemory = NoMemory

-- the exit status is that of an end, of which this is said
pub record EndsAs {E : Type 0} (status_of : E → ExitStatus) (Says : E → Type 0) (code : ℕ) : Type 0 where
  pub end : E
  pub is : code ≡ code_of (status_of end)
  pub says : Says end
