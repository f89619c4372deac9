-- How each command ends. The clause of the top call cites `Ends` and nothing else.
use Rattle.std.specs.Prelude.{◌≡◌, ℕ, ◌≤◌, false, Option, None, Some, List, option_map}
use Rattle.std.specs.Io.KnownBytes.{Appends}
use Rattle.linked_copy.specs.Ends.{CopyEnds}
use Rattle.linked_copy.specs.declared.copying.CopyOrder.{CopyOrder}
use Rattle.linked_copy.specs.declared.ends.CopyEnd.{CopyEnd}
use Rattle.outcome.specs.Causes.{Rose}
use Rattle.dest_server.specs.Serving.{DestEnds}
use Rattle.source_server.specs.Serving.{ServeEnds}
use Rattle.source_server.specs.declared.serving.ServeEnd.{ServeEnd}
use Rattle.streams.specs.Sink.{AppendsFront}
use Rattle.volume_format.specs.Formatting.{Formats}
use Rattle.volume_format.specs.Shapes.{Numbers}
use Rattle.volume_format.specs.declared.formatting.FormatEnd.{FormatEnd}
use Rattle.command_line.specs.Command.{is_on_net}
use Rattle.command_line.specs.declared.command.Command.{Command}
use Rattle.command_line.specs.declared.command.Service.{Service}
use Rattle.command_line.specs.declared.command.Command.TheVariants.{Run, Show, Gen, Format, ServeSource, ServeDest, Copy}
use Rattle.command_line.specs.declared.command.DestOrder.{DestOrder}
use Rattle.command_line.specs.declared.ends.UsageEnd.{UsageEnd}
use Rattle.command_line.specs.declared.ends.UsageEnd.TheVariants.{Put, WriteFault}
use Rattle.command_line.specs.ExitStatus.{EndsAs, copy_status, format_status, serve_status, usage_status, run_status, gen_status, show_status}
use Rattle.nfscopy.specs.GenEnds.{GenEnds, gen_events}
use Rattle.nfscopy.specs.Input.{asked}
use Rattle.nfscopy.specs.Notice.{usage_text}
use Rattle.volume_format.specs.DiskWords.{DiskWords}
use Rattle.nfscopy.specs.Outside.{Outside, SameDisks, SameInput}
use Rattle.nfscopy.specs.RunEnds.{KeepsIf, RunEnds, RunWords, RunsKeep}
use Rattle.nfscopy.specs.ShowEnds.{ShowEnds}
use Rattle.port_commands.specs.Serving.{ServiceWords, dest_service_of}
use Rattle.port_commands.specs.Copying.{CopyWords}

-- words of no command: the one line `usage` is put, or a front of it; no memory is taken
abbrev pub UsageEnds : Option (List ℕ) → Option (List ℕ) → (before now : ℕ) → UsageEnd → Type 0
UsageEnds old new before now Put = Appends old new usage_text
UsageEnds old new before now WriteFault = Rose before now × AppendsFront old new usage_text

-- a disk is formatted in the source's place
abbrev pub FormatEnds : {D : Type 0} → DiskWords D → Numbers → Outside D → Outside D → FormatEnd → Type 0
FormatEnds w v before now end = Formats w v before.taken now.taken before.writes now.writes before.source now.source end

-- a source is served, from the disk in the source's place
abbrev pub SourceEnds : {D K J N : Type 0} → DiskWords D → ServiceWords D K J N → Service → Outside D → Outside D → N → N → ServeEnd → Type 0
SourceEnds w s service before now net net_now end =
    ServeEnds w s.net s.source service.conns before.taken now.taken before.writes now.writes net net_now before.source now.source end

-- a destination is served, from the disk in the destination's place
abbrev pub ServedDestEnds : {D K J N : Type 0} → DiskWords D → ServiceWords D K J N → DestOrder → Outside D → Outside D → N → N → ServeEnd → Type 0
ServedDestEnds w s order before now net net_now end =
    DestEnds w s.net s.dest (dest_service_of order) before.taken now.taken before.writes now.writes net net_now before.dest now.dest end

-- a copy is made by a client of two servers
abbrev pub LinkedEnds : {D M W N : Type 0} → CopyWords M W N → CopyOrder → Outside D → Outside D → N → N → CopyEnd → Type 0
LinkedEnds c order before now net net_now end =
    CopyEnds (c.conduct order.copy) c.setting c.net c.draws before.taken now.taken before.writes now.writes net net_now end

-- how the program ends for its words, from what was outside before to what is outside then
abbrev pub EndsBy : {D K J M W N : Type 0} → DiskWords D → RunWords M → ServiceWords D K J N → CopyWords M W N → Option Command → Outside D → Outside D → N → N → ℕ → Type 0
EndsBy w r s c None before now net net_now code =
    EndsAs usage_status (UsageEnds before.taken now.taken before.writes now.writes) code × SameDisks before now
EndsBy w r s c (Some Run) before now net net_now code = EndsAs run_status (RunEnds w r before now) code × KeepsIf r (option_map asked before.left)
EndsBy w r s c (Some (Gen mebibytes)) before now net net_now code =
    EndsAs gen_status (GenEnds w r mebibytes before now) code × RunsKeep r (gen_events mebibytes) × SameInput before now
EndsBy w r s c (Some Show) before now net net_now code = EndsAs show_status (ShowEnds before now) code × SameDisks before now
EndsBy w r s c (Some (Format v)) before now net net_now code =
    EndsAs format_status (FormatEnds w v before now) code × (now.dest ≡ before.dest) × SameInput before now
EndsBy w r s c (Some (ServeSource service)) before now net net_now code =
    EndsAs serve_status (SourceEnds w s service before now net net_now) code × (now.dest ≡ before.dest) × SameInput before now
EndsBy w r s c (Some (ServeDest order)) before now net net_now code =
    EndsAs serve_status (ServedDestEnds w s order before now net net_now) code × (now.source ≡ before.source) × SameInput before now
EndsBy w r s c (Some (Copy order)) before now net net_now code =
    EndsAs copy_status (LinkedEnds c order before now net net_now) code × SameDisks before now × SameInput before now

-- The same; the counts of faults never fell, and a command that neither serves connections nor dials leaves the net alone.
pub record Ends {D K J M W N : Type 0} (w : DiskWords D) (r : RunWords M) (s : ServiceWords D K J N) (c : CopyWords M W N) (command : Option Command)
    (before now : Outside D) (net net_now : N) (code : ℕ) : Type 0 where
  pub ends : EndsBy w r s c command before now net net_now code
  pub reads : before.reads ≤ now.reads
  pub writes : before.writes ≤ now.writes
  pub unserved : is_on_net command ≡ false → net_now ≡ net
