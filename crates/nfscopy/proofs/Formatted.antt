-- What the top call says where a disk was formatted, or served, and of a copy by a client of two servers.
use Rattle.std.proofs.Common.{◌≡◌, ℕ, ◌≤◌, refl, subst, arith}
use Rattle.std.specs.Prelude.{Option, Some}
use Rattle.volume_format.specs.DiskWords.{DiskWords}
use Rattle.volume_format.specs.Shapes.{Numbers}
use Rattle.command_line.specs.declared.command.Command.{Command}
use Rattle.command_line.specs.declared.command.Command.TheVariants.{Copy, Format, ServeSource, ServeDest}
use Rattle.command_line.specs.declared.command.DestOrder.{DestOrder}
use Rattle.command_line.specs.declared.command.Service.{Service}
use Rattle.linked_copy.specs.declared.copying.CopyOrder.{CopyOrder}
use Rattle.nfscopy.specs.Ends.{Ends, FormatEnds, LinkedEnds, ServedDestEnds, SourceEnds}
use Rattle.port_commands.specs.Copying.{CopyWords}
use Rattle.port_commands.specs.Serving.{ServiceWords}
use Rattle.command_line.specs.ExitStatus.{EndsAs, copy_status, format_status, serve_status}
use Rattle.nfscopy.specs.Outside.{Outside}
use Rattle.nfscopy.specs.RunEnds.{RunWords}

pub ends_format : {D K J M W N : Type 0} (w : DiskWords D) (r : RunWords M) (s : ServiceWords D K J N) (c : CopyWords M W N) (v : Numbers) (command : Option Command) (before now : Outside D)
    (net : N) (code : ℕ) → Some (Format v) ≡ command → EndsAs format_status (FormatEnds w v before now) code → now.dest ≡ before.dest
    → now.left ≡ before.left → now.reads ≡ before.reads → before.writes ≤ now.writes → Ends w r s c command before now net net code
ends_format w r s c v command before now net code asked ends dest left reads writes =
    subst (λ (o : Option Command). Ends w r s c o before now net net code) asked
    (record {
      ends = (ends, dest, record { left = left; reads = reads });
      reads = omega (arith, reads);
      writes = writes;
      unserved = λ none. refl;
    })

pub ends_serve : {D K J M W N : Type 0} (w : DiskWords D) (r : RunWords M) (s : ServiceWords D K J N) (c : CopyWords M W N) (service : Service) (command : Option Command)
    (before now : Outside D) (net net_now : N) (code : ℕ) → Some (ServeSource service) ≡ command
    → EndsAs serve_status (SourceEnds w s service before now net net_now) code → now.dest ≡ before.dest → now.left ≡ before.left
    → now.reads ≡ before.reads → before.writes ≤ now.writes → Ends w r s c command before now net net_now code
ends_serve w r s c service command before now net net_now code asked ends dest left reads writes =
    subst (λ (o : Option Command). Ends w r s c o before now net net_now code) asked
    (record {
      ends = (ends, dest, record { left = left; reads = reads });
      reads = omega (arith, reads);
      writes = writes;
      unserved = λ none. absurd cc;
    })

pub ends_serve_dest : {D K J M W N : Type 0} (w : DiskWords D) (r : RunWords M) (s : ServiceWords D K J N) (c : CopyWords M W N) (order : DestOrder) (command : Option Command)
    (before now : Outside D) (net net_now : N) (code : ℕ) → Some (ServeDest order) ≡ command
    → EndsAs serve_status (ServedDestEnds w s order before now net net_now) code → now.source ≡ before.source → now.left ≡ before.left
    → now.reads ≡ before.reads → before.writes ≤ now.writes → Ends w r s c command before now net net_now code
ends_serve_dest w r s c order command before now net net_now code asked ends source left reads writes =
    subst (λ (o : Option Command). Ends w r s c o before now net net_now code) asked
    (record {
      ends = (ends, source, record { left = left; reads = reads });
      reads = omega (arith, reads);
      writes = writes;
      unserved = λ none. absurd cc;
    })

pub ends_copy : {D K J M W N : Type 0} (w : DiskWords D) (r : RunWords M) (s : ServiceWords D K J N) (c : CopyWords M W N) (order : CopyOrder) (command : Option Command)
    (before now : Outside D) (net net_now : N) (code : ℕ) → Some (Copy order) ≡ command
    → EndsAs copy_status (LinkedEnds c order before now net net_now) code → now.source ≡ before.source → now.dest ≡ before.dest
    → now.left ≡ before.left → now.reads ≡ before.reads → before.writes ≤ now.writes → Ends w r s c command before now net net_now code
ends_copy w r s c order command before now net net_now code asked ends source dest left reads writes =
    subst (λ (o : Option Command). Ends w r s c o before now net net_now code) asked
    (record {
      ends = (ends, record { source = source; dest = dest }, record { left = left; reads = reads });
      reads = omega (arith, reads);
      writes = writes;
      unserved = λ none. absurd cc;
    })
