-- Which disks suffice for a command.
use Rattle.std.proofs.Common.{◌≡◌, true, Some}
use Rattle.std.specs.Prelude.{Option, None, IfSome, is_some}
use Rattle.volume_format.specs.DiskWords.{DiskWords}
use Rattle.command_line.specs.Command.{is_copy, is_format, service_in}
use Rattle.command_line.specs.Disks.{HasDisks, MayOpen}
use Rattle.command_line.specs.declared.command.Command.{Command}
use Rattle.command_line.specs.declared.command.Command.TheVariants.{Run, Show, Gen, Format, ServeSource, ServeDest, Copy}
use Rattle.nfs_base.specs.declared.side.Side.TheVariants.{Source, Dest}
use Rattle.command_line.specs.declared.command.Asked.{Asked}

pub both_suffice : {D : Type 0} (w : DiskWords D) (command : Option Command) (source dest : Option D) → service_in command ≡ None
    → is_some source ≡ true → is_some dest ≡ true → HasDisks w command source dest
both_suffice w None source dest none there also = tt
both_suffice w (Some Run) source dest none there also = (there, also)
both_suffice w (Some (Gen mebibytes)) source dest none there also = (there, also)
both_suffice w (Some Show) source dest none there also = tt
both_suffice w (Some (Format v)) source dest none there also = there
both_suffice w (Some (ServeSource s)) source dest none there also = absurd cc
both_suffice w (Some (ServeDest o)) source dest none there also = absurd cc
both_suffice w (Some (Copy o)) source dest none there also = tt

pub one_suffices : {D : Type 0} (w : DiskWords D) (command : Option Command) (source dest : Option D) → is_format command ≡ true
    → is_some source ≡ true → HasDisks w command source dest
one_suffices w None source dest is there = tt
one_suffices w (Some Run) source dest is there = absurd cc
one_suffices w (Some (Gen mebibytes)) source dest is there = absurd cc
one_suffices w (Some Show) source dest is there = tt
one_suffices w (Some (Format v)) source dest is there = there
one_suffices w (Some (ServeSource s)) source dest is there = absurd cc
one_suffices w (Some (ServeDest o)) source dest is there = absurd cc
one_suffices w (Some (Copy o)) source dest is there = tt

pub any_suffice : {D : Type 0} (w : DiskWords D) (command : Option Command) (source dest : Option D) → is_some source ≡ true → is_some dest ≡ true
    → IfSome source (MayOpen w) → IfSome dest (MayOpen w) → HasDisks w command source dest
any_suffice w None source dest there also opens other = tt
any_suffice w (Some Run) source dest there also opens other = (there, also)
any_suffice w (Some (Gen mebibytes)) source dest there also opens other = (there, also)
any_suffice w (Some Show) source dest there also opens other = tt
any_suffice w (Some (Format v)) source dest there also opens other = there
any_suffice w (Some (ServeSource s)) source dest there also opens other = (there, opens)
any_suffice w (Some (ServeDest o)) source dest there also opens other = (also, other)
any_suffice w (Some (Copy o)) source dest there also opens other = tt

pub source_suffices : {D : Type 0} (w : DiskWords D) (asked : Asked) (command : Option Command) (source dest : Option D)
    → service_in command ≡ Some asked → asked.side ≡ Source → is_some source ≡ true → IfSome source (MayOpen w) → HasDisks w command source dest
source_suffices w asked None source dest is at there opens = tt
source_suffices w asked (Some Run) source dest is at there opens = absurd cc
source_suffices w asked (Some (Gen mebibytes)) source dest is at there opens = absurd cc
source_suffices w asked (Some Show) source dest is at there opens = tt
source_suffices w asked (Some (Format v)) source dest is at there opens = there
source_suffices w asked (Some (ServeSource s)) source dest is at there opens = (there, opens)
source_suffices w asked (Some (ServeDest o)) source dest is at there opens = absurd cc
source_suffices w asked (Some (Copy o)) source dest is at there opens = tt

pub dest_suffices : {D : Type 0} (w : DiskWords D) (asked : Asked) (command : Option Command) (source dest : Option D)
    → service_in command ≡ Some asked → asked.side ≡ Dest → is_some dest ≡ true → IfSome dest (MayOpen w) → HasDisks w command source dest
dest_suffices w asked None source dest is at there opens = tt
dest_suffices w asked (Some Run) source dest is at there opens = absurd cc
dest_suffices w asked (Some (Gen mebibytes)) source dest is at there opens = absurd cc
dest_suffices w asked (Some Show) source dest is at there opens = tt
dest_suffices w asked (Some (Format v)) source dest is at there opens = absurd cc
dest_suffices w asked (Some (ServeSource s)) source dest is at there opens = absurd cc
dest_suffices w asked (Some (ServeDest o)) source dest is at there opens = (there, opens)
dest_suffices w asked (Some (Copy o)) source dest is at there opens = tt

pub none_suffices : {D : Type 0} (w : DiskWords D) (command : Option Command) (source dest : Option D) → is_copy command ≡ true → HasDisks w command source dest
none_suffices w None source dest is = tt
none_suffices w (Some Run) source dest is = absurd cc
none_suffices w (Some (Gen mebibytes)) source dest is = absurd cc
none_suffices w (Some Show) source dest is = tt
none_suffices w (Some (Format v)) source dest is = absurd cc
none_suffices w (Some (ServeSource s)) source dest is = absurd cc
none_suffices w (Some (ServeDest o)) source dest is = absurd cc
none_suffices w (Some (Copy o)) source dest is = tt
