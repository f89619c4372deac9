-- How `show` ends: for each end why it came and what was put. No disk is used.
use Rattle.std.specs.Prelude.{◌≡◌, Bool, true, false, IfSome}
use Rattle.std.specs.Io.KnownBytes.{Appends, IsAtEnd}
use Rattle.outcome.specs.Causes.{Rose}
use Rattle.streams.specs.Sink.{AppendsFront}
use Rattle.wire_show.specs.Text.{lines_text}
use Rattle.wire_show.specs.Shown.{shown, refused}
use Rattle.command_line.specs.declared.ends.ShowEnd.{ShowEnd}
use Rattle.command_line.specs.declared.ends.ShowEnd.TheVariants.{Done, Refused, ReadFault, WriteFault, NoMemory}
use Rattle.nfscopy.specs.Outside.{Outside}

-- a front was put of the lines of the stream, where the source tells it
abbrev pub FrontShown : {D : Type 0} → Outside D → Outside D → Type 0
FrontShown before now = IfSome before.left (λ bytes. AppendsFront before.taken now.taken (lines_text (shown bytes)))

-- all of them were put, and the stream is refused or not: a record is too large, or it passes its limit
abbrev pub AllShown : {D : Type 0} → Outside D → Outside D → Bool → Type 0
AllShown before now is_refused = IfSome before.left (λ bytes. (refused bytes ≡ is_refused) × Appends before.taken now.taken (lines_text (shown bytes)))

-- status 0: all of the input was read
pub record ShowDone {D : Type 0} (before now : Outside D) : Type 0 where
  pub read : IsAtEnd now.left
  pub puts : AllShown before now false

-- status 3: the source's count of faults rose
pub record ShowReadFault {D : Type 0} (before now : Outside D) : Type 0 where
  pub cause : Rose before.reads now.reads
  pub puts : FrontShown before now

-- status 4: the sink's count of faults rose
pub record ShowWriteFault {D : Type 0} (before now : Outside D) : Type 0 where
  pub cause : Rose before.writes now.writes
  pub puts : FrontShown before now

-- what an end says; want of memory, which is status 5, has no cause
abbrev pub ShowEnds : {D : Type 0} → Outside D → Outside D → ShowEnd → Type 0
ShowEnds before now Done = ShowDone before now
ShowEnds before now Refused = AllShown before now true
ShowEnds before now ReadFault = ShowReadFault before now
ShowEnds before now WriteFault = ShowWriteFault before now
ShowEnds before now NoMemory = FrontShown before now
