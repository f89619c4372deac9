-- How far a client is with its one copy, and what it does next.
use Rattle.std.specs.Prelude.{ℕ, Bool, true, false, if◌then◌else◌, Option, Some, None}
use Rattle.client_copies.specs.declared.copy.Report.{Report}
use Rattle.nfs_base.specs.declared.side.Side.{Side}
use Rattle.nfs_base.specs.declared.side.Side.TheVariants.{Source, Dest}
use Rattle.single_copy.specs.LastReports.{last_of}
use Rattle.single_copy.specs.declared.answers.LastReport.{LastReport}
use Rattle.single_copy.specs.declared.phases.Due.{Due}
use Rattle.single_copy.specs.declared.phases.Due.TheVariants.{Begin, Hear, Leave, Nothing}
use Rattle.single_copy.specs.declared.phases.Phase.{Phase}
use Rattle.single_copy.specs.declared.phases.Phase.TheVariants.{Fresh, Asking, Told, Parted, Undrawn}

-- ---- what it does next, where an answer of the source is awaited, or of the destination

-- the source is heard where an answer of it is awaited, else the destination
abbrev pub next_side : (source : Bool) → Side
next_side source = if source then Source else Dest

-- an answer that is awaited is taken, the source's first; else this
abbrev pub awaited_or : Due → (source dest : Bool) → Due
awaited_or other source dest = if source then Hear Source else (if dest then Hear Dest else other)

abbrev pub due_in : Phase → (source dest : Bool) → Due
due_in Fresh source dest = Begin
due_in Asking source dest = Hear (next_side source)
due_in (Told last) source dest = awaited_or Leave source dest
due_in (Parted last) source dest = awaited_or Nothing source dest
due_in (Undrawn last) source dest = Nothing

-- ---- how far it is then

abbrev pub has_left : Phase → Bool
has_left Fresh = false
has_left Asking = false
has_left (Told last) = false
has_left (Parted last) = true
has_left (Undrawn last) = false

abbrev pub last_in : Phase → Option LastReport
last_in Fresh = None
last_in Asking = None
last_in (Told last) = Some last
last_in (Parted last) = Some last
last_in (Undrawn last) = last

abbrev pub asked : Option LastReport → Phase
asked None = Asking
asked (Some last) = Told last

-- the copy's first report behind which none comes is its last
abbrev pub told : Option Report → Phase → Phase
told report Fresh = asked (last_of report)
told report Asking = asked (last_of report)
told report (Told last) = Told last
told report (Parted last) = Parted last
told report (Undrawn last) = Undrawn last

-- after the copy was begun, or a record was taken
abbrev pub went_on : (undrawn : Bool) → Option Report → Phase → Phase
went_on true report phase = Undrawn (last_in phase)
went_on false report phase = told report phase

-- after leave was taken
abbrev pub parted : Phase → Phase
parted Fresh = Fresh
parted Asking = Asking
parted (Told last) = Parted last
parted (Parted last) = Parted last
parted (Undrawn last) = Undrawn last

-- ---- its end

-- how many turns a client may still make besides those that take a record
abbrev pub turns_in : Phase → ℕ
turns_in Fresh = 2
turns_in Asking = 1
turns_in (Told last) = 1
turns_in (Parted last) = 0
turns_in (Undrawn last) = 0
