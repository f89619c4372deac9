-- What small steps leave of the ends, the draws, the clock and the records, and what they keep.
use Rattle.std.specs.List.{list_any}
use Rattle.std.specs.Option.{option_map_or}
use Rattle.std.specs.Prelude.{◌≡◌, ℕ, zero, suc, ◌+◌, ◌≤◌, Bool, true, false, ◌||◌, List, [], ◌∷◌, ◌++◌, ◌≢◌, length, map, Option, Some, None, IsSome, Result, Ok, Err, ◌<◌, not}
use Rattle.block_file.specs.Opened.{Opened}
use Rattle.block_file.specs.declared.faults.ReadFault.{ReadFault}
use Rattle.block_file.specs.declared.faults.ReadFault.TheVariants as read_faults
use Rattle.client_core.specs.State.{ClientState}
use Rattle.client_core.specs.Telling.{copy_of}
use Rattle.copy_model.specs.Volume.{Volume, bytes_at, file_at}
use Rattle.dest_core.specs.declared.destination.Destination.{Destination}
use Rattle.disk_model.specs.declared.fuse.Fuse.{Fuse}
use Rattle.dest_jobs.specs.declared.carried.Carried.{Carried as DestCarried}
use Rattle.job_table.specs.Fits.{PlansAreFit}
use Rattle.nfs_base.specs.declared.seal.End.{End}
use Rattle.nfs_base.specs.declared.seal.End.TheVariants as ends
use Rattle.nfs_base.specs.declared.limits.TheConstants.{DATA_LIMIT}
use Rattle.nfs_base.specs.declared.side.Side.{Side}
use Rattle.nfs_base.specs.declared.side.Side.TheVariants.{Source, Dest}
use Rattle.outbox.specs.declared.outgoing.Outbox.{Outbox}
use Rattle.server_volume.specs.declared.used.Used.{Used}
use Rattle.session_server.specs.Host.{host_of}
use Rattle.session_server.specs.declared.host.Host.{Host}
use Rattle.source_core.specs.declared.carried.Carried.{Carried as SourceCarried}
use Rattle.source_core.specs.declared.source.Source.{Source as SourceOwn}
use Rattle.wire_lines.specs.LineText.{lines_text}
use Rattle.wire_machine.specs.Check.{Reading, mistake, mistake_in}
use Rattle.wire_machine.specs.Ends.{ClientAct, DestAct, SourceAct}
use Rattle.wire_machine.specs.Ends as acts
use Rattle.wire_lines.specs.declared.line.Line.{Line}
use Rattle.wire_lines.specs.declared.line.Line.TheVariants as lines
use Rattle.wire_log.specs.Keeping as keeping
use Rattle.wire_machine.specs.Lines.{lines_of, notes_of, records_of, sent_lines, step_lines}
use Rattle.wire_machine.specs.Runs as runs
use Rattle.wire_machine.specs.Runs.{Goes, fault_by, fault_of, most_bytes}
use Rattle.wire_lines.specs.declared.letters.Speaker.{Speaker}
use Rattle.wire_lines.specs.declared.letters.Speaker.TheVariants as speakers
use Rattle.wire_machine.specs.Steps.{Arrives, IsStep, NeverStops, after_steps, command_of, cut_of, any_failed, choice_of}
use Rattle.wire_machine.specs.World.{Parts, Posted, all_posted, bytes_of, marked, posted_at}
use Rattle.wire_machine.specs.declared.choice.Choice.{Choice}
use Rattle.wire_machine.specs.declared.port.Port.{Port}
use Rattle.wire_machine.specs.declared.choice.Choice.TheVariants.{Went, Failed}
use Rattle.wire_machine.specs.declared.mistake.Mistake.{Mistake}
use Rattle.wire_run.specs.Asked.{StopsAreAsked, fuses_behind}
use Rattle.wire_run.specs.Commanding.{CanBegin}
use Rattle.run_ends.specs.Ends.{RunMachines, RunStep, RunWorld, is_worker}
use Rattle.wire_run.specs.Running.{AreBlamed, Later, failed_calls, has_failed_at, world_of}
use Rattle.wire_run.specs.Watching.{AreNumbered, AreWatched, crashes_in, is_armed, sets_in}
use Rattle.wire_run.specs.declared.ends.DestEnd.{DestEnd}
use Rattle.wire_run.specs.declared.ends.DestEnd.TheVariants as dest_end
use Rattle.wire_run.specs.declared.ends.SourceEnd.{SourceEnd}
use Rattle.wire_run.specs.declared.ends.SourceEnd.TheVariants as source_end
use Rattle.wire_run.specs.declared.stage.Acted.{Acted}
use Rattle.wire_run.specs.declared.stage.Fault.{Fault}
use Rattle.wire_run.specs.declared.stage.Fault.TheVariants as faults_of
use Rattle.wire_run.specs.declared.stage.Stage.{Stage}
use Rattle.wire_run.specs.declared.stage.Ticked.{Ticked}
use Rattle.wire_run.specs.declared.system.Peeked.{Peeked}
use Rattle.wire_run.specs.declared.system.Peeked.TheVariants as peeks
use Rattle.wire_schedule.specs.declared.event.Event.{Event}
use Rattle.wire_schedule.specs.declared.event.Event.TheVariants as kinds

-- ---- the cores of the servers

abbrev pub SourceHost : (D M : Type 0) → Type 0
SourceHost D M = Host D (SourceOwn M) SourceCarried

abbrev pub DestHost : (D M : Type 0) → Type 0
DestHost D M = Host D (Destination M) DestCarried

abbrev pub source_disk : {D M : Type 0} → SourceEnd D M → Option D
source_disk source_end.Away = None
source_disk (source_end.Disk disk) = Some disk
source_disk (source_end.Open core) = Some core.server.files.volume.disk

abbrev pub dest_disk : {D M : Type 0} → DestEnd D M → Option D
dest_disk dest_end.Away = None
dest_disk (dest_end.Disk disk) = Some disk
dest_disk (dest_end.Open core) = Some core.server.files.volume.disk

-- how many steps a server made
abbrev pub source_steps : {D M : Type 0} → SourceEnd D M → ℕ
source_steps (source_end.Open core) = core.steps
source_steps end = 0

abbrev pub dest_steps : {D M : Type 0} → DestEnd D M → ℕ
dest_steps (dest_end.Open core) = core.steps
dest_steps end = 0

-- the number of its volume's opening
abbrev pub source_boot : {D M : Type 0} → SourceEnd D M → ℕ
source_boot (source_end.Open core) = core.server.files.volume.volume.boot
source_boot end = 0

abbrev pub dest_boot : {D M : Type 0} → DestEnd D M → ℕ
dest_boot (dest_end.Open core) = core.server.files.volume.volume.boot
dest_boot end = 0

-- the plans of its jobs are within the bounds of their types
abbrev pub HasFitPlans : {D M : Type 0} → DestEnd D M → Type 0
HasFitPlans (dest_end.Open core) = PlansAreFit core.server.files.extra.copier.copies.book.table
HasFitPlans end = Unit {0}

-- it is there
abbrev pub IsSourceOpen : {D M : Type 0} → SourceEnd D M → Type 0
IsSourceOpen (source_end.Open core) = Unit {0}
IsSourceOpen end = ⊥

abbrev pub IsDestOpen : {D M : Type 0} → DestEnd D M → Type 0
IsDestOpen (dest_end.Open core) = Unit {0}
IsDestOpen end = ⊥

pub record IsReady {D M : Type 0} (s : Stage D M) : Type 0 where
  pub source : IsSourceOpen s.source
  pub dest : IsDestOpen s.dest

-- ---- what a step of a server leaves of its volume: the number of its files, its tag, and the number of its opening

pub record VolumeStays {D : Type 0} (old new : Opened D) : Type 0 where
  pub files : length new.volume.files ≡ length old.volume.files
  pub tag : new.tag ≡ old.tag
  pub boot : new.volume.boot ≡ old.volume.boot

-- a small step in which a server is opened anew keeps the first two
pub record VolumeKeeps {D : Type 0} (old new : Opened D) : Type 0 where
  pub files : length new.volume.files ≡ length old.volume.files
  pub tag : new.tag ≡ old.tag

-- A server that is there is there afterwards, and where its disk tells what it holds, its volume is kept; or it is away.
abbrev pub SourceLeaves : {D M : Type 0} → (told : Type 0) → SourceHost D M → SourceEnd D M → Type 0
SourceLeaves told was (source_end.Open next) = told → VolumeKeeps was.server.files.volume next.server.files.volume
SourceLeaves told was source_end.Away = Unit {0}
SourceLeaves told was (source_end.Disk disk) = ⊥

pub record SourceKeeps {D M : Type 0} (told : Type 0) (old new : SourceEnd D M) : Type 0 where
  pub was : SourceHost D M
  pub was_is : old ≡ source_end.Open was
  pub leaves : SourceLeaves told was new

abbrev pub DestLeaves : {D M : Type 0} → (told : Type 0) → DestHost D M → DestEnd D M → Type 0
DestLeaves told was (dest_end.Open next) = told → VolumeKeeps was.server.files.volume next.server.files.volume
DestLeaves told was dest_end.Away = Unit {0}
DestLeaves told was (dest_end.Disk disk) = ⊥

pub record DestKeeps {D M : Type 0} (told : Type 0) (old new : DestEnd D M) : Type 0 where
  pub was : DestHost D M
  pub was_is : old ≡ dest_end.Open was
  pub leaves : DestLeaves told was new

-- ---- an act of a server that is there

abbrev pub bit : Bool → ℕ
bit true = 1
bit false = 0

pub record SourceActs {D M : Type 0} (told : Type 0) (m : RunMachines M) (faults size : D → ℕ) (act : SourceAct) (now : ℕ)
    (old : SourceEnd D M) (before : ℕ) (new : SourceEnd D M) (after : ℕ) (out : Outbox) : Type 0 where
  pub was : SourceHost D M
  pub next : SourceHost D M
  pub was_is : old ≡ source_end.Open was
  pub next_is : new ≡ source_end.Open next
  pub stays : told → VolumeStays was.server.files.volume next.server.files.volume
  pub acts : told → m.source act now (host_of size was) before (host_of size next) after out
  pub counted : next.steps ≤ was.steps + 1
  pub later : Later faults size (bit (any_failed out.used)) (Some was.server.files.volume.disk) (Some next.server.files.volume.disk)

pub record DestActs {D M : Type 0} (told : Type 0) (m : RunMachines M) (faults size : D → ℕ) (act : DestAct) (now : ℕ)
    (old : DestEnd D M) (before : ℕ) (new : DestEnd D M) (after : ℕ) (out : Outbox) : Type 0 where
  pub was : DestHost D M
  pub next : DestHost D M
  pub was_is : old ≡ dest_end.Open was
  pub next_is : new ≡ dest_end.Open next
  pub stays : told → VolumeStays was.server.files.volume next.server.files.volume
  pub acts : told → m.dest act now (host_of size was) before (host_of size next) after out
  pub counted : next.steps ≤ was.steps + 1
  pub later : Later faults size (bit (any_failed out.used)) (Some was.server.files.volume.disk) (Some next.server.files.volume.disk)

-- ---- an act of the client: it is one step, and begins no copy but by its command

-- the client begins no copy but this one
abbrev pub BeginsOnly : {M : Type 0} → Option ℕ → (old new : ClientState M) → Type 0
BeginsOnly copy old new = (j : ℕ) → copy ≢ Some j → copy_of j old ≡ None → copy_of j new ≡ None

abbrev pub BeginsNone : {M : Type 0} → (old new : ClientState M) → Type 0
BeginsNone old new = (j : ℕ) → copy_of j old ≡ None → copy_of j new ≡ None

abbrev pub begun_by : ClientAct → Option ℕ
begun_by (acts.Begins copy spec) = Some copy
begun_by act = None

pub record ClientActs {M : Type 0} (m : RunMachines M) (act : ClientAct) (now : ℕ) (old : ClientState M) (before : ℕ) (new : ClientState M) (after : ℕ)
    (out : Outbox) : Type 0 where
  pub acts : m.client act now old before new after out
  pub counted : new.steps ≡ old.steps + 1
  pub setting : new.setting ≡ old.setting
  pub begun : BeginsOnly (begun_by act) old new

-- ---- a peek: what it answers. A file that isn't there is refused too. The bytes are right where the disk tells what it holds.

pub record PeekIs (told : Type 0) (v : Volume) (file off : ℕ) (old new : List ℕ) (answer : Peeked) : Type 0 where
  pub broken : answer ≡ peeks.Refused → file < length v.files → v.broken ≡ true
  pub refused : v.broken ≡ true → answer ≡ peeks.Refused
  pub whole : answer ≡ peeks.Shown → v.broken ≡ false
  pub bytes : told → answer ≡ peeks.Shown → new ≡ bytes_at (file_at v file).now off (length old)

abbrev pub is_shown : Peeked → Bool
is_shown peeks.Shown = true
is_shown answer = false

abbrev pub has_failed : Peeked → Bool
has_failed peeks.Failed = true
has_failed answer = false

abbrev pub peeked_of : {A : Type 0} → Result A ReadFault → Peeked
peeked_of (Ok done) = peeks.Shown
peeked_of (Err read_faults.Broken) = peeks.Refused
peeked_of (Err read_faults.DiskFailed) = peeks.Failed

pub record SourcePeeks {D M : Type 0} (told : Type 0) (faults size : D → ℕ) (file off : ℕ) (old new : SourceEnd D M) (out_old out_new : List ℕ) (answer : Peeked) : Type 0 where
  pub was : SourceHost D M
  pub next : SourceHost D M
  pub was_is : old ≡ source_end.Open was
  pub next_is : new ≡ source_end.Open next
  pub same : told → host_of size next ≡ host_of size was
  pub counted : next.steps ≡ was.steps
  pub is : PeekIs told was.server.files.volume.volume file off out_old out_new answer
  pub later : Later faults size (bit (has_failed answer)) (Some was.server.files.volume.disk) (Some next.server.files.volume.disk)

pub record DestPeeks {D M : Type 0} (told : Type 0) (faults size : D → ℕ) (file off : ℕ) (old new : DestEnd D M) (out_old out_new : List ℕ) (answer : Peeked) : Type 0 where
  pub was : DestHost D M
  pub next : DestHost D M
  pub was_is : old ≡ dest_end.Open was
  pub next_is : new ≡ dest_end.Open next
  pub same : told → host_of size next ≡ host_of size was
  pub counted : next.steps ≡ was.steps
  pub is : PeekIs told was.server.files.volume.volume file off out_old out_new answer
  pub later : Later faults size (bit (has_failed answer)) (Some was.server.files.volume.disk) (Some next.server.files.volume.disk)

-- ---- the world of a stage whose servers are there

abbrev pub world_at : {D M : Type 0} → (D → ℕ) → SourceHost D M → DestHost D M → Stage D M → RunWorld M
world_at size source dest s = world_of (host_of size source) (host_of size dest) s.client s.draws s.clock s.log s.choices.items

-- ---- what is kept in every small step, want of memory included

-- the records up to a number were delivered
abbrev pub AllDelivered : ℕ → List Posted → Type 0
AllDelivered zero log = Unit {0}
AllDelivered (suc n) [] = Unit {0}
AllDelivered (suc n) (r ∷ log) = (r.delivered ≡ true) × AllDelivered n log

pub record LogKeeps (old new : List Posted) : Type 0 where
  pub longer : length old ≤ length new
  pub delivered : (n : ℕ) → n ≤ length old → AllDelivered n old → AllDelivered n new

-- how many records a run has at most
abbrev pub most_records : ℕ
most_records = 33554432

-- no end made more steps than so many, nor were so many small steps done
pub record IsBelow {D M : Type 0} (n : ℕ) (s : Stage D M) : Type 0 where
  pub source : source_steps s.source ≤ n
  pub dest : dest_steps s.dest ≤ n
  pub client : s.client.steps ≤ n
  pub choices : length s.choices.items ≤ n

pub record StageKeeps {D M : Type 0} (told : Type 0) (old new : Stage D M) : Type 0 where
  pub source : SourceKeeps told old.source new.source
  pub dest : DestKeeps told old.dest new.dest
  pub setting : new.client.setting ≡ old.client.setting
  pub log : LogKeeps old.log new.log
  pub bytes : bytes_of new.log ≤ most_bytes

-- ---- a small step that is done, by the relation that it is of

abbrev pub faults_named : Option Fault → Option runs.Fault
faults_named None = None
faults_named (Some (faults_of.Mistaken mistake)) = Some (runs.Mistaken mistake)
faults_named (Some faults_of.TooLarge) = Some runs.TooLarge

-- A small step is done, in which the machines go along a relation: what it leaves, its lines, and what the disks did in it.
pub record IsDone {D M : Type 0} (told : Type 0) (m : RunMachines M) (read : Reading) (faults size : D → ℕ) (R : RunWorld M → Parts → RunWorld M → Type 0)
    (old new : Stage D M) (text_old text_new : List ℕ) : Type 0 where
  pub source : SourceHost D M
  pub dest : DestHost D M
  pub source_next : SourceHost D M
  pub dest_next : DestHost D M
  pub source_is : old.source ≡ source_end.Open source
  pub dest_is : old.dest ≡ dest_end.Open dest
  pub source_next_is : new.source ≡ source_end.Open source_next
  pub dest_next_is : new.dest ≡ dest_end.Open dest_next
  pub parts : Parts
  pub is : told → R (world_at size source dest old) parts (world_at size source_next dest_next new)
  pub right : told → fault_by (mistake m read (world_at size source dest old) parts) (bytes_of new.log) ≡ None
  pub lines : text_new ≡ text_old ++ lines_text (notes_of parts ++ records_of (length old.log) parts)
  pub choices : new.choices.items ≡ old.choices.items ++ choice_of parts ∷ []
  pub source_later : Later faults size (bit (any_failed parts.source.out.used)) (Some source.server.files.volume.disk) (Some source_next.server.files.volume.disk)
  pub dest_later : Later faults size (bit (any_failed parts.dest.out.used)) (Some dest.server.files.volume.disk) (Some dest_next.server.files.volume.disk)

-- It ends the run.
pub record IsFaulty {D M : Type 0} (told : Type 0) (m : RunMachines M) (read : Reading) (faults size : D → ℕ) (R : RunWorld M → Parts → RunWorld M → Type 0)
    (fault : runs.Fault) (old new : Stage D M) (text_old text_new : List ℕ) : Type 0 where
  pub source : SourceHost D M
  pub dest : DestHost D M
  pub source_next : SourceHost D M
  pub dest_next : DestHost D M
  pub source_is : old.source ≡ source_end.Open source
  pub dest_is : old.dest ≡ dest_end.Open dest
  pub source_next_is : new.source ≡ source_end.Open source_next
  pub dest_next_is : new.dest ≡ dest_end.Open dest_next
  pub parts : Parts
  pub after : RunWorld M
  pub is : told → R (world_at size source dest old) parts after
  pub fault_is : told → fault_by (mistake m read (world_at size source dest old) parts) (bytes_of after.log) ≡ Some fault
  pub text : text_new ≡ text_old
  pub choices : new.choices.items ≡ old.choices.items
  pub source_later : Later faults size 0 (Some source.server.files.volume.disk) (Some source_next.server.files.volume.disk)
  pub dest_later : Later faults size 0 (Some dest.server.files.volume.disk) (Some dest_next.server.files.volume.disk)

abbrev pub Comes : {D M : Type 0} → (told : Type 0) → RunMachines M → Reading → (faults size : D → ℕ) → (RunWorld M → Parts → RunWorld M → Type 0)
    → (old new : Stage D M) → (text_old text_new : List ℕ) → Option runs.Fault → Type 0
Comes told m read faults size R old new text_old text_new None = IsDone told m read faults size R old new text_old text_new
Comes told m read faults size R old new text_old text_new (Some fault) = IsFaulty told m read faults size R fault old new text_old text_new

-- ---- the end of a small step of one end: what it took is checked, and what it told and sent is put down

abbrev pub choice_by : Bool → Choice
choice_by true = Failed
choice_by false = Went

-- records were sent
abbrev pub Grows : (old new : List Posted) → Type 0
Grows old new = (more : List Posted) × (new ≡ old ++ more)

-- all but the records and what the disks did is as it was
pub record SettleKeeps {D M : Type 0} (old new : Stage D M) : Type 0 where
  pub source : new.source ≡ old.source
  pub dest : new.dest ≡ old.dest
  pub client : new.client ≡ old.client
  pub draws : new.draws ≡ old.draws
  pub clock : new.clock ≡ old.clock
  pub flowed : new.flowed ≡ old.flowed
  pub stops : new.stops ≡ old.stops
  pub log : Grows old.log new.log
  pub bytes : bytes_of new.log ≤ most_bytes
  pub choices : length new.choices.items ≤ length old.choices.items + 1

-- whether a call on the volume failed; a client has none
abbrev pub has_failed_by : End → List Used → Bool
has_failed_by ends.Client used = false
has_failed_by end used = any_failed used

-- what an end sent, as it is put down
abbrev pub posted_by : {D M : Type 0} → Acted → Stage D M → List Posted
posted_by acted s = all_posted acted.end (length s.choices.items) acted.opening (keeping.bytes_at s.log acted.took) acted.out.sent

abbrev pub mistake_by : {D M : Type 0} → Reading → Acted → Stage D M → Option Mistake
mistake_by read acted s = mistake_in read s.log acted.end acted.opening acted.out.accepted (keeping.bytes_at s.log acted.took)

pub record IsPutDown {D M : Type 0} (acted : Acted) (old new : Stage D M) (text_old text_new : List ℕ) : Type 0 where
  pub log : new.log ≡ old.log ++ posted_by acted old
  pub choices : new.choices.items ≡ old.choices.items ++ choice_by (has_failed_by acted.end acted.out.used) ∷ []
  pub lines : text_new ≡ text_old ++ lines_text (map (lines.Note acted.speaker) acted.out.notes ++ sent_lines acted.end (length old.log + 1) acted.out.sent)

abbrev pub Settles : {D M : Type 0} → Reading → Acted → (old new : Stage D M) → (text_old text_new : List ℕ) → Option runs.Fault → Type 0
Settles read acted old new text_old text_new None =
    IsPutDown acted old new text_old text_new × (fault_by (mistake_by read acted old) (bytes_of new.log) ≡ None)
Settles read acted old new text_old text_new (Some fault) =
    (new ≡ old) × (text_new ≡ text_old) × (fault_by (mistake_by read acted old) (bytes_of (old.log ++ posted_by acted old)) ≡ Some fault)

-- ---- the same, where the clock moves on

abbrev pub speaker_of : End → Speaker
speaker_of ends.Source = speakers.Source
speaker_of ends.Dest = speakers.Dest
speaker_of ends.Client = speakers.Client

abbrev pub ticked_parts : Ticked → Parts
ticked_parts ticked = record {
  source = record { took = None; speaker = speakers.Source; out = ticked.source };
  dest = record { took = None; speaker = speakers.Dest; out = ticked.dest };
  client = record { took = None; speaker = speakers.Client; out = ticked.client };
}

abbrev pub all_sent_bytes : Ticked → ℕ
all_sent_bytes ticked = keeping.sent_bytes ticked.source.sent + keeping.sent_bytes ticked.dest.sent + keeping.sent_bytes ticked.client.sent

abbrev pub all_posted_by : {D M : Type 0} → Ticked → Stage D M → List Posted
all_posted_by ticked s =
    all_posted ends.Source (length s.choices.items) ticked.source_opening None ticked.source.sent
    ++ (all_posted ends.Dest (length s.choices.items) ticked.dest_opening None ticked.dest.sent
    ++ all_posted ends.Client (length s.choices.items) 0 None ticked.client.sent)

pub record AreAllPutDown {D M : Type 0} (ticked : Ticked) (old new : Stage D M) (text_old text_new : List ℕ) : Type 0 where
  pub log : new.log ≡ old.log ++ all_posted_by ticked old
  pub choices : new.choices.items ≡ old.choices.items ++ choice_by (any_failed ticked.source.used || any_failed ticked.dest.used) ∷ []
  pub lines : text_new ≡ text_old ++ lines_text (notes_of (ticked_parts ticked) ++ records_of (length old.log) (ticked_parts ticked))

abbrev pub SettlesAll : {D M : Type 0} → Ticked → (old new : Stage D M) → (text_old text_new : List ℕ) → Option runs.Fault → Type 0
SettlesAll ticked old new text_old text_new None = AreAllPutDown ticked old new text_old text_new × (fault_by None (bytes_of new.log) ≡ None)
SettlesAll ticked old new text_old text_new (Some fault) =
    (new ≡ old) × (text_new ≡ text_old) × (fault_by None (bytes_of (old.log ++ all_posted_by ticked old)) ≡ Some fault)

-- ---- what a small step of any kind keeps, want of memory included

pub record SmallKeeps {D M : Type 0} (told : Type 0) (old new : Stage D M) : Type 0 where
  pub keeps : StageKeeps told old new
  pub below : (n : ℕ) → IsBelow n old → IsBelow (n + 1) new
  pub flowed : new.flowed ≡ old.flowed

-- ---- what is known before a small step

-- both servers are there, no end can have made all its steps, and the records and the clock are within the limits
pub record IsFair {D M : Type 0} (told : Type 0) (size : D → ℕ) (fuse : D → Fuse) (s : Stage D M) : Type 0 where
  pub ready : IsReady s
  pub below : IsBelow 67108862 s
  pub bytes : bytes_of s.log ≤ most_bytes
  pub clock : s.clock ≤ 1000000000000
  pub watched : AreWatched told size fuse s
  pub numbered : AreNumbered told 67108862 s

-- a server's volume has a file of this number, where its disk tells
abbrev pub source_files : {D M : Type 0} → SourceEnd D M → ℕ
source_files (source_end.Open core) = length core.server.files.volume.volume.files
source_files end = 0

abbrev pub dest_files : {D M : Type 0} → DestEnd D M → ℕ
dest_files (dest_end.Open core) = length core.server.files.volume.volume.files
dest_files end = 0

pub record HasFileBelow (told : Type 0) (file files : ℕ) : Type 0 where
  pub no_root : 1 ≤ file
  pub there : told → file < files

abbrev pub HasFileAt : {D M : Type 0} → (told : Type 0) → Side → (file : ℕ) → Stage D M → Type 0
HasFileAt told Source file s = HasFileBelow told file (source_files s.source)
HasFileAt told Dest file s = HasFileBelow told file (dest_files s.dest)

-- what a command of the client names: a copy that it begins, and bytes to be written
abbrev pub begun_in : Event → Option ℕ
begun_in (kinds.Copy copy spec) = Some copy
begun_in event = None

abbrev pub bytes_in : Event → List ℕ
bytes_in (kinds.Write side file off bytes) = bytes
bytes_in event = []

-- a command of the client that it can carry out
pub record IsCommand {M : Type 0} (event : Event) (c : ClientState M) : Type 0 where
  pub there : IsSome (command_of event)
  pub new : CanBegin event c
  pub short : length (bytes_in event) ≤ DATA_LIMIT

-- An event that is one small step, and can be carried out. A server that is there may always crash.
abbrev pub IsFit : {D M : Type 0} → (told : Type 0) → Event → Stage D M → Type 0
IsFit told (kinds.Deliver number) s = Unit {0}
IsFit told (kinds.Work worker) s = is_worker worker ≡ true
IsFit told (kinds.Tick seconds) s = seconds ≤ 1000000
IsFit told (kinds.Peek side file off len) s = HasFileAt told side file s
IsFit told (kinds.Crash side pick) s = Unit {0}
IsFit told (kinds.CrashAfter side calls pick) s = Unit {0}
IsFit told event s = IsCommand event s.client

-- ---- a record that is delivered

-- it goes in at a port
abbrev pub TakesAt : {M : Type 0} → RunMachines M → Port → (number : ℕ) → RunWorld M → Parts → RunWorld M → Type 0
TakesAt m port number before parts after =
    (bytes : List ℕ) × (keeping.bytes_at before.log number ≡ Some bytes) × Arrives m (Some port) bytes before parts after

-- it was just marked, and goes in where it goes in
abbrev pub HandsOver : {M : Type 0} → RunMachines M → (number : ℕ) → RunWorld M → Parts → RunWorld M → Type 0
HandsOver m number before parts after = (r : Posted) × (posted_at number before.log ≡ Some r) × Arrives m r.port r.bytes before parts after

-- a record is marked
abbrev pub marked_at : {D M : Type 0} → (number : ℕ) → Stage D M → Stage D M
marked_at number s = record s { log = marked number s.log }

-- ---- the clock: what each end does that looks at it

pub record AllLook {D M : Type 0} (told : Type 0) (m : RunMachines M) (faults size : D → ℕ) (old new : Stage D M) (ticked : Ticked) : Type 0 where
  pub source : SourceActs told m faults size acts.SourceTicks old.clock old.source old.draws new.source old.draws ticked.source
  pub dest : DestActs told m faults size acts.DestTicks old.clock old.dest old.draws new.dest old.draws ticked.dest
  pub client : m.client acts.ClientTicks old.clock old.client old.draws new.client old.draws ticked.client
  pub source_opening : ticked.source_opening ≡ source_boot new.source
  pub dest_opening : ticked.dest_opening ≡ dest_boot new.dest

-- all but the ends is as it was
pub record LooksOnly {D M : Type 0} (old new : Stage D M) : Type 0 where
  pub draws : new.draws ≡ old.draws
  pub clock : new.clock ≡ old.clock
  pub log : new.log ≡ old.log
  pub choices : new.choices.items ≡ old.choices.items

-- so many seconds later
abbrev pub later_clock : {D M : Type 0} → (seconds : ℕ) → Stage D M → Stage D M
later_clock seconds s = record s { clock = s.clock + seconds }

-- ---- a peek

abbrev pub IsOpenAt : {D M : Type 0} → Side → Stage D M → Type 0
IsOpenAt Source s = IsSourceOpen s.source
IsOpenAt Dest s = IsDestOpen s.dest

-- how many bytes a file has that is there
abbrev pub SourceSized : {D M : Type 0} → (file : ℕ) → SourceEnd D M → ℕ → Type 0
SourceSized file (source_end.Open core) size =
    file < length core.server.files.volume.volume.files → size ≡ length (file_at core.server.files.volume.volume file).now
SourceSized file end size = Unit {0}

abbrev pub DestSized : {D M : Type 0} → (file : ℕ) → DestEnd D M → ℕ → Type 0
DestSized file (dest_end.Open core) size =
    file < length core.server.files.volume.volume.files → size ≡ length (file_at core.server.files.volume.volume file).now
DestSized file end size = Unit {0}

abbrev pub IsSizedAt : {D M : Type 0} → Side → (file : ℕ) → Stage D M → ℕ → Type 0
IsSizedAt Source file s size = SourceSized file s.source size
IsSizedAt Dest file s size = DestSized file s.dest size

abbrev pub PeeksBy : {D M : Type 0} → (told : Type 0) → (faults size : D → ℕ) → Side → (file off : ℕ) → (old new : Stage D M) → (out_old out_new : List ℕ) → Peeked → Type 0
PeeksBy told faults size Source file off old new out_old out_new answer = SourcePeeks told faults size file off old.source new.source out_old out_new answer
PeeksBy told faults size Dest file off old new out_old out_new answer = DestPeeks told faults size file off old.dest new.dest out_old out_new answer

-- all but that server is as it was
abbrev pub peeked_at : {D M : Type 0} → Side → (old new : Stage D M) → Stage D M
peeked_at Source old new = record old { source = new.source }
peeked_at Dest old new = record old { dest = new.dest }

pub record Peeks {D M : Type 0} (told : Type 0) (faults size : D → ℕ) (side : Side) (file off : ℕ) (old new : Stage D M) (out_old out_new : List ℕ) (answer : Peeked) : Type 0 where
  pub peeks : PeeksBy told faults size side file off old new out_old out_new answer
  pub rest : new ≡ peeked_at side old new

-- the line of bytes that are shown; there is none where they couldn't be read
abbrev pub bytes_lines : Peeked → Side → (file off : ℕ) → List ℕ → List Line
bytes_lines peeks.Shown side file off bytes = lines.Bytes side file off bytes ∷ []
bytes_lines answer side file off bytes = []

-- ---- a small step of an event

pub record SmallDone {D M : Type 0} (told : Type 0) (m : RunMachines M) (read : Reading) (faults size : D → ℕ) (event : Event)
    (old new : Stage D M) (text_old text_new : List ℕ) : Type 0 where
  pub source : SourceHost D M
  pub dest : DestHost D M
  pub source_next : SourceHost D M
  pub dest_next : DestHost D M
  pub source_is : old.source ≡ source_end.Open source
  pub dest_is : old.dest ≡ dest_end.Open dest
  pub source_next_is : new.source ≡ source_end.Open source_next
  pub dest_next_is : new.dest ≡ dest_end.Open dest_next
  pub step : RunStep M
  pub event_is : step.event ≡ event
  pub after_is : step.after ≡ world_at size source_next dest_next new
  pub is : told → IsStep m (world_at size source dest old) step
  pub right : told → fault_of m read (world_at size source dest old) step ≡ None
  pub lines : told → text_new ≡ text_old ++ lines_text (step_lines m (world_at size source dest old) step)
  pub choices : new.choices.items ≡ old.choices.items ++ step.choice ∷ []
  pub asked : (side : Side) → (is_armed side old || crashes_in event side) ≡ false → cut_of side (world_at size source dest old) step ≡ None
  pub blamed : AreBlamed (step ∷ [])
  pub source_later : Later faults size (bit (has_failed_at Source step)) (Some source.server.files.volume.disk) (Some source_next.server.files.volume.disk)
  pub dest_later : Later faults size (bit (has_failed_at Dest step)) (Some dest.server.files.volume.disk) (Some dest_next.server.files.volume.disk)

pub record SmallFails {D M : Type 0} (told : Type 0) (m : RunMachines M) (read : Reading) (faults size : D → ℕ) (event : Event) (fault : runs.Fault)
    (old new : Stage D M) (text_old text_new : List ℕ) : Type 0 where
  pub source : SourceHost D M
  pub dest : DestHost D M
  pub source_next : SourceHost D M
  pub dest_next : DestHost D M
  pub source_is : old.source ≡ source_end.Open source
  pub dest_is : old.dest ≡ dest_end.Open dest
  pub source_next_is : new.source ≡ source_end.Open source_next
  pub dest_next_is : new.dest ≡ dest_end.Open dest_next
  pub step : RunStep M
  pub event_is : step.event ≡ event
  pub is : told → IsStep m (world_at size source dest old) step
  pub fault_is : told → fault_of m read (world_at size source dest old) step ≡ Some fault
  pub text : text_new ≡ text_old
  pub choices : new.choices.items ≡ old.choices.items
  pub source_later : Later faults size 0 (Some source.server.files.volume.disk) (Some source_next.server.files.volume.disk)
  pub dest_later : Later faults size 0 (Some dest.server.files.volume.disk) (Some dest_next.server.files.volume.disk)

abbrev pub SmallIs : {D M : Type 0} → (told : Type 0) → RunMachines M → Reading → (faults size : D → ℕ) → Event
    → (old new : Stage D M) → (text_old text_new : List ℕ) → Option runs.Fault → Type 0
SmallIs told m read faults size event old new text_old text_new None = SmallDone told m read faults size event old new text_old text_new
SmallIs told m read faults size event old new text_old text_new (Some fault) = SmallFails told m read faults size event fault old new text_old text_new

-- ---- small steps one after the other

-- a server may stop in them: its fuse is set, or one of them is its crash
abbrev pub is_asked : {D M : Type 0} → Side → List Event → Stage D M → Bool
is_asked side smalls s = is_armed side s || list_any (λ (event : Event). crashes_in event side) smalls

pub record StageGoes {D M : Type 0} (told : Type 0) (m : RunMachines M) (read : Reading) (faults size : D → ℕ) (smalls : List Event)
    (old new : Stage D M) (text : List ℕ) (fault : Option runs.Fault) : Type 0 where
  pub source : SourceHost D M
  pub dest : DestHost D M
  pub source_next : SourceHost D M
  pub dest_next : DestHost D M
  pub source_is : old.source ≡ source_end.Open source
  pub dest_is : old.dest ≡ dest_end.Open dest
  pub source_next_is : new.source ≡ source_end.Open source_next
  pub dest_next_is : new.dest ≡ dest_end.Open dest_next
  pub steps : List (RunStep M)
  pub goes : told → Goes m read (world_at size source dest old) smalls steps fault
  pub world : fault ≡ None → world_at size source_next dest_next new ≡ after_steps (world_at size source dest old) steps
  pub lines : told → text ≡ lines_text (lines_of m (world_at size source dest old) steps)
  pub choices : new.choices.items ≡ old.choices.items ++ map (λ (s : RunStep M). s.choice) steps
  pub asked : (side : Side) → is_asked side smalls old ≡ false → NeverStops side (world_at size source dest old) steps
  pub stops : (fuses : Side → Bool) → ((side : Side) → is_armed side old ≡ true → fuses side ≡ true) → StopsAreAsked fuses (world_at size source dest old) steps
  pub sets : fault ≡ None → (fuses : Side → Bool) (side : Side) → list_any (λ (event : Event). sets_in event side) smalls ≡ true → fuses_behind fuses steps side ≡ true
  pub blamed : AreBlamed steps
  pub source_later : Later faults size (failed_calls Source steps) (Some source.server.files.volume.disk) (Some source_next.server.files.volume.disk)
  pub dest_later : Later faults size (failed_calls Dest steps) (Some dest.server.files.volume.disk) (Some dest_next.server.files.volume.disk)

-- ---- a flow

-- what is known before each delivery of a flow
pub record IsFlowing {D M : Type 0} (told : Type 0) (size : D → ℕ) (fuse : D → Fuse) (s : Stage D M) : Type 0 where
  pub ready : IsReady s
  pub below : IsBelow (1000000 + s.flowed) s
  pub watched : AreWatched told size fuse s
  pub numbered : AreNumbered told (1000000 + s.flowed) s
  pub bytes : bytes_of s.log ≤ most_bytes
  pub clock : s.clock ≤ 1000000000000
  pub within : s.flowed ≤ length s.log
  pub few : s.flowed ≤ most_records
  pub delivered : AllDelivered s.flowed s.log

pub record FlowKeeps {D M : Type 0} (told : Type 0) (old new : Stage D M) : Type 0 where
  pub keeps : StageKeeps told old new
  pub below : (e : ℕ) → IsBelow (e + old.flowed) old → IsBelow (e + new.flowed) new
  pub clock : new.clock ≡ old.clock
  pub within : new.flowed ≤ length new.log
  pub few : new.flowed ≤ most_records
  pub delivered : AllDelivered new.flowed new.log

pub record FlowKeepsStops {D M : Type 0} (told : Type 0) (size : D → ℕ) (fuse : D → Fuse) (old new : Stage D M) : Type 0 where
  pub watched : AreWatched told size fuse new
  pub numbered : (e : ℕ) → AreNumbered told (e + old.flowed) old → AreNumbered told (e + new.flowed) new
  pub armed : (side : Side) → is_armed side new ≡ true → is_armed side old ≡ true

-- the next record is delivered, unless it was
abbrev pub next_flowed : {D M : Type 0} → Stage D M → Stage D M
next_flowed s = record s { flowed = s.flowed + 1 }

abbrev pub is_waiting : ℕ → List Posted → Bool
is_waiting number log = option_map_or (λ (r : Posted). not r.delivered) (posted_at number log) false

pub record FlowsPast {D M : Type 0} (old new : Stage D M) (text_old text_new : List ℕ) (fault : Option runs.Fault) : Type 0 where
  pub none : fault ≡ None
  pub text : text_new ≡ text_old
  pub stage : new ≡ next_flowed old

pub record FlowsTo {D M : Type 0} (told : Type 0) (m : RunMachines M) (read : Reading) (faults size : D → ℕ) (old new : Stage D M) (text_old text_new : List ℕ) (fault : Option runs.Fault) : Type 0 where
  pub small : SmallIs told m read faults size (kinds.Deliver (old.flowed + 1)) (next_flowed old) new text_old text_new fault
  pub grows : Grows (marked (old.flowed + 1) old.log) new.log

abbrev pub FlowsBy : {D M : Type 0} → Bool → (told : Type 0) → RunMachines M → Reading → (faults size : D → ℕ) → (old new : Stage D M) → (text_old text_new : List ℕ)
    → Option runs.Fault → Type 0
FlowsBy true told m read faults size old new text_old text_new fault = FlowsTo told m read faults size old new text_old text_new fault
FlowsBy false told m read faults size old new text_old text_new fault = FlowsPast old new text_old text_new fault

abbrev pub FlowsOne : {D M : Type 0} → (told : Type 0) → RunMachines M → Reading → (faults size : D → ℕ) → (old new : Stage D M) → (text_old text_new : List ℕ)
    → Option runs.Fault → Type 0
FlowsOne told m read faults size old new text_old text_new fault =
    FlowsBy (is_waiting (old.flowed + 1) old.log) told m read faults size old new text_old text_new fault
