-- Which event may come next in a schedule: the limits, and the order of the events. Own format.
use Rattle.std.specs.Prelude.{ℕ, ◌+◌, ◌*◌, ◌^◌, Bool, true, false, not, ◌&&◌, nat_lt, nat_le, Option, None, Some, is_some, is_none, length, get_or, set, replicate}
use Rattle.std.specs.Option.{option_map_or}
use Rattle.nfs_base.specs.declared.side.Side.{Side}
use Rattle.nfs_base.specs.declared.side.Side.TheVariants.{Source, Dest}
use Rattle.wire_schedule.specs.declared.event.Event.{Event}
use Rattle.wire_schedule.specs.declared.event.Event.TheVariants.{Volume, Write, Commit, Copy, Status, Cancel, Retry, Deliver, Flow, Work, Tick, Peek, Crash, CrashAfter}
use Rattle.wire_schedule.specs.declared.context.Context.{Context}

-- copies go by a number from 1 to this
abbrev pub most_copies : ℕ
most_copies = 15

-- workers too
abbrev pub most_workers : ℕ
most_workers = 8

-- how many events a schedule may have, once its lines are written out event by event
abbrev pub most_events : ℕ
most_events = 1000000

-- how many writes and commits, taken together
abbrev pub most_writes : ℕ
most_writes = 4096

-- before the first event
abbrev pub at_start : Context
at_start = record { source = None; dest = None; begun = replicate (most_copies + 1) false; writes = 0; events = 0 }

-- whether a number lies between two bounds, both with it
abbrev pub is_between : ℕ → ℕ → ℕ → Bool
is_between low high n = nat_le low n && nat_le n high

-- Whether an event keeps the limits that stand in its own line. A volume has 1 to 64 files of 1 to 16,384 blocks each,
-- and no more than 16,384 blocks in all; a write has 1 to 65,536 bytes, a peek 1 to 64, and both end below 2^64; the clock
-- moves on by 1 to 1,000,000 seconds; what a crash may leave goes by a number from 0 to 3.
abbrev pub is_within : Event → Bool
is_within (Volume side files blocks) = is_between 1 64 files && (is_between 1 16384 blocks && nat_le (files * blocks) 16384)
is_within (Write side file off bytes) = is_between 1 65536 (length bytes) && nat_lt (off + length bytes) (2 ^ 64)
is_within (Commit side file) = true
is_within (Copy copy spec) = is_between 1 most_copies copy
is_within (Status copy) = is_between 1 most_copies copy
is_within (Cancel copy) = is_between 1 most_copies copy
is_within Retry = true
is_within (Deliver number) = true
is_within Flow = true
is_within (Work worker) = is_between 1 most_workers worker
is_within (Tick seconds) = is_between 1 1000000 seconds
is_within (Peek side file off len) = is_between 1 64 len && nat_lt (off + len) (2 ^ 64)
is_within (Crash side pick) = nat_le pick 3
is_within (CrashAfter side calls pick) = nat_le pick 3

-- how many files a server's volume has, once there is one
abbrev pub files_of : Context → Side → Option ℕ
files_of context Source = context.source
files_of context Dest = context.dest

-- whether a server's volume has a file of this number
abbrev pub has_file : Context → Side → ℕ → Bool
has_file context side file = option_map_or (λ files. is_between 1 files file) (files_of context side) false

-- whether both volumes are there
abbrev pub is_ready : Context → Bool
is_ready context = is_some context.source && is_some context.dest

-- whether the copy of this number was begun
abbrev pub has_begun : Context → ℕ → Bool
has_begun context copy = nat_le copy most_copies && get_or context.begun copy false

-- whether a write or a commit may come still
abbrev pub has_writes_left : Context → Bool
has_writes_left context = nat_lt context.writes most_writes

-- Whether the event may come after those so far: each volume comes once, all else after both; files are there; each copy is
-- begun once, before it is asked for or cancelled.
abbrev pub is_in_order : Context → Event → Bool
is_in_order context (Volume side files blocks) = is_none (files_of context side)
is_in_order context (Write side file off bytes) = is_ready context && (has_file context side file && has_writes_left context)
is_in_order context (Commit side file) = is_ready context && (has_file context side file && has_writes_left context)
is_in_order context (Copy copy spec) =
    is_ready context && (not (has_begun context copy) && (has_file context Source spec.src_file && has_file context Dest spec.dst_file))
is_in_order context (Status copy) = is_ready context && has_begun context copy
is_in_order context (Cancel copy) = is_ready context && has_begun context copy
is_in_order context Retry = is_ready context
is_in_order context (Deliver number) = is_ready context
is_in_order context Flow = is_ready context
is_in_order context (Work worker) = is_ready context
is_in_order context (Tick seconds) = is_ready context
is_in_order context (Peek side file off len) = is_ready context && has_file context side file
is_in_order context (Crash side pick) = is_ready context
is_in_order context (CrashAfter side calls pick) = is_ready context

-- whether the event may come next
abbrev pub admits : Context → Event → Bool
admits context event = nat_lt context.events most_events && (is_within event && is_in_order context event)

-- a volume of so many files is there
abbrev pub with_files : Context → Side → ℕ → Context
with_files context Source files = record context { source = Some files }
with_files context Dest files = record context { dest = Some files }

-- what an event of each kind changes
abbrev pub after_kind : Context → Event → Context
after_kind context (Volume side files blocks) = with_files context side files
after_kind context (Write side file off bytes) = record context { writes = context.writes + 1 }
after_kind context (Commit side file) = record context { writes = context.writes + 1 }
after_kind context (Copy copy spec) = record context { begun = set context.begun copy true }
after_kind context (Status copy) = context
after_kind context (Cancel copy) = context
after_kind context Retry = context
after_kind context (Deliver number) = context
after_kind context Flow = context
after_kind context (Work worker) = context
after_kind context (Tick seconds) = context
after_kind context (Peek side file off len) = context
after_kind context (Crash side pick) = context
after_kind context (CrashAfter side calls pick) = context

-- the events so far, with this one as the last
abbrev pub after : Context → Event → Context
after context event = record (after_kind context event) { events = context.events + 1 }
