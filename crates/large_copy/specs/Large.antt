-- The schedule of one large copy, by its mebibytes: one file of the source is written, then copied to one of the destination. Own format.
use Rattle.std.specs.Prelude.{ℕ, ◌+◌, ◌*◌, ◌%◌, Bool, true, false, List, [], ◌∷◌, ◌++◌, map, replicate}
use Rattle.std.specs.List.{range_with_len}
use Rattle.nfs_base.specs.declared.side.Side.TheVariants.{Source, Dest}
use Rattle.wire_schedule.specs.declared.directive.Directive.{Directive}
use Rattle.wire_schedule.specs.declared.directive.Directive.TheVariants.{Once, Rounds}
use Rattle.wire_schedule.specs.declared.directive.Entry.{Entry}
use Rattle.wire_schedule.specs.Expansion.{events_of_all}
use Rattle.wire_schedule.specs.declared.event.Event.{Event}
use Rattle.wire_schedule.specs.declared.event.Event.TheVariants.{Volume, Write, Copy, Flow, Crash, CrashAfter}
use Rattle.wire_schedule.specs.Spelling.{entries_from}

-- so many bytes of the file, from an offset on: byte i of it is i mod 251
unfoldable pub file_bytes : (off count : ℕ) → List ℕ
file_bytes off count = map (λ i. i % 251) (range_with_len off count)

-- how many blocks the file has, of 4,096 bytes each
abbrev pub blocks_of : ℕ → ℕ
blocks_of mebibytes = 256 * mebibytes

-- how many writes fill it, of 65,536 bytes each
abbrev pub writes_of : ℕ → ℕ
writes_of mebibytes = 16 * mebibytes

-- how many times over what was sent is delivered before the copy begins
abbrev pub flows_of : ℕ → ℕ
flows_of mebibytes = 2 * (5 + writes_of mebibytes)

-- how many rounds follow
abbrev pub rounds_of : ℕ → ℕ
rounds_of mebibytes = 64 + 32 * mebibytes

-- each server has a volume of one file of that size
abbrev pub volumes : ℕ → List Directive
volumes mebibytes = Once (Volume Source 1 (blocks_of mebibytes)) ∷ Once (Volume Dest 1 (blocks_of mebibytes)) ∷ []

-- the write of this number, counted from 0
abbrev pub write : ℕ → Directive
write number = Once (Write Source 1 (65536 * number) (file_bytes (65536 * number) 65536))

-- the source's file is written, in rising order
abbrev pub writes : ℕ → List Directive
writes mebibytes = map write (range_with_len 0 (writes_of mebibytes))

abbrev pub flows : ℕ → List Directive
flows mebibytes = replicate (flows_of mebibytes) (Once Flow)

-- all of that file is copied to the destination's, consecutively
abbrev pub copy : Directive
copy = Once (Copy 1 (record { src_file = 1; src_off = 0; dst_file = 1; dst_off = 0; count = 0; consecutive = true }))

-- one round a line
abbrev pub rounds : ℕ → List Directive
rounds mebibytes = replicate (rounds_of mebibytes) (Rounds 1)

-- what the lines give, one after the other
unfoldable pub large_lines : ℕ → List Directive
large_lines mebibytes = volumes mebibytes ++ (writes mebibytes ++ (flows mebibytes ++ copy ∷ rounds mebibytes))

-- the schedule: these lines, counted from 1
unfoldable pub large_schedule : ℕ → List Entry
large_schedule mebibytes = entries_from 1 (large_lines mebibytes)

-- how many lines it has
abbrev pub entries_of : ℕ → ℕ
entries_of mebibytes = 2 + writes_of mebibytes + flows_of mebibytes + 1 + rounds_of mebibytes

-- its events, one after the other
abbrev pub large_events : ℕ → List Event
large_events mebibytes = events_of_all (large_schedule mebibytes)

-- how many come before the rounds, each from a line of its own, and how many there are
abbrev pub singles_of : ℕ → ℕ
singles_of mebibytes = 3 + writes_of mebibytes + flows_of mebibytes

abbrev pub events_count : ℕ → ℕ
events_count mebibytes = singles_of mebibytes + 2 * rounds_of mebibytes

-- a server stops in an event, or its fuse is set
abbrev pub is_crash : Event → Bool
is_crash (Crash side pick) = true
is_crash (CrashAfter side calls pick) = true
is_crash event = false
