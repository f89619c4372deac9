-- The grammar of a schedule's lines. Own format.
use Rattle.std.specs.Prelude.{ℕ, ◌^◌, Bool, true, false, Option, None, Some, List, [], ◌∷◌, codes, if◌then◌else◌}
use Rattle.std.specs.Option.{option_map, option_or}
use Rattle.std.specs.Str.{bytes_eq}
use Rattle.nfs_base.specs.declared.side.Side.{Side}
use Rattle.nfs_base.specs.declared.side.Side.TheVariants.{Source, Dest}
use Rattle.nfs_base.specs.declared.copy_spec.CopySpec.{CopySpec}
use Rattle.wire_schedule.specs.declared.event.Event.{Event}
use Rattle.wire_schedule.specs.declared.event.Event.TheVariants.{Volume, Write, Commit, Copy, Status, Cancel, Retry, Deliver, Flow, Work, Tick, Peek, Crash, CrashAfter}
use Rattle.wire_schedule.specs.declared.directive.Directive.{Directive}
use Rattle.wire_schedule.specs.declared.directive.Directive.TheVariants.{Once, Flows, Rounds}
use Rattle.wire_schedule.specs.Numerals.{◌>>=◌, number_of, number_below, bytes_of}

-- `s` or `d`
unfoldable pub side_of : List ℕ → Option Side
side_of word = if bytes_eq word (codes "s") then Some Source else (if bytes_eq word (codes "d") then Some Dest else None)

-- `c` where a copy has to be consecutive, else `n`
unfoldable pub consecutive_of : List ℕ → Option Bool
consecutive_of word = if bytes_eq word (codes "c") then Some true else (if bytes_eq word (codes "n") then Some false else None)

-- `volume X FILES BLOCKS`, without its first word
unfoldable pub volume_of : List (List ℕ) → Option Event
volume_of (x ∷ f ∷ b ∷ []) = do
  side ← side_of x
  files ← number_below (2 ^ 32) f
  blocks ← number_below (2 ^ 32) b
  Some (Volume side files blocks)
volume_of words = None

-- `write X FILE OFF HEX`
unfoldable pub write_of : List (List ℕ) → Option Event
write_of (x ∷ f ∷ o ∷ h ∷ []) = do
  side ← side_of x
  file ← number_below (2 ^ 32) f
  off ← number_of o
  bytes ← bytes_of h
  Some (Write side file off bytes)
write_of words = None

-- `commit X FILE`
unfoldable pub commit_of : List (List ℕ) → Option Event
commit_of (x ∷ f ∷ []) = do
  side ← side_of x
  file ← number_below (2 ^ 32) f
  Some (Commit side file)
commit_of words = None

-- `SFILE SOFF DFILE DOFF COUNT c` or `n`
unfoldable pub copy_spec_of : List (List ℕ) → Option CopySpec
copy_spec_of (s ∷ o ∷ d ∷ t ∷ n ∷ c ∷ []) = do
  src_file ← number_below (2 ^ 32) s
  src_off ← number_of o
  dst_file ← number_below (2 ^ 32) d
  dst_off ← number_of t
  count ← number_of n
  consecutive ← consecutive_of c
  Some (record { src_file = src_file; src_off = src_off; dst_file = dst_file; dst_off = dst_off; count = count; consecutive = consecutive })
copy_spec_of words = None

-- `copy J SFILE SOFF DFILE DOFF COUNT c` or `n`
unfoldable pub copy_of : List (List ℕ) → Option Event
copy_of (j ∷ words) = do
  copy ← number_below (2 ^ 8) j
  spec ← copy_spec_of words
  Some (Copy copy spec)
copy_of words = None

-- `status J`
unfoldable pub status_of : List (List ℕ) → Option Event
status_of (j ∷ []) = do
  copy ← number_below (2 ^ 8) j
  Some (Status copy)
status_of words = None

-- `cancel J`
unfoldable pub cancel_of : List (List ℕ) → Option Event
cancel_of (j ∷ []) = do
  copy ← number_below (2 ^ 8) j
  Some (Cancel copy)
cancel_of words = None

-- `deliver N`
unfoldable pub deliver_of : List (List ℕ) → Option Event
deliver_of (n ∷ []) = do
  number ← number_of n
  Some (Deliver number)
deliver_of words = None

-- `work W`
unfoldable pub work_of : List (List ℕ) → Option Event
work_of (w ∷ []) = do
  worker ← number_below (2 ^ 8) w
  Some (Work worker)
work_of words = None

-- `tick N`
unfoldable pub tick_of : List (List ℕ) → Option Event
tick_of (n ∷ []) = do
  seconds ← number_below (2 ^ 32) n
  Some (Tick seconds)
tick_of words = None

-- `peek X FILE OFF LEN`
unfoldable pub peek_of : List (List ℕ) → Option Event
peek_of (x ∷ f ∷ o ∷ n ∷ []) = do
  side ← side_of x
  file ← number_below (2 ^ 32) f
  off ← number_of o
  len ← number_below (2 ^ 8) n
  Some (Peek side file off len)
peek_of words = None

-- `crash X P`
unfoldable pub crash_now_of : List (List ℕ) → Option Event
crash_now_of (x ∷ p ∷ []) = do
  side ← side_of x
  pick ← number_below (2 ^ 8) p
  Some (Crash side pick)
crash_now_of words = None

-- `crash X after K P`, by X, K and P
unfoldable pub crash_then_of : (x k p : List ℕ) → Option Event
crash_then_of x k p = do
  side ← side_of x
  calls ← number_of k
  pick ← number_below (2 ^ 8) p
  Some (CrashAfter side calls pick)

unfoldable pub crash_after_of : List (List ℕ) → Option Event
crash_after_of (x ∷ a ∷ k ∷ p ∷ []) = if bytes_eq a (codes "after") then crash_then_of x k p else None
crash_after_of words = None

-- one or the other
unfoldable pub crash_of : List (List ℕ) → Option Event
crash_of words = option_or (crash_now_of words) (crash_after_of words)

-- the event of a line with more than one word, by the first and those after it
unfoldable pub event_of : List ℕ → List (List ℕ) → Option Event
event_of kind words =
    if bytes_eq kind (codes "volume") then volume_of words
    else (if bytes_eq kind (codes "write") then write_of words
    else (if bytes_eq kind (codes "commit") then commit_of words
    else (if bytes_eq kind (codes "copy") then copy_of words
    else (if bytes_eq kind (codes "status") then status_of words
    else (if bytes_eq kind (codes "cancel") then cancel_of words
    else (if bytes_eq kind (codes "deliver") then deliver_of words
    else (if bytes_eq kind (codes "work") then work_of words
    else (if bytes_eq kind (codes "tick") then tick_of words
    else (if bytes_eq kind (codes "peek") then peek_of words
    else (if bytes_eq kind (codes "crash") then crash_of words
    else None))))))))))

-- `flow K`
unfoldable pub flows_of : List (List ℕ) → Option Directive
flows_of (k ∷ []) = do
  times ← number_below (2 ^ 32) k
  Some (Flows times)
flows_of words = None

-- `rounds K`
unfoldable pub rounds_of : List (List ℕ) → Option Directive
rounds_of (k ∷ []) = do
  times ← number_below (2 ^ 32) k
  Some (Rounds times)
rounds_of words = None

-- a line of more than one word
unfoldable pub more_of : List ℕ → List (List ℕ) → Option Directive
more_of kind words =
    if bytes_eq kind (codes "flow") then flows_of words
    else (if bytes_eq kind (codes "rounds") then rounds_of words
    else option_map Once (event_of kind words))

-- a line of one word: `retry` or `flow`
unfoldable pub lone_of : List ℕ → Option Directive
lone_of kind =
    if bytes_eq kind (codes "retry") then Some (Once Retry)
    else (if bytes_eq kind (codes "flow") then Some (Once Flow)
    else None)

-- what the words of a line spell
unfoldable pub directive_of : List (List ℕ) → Option Directive
directive_of [] = None
directive_of (kind ∷ []) = lone_of kind
directive_of (kind ∷ next ∷ words) = more_of kind (next ∷ words)
