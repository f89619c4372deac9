-- The events of a large copy may come one after the other.
use Rattle.std.proofs.Common.{◌≡◌, ℕ, zero, suc, ◌+◌, ◌*◌, ◌^◌, ◌<◌, ◌≤◌, Bool, true, false, ◌&&◌, nat_lt, nat_le, Some, List, [], ◌∷◌, ◌++◌, length, map, replicate, IsTrue, refl, sym, ap, subst, arith}
use Rattle.std.proofs.lemmas.Bool.{and_from, lt-ltb, le-leb}
use Rattle.std.specs.List.{flat_map, range_with_len}
use Rattle.nfs_base.specs.declared.side.Side.{Side}
use Rattle.nfs_base.specs.declared.side.Side.TheVariants.{Source, Dest}
use Rattle.wire_schedule.specs.Admission.{admits, at_start, is_between, is_in_order, is_within, most_events}
use Rattle.wire_schedule.specs.Expansion.{are_admitted, events_of, events_of_all}
use Rattle.wire_schedule.specs.Spelling.{entries_from}
use Rattle.wire_schedule.specs.declared.context.Context.{Context}
use Rattle.wire_schedule.specs.declared.directive.Directive.{Directive}
use Rattle.wire_schedule.specs.declared.directive.Directive.TheVariants.{Once, Rounds}
use Rattle.wire_schedule.specs.declared.event.Event.{Event}
use Rattle.wire_schedule.specs.declared.event.Event.TheVariants.{Volume, Write, Flow, Work}
use Rattle.large_copy.specs.Large.{blocks_of, copy, file_bytes, flows, flows_of, large_lines, large_schedule, rounds, rounds_of, write, writes, writes_of}
use Rattle.large_copy.proofs.Lines.{length-file_bytes}

abbrev pub events_in : List Directive → List Event
events_in lines = flat_map events_of lines

pub events_numbered : (number : ℕ) (lines : List Directive) → events_of_all (entries_from number lines) ≡ events_in lines
events_numbered number [] = refl
events_numbered number (line ∷ lines) = ap (λ (events : List Event). events_of line ++ events) (events_numbered (number + 1) lines)

-- both volumes are there, of one file each
abbrev pub with_both : List Bool → ℕ → ℕ → Context
with_both begun written events = record { source = Some 1; dest = Some 1; begun = begun; writes = written; events = events }

-- these lines may come then
abbrev pub May : List Bool → ℕ → ℕ → List Directive → Type 0
May begun written events lines = IsTrue (are_admitted (with_both begun written events) (events_in lines))

may_same : (begun : List Bool) (written written_too events events_too : ℕ) (lines : List Directive) → written ≡ written_too → events ≡ events_too
    → May begun written events lines → May begun written_too events_too lines
may_same begun written written_too events events_too lines same also may =
    subst (λ (k : ℕ). May begun written_too k lines) also (subst (λ (k : ℕ). May begun k events lines) same may)

-- ---- what keeps the limits of its own line

pub volume_within : (side : Side) (n : ℕ) → 1 ≤ n → n ≤ 64 → is_within (Volume side 1 (blocks_of n)) ≡ true
volume_within side n some few =
    and_from (is_between 1 16384 (256 * n)) (nat_le (1 * (256 * n)) 16384)
    (and_from (nat_le 1 (256 * n)) (nat_le (256 * n) 16384) (le-leb 1 (256 * n) (omega arith)) (le-leb (256 * n) 16384 (omega arith)))
    (le-leb (1 * (256 * n)) 16384 (omega arith))

bytes_within : (off len : ℕ) → off < 2 ^ 32 → len ≡ 65536 → (is_between 1 65536 len && nat_lt (off + len) (2 ^ 64)) ≡ true
bytes_within off len near is =
    and_from (is_between 1 65536 len) (nat_lt (off + len) (2 ^ 64))
    (and_from (nat_le 1 len) (nat_le len 65536) (le-leb 1 len (omega arith)) (le-leb len 65536 (omega arith)))
    (lt-ltb (off + len) (2 ^ 64) (omega arith))

pub write_within : (k : ℕ) → k < 1024 → is_within (Write Source 1 (65536 * k) (file_bytes (65536 * k) 65536)) ≡ true
write_within k near =
    bytes_within (65536 * k) (length (file_bytes (65536 * k) 65536)) (omega arith) (length-file_bytes (65536 * k) 65536)

-- ---- each kind of lines, before others

write_may : (begun : List Bool) (k written events : ℕ) → k < 1024 → written < 4096 → events < 1000000
    → admits (with_both begun written events) (Write Source 1 (65536 * k) (file_bytes (65536 * k) 65536)) ≡ true
write_may begun k written events near few short =
    let event = Write Source 1 (65536 * k) (file_bytes (65536 * k) 65536) in
    and_from (nat_lt events most_events) (is_within event && is_in_order (with_both begun written events) event) (lt-ltb events 1000000 short)
    (and_from (is_within event) (is_in_order (with_both begun written events) event) (write_within k near) (lt-ltb written 4096 few))

writes_may : (begun : List Bool) (k count written events : ℕ) (others : List Directive) → k + count ≤ 1024 → written + count ≤ 4096 → events + count ≤ 1000000
    → May begun (written + count) (events + count) others → May begun written events (map write (range_with_len k count) ++ others)
writes_may begun k zero written events others near few short may = may_same begun _ _ _ _ others (omega arith) (omega arith) may
writes_may begun k (suc count) written events others near few short may =
    and_from _ _ (write_may begun k written events (omega arith) (omega arith) (omega arith))
    (writes_may begun (k + 1) count (written + 1) (events + 1) others (omega arith) (omega arith) (omega arith)
    (may_same begun (written + suc count) (written + 1 + count) (events + suc count) (events + 1 + count) others (omega arith) (omega arith) may))

flow_may : (begun : List Bool) (written events : ℕ) → events < 1000000 → admits (with_both begun written events) Flow ≡ true
flow_may begun written events short = and_from (nat_lt events most_events) true (lt-ltb events 1000000 short) refl

flows_may : (begun : List Bool) (count written events : ℕ) (others : List Directive) → events + count ≤ 1000000
    → May begun written (events + count) others → May begun written events (replicate count (Once Flow) ++ others)
flows_may begun zero written events others short may = may_same begun written written _ _ others refl (omega arith) may
flows_may begun (suc count) written events others short may =
    and_from _ _ (flow_may begun written events (omega arith))
    (flows_may begun count written (events + 1) others (omega arith)
    (may_same begun written written (events + suc count) (events + 1 + count) others refl (omega arith) may))

work_may : (begun : List Bool) (written events : ℕ) → events < 1000000 → admits (with_both begun written events) (Work 1) ≡ true
work_may begun written events short = and_from (nat_lt events most_events) true (lt-ltb events 1000000 short) refl

rounds_may : (begun : List Bool) (count written events : ℕ) → events + 2 * count ≤ 1000000 → May begun written events (replicate count (Rounds 1))
rounds_may begun zero written events short = refl
rounds_may begun (suc count) written events short =
    and_from _ _ (flow_may begun written events (omega arith))
    (and_from _ _ (work_may begun written (events + 1) (omega arith)) (rounds_may begun count written (events + 1 + 1) (omega arith)))

-- ---- all of them

copy_may : (n written events : ℕ) → events < 1000000 → events + 1 + 2 * rounds_of n ≤ 1000000
    → May (replicate 16 false) written events (copy ∷ rounds n)
copy_may n written events short room =
    and_from _ _ (and_from (nat_lt events most_events) true (lt-ltb events 1000000 short) refl) (rounds_may _ (rounds_of n) written (events + 1) room)

later_may : (n : ℕ) → n ≤ 64 → May (replicate 16 false) 0 2 (writes n ++ (flows n ++ copy ∷ rounds n))
later_may n few =
    writes_may (replicate 16 false) 0 (writes_of n) 0 2 (flows n ++ copy ∷ rounds n) (omega arith) (omega arith) (omega arith)
    (flows_may (replicate 16 false) (flows_of n) (0 + writes_of n) (2 + writes_of n) (copy ∷ rounds n) (omega arith)
    (copy_may n (0 + writes_of n) (2 + writes_of n + flows_of n) (omega arith) (omega arith)))

pub lines_admitted : (n : ℕ) → 1 ≤ n → n ≤ 64 → IsTrue (are_admitted at_start (events_in (large_lines n)))
unfolding large_lines
lines_admitted n some few =
    and_from _ _ (and_from (is_within (Volume Source 1 (blocks_of n))) true (volume_within Source n some few) refl)
    (and_from _ _ (and_from (is_within (Volume Dest 1 (blocks_of n))) true (volume_within Dest n some few) refl) (later_may n few))

pub numbered_admitted : (n : ℕ) → 1 ≤ n → n ≤ 64 → IsTrue (are_admitted at_start (events_of_all (entries_from 1 (large_lines n))))
numbered_admitted n some few =
    subst (λ (events : List Event). IsTrue (are_admitted at_start events)) (sym (events_numbered 1 (large_lines n))) (lines_admitted n some few)

pub schedule_admitted : (n : ℕ) → 1 ≤ n → n ≤ 64 → IsTrue (are_admitted at_start (events_of_all (large_schedule n)))
unfolding large_schedule
schedule_admitted n some few = numbered_admitted n some few
