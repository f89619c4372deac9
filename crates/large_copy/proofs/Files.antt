-- Both servers have their one file behind the events of a large copy.
use Rattle.std.proofs.Common.{◌≡◌, ℕ, zero, suc, ◌+◌, true, Option, Some, List, [], ◌∷◌, ◌++◌, replicate, map, refl, ap, ◌∙◌}
use Rattle.std.specs.List.{range_with_len}
use Rattle.nfs_base.specs.declared.side.Side.{Side}
use Rattle.nfs_base.specs.declared.side.Side.TheVariants.{Source, Dest}
use Rattle.wire_schedule.specs.Admission.{after, at_start, has_file}
use Rattle.wire_schedule.specs.Expansion.{after_all}
use Rattle.wire_schedule.specs.declared.context.Context.{Context}
use Rattle.wire_schedule.specs.declared.directive.Directive.{Directive}
use Rattle.wire_schedule.specs.declared.directive.Directive.TheVariants.{Once, Rounds}
use Rattle.wire_schedule.specs.declared.event.Event.{Event}
use Rattle.wire_schedule.specs.declared.event.Event.TheVariants.{Flow, Work}
use Rattle.large_copy.specs.Large.{copy, flows, flows_of, large_events, large_lines, rounds, rounds_of, write, writes_of}
use Rattle.large_copy.proofs.Admitted.{events_in}
use Rattle.large_copy.proofs.Events.{events_are}

-- the files of both servers are those of another context
abbrev Keeps : Context → Context → Type 0
Keeps c d = (d.source ≡ c.source) × (d.dest ≡ c.dest)

-- they are behind these lines
abbrev Leaves : List Directive → Type 0
Leaves lines = (c : Context) → Keeps c (after_all c (events_in lines))

rounds_leave : (k : ℕ) → Leaves (replicate k (Rounds 1))
rounds_leave zero c = (refl, refl)
rounds_leave (suc k) c = rounds_leave k (after (after c Flow) (Work 1))

flows_leave : (k : ℕ) (others : List Directive) → Leaves others → Leaves (replicate k (Once Flow) ++ others)
flows_leave zero others more c = more c
flows_leave (suc k) others more c = flows_leave k others more (after c Flow)

writes_leave : (from k : ℕ) (others : List Directive) → Leaves others → Leaves (map write (range_with_len from k) ++ others)
writes_leave from zero others more c = more c
writes_leave from (suc k) others more c = writes_leave (from + 1) k others more (after_all c (events_in (write from ∷ [])))

copy_leaves : (n : ℕ) → Leaves (copy ∷ rounds n)
copy_leaves n c = rounds_leave (rounds_of n) (after_all c (events_in (copy ∷ [])))

-- one file at each side
abbrev HasOne : Context → Type 0
HasOne c = (c.source ≡ Some 1) × (c.dest ≡ Some 1)

lines_leave : (n : ℕ) → HasOne (after_all at_start (events_in (large_lines n)))
unfolding large_lines
lines_leave n =
    writes_leave 0 (writes_of n) (flows n ++ copy ∷ rounds n) (flows_leave (flows_of n) (copy ∷ rounds n) (copy_leaves n)) _

has_one : (c : Context) (side : Side) → HasOne c → has_file c side 1 ≡ true
has_one c Source one = ap (λ (o : Option ℕ). has_file (record c { source = o }) Source 1) one.0
has_one c Dest one = ap (λ (o : Option ℕ). has_file (record c { dest = o }) Dest 1) one.1

pub files_there : (n : ℕ) (side : Side) → has_file (after_all at_start (large_events n)) side 1 ≡ true
files_there n side =
    ap (λ (es : List Event). has_file (after_all at_start es) side 1) (events_are n)
    ∙ has_one (after_all at_start (events_in (large_lines n))) side (lines_leave n)
