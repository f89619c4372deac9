-- No event of a large copy stops a server.
use Rattle.std.proofs.Common.{◌≡◌, ℕ, zero, suc, ◌+◌, false, List, ◌∷◌, ◌++◌, replicate, map, refl, ap, ◌∙◌}
use Rattle.std.specs.List.{list_any, range_with_len}
use Rattle.wire_schedule.specs.declared.directive.Directive.{Directive}
use Rattle.wire_schedule.specs.declared.directive.Directive.TheVariants.{Once, Rounds}
use Rattle.wire_schedule.specs.declared.event.Event.{Event}
use Rattle.wire_schedule.specs.declared.event.Event.TheVariants.{Flow}
use Rattle.large_copy.specs.Large.{copy, flows, flows_of, is_crash, large_events, large_lines, rounds, rounds_of, write, writes_of}
use Rattle.large_copy.proofs.Admitted.{events_in}
use Rattle.large_copy.proofs.Events.{events_are}

-- none of these lines does
abbrev IsQuiet : List Directive → Type 0
IsQuiet lines = list_any is_crash (events_in lines) ≡ false

rounds_quiet : (k : ℕ) → IsQuiet (replicate k (Rounds 1))
rounds_quiet zero = refl
rounds_quiet (suc k) = rounds_quiet k

flows_quiet : (k : ℕ) (others : List Directive) → IsQuiet others → IsQuiet (replicate k (Once Flow) ++ others)
flows_quiet zero others more = more
flows_quiet (suc k) others more = flows_quiet k others more

writes_quiet : (from k : ℕ) (others : List Directive) → IsQuiet others → IsQuiet (map write (range_with_len from k) ++ others)
writes_quiet from zero others more = more
writes_quiet from (suc k) others more = writes_quiet (from + 1) k others more

lines_quiet : (n : ℕ) → IsQuiet (large_lines n)
unfolding large_lines
lines_quiet n = writes_quiet 0 (writes_of n) (flows n ++ copy ∷ rounds n) (flows_quiet (flows_of n) (copy ∷ rounds n) (rounds_quiet (rounds_of n)))

pub none_stops : (n : ℕ) → list_any is_crash (large_events n) ≡ false
none_stops n = ap (λ (es : List Event). list_any is_crash es) (events_are n) ∙ lines_quiet n
