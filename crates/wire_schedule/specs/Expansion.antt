-- The events that a line gives, and whether they may come one after the other. Own format.
use Rattle.std.specs.Prelude.{ℕ, ◌+◌, Bool, true, ◌&&◌, nat_le, zero, suc, List, [], ◌∷◌, ◌++◌}
use Rattle.std.specs.List.{flat_map}
use Rattle.wire_schedule.specs.declared.event.Event.{Event}
use Rattle.wire_schedule.specs.declared.event.Event.TheVariants.{Flow, Work}
use Rattle.wire_schedule.specs.declared.context.Context.{Context}
use Rattle.wire_schedule.specs.declared.directive.Directive.{Directive}
use Rattle.wire_schedule.specs.declared.directive.Directive.TheVariants.{Once, Flows, Rounds}
use Rattle.wire_schedule.specs.declared.directive.Entry.{Entry}
use Rattle.wire_schedule.specs.Admission.{admits, after, is_between, is_ready, is_within, most_events}

-- the events so many times over
abbrev pub repeated : ℕ → List Event → List Event
repeated zero events = []
repeated (suc times) events = events ++ repeated times events

-- one round: what was sent before is delivered, then the first worker makes one step
abbrev pub one_round : List Event
one_round = Flow ∷ Work 1 ∷ []

-- the events of a line
abbrev pub events_of : Directive → List Event
events_of (Once event) = event ∷ []
events_of (Flows times) = repeated times (Flow ∷ [])
events_of (Rounds times) = repeated times one_round

-- the events of all lines
abbrev pub events_of_all : List Entry → List Event
events_of_all entries = flat_map (λ entry. events_of entry.directive) entries

-- whether each event may come after those before it
abbrev pub are_admitted : Context → List Event → Bool
are_admitted context [] = true
are_admitted context (event ∷ events) = admits context event && are_admitted (after context event) events

-- the events so far, with these after them
abbrev pub after_all : Context → List Event → Context
after_all context [] = context
after_all context (event ∷ events) = after_all (after context event) events

-- whether a line keeps its own limits: it gives its events 1 to 4,096 times over
abbrev pub keeps_limits : Directive → Bool
keeps_limits (Once event) = is_within event
keeps_limits (Flows times) = is_between 1 4096 times
keeps_limits (Rounds times) = is_between 1 4096 times

-- whether a line may come next
abbrev pub fits : Context → Directive → Bool
fits context directive = keeps_limits directive && are_admitted context (events_of directive)

-- the events so far, with those of a line after them
abbrev pub after_directive : Context → Directive → Context
after_directive context directive = after_all context (events_of directive)

-- whether so many events may come that need nothing but both volumes
abbrev pub has_room : Context → ℕ → Bool
has_room context events = is_ready context && nat_le (context.events + events) most_events

-- the events so far, with so many after them that leave nothing open
abbrev pub after_plain : Context → ℕ → Context
after_plain context events = record context { events = context.events + events }
