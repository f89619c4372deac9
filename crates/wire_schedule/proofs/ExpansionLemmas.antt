-- The events of a line, one after the other.
use Rattle.std.proofs.Common.{◌≡◌, ℕ, ◌+◌, ◌*◌, ◌^◌, ◌<◌, ◌≤◌, zero, suc, Bool, true, false, ◌&&◌, nat_lt, nat_le, List, [], ◌∷◌, ◌++◌, length, IsTrue, refl, sym, ap, ◌∙◌, arith}
use Rattle.std.proofs.lemmas.Bool.{and_parts, and_from, lt-ltb, ltb-true, le-leb, leb-true}
use Rattle.wire_schedule.specs.declared.event.Event.{Event}
use Rattle.wire_schedule.specs.declared.event.Event.TheVariants.{Flow, Work}
use Rattle.wire_schedule.specs.declared.context.Context.{Context}
use Rattle.wire_schedule.specs.Admission.{admits, after, is_between, is_in_order, is_ready, is_within, most_events}
use Rattle.wire_schedule.specs.Expansion.{after_all, after_plain, are_admitted, has_room, one_round, repeated}

same_tests : (a b : Bool) → (a ≡ true → b ≡ true) → (b ≡ true → a ≡ true) → a ≡ b
same_tests true true there back = refl
same_tests true false there back = sym (there refl)
same_tests false true there back = back refl
same_tests false false there back = refl

-- one event is admitted where it is, and then it keeps its limits
pub once_fits : (context : Context) (event : Event) → admits context event ≡ (is_within event && (admits context event && true))
once_fits context event =
    same_tests (admits context event) (is_within event && (admits context event && true))
    (λ may.
    and_from (is_within event) (admits context event && true)
    (and_parts (is_within event) (is_in_order context event) (and_parts (nat_lt context.events most_events) (is_within event && is_in_order context event) may).1).0
    (and_from (admits context event) true may refl))
    (λ both. (and_parts (admits context event) true (and_parts (is_within event) (admits context event && true) both).1).0)

has_room_too : (most events after_it : ℕ) → events + 1 + after_it ≤ most → events + (1 + after_it) ≤ most
has_room_too most events after_it room = omega (arith, room)

has_whole : (most events after_it : ℕ) (ready : Bool) → ((nat_lt events most && ready) && (ready && nat_le (events + 1 + after_it) most)) ≡ true
    → (ready && nat_le (events + (1 + after_it)) most) ≡ true
has_whole most events after_it ready both =
    let parts = and_parts (nat_lt events most && ready) (ready && nat_le (events + 1 + after_it) most) both in
    let later = and_parts ready (nat_le (events + 1 + after_it) most) parts.1 in
    and_from ready (nat_le (events + (1 + after_it)) most) later.0 (le-leb (events + (1 + after_it)) most (has_room_too most events after_it (leb-true (events + 1 + after_it) most later.1)))

is_below : (most events after_it : ℕ) → events + (1 + after_it) ≤ most → events < most
is_below most events after_it room = omega (arith, room)

has_room_back : (most events after_it : ℕ) → events + (1 + after_it) ≤ most → events + 1 + after_it ≤ most
has_room_back most events after_it room = omega (arith, room)

has_parts : (most events after_it : ℕ) (ready : Bool) → (ready && nat_le (events + (1 + after_it)) most) ≡ true
    → ((nat_lt events most && ready) && (ready && nat_le (events + 1 + after_it) most)) ≡ true
has_parts most events after_it ready both =
    let parts = and_parts ready (nat_le (events + (1 + after_it)) most) both in
    let room = leb-true (events + (1 + after_it)) most parts.1 in
    and_from (nat_lt events most && ready) (ready && nat_le (events + 1 + after_it) most)
    (and_from (nat_lt events most) ready (lt-ltb events most (is_below most events after_it room)) parts.0)
    (and_from ready (nat_le (events + 1 + after_it) most) parts.0 (le-leb (events + 1 + after_it) most (has_room_back most events after_it room)))

-- room for one event, and for those after it
one_more : (most events after_it : ℕ) (ready others : Bool) → others ≡ (ready && nat_le (events + 1 + after_it) most)
    → ((nat_lt events most && (true && ready)) && others) ≡ (ready && nat_le (events + (1 + after_it)) most)
one_more most events after_it ready others is =
    let first : Bool = nat_lt events most && ready in
    let later : Bool = ready && nat_le (events + 1 + after_it) most in
    let whole : Bool = ready && nat_le (events + (1 + after_it)) most in
    rw is (same_tests (first && later) whole (has_whole most events after_it ready) (has_parts most events after_it ready))

next_room : (most events : ℕ) → events < most → events + 1 ≤ most
next_room most events room = omega (arith, room)

next_below : (most events : ℕ) → events + 1 ≤ most → events < most
next_below most events room = omega (arith, room)

last_whole : (most events : ℕ) (ready : Bool) → ((nat_lt events most && ready) && true) ≡ true → (ready && nat_le (events + 1) most) ≡ true
last_whole most events ready both =
    let parts = and_parts (nat_lt events most) ready (and_parts (nat_lt events most && ready) true both).0 in
    and_from ready (nat_le (events + 1) most) parts.1 (le-leb (events + 1) most (next_room most events (ltb-true events most parts.0)))

last_parts : (most events : ℕ) (ready : Bool) → (ready && nat_le (events + 1) most) ≡ true → ((nat_lt events most && ready) && true) ≡ true
last_parts most events ready both =
    let parts = and_parts ready (nat_le (events + 1) most) both in
    and_from (nat_lt events most && ready) true
    (and_from (nat_lt events most) ready (lt-ltb events most (next_below most events (leb-true (events + 1) most parts.1))) parts.0) refl

-- room for one event alone
last_one : (most events : ℕ) (ready : Bool) → ((nat_lt events most && (true && ready)) && true) ≡ (ready && nat_le (events + 1) most)
last_one most events ready =
    same_tests ((nat_lt events most && ready) && true) (ready && nat_le (events + 1) most) (last_whole most events ready) (last_parts most events ready)

-- flows may come where there is room for them
flows_room : (times : ℕ) (context : Context) → are_admitted context (repeated (suc times) (Flow ∷ [])) ≡ has_room context (1 + times)
flows_room zero context = last_one most_events context.events (is_ready context)
flows_room (suc times) context =
    one_more most_events context.events (1 + times) (is_ready context) _ (flows_room times (after context Flow))
    ∙ ap (has_room context) (let same : 1 + (1 + times) ≡ 1 + suc times = omega arith in same)

rounds_room : (times : ℕ) (context : Context) → are_admitted context (repeated (suc times) one_round) ≡ has_room context (2 + 2 * times)
rounds_room zero context =
    one_more most_events context.events 1 (is_ready context) _ (last_one most_events (context.events + 1) (is_ready context))
rounds_room (suc times) context =
    let later = rounds_room times (after (after context Flow) (Work 1)) in
    let second = one_more most_events (context.events + 1) (2 + 2 * times) (is_ready context) _ later in
    let first = one_more most_events context.events (1 + (2 + 2 * times)) (is_ready context) _ second in
    first ∙ ap (has_room context) (let same : 1 + (1 + (2 + 2 * times)) ≡ 2 + 2 * suc times = omega arith in same)

-- so many times over, at least once
at_least_once : (times : ℕ) (given there : Bool) → (0 < times → given ≡ there) → (is_between 1 4096 times && given) ≡ (is_between 1 4096 times && there)
at_least_once zero given there same = refl
at_least_once (suc times) given there same = rw (same (omega arith)) refl

pub flows_fit : (context : Context) (times : ℕ) → (is_between 1 4096 times && has_room context times) ≡ (is_between 1 4096 times && are_admitted context (repeated times (Flow ∷ [])))
flows_fit context times =
    at_least_once times (has_room context times) (are_admitted context (repeated times (Flow ∷ []))) (λ some.
    elim times as (λ n. 0 < n → has_room context n ≡ are_admitted context (repeated n (Flow ∷ []))) [
      | zero ↦ λ none. absurd (omega arith)
      | suc n ↦ λ _. ap (has_room context) (let same : suc n ≡ 1 + n = omega arith in same) ∙ sym (flows_room n context)
    ] some)

pub rounds_fit : (context : Context) (times : ℕ) → (is_between 1 4096 times && has_room context (2 * times)) ≡ (is_between 1 4096 times && are_admitted context (repeated times one_round))
rounds_fit context times =
    at_least_once times (has_room context (2 * times)) (are_admitted context (repeated times one_round)) (λ some.
    elim times as (λ n. 0 < n → has_room context (2 * n) ≡ are_admitted context (repeated n one_round)) [
      | zero ↦ λ none. absurd (omega arith)
      | suc n ↦ λ _. ap (has_room context) (let same : 2 * suc n ≡ 2 + 2 * n = omega arith in same) ∙ sym (rounds_room n context)
    ] some)

abbrev counted : Context → ℕ → Context
counted context events = record context { events = events }

-- what flows leave
pub flows_after : (times : ℕ) (context : Context) → after_all context (repeated times (Flow ∷ [])) ≡ after_plain context times
flows_after zero context = ap (counted context) (let same : context.events ≡ context.events + 0 = omega arith in same)
flows_after (suc times) context =
    flows_after times (after context Flow) ∙ ap (counted context) (let same : context.events + 1 + times ≡ context.events + suc times = omega arith in same)

pub rounds_after : (times : ℕ) (context : Context) → after_all context (repeated times one_round) ≡ after_plain context (2 * times)
rounds_after zero context = ap (counted context) (let same : context.events ≡ context.events + 2 * 0 = omega arith in same)
rounds_after (suc times) context =
    rounds_after times (after (after context Flow) (Work 1)) ∙ ap (counted context) (let same : context.events + 1 + 1 + 2 * times ≡ context.events + 2 * suc times = omega arith in same)

-- events that may come, and those after them
pub are_parts : (context : Context) (front more : List Event) → IsTrue (are_admitted context (front ++ more)) → IsTrue (are_admitted context front) × IsTrue (are_admitted (after_all context front) more)
are_parts context [] more may = (refl, may)
are_parts context (event ∷ front) more may =
    let first = and_parts (admits context event) (are_admitted (after context event) (front ++ more)) may in
    let later = are_parts (after context event) front more first.1 in
    (and_from (admits context event) (are_admitted (after context event) front) first.0 later.0, later.1)

pub are_joined : (context : Context) (front more : List Event) → IsTrue (are_admitted context front) → IsTrue (are_admitted (after_all context front) more) → IsTrue (are_admitted context (front ++ more))
are_joined context [] more may rest = rest
are_joined context (event ∷ front) more may rest =
    let first = and_parts (admits context event) (are_admitted (after context event) front) may in
    and_from (admits context event) (are_admitted (after context event) (front ++ more)) first.0 (are_joined (after context event) front more first.1 rest)

one_fewer : (n more most : ℕ) → n + 1 + more ≤ most → n + suc more ≤ most
one_fewer n more most few = omega (arith, few)

none_more : (n most : ℕ) → n ≤ most → n + 0 ≤ most
none_more n most few = omega (arith, few)

-- they are no more than a schedule may have
pub are_few : (context : Context) (events : List Event) → context.events ≤ most_events → IsTrue (are_admitted context events) → context.events + length events ≤ most_events
are_few context [] few may = none_more context.events most_events few
are_few context (event ∷ events) few may =
    let first = and_parts (admits context event) (are_admitted (after context event) events) may in
    let room = ltb-true context.events most_events (and_parts (nat_lt context.events most_events) (is_within event && is_in_order context event) first.0).0 in
    one_fewer context.events (length events) most_events (are_few (after context event) events (next_room most_events context.events room) first.1)

is_small : (n : ℕ) → n ≤ most_events → n < 2 ^ 32
is_small n few = omega (arith, few)

-- a line of flows that fits has room, and gives few events
pub flows_small : (context : Context) (times : ℕ) → IsTrue (is_between 1 4096 times && are_admitted context (repeated times (Flow ∷ []))) → context.events + times < 2 ^ 32
flows_small context times may =
    let given : (is_between 1 4096 times && has_room context times) ≡ true = flows_fit context times ∙ may in
    let room = and_parts (is_ready context) (nat_le (context.events + times) most_events) (and_parts (is_between 1 4096 times) (has_room context times) given).1 in
    is_small (context.events + times) (leb-true (context.events + times) most_events room.1)

pub rounds_small : (context : Context) (times : ℕ) → IsTrue (is_between 1 4096 times && are_admitted context (repeated times one_round)) → context.events + 2 * times < 2 ^ 32
rounds_small context times may =
    let given : (is_between 1 4096 times && has_room context (2 * times)) ≡ true = rounds_fit context times ∙ may in
    let room = and_parts (is_ready context) (nat_le (context.events + 2 * times) most_events) (and_parts (is_between 1 4096 times) (has_room context (2 * times)) given).1 in
    is_small (context.events + 2 * times) (leb-true (context.events + 2 * times) most_events room.1)
