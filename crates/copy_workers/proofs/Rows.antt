-- What is so of workers one by one, of more of them, and of a report's rows.
use Rattle.std.proofs.Common.{◌≡◌, ℕ, ◌+◌, ◌≤◌, ◌||◌, Bool, true, false, List, [], ◌∷◌, length, map, is_some, take, drop, sum_by, zero, suc, refl, ap, ◌∙◌, arith}
use Rattle.std.specs.Prelude.{Option, Some, None}
use Rattle.std.proofs.lemmas.List.Sums.{sum_by-cons, sum_by-take-drop}
use Rattle.rpc_msg.specs.Watching.{Watch}
use Rattle.copy_workers.specs.Workers.{first_shut, rows, AllNobody, AllWorkers, EndIs, IsNobody, WasShut, WorkerIs}
use Rattle.copy_workers.specs.declared.report.Ended.{Ended}
use Rattle.copy_workers.specs.declared.report.WorkerEnd.{WorkerEnd}
use Rattle.copy_workers.specs.declared.report.WorkerEnd.TheVariants as ends

-- ---- a desk that was closed for one worker was closed for all

pub shut_first : {Z : Type 0} (mine others : Option Z) → is_some (first_shut mine others) ≡ is_some mine || is_some others
shut_first (Some why) others = refl
shut_first None others = refl

pub was_shut : {K Z : Type 0} (shut_by : K → Option Z) (mine others : Option Z) → WasShut shut_by mine → WasShut shut_by others
    → WasShut shut_by (first_shut mine others)
was_shut shut_by (Some why) others first rest = first
was_shut shut_by None others first rest = rest

pub or_left : (b x y : Bool) → b ≡ x || y → x ≡ true → b ≡ true
or_left b x y is left = is ∙ ap (λ (v : Bool). v || y) left

pub or_right : (b x y : Bool) → b ≡ x || y → y ≡ true → b ≡ true
or_right b true y is right = is
or_right b false y is right = is ∙ right

end_shut : (end : WorkerEnd) (turned turns : ℕ) (down shut now : Bool) → (shut ≡ true → now ≡ true) → EndIs end turned turns down shut → EndIs end turned turns down now
end_shut ends.NoLink turned turns down shut now stays is = is
end_shut ends.Down turned turns down shut now stays is = is
end_shut ends.Turns turned turns down shut now stays is = is
end_shut ends.Closed turned turns down shut now stays is = (is.0, stays is.1)

pub worker_shut : {L : Type 0} (turns : ℕ) (shut now : Bool) (link : Watch L) (ended : Ended) → (shut ≡ true → now ≡ true)
    → WorkerIs turns shut link ended → WorkerIs turns now link ended
worker_shut turns shut now link ended stays is =
    record { turned = is.turned; landed = is.landed; sends = is.sends; cause = end_shut ended.end _ _ _ shut now stays is.cause }

pub workers_shut : {L : Type 0} (turns : ℕ) (shut now : Bool) (links : List (Watch L)) (ended : List Ended) → (shut ≡ true → now ≡ true)
    → AllWorkers turns shut links ended → AllWorkers turns now links ended
workers_shut turns shut now [] ended stays are = are
workers_shut turns shut now (link ∷ links) [] stays are = are
workers_shut turns shut now (link ∷ links) (e ∷ es) stays are = (worker_shut turns shut now link e stays are.0, workers_shut turns shut now links es stays are.1)

-- ---- as many of them as there are links, and nobody behind

nobody_take : (n : ℕ) (ended : List Ended) → AllNobody ended → AllNobody (take n ended)
nobody_take zero [] are = tt
nobody_take zero (e ∷ es) are = tt
nobody_take (suc n) [] are = tt
nobody_take (suc n) (e ∷ es) are = (are.0, nobody_take n es are.1)

nobody_drop : (n : ℕ) (ended : List Ended) → AllNobody ended → AllNobody (drop n ended)
nobody_drop zero [] are = are
nobody_drop zero (e ∷ es) are = are
nobody_drop (suc n) [] are = are
nobody_drop (suc n) (e ∷ es) are = nobody_drop n es are.1

pub workers_take : {L : Type 0} (turns : ℕ) (shut : Bool) (n : ℕ) (links : List (Watch L)) (ended : List Ended) → length links ≤ n
    → AllWorkers turns shut links ended → AllWorkers turns shut links (take n ended)
workers_take turns shut n [] ended few are = nobody_take n ended are
workers_take turns shut zero (link ∷ links) ended few are = absurd (omega (arith, few))
workers_take turns shut (suc n) (link ∷ links) [] few are = are
workers_take turns shut (suc n) (link ∷ links) (e ∷ es) few are = (are.0, workers_take turns shut n links es (omega (arith, few)) are.1)

pub workers_drop : {L : Type 0} (turns : ℕ) (shut : Bool) (n : ℕ) (links : List (Watch L)) (ended : List Ended) → length links ≤ n
    → AllWorkers turns shut links ended → AllNobody (drop n ended)
workers_drop turns shut n [] ended few are = nobody_drop n ended are
workers_drop turns shut zero (link ∷ links) ended few are = absurd (omega (arith, few))
workers_drop turns shut (suc n) (link ∷ links) [] few are = absurd are
workers_drop turns shut (suc n) (link ∷ links) (e ∷ es) few are = workers_drop turns shut n links es (omega (arith, few)) are.1

-- ---- sums: those behind the links add nothing

nobody_sum : (f : Ended → ℕ) → ((e : Ended) → IsNobody e → f e ≡ 0) → (ended : List Ended) → AllNobody ended → sum_by f ended ≡ 0
nobody_sum f none [] are = refl
nobody_sum f none (e ∷ es) are = omega (arith, sum_by-cons f e es, none e are.0, nobody_sum f none es are.1)

pub sum_behind : {L : Type 0} (f : Ended → ℕ) → ((e : Ended) → IsNobody e → f e ≡ 0) → (turns : ℕ) (shut : Bool) (links : List (Watch L))
    (mine : Ended) (others now : List Ended) → length links ≤ 7 → AllWorkers turns shut links others → now ≡ mine ∷ take 7 others
    → sum_by f now ≡ f mine + sum_by f others
sum_behind f none turns shut links mine others now few are is =
    let behind = nobody_sum f none (drop 7 others) (workers_drop turns shut 7 links others few are) in
    ap (sum_by f) is ∙ omega (arith, sum_by-cons f mine (take 7 others), sum_by-take-drop f others 7, behind)

pub workers_behind : {L : Type 0} (turns : ℕ) (my_shut their_shut shut : Bool) (link : Watch L) (links : List (Watch L)) (mine : Ended)
    (others now : List Ended) → length links ≤ 7 → WorkerIs turns my_shut link mine → AllWorkers turns their_shut links others
    → now ≡ mine ∷ take 7 others → shut ≡ my_shut || their_shut → AllWorkers turns shut (link ∷ links) now
workers_behind turns my_shut their_shut shut link links mine others now few is are now_is shut_is =
    let first = worker_shut turns my_shut shut link mine (or_left shut my_shut their_shut shut_is) is in
    let rest = workers_shut turns their_shut shut links (take 7 others) (or_right shut my_shut their_shut shut_is)
    (workers_take turns their_shut 7 links others few are) in
    rw now_is (first, rest)

-- ---- a report's lists

pub rows_of : (ended : List Ended) → rows (map (λ e. e.share) ended) (map (λ e. e.turned) ended) (map (λ e. e.given) ended) (map (λ e. e.end) ended) ≡ ended
rows_of [] = refl
rows_of (e ∷ es) = ap (λ (l : List Ended). e ∷ l) (rows_of es)
