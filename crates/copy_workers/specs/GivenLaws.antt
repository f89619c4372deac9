-- How many bytes short records are at most, with their marks, and what a desk gives a worker at once.
use Rattle.std.proofs.Common.{ℕ, ◌+◌, ◌*◌, ◌≤◌, Bool, true, false, List, [], ◌∷◌, length, All, arith, if◌then◌else◌}
use Rattle.std.proofs.lemmas.List.Elements.{All-head, All-tail}
use Rattle.std.proofs.lemmas.List.Sums.{sum_by-cons}
use Rattle.outbox.specs.declared.outgoing.Outgoing.{Outgoing}
use Rattle.outbox.specs.declared.outgoing.Outbox.{Outbox}
use Rattle.copy_workers.specs.Desk.{carried, given_limit, given_to, IsSmall, IsModest}
use Rattle.outbox.specs.Counting.{is_to, counted, records_to}

one_small : (b : Bool) (len : ℕ) → len ≤ 73728 → (if b then len + 4 else 0) ≤ 73732 * (if b then 1 else 0)
one_small true len small = omega (arith, small)
one_small false len small = omega arith

pub given_small : (worker : ℕ) (sent : List Outgoing) → All IsSmall sent → given_to worker sent ≤ 73732 * records_to worker sent
given_small worker [] small = omega arith
given_small worker (o ∷ sent) small =
    let here = one_small (is_to worker o.to) (length o.bytes) (All-head IsSmall o sent small) in
    let rest = given_small worker sent (All-tail IsSmall o sent small) in
    omega (arith, here, rest, sum_by-cons (carried worker) o sent, sum_by-cons (counted worker) o sent)

pub modest_given : (worker : ℕ) (out : Outbox) → IsModest worker out → given_to worker out.sent ≤ given_limit
modest_given worker out modest = omega (arith, given_small worker out.sent modest.small, modest.few)
