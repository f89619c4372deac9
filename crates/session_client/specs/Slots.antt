-- The numbers of calls in the slots of a session (RFC 8881 section 2.10.6.1): each slot's begin at 1 and rise by one
-- with each new call. A call that is sent again keeps its own.
use Rattle.std.specs.Prelude.{ℕ, ◌+◌, ◌==◌, if◌then◌else◌, List, [], ◌∷◌, replicate, slice_index, slice_set}
use Rattle.nfs_base.specs.declared.limits.TheConstants.{SLOTS}

-- before the first call of a session
abbrev pub fresh_numbers : List ℕ
fresh_numbers = replicate SLOTS 1

-- a new call in a slot was sent
abbrev pub after_new : List ℕ → ℕ → List ℕ
after_new numbers slot = slice_set numbers slot (slice_index numbers slot + 1)

-- the numbers that the new calls of one slot have, among new calls in these slots, in the order in which they are sent
abbrev pub given_in : ℕ → List ℕ → List ℕ → List ℕ
given_in slot numbers [] = []
given_in slot numbers (of ∷ slots) =
    if of == slot then slice_index numbers of ∷ given_in slot (after_new numbers of) slots else given_in slot (after_new numbers of) slots
