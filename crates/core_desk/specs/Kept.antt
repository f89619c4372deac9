-- The calls that a desk keeps until their workers come. Own definitions.
use Rattle.std.specs.Prelude.{◌≡◌, ◌⊎◌, ℕ, ◌-◌, ◌&&◌, nat_le, Bool, false, if◌then◌else◌, List, [], ◌∷◌, Option, Some, None, slice_set, slice_index_or}
use Rattle.outbox.specs.declared.outgoing.Outgoing.{Outgoing}
use Rattle.outbox.specs.declared.outgoing.To.{To}
use Rattle.outbox.specs.declared.outgoing.To.TheVariants as to

abbrev pub nothing_kept : List (Option Outgoing)
nothing_kept = None ∷ None ∷ None ∷ None ∷ None ∷ None ∷ None ∷ None ∷ []

-- what is kept for a worker, by the worker's number from 1 on
abbrev pub kept_for : (worker : ℕ) → List (Option Outgoing) → Option Outgoing
kept_for worker kept = slice_index_or kept (worker - 1) None

abbrev pub before : Option Outgoing → List Outgoing → List Outgoing
before None sent = sent
before (Some call) sent = call ∷ sent

-- A worker is given the call that is kept for it before what else is sent; or it stays kept, for want of memory.
abbrev pub Gives : (worker : ℕ) → (kept kept_now : List (Option Outgoing)) → (sent sent_now : List Outgoing) → Type 0
Gives worker kept kept_now sent sent_now =
    ((sent_now ≡ before (kept_for worker kept) sent) × (kept_now ≡ slice_set kept (worker - 1) None))
    ⊎ ((sent_now ≡ sent) × (kept_now ≡ kept))

-- whether a record goes to a worker's link
abbrev pub is_worker : ℕ → Bool
is_worker number = nat_le 1 number && nat_le number 8

abbrev pub is_call : To → Bool
is_call (to.Source number) = is_worker number
is_call _ = false

abbrev pub number_of : To → ℕ
number_of (to.Source number) = number
number_of _ = 0

abbrev pub keeping : Outgoing → List (Option Outgoing) → List (Option Outgoing)
keeping o kept = if is_call o.to then slice_set kept (number_of o.to - 1) (Some o) else kept

abbrev pub passing : Outgoing → List Outgoing → List Outgoing
passing o sent = if is_call o.to then sent else o ∷ sent

-- what is kept of a list of records, and what isn't: a later call in place of an earlier one
abbrev pub kept_of : List Outgoing → List (Option Outgoing) → List (Option Outgoing)
kept_of [] kept = kept
kept_of (o ∷ sent) kept = kept_of sent (keeping o kept)

abbrev pub passed_of : List Outgoing → List Outgoing
passed_of [] = []
passed_of (o ∷ sent) = passing o (passed_of sent)
