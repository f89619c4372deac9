-- The place is found at which an answer is awaited.
use Rattle.std.proofs.Common.{◌≡◌, ◌<◌, ℕ, Bool, true, false, List, [], ◌∷◌, length, get_or, zero, suc, Option, Some, None, sym, ◌∙◌, arith}
use Rattle.std.specs.Prelude.{position, slice_index_or, IfSome}
use Rattle.std.proofs.lemmas.Grind.{common_steps}
use Rattle.std.proofs.lemmas.List.Quantifiers.{position-Some}
use Rattle.mount.specs.declared.state.Awaiting.{Awaiting}

pub found_within : (test : Option Awaiting → Bool) (places : List (Option Awaiting)) (r : Option ℕ) → r ≡ position test places
    → IfSome r (λ place. place < length places)
found_within test places None is = tt
found_within test places (Some i) is = (position-Some test places i None (sym is)).0

pub found_awaits : (test : Option Awaiting → Bool) (places : List (Option Awaiting)) (r : Option ℕ) → r ≡ position test places
    → IfSome r (λ place. test (slice_index_or places place None) ≡ true)
found_awaits test places None is = tt
found_awaits test places (Some i) is = (position-Some test places i None (sym is)).1

nowhere : {X : Type 0} (test : X → Bool) (xs : List X) (k : ℕ) (d : X) → test d ≡ false → position test xs ≡ None → test (get_or xs k d) ≡ false
nowhere test [] k d other none = other
nowhere test (x ∷ xs) zero d other none = grind (arith, common_steps)
nowhere test (x ∷ xs) (suc k) d other none = grind (arith, common_steps, nowhere test xs k d)

pub found_nowhere : (test : Option Awaiting → Bool) (places : List (Option Awaiting)) (r : Option ℕ) → test None ≡ false → r ≡ position test places
    → r ≡ None → (place : ℕ) → test (slice_index_or places place None) ≡ false
found_nowhere test places r other is none place = nowhere test places place None other (sym is ∙ none)
