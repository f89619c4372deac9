-- Texts of whole lines, one behind the other.
use Rattle.std.proofs.Common.{◌≡◌, ℕ, eqb, List, [], ◌∷◌, ◌++◌, refl}
use Rattle.wire_tally.specs.declared.tally.Tally.{Tally}
use Rattle.wire_tally.specs.Tally.{by_line, tallied, tally_from, IsWholeText}
use Rattle.wire_tally.proofs.Tests.{through_test}

pub line_is_whole : (line : List ℕ) → IsWholeText (line ++ 10 ∷ [])
line_is_whole [] = refl
line_is_whole (byte ∷ []) = refl
line_is_whole (byte ∷ next ∷ bytes) = line_is_whole (next ∷ bytes)

pub both_are_whole : (front more : List ℕ) → IsWholeText front → IsWholeText more → IsWholeText (front ++ more)
both_are_whole [] more whole rest = rest
both_are_whole (byte ∷ []) [] whole rest = whole
both_are_whole (byte ∷ []) (next ∷ bytes) whole rest = rest
both_are_whole (byte ∷ next ∷ bytes) more whole rest = both_are_whole (next ∷ bytes) more whole rest

-- behind some bytes of which the last is a newline
add_up_from : (line : List ℕ) (byte : ℕ) (bytes more : List ℕ) (t : Tally) → IsWholeText (byte ∷ bytes)
    → tally_from line (byte ∷ bytes ++ more) t ≡ tally_from [] more (tally_from line (byte ∷ bytes) t)
add_up_from line byte [] more t whole = rw whole refl
add_up_from line byte (next ∷ bytes) more t whole =
    through_test (λ u. tally_from [] more u) (eqb byte 10) _ _ _ _
    (add_up_from [] next bytes more (by_line line t) whole)
    (add_up_from (line ++ byte ∷ []) next bytes more t whole)

pub add_up : (front more : List ℕ) (t : Tally) → IsWholeText front → tallied (front ++ more) t ≡ tallied more (tallied front t)
unfolding tallied
add_up [] more t whole = refl
add_up (byte ∷ bytes) more t whole = add_up_from [] byte bytes more t whole

pub none_counted : (t : Tally) → tallied [] t ≡ t
unfolding tallied
none_counted t = refl
