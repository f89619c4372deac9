-- A list of which one element is changed.
use Rattle.std.specs.Prelude.{Bool, List, [], ◌∷◌, if◌then◌else◌}

-- the first element that passes is changed
abbrev pub changed : {X : Type 0} → (X → Bool) → (X → X) → List X → List X
changed test f [] = []
changed test f (x ∷ xs) = if test x then f x ∷ xs else x ∷ changed test f xs
