-- The lines that are put where a disk is to be formatted. Own format.
use Rattle.std.specs.Prelude.{ℕ, List, [], ◌∷◌, ◌++◌, codes, decimal}

-- a disk that was formatted, by how many blocks its volume takes
abbrev pub formatted_text : (blocks : ℕ) → List ℕ
formatted_text blocks = codes "formatted " ++ decimal blocks ++ 10 ∷ []

-- the line of a disk that is too small
abbrev pub small_text : (need have : ℕ) → List ℕ
small_text need have = codes "too small " ++ decimal need ++ codes " " ++ decimal have ++ 10 ∷ []

-- the line of a disk that holds no volume, by the first field that is off: its block and the byte there
abbrev pub not_volume_text : (block at : ℕ) → List ℕ
not_volume_text block at = codes "not a volume " ++ (decimal block ++ (codes " " ++ (decimal at ++ 10 ∷ [])))
