-- Lists that are made by a number, and lists with a part put in. Own definitions.
use Rattle.std.specs.Prelude.{ℕ, zero, suc, ◌+◌, List, [], ◌∷◌, ◌++◌, length, take, drop}

-- the list of f 0, f 1 and so on, n items long
abbrev pub numbered : {A : Type 0} → ℕ → (ℕ → A) → List A
numbered zero f = []
numbered (suc n) f = f 0 ∷ numbered n (λ j. f (suc j))

-- n lists, one after the other
abbrev pub joined : ℕ → (ℕ → List ℕ) → List ℕ
joined zero f = []
joined (suc n) f = f 0 ++ joined n (λ j. f (suc j))

-- a list with a part put in at a place, in the place of what was there
abbrev pub put_in : ℕ → List ℕ → List ℕ → List ℕ
put_in at part xs = take at xs ++ (part ++ drop (at + length part) xs)
