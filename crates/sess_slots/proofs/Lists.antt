-- A list of equal elements grows by one.
use Rattle.std.proofs.Common.{◌≡◌, ℕ, ◌+◌, [], ◌∷◌, ◌++◌, replicate}
use Rattle.std.proofs.lemmas.List.{replicate-append-replicate}

pub replicate_more : {X : Type 0} (n : ℕ) (x : X) → replicate n x ++ x ∷ [] ≡ replicate (n + 1) x
replicate_more n x = replicate-append-replicate n 1 x
