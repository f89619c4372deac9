-- What is none isn't some.
use Rattle.std.proofs.Common.{◌≡◌, Option, None, Some}

pub none_is_some : {A : Type 0} (o : Option A) (x : A) → o ≡ None → o ≡ Some x → ⊥
none_is_some None x none some = absurd (cc)
none_is_some (Some y) x none some = absurd (cc)

pub some_same : {A : Type 0} (a b : A) → Some a ≡ Some b → a ≡ b
some_same a b e = cc
