-- The row of the keys of the jobs. Own.
use Rattle.std.specs.Prelude.{ℕ, List}

pub record Keys : Type 0 where
  pub items : List ℕ
