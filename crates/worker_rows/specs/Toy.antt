-- A machine for tables of tests: how many records it has left to ask for, the bytes that landed, and its steps.
use Rattle.std.specs.Prelude.{ℕ}

pub record ToyState : Type 0 where
  pub left : ℕ
  pub landed : ℕ
  pub steps : ℕ
