-- A machine with the book of the calls that were made of it. Own definitions.
use Rattle.std.specs.Prelude.{ℕ}

pub record CountedState (K : Type 0) : Type 0 where
  pub machine : K
  pub booked : ℕ
