-- How cases are counted in which something was otherwise.
use Rattle.std.specs.Prelude.{◌≡◌, ℕ, ◌+◌, ◌-◌, ◌^◌, true, if◌then◌else◌, min}
use Rattle.core_replay.specs.declared.cases.Cases.{Cases}

-- one more, and at the type's end as many
abbrev pub one_more : (count : ℕ) → ℕ
one_more count = min (count + 1) (2 ^ 32 - 1)

-- the case is told, and counted unless it was told before
pub record IsCounted (old new : Cases) : Type 0 where
  pub told : new.is_told ≡ true
  pub counted : new.differ ≡ (if old.is_told then old.differ else one_more old.differ)
  pub begun : new.begun ≡ old.begun

-- nothing is counted
pub record IsAsBefore (old new : Cases) : Type 0 where
  pub told : new.is_told ≡ old.is_told
  pub counted : new.differ ≡ old.differ
  pub begun : new.begun ≡ old.begun
