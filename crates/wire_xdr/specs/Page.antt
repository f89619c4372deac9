-- A page: bytes that are written into room which was taken before, so that writing wants no memory. Own.
use Rattle.std.specs.Prelude.{◌≡◌, ℕ, List, ◌++◌}

-- the bytes written so far, and how many may be there in all
pub record Written : Type 0 where
  pub bytes : List ℕ
  pub room : ℕ

-- now is before with this text behind it, and has the same room
pub record Added (before : Written) (text : List ℕ) (now : Written) : Type 0 where
  pub is : now.bytes ≡ before.bytes ++ text
  pub room : now.room ≡ before.room
