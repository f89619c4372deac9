-- When a volume takes a write. Own definitions; WRITE is that of RFC 8881 section 18.32.
use Rattle.std.specs.Prelude.{◌≡◌, ℕ, ◌+◌, ◌-◌, ◌^◌, ◌≤◌, false}
use Rattle.copy_model.specs.Volume.{Volume}

-- It isn't broken, so many bytes from an offset on end within its capacity, and it has a further write number.
pub record HasRoomFor (v : Volume) (off len : ℕ) : Type 0 where
  pub whole : v.broken ≡ false
  pub within : off + len ≤ v.capacity
  pub numbered : v.writes ≡ 2 ^ 32 - 1 → ⊥
