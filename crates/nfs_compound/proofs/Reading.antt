-- A reader at the first byte.
use Rattle.std.proofs.Common.{◌≡◌, ℕ, List, ap, ◌∙◌}
use Rattle.wire_xdr.specs.Cursor.{Cursor}
use Rattle.wire_xdr.specs.All.{start}

-- a new reader stands before the first byte
pub starts : (c : Cursor) (bytes : List ℕ) → c.at ≡ 0 → c.rest ≡ bytes → c ≡ start bytes
starts c bytes at rest = ap (λ (k : ℕ). record { at = k; rest = c.rest }) at ∙ ap (λ (r : List ℕ). record { at = 0; rest = r }) rest
