-- What a record under way keeps, so that no sum of its code passes its type, and no byte lacks room.
use Rattle.std.specs.Prelude.{◌≡◌, ℕ, ◌+◌, ◌≤◌, ◌<◌}
use Rattle.rpc_msg.specs.Records.{record_limit}

pub record HasRoom (len room header_bytes header lacking : ℕ) : Type 0 where
  pub room_for_one : record_limit ≤ room
  pub fits : len + lacking ≤ record_limit
  pub few : header_bytes ≤ 3
  pub none : header_bytes ≡ 0 → header ≡ 0
  pub one : header_bytes ≡ 1 → header < 256
  pub two : header_bytes ≡ 2 → header < 65536
  pub three : header_bytes ≡ 3 → header < 16777216
