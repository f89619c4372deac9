-- What a watched link keeps of its room and of its limits.
use Rattle.std.specs.Prelude.{◌≡◌, ℕ, ◌<◌, ◌≤◌, None}
use Rattle.rpc_msg.specs.declared.watched.TheConstants.{BYTES_LIMIT, ROOM}
use Rattle.std.specs.declared.option.Option.{Option}

pub record IsWatched (start until count large : ℕ) (feed_large : Option ℕ) : Type 0 where
  pub inside : start ≤ until
  pub room : until ≤ ROOM
  pub few : large ≡ 0 → count < BYTES_LIMIT
  pub small : large ≡ 0 → feed_large ≡ None
