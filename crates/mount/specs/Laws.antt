-- What holds of every mount, in the words in which a wire's callers are spoken of: what goes out is counted, an answer is
-- taken once, and a mount that begins again keeps nothing of the one before but what still awaits an answer.
use Rattle.std.specs.Prelude.{◌≡◌, ◌≢◌, ℕ, Bool, true, false, Option, Some, None}
use Rattle.session_client.specs.Records.{IsCallOf}
use Rattle.mount.specs.declared.machine.SendAt.{SendAt}
use Rattle.mount.specs.declared.machine.Sent.{Sent}
use Rattle.mount.specs.declared.taking.Told.{Told}
use Rattle.mount.specs.declared.taking.Told.TheVariants as tells
use Rattle.mount.specs.State.{Mounted, awaited_at}

-- A record goes out in a step from m to w: it is a call by the xid that it was given, which is the last one from then
-- on, and what is awaited at the other places stays.
pub record GoesOut (at : SendAt) (m w : Mounted) (sent : Sent) : Type 0 where
  pub is_call : IsCallOf at.xid sent.bytes
  pub calls : w.calls ≡ at.xid
  pub others : (place : ℕ) → place ≢ at.place → awaited_at w place ≡ awaited_at m place

-- where none goes out, the mount is as it was
abbrev pub Goes : SendAt → Mounted → Option Sent → Mounted → Type 0
Goes at m None w = w ≡ m
Goes at m (Some sent) w = GoesOut at m w sent

abbrev pub Went : SendAt → Mounted → Option Sent × Mounted → Type 0
Went at m outcome = Goes at m outcome.0 outcome.1

-- a record that is the reply to a call
abbrev pub is_heard : Told → Bool
is_heard tells.Unmatched = false
is_heard _ = true
