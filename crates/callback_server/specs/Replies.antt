-- Which of the records that a step gives is the reply to a connection. Own definitions.
use Rattle.std.specs.Prelude.{ℕ, ◌==◌, Bool, false, List, [], position, slice_get, Option, Some, None}
use Rattle.outbox.specs.declared.outgoing.Outgoing.{Outgoing}
use Rattle.outbox.specs.declared.outgoing.To.{To}
use Rattle.outbox.specs.declared.outgoing.To.TheVariants as to

abbrev pub is_on : (conn : ℕ) → To → Bool
is_on conn (to.Conn number) = number == conn
is_on conn _ = false

-- the place of the first record that goes to the connection
abbrev pub place_of : (conn : ℕ) → List Outgoing → Option ℕ
place_of conn sent = position (λ o. is_on conn o.to) sent

abbrev pub bytes_of : Option Outgoing → List ℕ
bytes_of None = []
bytes_of (Some o) = o.bytes

abbrev pub bytes_at : List Outgoing → Option ℕ → List ℕ
bytes_at sent None = []
bytes_at sent (Some at) = bytes_of (slice_get sent at)

-- The reply to a connection: the first record that goes to it, and empty where none does.
abbrev pub reply_to : (conn : ℕ) → List Outgoing → List ℕ
reply_to conn sent = bytes_at sent (place_of conn sent)
