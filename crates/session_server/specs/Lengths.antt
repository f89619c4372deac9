-- How long the records are that a server sends: none is longer than a record may be. Own limit.
use Rattle.std.specs.Prelude.{ℕ, ◌≤◌, List, length, All}
use Rattle.outbox.specs.declared.outgoing.Outgoing.{Outgoing}
use Rattle.rpc_msg.specs.declared.records.TheConstants.{RECORD_LIMIT}

abbrev pub IsShort : List ℕ → Type 0
IsShort bytes = length bytes ≤ RECORD_LIMIT

abbrev pub AreShort : List Outgoing → Type 0
AreShort sent = All (λ o. IsShort o.bytes) sent
