-- What is known of an act beside what it does: its machine had steps left, and what it took and what it sends are bytes.
use Rattle.std.specs.Prelude.{ℕ, ◌<◌, List, All, Option, Some, None, IfSome}
use Rattle.outbox.specs.declared.outgoing.Outbox.{Outbox}
use Rattle.outbox.specs.declared.outgoing.Outgoing.{Outgoing}
use Rattle.wire_machine.specs.Ends.{ClientAct, DestAct, SourceAct}
use Rattle.wire_machine.specs.Ends as acts
use Rattle.wire_xdr.specs.Cursor.{IsBytes}

abbrev pub AreBytes : List Outgoing → Type 0
AreBytes sent = All (λ o. IsBytes o.bytes) sent

-- It had made fewer steps than it can make, it took bytes where it took a record, and what it sends is bytes.
pub record IsHandled (steps limit : ℕ) (took : Option (List ℕ)) (out : Outbox) : Type 0 where
  pub few : steps < limit
  pub taken : IfSome took IsBytes
  pub sent : AreBytes out.sent

-- ---- the record that an act takes

abbrev pub source_took : SourceAct → Option (List ℕ)
source_took (acts.SourceTakes conn bytes) = Some bytes
source_took acts.SourceTicks = None

abbrev pub dest_took : DestAct → Option (List ℕ)
dest_took (acts.DestTakes conn bytes) = Some bytes
dest_took (acts.Hears worker bytes) = Some bytes
dest_took act = None

abbrev pub client_took : ClientAct → Option (List ℕ)
client_took (acts.ClientTakes from bytes) = Some bytes
client_took act = None
