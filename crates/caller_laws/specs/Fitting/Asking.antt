-- Calls whose numbers are below their bounds and whose names, handles and data are bytes within their limits: what these ends can
-- send.
use Rattle.std.specs.Prelude.{◌<◌, ◌^◌, IfSome}
use Rattle.caller_laws.specs.Fitting.Bounds.{FixedFits, NetLocFits, RangeFits, TextFits}
use Rattle.nfs_base.specs.Bounds.{HandleFits, StateIdFits}
use Rattle.nfs_base.specs.declared.limits.TheConstants.{DATA_LIMIT, NAME_LIMIT}
use Rattle.session_calls.specs.declared.slot_call.FileCall.{FileCall}
use Rattle.session_calls.specs.declared.slot_call.FileCall.TheVariants as asks
use Rattle.session_calls.specs.declared.slot_call.SlotCall.{SlotCall}
use Rattle.session_calls.specs.declared.slot_call.SlotCall.TheVariants as slots
use Rattle.session_calls.specs.declared.sole_call.BackChannel.{BackChannel}
use Rattle.session_calls.specs.declared.sole_call.SoleCall.{SoleCall}
use Rattle.session_calls.specs.declared.sole_call.SoleCall.TheVariants as soles
use Rattle.session_client.specs.Asked.{AskedFits, args_of}
use Rattle.session_client.specs.declared.asked.Asked.{Asked}
use Rattle.wire_xdr.specs.Cursor.{IsBytes}

abbrev pub FileCallIsFit : FileCall → Type 0
FileCallIsFit (asks.Close id) = StateIdFits id
FileCallIsFit (asks.Write id offset bytes) = StateIdFits id × (offset < 2 ^ 64) × TextFits DATA_LIMIT bytes
FileCallIsFit (asks.Read id offset count) = StateIdFits id × (offset < 2 ^ 64) × (count < 2 ^ 32)
FileCallIsFit (asks.Status id) = StateIdFits id
FileCallIsFit (asks.Cancel id) = StateIdFits id
FileCallIsFit _ = Unit {0}

abbrev pub SlotCallIsFit : SlotCall → Type 0
SlotCallIsFit (slots.Open client owner name) = (client < 2 ^ 64) × TextFits NAME_LIMIT owner × TextFits NAME_LIMIT name
SlotCallIsFit (slots.OnFile file call) = HandleFits file × FileCallIsFit call
SlotCallIsFit (slots.Notify file id destination) = HandleFits file × StateIdFits id × NetLocFits destination
SlotCallIsFit (slots.Copy source_file source_id file id range source) =
    HandleFits source_file × StateIdFits source_id × HandleFits file × StateIdFits id × RangeFits range × NetLocFits source
SlotCallIsFit slots.ReclaimComplete = Unit {0}

-- the handles of the contexts under which a server may call back
pub record BackChannelFits (back : BackChannel) : Type 0 where
  pub from_server : FixedFits 8 back.from_server
  pub from_client : FixedFits 8 back.from_client

abbrev pub SoleCallIsFit : SoleCall → Type 0
SoleCallIsFit (soles.ExchangeId verifier owner) = FixedFits 8 verifier × TextFits NAME_LIMIT owner
SoleCallIsFit (soles.CreateSession client sequence back) = (client < 2 ^ 64) × (sequence < 2 ^ 32) × IfSome back BackChannelFits
SoleCallIsFit (soles.DestroySession session) = FixedFits 16 session
SoleCallIsFit (soles.DestroyClientId client) = client < 2 ^ 64

-- what is asked has a spelling, of bytes
pub record AskedIsFit (asked : Asked) : Type 0 where
  pub fits : AskedFits asked
  pub are_bytes : IsBytes (args_of asked)
