-- Steps of a mount whose numbers and bytes are within their bounds.
use Rattle.std.specs.Prelude.{◌≡◌, ℕ, ◌<◌, ◌^◌, IfSome, List, Some}
use Rattle.caller_laws.specs.Fitting.Asking.{BackChannelFits, SlotCallIsFit}
use Rattle.caller_laws.specs.Fitting.Bounds.{FixedFits, TextFits}
use Rattle.caller_laws.specs.Lawful.{asked_by}
use Rattle.caller_laws.specs.Moves.{Move, Send, Sends, Takes, Begin, SetUp, InSlot, Make, sent_by}
use Rattle.gss_ctx.specs.Seals.{Mic}
use Rattle.mount.specs.State.{Mounted}
use Rattle.mount.specs.declared.machine.SendAt.{SendAt}
use Rattle.mount.specs.declared.machine.Sent as out
use Rattle.mount.specs.declared.state.TheConstants.{PLACES}
use Rattle.nfs_base.specs.declared.limits.TheConstants.{NAME_LIMIT, PRIVILEGE_LIMIT}
use Rattle.session_client.specs.Asked.{AskedFits}
use Rattle.session_client.specs.declared.asked.Asked.{Asked}
use Rattle.wire_xdr.specs.Cursor.{IsBytes}

-- every code is bytes
abbrev pub GivesBytes : Mic → Type 0
GivesBytes mic = (key : List ℕ) (side : ℕ) (bytes : List ℕ) → IsBytes (mic key side bytes)

-- what the machine above gives with what it sends
abbrev pub SendIsFit : Send → Type 0
SendIsFit (Begin nonce token) = FixedFits 32 nonce × IfSome token IsBytes
SendIsFit (SetUp principal back) = TextFits NAME_LIMIT principal × IfSome back BackChannelFits
SendIsFit (InSlot under call) = SlotCallIsFit call
SendIsFit (Make child name privilege) = TextFits NAME_LIMIT name × TextFits PRIVILEGE_LIMIT privilege
SendIsFit _ = Unit {0}

-- it goes out by an xid above that of every call of the mount
pub record SendsFit (m : Mounted) (at : SendAt) (send : Send) : Type 0 where
  pub place : at.place < PLACES
  pub unused : m.calls < at.xid
  pub small : at.xid < 2 ^ 32
  pub fits : SendIsFit send

abbrev pub MoveIsFit : Mounted → Move → Type 0
MoveIsFit m (Sends at send) = SendsFit m at send
MoveIsFit m (Takes place message) = IsBytes message
MoveIsFit m _ = Unit {0}

-- what is asked anew has a spelling, and what goes out is bytes
pub record IsSpelledAt (mic : Mic) (m : Mounted) (at : SendAt) (send : Send) : Type 0 where
  pub asked : (asked : Asked) → asked_by at send m ≡ Some asked → AskedFits asked
  pub are_bytes : (sent : out.Sent) → (sent_by mic at send m).0 ≡ Some sent → IsBytes sent.bytes
