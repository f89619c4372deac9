-- The steps of a mount: the calls of its machine by which it changes, and what a wire sees of each.
use Rattle.std.specs.Prelude.{ℕ, List, [], ◌∷◌, Option, Some, None}
use Rattle.gss_ctx.specs.Seals.{Mic}
use Rattle.session_calls.specs.declared.slot_call.SlotCall.{SlotCall}
use Rattle.session_calls.specs.declared.slot_call.SlotCall.TheVariants.{ReclaimComplete}
use Rattle.session_calls.specs.declared.sole_call.BackChannel.{BackChannel}
use Rattle.mount.specs.Falling.{fallen, forgotten, given_up}
use Rattle.mount.specs.Sending.{begun, begun_anew, child_asked, ended_in, name_under, sent_again, slotted, stepped_in}
use Rattle.mount.specs.State.{Mounted, root_name}
use Rattle.mount.specs.Taking.{Means, taken_at}
use Rattle.mount.specs.declared.calling.Ending.{Ending}
use Rattle.mount.specs.declared.calling.Under.{Under}
use Rattle.mount.specs.declared.machine.SendAt.{SendAt}
use Rattle.mount.specs.declared.machine.Sent as out
use Rattle.mount.specs.declared.state.Aim.TheVariants as aims
use Rattle.mount.specs.declared.taking.Heard.{Heard}
use Rattle.wire_model.specs.Wire.{Acts, Sent}

-- what may be sent, each by the call of the machine with this name: begin, begin_anew, step, reclaim, send, create, end, send_again
pub data Send : Type 0 where
  Begin : (nonce : List ℕ) (token : Option (List ℕ)) → Send
  BeginAnew : Send
  SetUp : (principal : List ℕ) (back : Option BackChannel) → Send
  Reclaim : Send
  InSlot : (under : Under) (call : SlotCall) → Send
  Make : (child : ℕ) (name privilege : List ℕ) → Send
  Finish : (ending : Ending) → Send
  Again : Send

-- a step: something is sent; a record is taken at a place; what is awaited at a place is given up; a child is forgotten; the
-- mount begins again; or nothing happens to it
pub data Move : Type 0 where
  Sends : (at : SendAt) (send : Send) → Move
  Takes : (place : ℕ) (message : List ℕ) → Move
  GivesUp : (place : ℕ) → Move
  Forgets : (child : ℕ) → Move
  Falls : Move
  Rests : Move

-- what goes out, and the mount afterwards
abbrev pub sent_by : Mic → SendAt → Send → Mounted → Option out.Sent × Mounted
sent_by mic at (Begin nonce token) m = begun at nonce token m
sent_by mic at BeginAnew m = begun_anew at m
sent_by mic at (SetUp principal back) m = stepped_in mic at principal back m.standing m
sent_by mic at Reclaim m = slotted mic at (root_name m.standing) aims.Setup ReclaimComplete m
sent_by mic at (InSlot under call) m = slotted mic at (name_under under m) aims.Slot call m
sent_by mic at (Make child name privilege) m = child_asked mic at child name privilege m
sent_by mic at (Finish ending) m = ended_in mic at ending m.standing m
sent_by mic at Again m = sent_again mic at m

-- ---- what is seen of a step

abbrev pub out_of : Option out.Sent → List Sent
out_of None = []
out_of (Some sent) = record { bytes = sent.bytes; seal = sent.seal } ∷ []

-- no record is taken, and none is sent
abbrev pub nothing_shown : Acts
nothing_shown = record { took = None; accepted = None; executed = None; out = [] }

abbrev pub sending : Option out.Sent → Acts
sending sent = record { took = None; accepted = None; executed = None; out = out_of sent }

abbrev pub hearing : List ℕ → Heard → Acts
hearing message heard = record { took = Some message; accepted = heard.accepted; executed = None; out = [] }

-- what is shown, and the mount afterwards
pub record Done : Type 0 where
  pub shown : Acts
  pub mount : Mounted

abbrev pub done : Means → Move → Mounted → Done
done means (Sends at send) m = record { shown = sending (sent_by means.mic at send m).0; mount = (sent_by means.mic at send m).1 }
done means (Takes place message) m = record { shown = hearing message (taken_at means place message m).0; mount = (taken_at means place message m).1 }
done means (GivesUp place) m = record { shown = nothing_shown; mount = given_up place m }
done means (Forgets child) m = record { shown = nothing_shown; mount = forgotten child m }
done means Falls m = record { shown = nothing_shown; mount = fallen m }
done means Rests m = record { shown = nothing_shown; mount = m }
