-- What goes out to a server: each call only where nothing is awaited at its place, its xid is new, and its slot has a
-- number left. Where nothing goes out, all is as it was.
use Rattle.std.specs.Prelude.{ℕ, ◌&&◌, nat_lt, not, is_none, Bool, true, false, List, Option, Some, None}
use Rattle.gss_ctx.specs.Seals.{Mic}
use Rattle.gss_ctx.specs.Table.{handle_of}
use Rattle.session_calls.specs.declared.slot_call.SlotCall.{SlotCall}
use Rattle.session_calls.specs.declared.slot_call.SlotCall.TheVariants.{ReclaimComplete}
use Rattle.session_calls.specs.declared.sole_call.BackChannel.{BackChannel}
use Rattle.session_client.specs.declared.setup.Setup.{Setup}
use Rattle.session_client.specs.declared.setup.Setup.TheVariants as setups
use Rattle.mount.specs.Sending.{begun, child_asked, ended_in, name_under, sent_again, slotted, stepped_in}
use Rattle.mount.specs.State.{Mounted, awaited_at, has_numbers, is_setting_up, root_context, root_name, setup_in}
use Rattle.mount.specs.declared.calling.Ending.{Ending}
use Rattle.mount.specs.declared.calling.Under.{Under}
use Rattle.mount.specs.declared.machine.SendAt.{SendAt}
use Rattle.mount.specs.declared.machine.Sent.{Sent}
use Rattle.mount.specs.declared.state.Aim.TheVariants as aims
use Rattle.mount.specs.declared.state.Context.{Context}
use Rattle.client_site.specs.declared.site.Site.{Site}

abbrev pub may_go : SendAt → Mounted → Bool
may_go at m = is_none (awaited_at m at.place) && nat_lt m.calls at.xid && has_numbers m.standing at.place

abbrev pub is_down : Setup → Bool
is_down setups.Down = true
is_down _ = false

abbrev pub may_begin : SendAt → Mounted → Bool
may_begin at m = not (is_setting_up m) && is_down (setup_in m.standing) && may_go at m

abbrev pub sent_if : Bool → Option Sent × Mounted → Mounted → Option Sent × Mounted
sent_if true o m = o
sent_if false o m = (None, m)

abbrev pub at_site : Site → Option Sent × Mounted → Option Sent × Site
at_site s o = (o.0, record s { mount = o.1 })

-- ---- a call in a slot, CREATE of a child, and what goes out again

abbrev pub sent_in : Mic → SendAt → Under → SlotCall → Site → Option Sent × Site
sent_in mic at under call s =
    at_site s (sent_if (may_go at s.mount) (slotted mic at (name_under under s.mount) aims.Slot call s.mount) s.mount)

abbrev pub created_in : Mic → SendAt → ℕ → List ℕ → List ℕ → Site → Option Sent × Site
created_in mic at child name privilege s =
    at_site s (sent_if (may_go at s.mount) (child_asked mic at child name privilege s.mount) s.mount)

abbrev pub again_in : Mic → SendAt → Site → Option Sent × Site
again_in mic at s = at_site s (sent_if (nat_lt s.mount.calls at.xid) (sent_again mic at s.mount) s.mount)

-- ---- the setup: INIT, EXCHANGE_ID and CREATE_SESSION, RECLAIM_COMPLETE

abbrev pub begun_in : SendAt → List ℕ → Option (List ℕ) → Site → Option Sent × Site
begun_in at nonce token s = at_site s (begun at nonce token s.mount)

abbrev pub stepped_at : Mic → SendAt → List ℕ → Option BackChannel → Site → Option Sent × Site
stepped_at mic at principal back s =
    at_site s (sent_if (not (is_setting_up s.mount) && may_go at s.mount) (stepped_in mic at principal back s.mount.standing s.mount) s.mount)

abbrev pub reclaimed_in : Mic → SendAt → Site → Option Sent × Site
reclaimed_in mic at s =
    at_site s (sent_if (may_go at s.mount) (slotted mic at (root_name s.mount.standing) aims.Setup ReclaimComplete s.mount) s.mount)

-- ---- what ends the session, the client or the root's context

abbrev pub ended_at : Mic → SendAt → Ending → Site → Option Sent × Site
ended_at mic at ending s = at_site s (sent_if (may_go at s.mount) (ended_in mic at ending s.mount.standing s.mount) s.mount)

-- ---- the back channel

-- the context under which the server is to call back has this number, and no boot
abbrev pub back_under : ℕ → Option Context → Option BackChannel
back_under number None = None
back_under number (Some c) = Some (record { from_server = c.root; from_client = handle_of 0 number })

abbrev pub back_channel : Option ℕ → Site → Option BackChannel
back_channel None s = None
back_channel (Some number) s = back_under number (root_context s.mount)
