-- At which place an answer is awaited (RFC 5531 section 9: a reply has the xid of its call).
use Rattle.std.specs.Prelude.{ℕ, ◌==◌, Bool, false, position, Option, Some, None}
use Rattle.mount.specs.declared.state.Awaiting.{Awaiting}
use Rattle.mount.specs.declared.state.Pending.{Pending}
use Rattle.mount.specs.declared.state.Pending.TheVariants.{Init, Under}
use Rattle.mount.specs.State.{Mounted}

-- the xid by which a call was last sent
abbrev pub xid_awaited : Pending → ℕ
xid_awaited (Init init) = init.xid
xid_awaited (Under context aim call) = call.awaited.xid

abbrev pub awaits_xid : ℕ → Option Awaiting → Bool
awaits_xid xid None = false
awaits_xid xid (Some a) = xid_awaited a.pending == xid

-- the first place at which the answer to the call with an xid is awaited
abbrev pub place_of : ℕ → Mounted → Option ℕ
place_of xid m = position (awaits_xid xid) m.places
