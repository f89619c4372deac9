-- What SEQUENCE meets at a session (RFC 8881 sections 2.10.6 and 18.46), and what is known of a session.
use Rattle.std.specs.Prelude.{ℕ, ◌-◌, ◌<◌, ◌==◌, IsSome, Bool, true, List, Option, None, Some, if◌then◌else◌, option_map, option_and_then, nat_le}
use Rattle.nfs_base.specs.Changed.{changed}
use Rattle.nfs_base.specs.declared.limits.TheConstants.{SLOTS, LEASE_SECONDS}
use Rattle.sess_slots.specs.declared.answers.Begin.{Begin}
use Rattle.sess_slots.specs.declared.answers.Begin.TheVariants.{New, Replay, FalseRetry, BadSession, BadSlot, Misordered}
use Rattle.sess_slots.specs.declared.answers.Place.{Place}
use Rattle.sess_slots.specs.declared.answers.Back.{Back}
use Rattle.sess_slots.specs.declared.client.Client.{Client}
use Rattle.sess_slots.specs.declared.session.Session.{Session}
use Rattle.sess_slots.specs.declared.slot.Slot.{Slot}
use Rattle.sess_slots.specs.Slots.{begin_at, slot_at, slots_after}
use Rattle.sess_slots.specs.Table.{SessionTable, client_of_id, session_numbered, session_of_id}

-- Of a session that is there: a slot above 15 is none, and the slot itself decides on the rest.
abbrev pub begin_in : Option Session → ℕ → ℕ → ℕ → Begin
begin_in None slot number root = BadSession
begin_in (Some s) slot number root =
    if nat_le SLOTS slot then BadSlot
    else begin_at (slot_at s.slots slot) number root (record { session = s.number; slot = slot })

-- what a sequence number on a slot of a session means, sent under a root context
abbrev pub begin_of : SessionTable → List ℕ → ℕ → ℕ → ℕ → Begin
begin_of table id slot number root = begin_in (session_of_id table id) slot number root

-- the client that a session belongs to
abbrev pub client_at : SessionTable → ℕ → Option ℕ
client_at table session = option_map (λ s. s.client) (session_numbered table.sessions session)

-- the slot at a place, where its session is there
abbrev pub slot_of : SessionTable → Place → Option Slot
slot_of table place = option_map (λ s. slot_at s.slots place.slot) (session_numbered table.sessions place.session)

-- the reply kept at a place
abbrev pub reply_at : SessionTable → Place → Option (List ℕ)
reply_at table place = option_map (λ k. k.reply) (option_and_then (λ slot. slot.kept) (slot_of table place))

-- the back channel of a session
abbrev pub back_at : SessionTable → ℕ → Option Back
back_at table session = option_and_then (λ s. s.back) (session_numbered table.sessions session)

-- the place of an answer is there: its session and its slot, and for a retry the kept reply
abbrev pub IsThere : SessionTable → Begin → Type 0
IsThere table (New place) = IsSome (client_at table place.session) × (place.slot < SLOTS)
IsThere table (Replay place) = IsSome (client_at table place.session) × (place.slot < SLOTS) × IsSome (reply_at table place)
IsThere table FalseRetry = Unit {0}
IsThere table BadSession = Unit {0}
IsThere table BadSlot = Unit {0}
IsThere table Misordered = Unit {0}

-- a client's lease begins anew
abbrev pub renewed_by : ℕ → ℕ → List Client → List Client
renewed_by id now clients = changed (λ c. c.id == id) (λ c. record c { used = now }) clients

abbrev pub renewed : Option ℕ → ℕ → List Client → List Client
renewed None now clients = clients
renewed (Some id) now clients = renewed_by id now clients

-- a place's slot has moved and keeps the reply
abbrev pub reply_kept : Place → ℕ → List ℕ → List Session → List Session
reply_kept place root reply sessions =
    changed (λ s. s.number == place.session) (λ s. record s { slots = slots_after s.slots place.slot root reply }) sessions

-- the table once a number was executed: its slot has moved and keeps the reply, and the client's lease is renewed
abbrev pub finished : SessionTable → Place → ℕ → List ℕ → ℕ → SessionTable
finished table place root reply now =
    record table {
      clients = renewed (client_at table place.session) now table.clients;
      sessions = reply_kept place root reply table.sessions;
    }

-- a client without use for a lease's 90 seconds
abbrev pub is_idle : ℕ → Client → Bool
is_idle now c = nat_le LEASE_SECONDS (now - c.used)

abbrev pub lease_ended : Option Client → ℕ → Bool
lease_ended None now = true
lease_ended (Some c) now = is_idle now c

-- whether a client's lease has ended: there is no such client, or its last use was 90 or more seconds ago
abbrev pub has_lapsed : SessionTable → ℕ → ℕ → Bool
has_lapsed table id now = lease_ended (client_of_id table.clients id) now
