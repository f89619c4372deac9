-- The slots of a session table as a wire sees them: the reply that each keeps, and the number executed last in it.
-- RFC 8881 section 2.10.6.
use Rattle.std.specs.Prelude.{ℕ, ◌^◌, Bool, true, false, Option, Some, None, option_map, option_and_then, nat_le}
use Rattle.sess_slots.specs.declared.slot.Slot.{Slot}
use Rattle.sess_slots.specs.Begins.{slot_of}
use Rattle.sess_slots.specs.Table.{SessionTable}
use Rattle.wire_model.specs.Wire.{Kept}

-- the reply that a slot keeps: under the slot's own number, which was executed last
abbrev pub kept_at : Slot → Option Kept
kept_at slot = option_map (λ k. record { number = slot.last; root = k.root; results = k.reply }) slot.kept

abbrev pub kept_in : SessionTable → (session slot : ℕ) → Option Kept
kept_in table session slot = option_and_then kept_at (slot_of table (record { session = session; slot = slot }))

-- past all numbers of slots, which go round at 2^32
abbrev pub past_all : ℕ
past_all = 2 ^ 32

-- the last number of a session that isn't there: of one that was made and is gone it is past all numbers
abbrev pub last_gone : (was_made : Bool) → ℕ
last_gone true = past_all
last_gone false = 0

abbrev pub last_at : Option Slot → (was_made : Bool) → ℕ
last_at (Some slot) was_made = slot.last
last_at None was_made = last_gone was_made

-- The number executed last in a slot. Of a session that isn't made yet it is 0, and no session has the number 0.
abbrev pub last_in : SessionTable → (session slot : ℕ) → ℕ
last_in table session slot = last_at (slot_of table (record { session = session; slot = slot })) (nat_le session table.sessions_made)
