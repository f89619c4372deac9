-- A slot of a session, and what a number sent on it means. RFC 8881 section 2.10.6: each number is executed
-- once, and a retry is answered by the reply that was kept.
use Rattle.std.specs.Prelude.{ℕ, ◌+◌, ◌%◌, ◌^◌, ◌==◌, List, Option, None, Some, if◌then◌else◌, slice_index_or, slice_set}
use Rattle.sess_slots.specs.declared.slot.Slot.{Slot}
use Rattle.sess_slots.specs.declared.slot.Kept.{Kept}
use Rattle.sess_slots.specs.declared.answers.Place.{Place}
use Rattle.sess_slots.specs.declared.answers.Begin.{Begin}
use Rattle.sess_slots.specs.declared.answers.Begin.TheVariants.{New, Replay, FalseRetry, Misordered}

-- the number after a number: they go round at 2^32
abbrev pub next_number : ℕ → ℕ
next_number number = (number + 1) % 2 ^ 32

-- a slot that no number was taken on: its number is 0, and nothing is kept
abbrev pub fresh_slot : Slot
fresh_slot = record { last = 0; kept = None }

-- The slot's own number again: where a reply was kept it is a retry, answered only to the root context that
-- the reply was kept for. Where nothing was kept the number is out of order.
abbrev pub retry_at : Option Kept → ℕ → Place → Begin
retry_at None root place = Misordered
retry_at (Some kept) root place = if kept.root == root then Replay place else FalseRetry

-- The number after the slot's is new, the slot's own is a retry, every other one is out of order.
abbrev pub begin_at : Slot → ℕ → ℕ → Place → Begin
begin_at slot number root place =
    if number == next_number slot.last then New place
    else (if number == slot.last then retry_at slot.kept root place else Misordered)

-- the slot once a number was executed: the number has moved, and the reply is kept with its root
abbrev pub after_reply : Slot → ℕ → List ℕ → Slot
after_reply slot root reply = record { last = next_number slot.last; kept = Some (record { root = root; reply = reply }) }

-- a slot of a list by its number
abbrev pub slot_at : List Slot → ℕ → Slot
slot_at slots n = slice_index_or slots n fresh_slot

-- the slots with that one's reply kept
abbrev pub slots_after : List Slot → ℕ → ℕ → List ℕ → List Slot
slots_after slots n root reply = slice_set slots n (after_reply (slot_at slots n) root reply)
