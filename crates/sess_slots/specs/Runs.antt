-- Runs of calls on one slot: each is a `begin`, and where that says that the number is new, a `finish`. RFC 8881
-- section 2.10.6.2: the slot makes each number happen once.
use Rattle.std.specs.Prelude.{ℕ, Bool, true, false, List, [], ◌∷◌, if◌then◌else◌}
use Rattle.sess_slots.specs.declared.slot.Slot.{Slot}
use Rattle.sess_slots.specs.declared.answers.Begin.{Begin}
use Rattle.sess_slots.specs.declared.answers.Begin.TheVariants.{New, Replay, FalseRetry, BadSession, BadSlot, Misordered}
use Rattle.sess_slots.specs.declared.answers.Place.{Place}
use Rattle.sess_slots.specs.Slots.{begin_at, after_reply}

-- a call: its number, its root context, and the reply that it has where it is executed
pub record SlotCall : Type 0 where
  pub number : ℕ
  pub root : ℕ
  pub reply : List ℕ

abbrev pub is_new : Begin → Bool
is_new (New place) = true
is_new (Replay place) = false
is_new FalseRetry = false
is_new BadSession = false
is_new BadSlot = false
is_new Misordered = false

-- whether a call is executed
abbrev pub runs_call : Place → Slot → SlotCall → Bool
runs_call place slot call = is_new (begin_at slot call.number call.root place)

-- the slot after a call
abbrev pub after_call : Place → Slot → SlotCall → Slot
after_call place slot call = if runs_call place slot call then after_reply slot call.root call.reply else slot

-- the numbers that a run of calls executes, in order
abbrev pub executed : Place → Slot → List SlotCall → List ℕ
executed place slot [] = []
executed place slot (call ∷ calls) =
    let rest = executed place (after_call place slot call) calls in
    if runs_call place slot call then call.number ∷ rest else rest
