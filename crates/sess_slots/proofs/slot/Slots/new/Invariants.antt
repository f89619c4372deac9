use Rattle.std.proofs.Common.{◌≡◌, replicate}
use Rattle.sess_slots.specs.Slots.{fresh_slot}
use Rattle.sess_slots.proofs.slot.Slots.new.Given as goal

abbrev pub invariant-loop-made : goal.invariant-loop-made
invariant-loop-made l = l.slots.items ≡ replicate l._made fresh_slot
