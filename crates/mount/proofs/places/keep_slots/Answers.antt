use Rattle.std.proofs.Common.{arith}
use Rattle.mount.specs.Falling.{staying}
use Rattle.mount.proofs.ListLemmas.{map_one}
use Rattle.mount.proofs.places.keep_slots.Goals as goal

pub loop-place-preserved : goal.loop-place-preserved
loop-place-preserved c =
    map_one staying c.loop-place.place-index c.args.places.now c.loop-place.places c.place-item.result c.keep_slot.new.place
    (omega arith) c.loop-place.invariant c.keep_slot.ensures
