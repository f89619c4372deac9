use Rattle.std.proofs.Common.{◌∙◌, arith}
use Rattle.mount.proofs.CopyLemmas.{copy_one}
use Rattle.mount.proofs.copying.copy_places.Goals as goal

pub loop-place-preserved : goal.loop-place-preserved
loop-place-preserved c =
    copy_one c.loop-place.place c.args.places.now c.args.copies.now c.loop-place.copies c.index-places-place.result _ (omega arith) (omega arith) c.loop-place.invariant (c.in_ok-copies.ensures ∙ c.index-places-place.is)
