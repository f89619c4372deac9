use Rattle.std.proofs.Common.{◌∙◌, arith}
use Rattle.dest_back.proofs.CopyLemmas.{copy_one}
use Rattle.dest_back.proofs.callbacks.copy_posts.Goals as goal

pub loop-seat-preserved : goal.loop-seat-preserved
loop-seat-preserved c =
    copy_one c.loop-seat.seat c.args.posts.now c.args.copies.now c.loop-seat.copies c.index-posts-seat.result _ (omega arith) (omega arith) c.loop-seat.invariant (c.copy_post.ensures ∙ c.index-posts-seat.is)
