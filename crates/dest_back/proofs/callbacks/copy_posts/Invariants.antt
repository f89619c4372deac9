use Rattle.std.proofs.Common.{◌≡◌, ◌++◌, take, drop}
use Rattle.dest_back.proofs.callbacks.copy_posts.Given as goal

abbrev pub invariant-loop-seat : goal.invariant-loop-seat
invariant-loop-seat l = l.copies ≡ take l.seat l.posts ++ drop l.seat l.initial.copies
