use Rattle.std.proofs.Common.{◌≡◌, ◌-◌, ◌≤◌, false, length, take}
use Rattle.rpc_msg.specs.Watching.{is_down}
use Rattle.single_copy.specs.Links.{Sends}
use Rattle.single_copy.proofs.links.send_piece.Given as goal

abbrev pub invariant-puts : goal.invariant-puts
invariant-puts g l = record {
  within : l.at ≤ length l.piece;
  up : is_down l.link.signs ≡ false;
  sent : Sends g.L.Stream.gives g.L.Stream.takes l.fn.link l.link (take l.at l.piece);
}

abbrev pub decreases-puts : goal.decreases-puts
decreases-puts g l = length l.initial.piece - l.at
