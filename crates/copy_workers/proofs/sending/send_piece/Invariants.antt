use Rattle.std.proofs.Common.{◌≡◌, ◌+◌, ◌-◌, ◌≤◌, false, length}
use Rattle.rpc_msg.specs.Watching.{is_down}
use Rattle.copy_workers.proofs.sending.send_piece.Given as goal

abbrev pub invariant-puts : goal.invariant-puts
invariant-puts g l = record {
  within : l.at ≤ length l.piece;
  sent : l.link.sent ≡ l.fn.link.sent + l.at;
  up : is_down l.link.signs ≡ false;
}

abbrev pub decreases-puts : goal.decreases-puts
decreases-puts g l = length l.initial.piece - l.at
