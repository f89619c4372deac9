use Rattle.std.proofs.Common.{◌≡◌, ◌*◌, ◌-◌, ◌≤◌}
use Rattle.rpc_msg.specs.Watching.{is_down}
use Rattle.copy_workers.specs.Desk.{chunk_limit, given_limit}
use Rattle.copy_workers.specs.Workers.{Sends}
use Rattle.copy_workers.proofs.worker.work_all.Given as goal

abbrev pub invariant-turns : goal.invariant-turns
invariant-turns g l = record {
  share_parts : l.share.parts ≡ l.fn.share.parts;
  turned_parts : l.turned.parts ≡ l.fn.turned.parts;
  given_parts : l.given.parts ≡ l.fn.given.parts;
  share : l.share.amount ≡ l.done.share;
  turned : l.turned.amount ≡ l.done.turned;
  given : l.given.amount ≡ l.done.given;
  within : l.done.turned ≤ l.turns;
  landed : l.done.share ≤ chunk_limit * l.done.turned;
  few : l.done.given ≤ given_limit * l.done.turned;
  sends : Sends l.done.given 0 l.link.sent (is_down l.link.signs);
}

abbrev pub decreases-turns : goal.decreases-turns
decreases-turns g l = l.turns - l.done.turned
