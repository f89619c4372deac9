use Rattle.std.proofs.Common.{◌≡◌, true, take}
use Rattle.rpc_msg.specs.Watching.{is_down}
use Rattle.copy_workers.specs.Desk.{given_to}
use Rattle.copy_workers.specs.InFlight.{with_calls, xids_of}
use Rattle.copy_workers.specs.Workers.{Sends}
use Rattle.copy_workers.proofs.sending.send_all.Given as goal

abbrev pub invariant-records : goal.invariant-records
invariant-records g l = record {
  awaited : xids_of l.awaited ≡ with_calls l.worker (take l.outgoing-index l.sent) (xids_of l.fn.awaited);
  sends : Sends (given_to l.worker (take l.outgoing-index l.sent)) l.fn.link.sent l.link.sent (is_down l.link.signs);
  down : is_down l.fn.link.signs ≡ true → is_down l.link.signs ≡ true;
}
