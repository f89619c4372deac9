use Rattle.std.proofs.Common.{take}
use Rattle.single_copy.specs.Links.{Sends}
use Rattle.single_copy.specs.Sending.{put_to}
use Rattle.single_copy.proofs.sending.send_all.Given as goal

abbrev pub invariant-records : goal.invariant-records
invariant-records g l = Sends g.L.Stream.gives g.L.Stream.takes l.fn.link l.link (put_to l.to (take l.outgoing-index l.sent))
