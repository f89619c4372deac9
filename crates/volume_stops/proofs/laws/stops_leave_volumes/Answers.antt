use Rattle.std.proofs.Common.{[]}
use Rattle.server_volume.specs.MomentLaws.{ran_none}
use Rattle.volume_stops.proofs.Leavings.{opens, sound, stops}
use Rattle.volume_stops.proofs.laws.stops_leave_volumes.Goals as goal

pub returns : goal.returns
returns c = record {
  opens = opens c.may_be_opened.ensures.volume;
  sound = sound;
  stops = stops;
  between = λ seat. ran_none seat [];
}
