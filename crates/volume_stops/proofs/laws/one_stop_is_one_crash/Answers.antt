use Rattle.volume_stops.proofs.Sides.{allowed, boot, crashes, files, tag}
use Rattle.volume_stops.proofs.laws.one_stop_is_one_crash.Goals as goal

pub returns : goal.returns
returns c = record {
  boot = boot;
  tag = tag;
  files = files c.volume_effects.ensures.files;
  allowed = allowed;
  crashes = crashes c.volume_effects.ensures.files;
}
