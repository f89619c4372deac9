use Rattle.tell_laws.proofs.Effects.{rests}
use Rattle.tell_laws.specs.Volumes.{volume_of}
use Rattle.tell_laws.proofs.volumes.seconds_change_nothing.Goals as goal

pub returns-clause-laws : goal.returns-clause-laws
returns-clause-laws g c now s = rests (volume_of s)
