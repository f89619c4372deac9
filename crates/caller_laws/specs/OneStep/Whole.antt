-- A step of a machine that is above a mount: what it does there is a run of the mount's steps, and the rest is nothing to the server.
use Rattle.std.specs.Prelude.{◌≡◌, List, ◌++◌}
use Rattle.caller_laws.specs.Good.{Identity, IsGood}
use Rattle.caller_laws.specs.OneStep.Besides.{AreBesides, IsTakenSo, Stays}
use Rattle.caller_laws.specs.OneStep.Order.{IsOrdered}
use Rattle.caller_laws.specs.OneStep.Runs.{IsRun, MountStep, whole}
use Rattle.caller_laws.specs.View.{Above, caller_of}
use Rattle.mount.specs.State.{Mounted}
use Rattle.mount.specs.Taking.{Means}
use Rattle.wire_model.specs.CallerLaws.{CallerLaws}
use Rattle.wire_model.specs.Wire.{Acts, Sent}
use Rattle.wire_spelling.specs.Spelling.{spelling}

-- All that the machine took and sent is shown. Behind the run nothing of the mount changes, but calls to others are counted.
pub record IsWholeStep (who : Identity) (means : Means) (a b : Above) (m n : Mounted) (shown : Acts) : Type 0 where
  pub steps : List MountStep
  pub middle : Above
  pub run : IsRun who means steps a m middle n
  pub ordered : IsOrdered means steps m
  pub besides : List Sent
  pub stays : Stays (caller_of middle n) (caller_of b n)
  pub takes : IsTakenSo (spelling who.accepts who.whose) m.server (caller_of a m) (whole means steps m) shown
  pub out : shown.out ≡ (whole means steps m).out ++ besides
  pub are : AreBesides (spelling who.accepts who.whose) m.server middle.calls besides b.calls

-- It obeys the laws of its server's wire, and leaves the mount as it should be.
pub record IsLawfulStep (who : Identity) (a b : Above) (m n : Mounted) (shown : Acts) : Type 0 where
  pub laws : CallerLaws (spelling who.accepts who.whose) m.server who.own (caller_of a m) (caller_of b n) shown
  pub good : IsGood who n
  pub server : n.server ≡ m.server
