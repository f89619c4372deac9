-- A destination's own operations make no call on its volume.
use Rattle.std.proofs.Common.{◌≡◌, Option, Result, Ok, Err, refl}
use Rattle.copy_ops.specs.declared.arg.CopyArg.{CopyArg}
use Rattle.copy_ops.specs.declared.arg.CopyArg.TheVariants as args
use Rattle.copy_ops.specs.declared.args.CopyArgs.{CopyArgs}
use Rattle.compound_server.specs.Serves.{Served}
use Rattle.dest_core.specs.Copying.{copy_between, ends_of, room_of}
use Rattle.dest_core.specs.Core.{dest_rules}
use Rattle.dest_core.specs.Serving.{serves}
use Rattle.dest_core.specs.declared.destination.Destination.{Destination}
use Rattle.dest_jobs.specs.declared.carried.Carried.{Carried}
use Rattle.dest_jobs.specs.declared.copying.CopyRoom.{CopyRoom}
use Rattle.dest_jobs.specs.declared.copying.Ends.{Ends}
use Rattle.file_server.specs.Machine.{Going}
use Rattle.file_server.specs.declared.extension.Caller.{Caller}
use Rattle.nfs_base.specs.declared.status.Status.{Status}
use Rattle.server_volume.specs.Choices.{Choice}
use Rattle.tell_laws.specs.Volumes.{CallsNone}

-- the calls are those before
abbrev Keeps : {M : Type 0} → Going (Destination M) → Served (Destination M) → Type 0
Keeps g s = s.going.used ≡ g.used

between_keeps : {M : Type 0} (ends : Result Ends Status) (caller : Caller) (carry : Option Carried) (a : CopyArgs) (room : CopyRoom) (g : Going (Destination M))
    → Keeps g (copy_between ends caller carry a room g)
between_keeps (Err status) caller carry a room g = refl
between_keeps (Ok ends) caller carry a room g = refl

serves_none : {M : Type 0} (choice : Choice) (caller : Caller) (carry : Option Carried) (op : CopyArg) (g : Going (Destination M))
    → Keeps g (serves choice caller carry op g)
unfolding serves
serves_none choice caller carry (args.Copy a) g = between_keeps (ends_of g.machine.store g.held.current g.held.saved) caller carry a (room_of carry a) g
serves_none choice caller carry (args.CopyNotify a) g = refl
serves_none choice caller carry (args.OffloadCancel id) g = refl
serves_none choice caller carry (args.OffloadStatus id) g = refl
serves_none choice caller carry (args.Clone a) g = refl

pub calls_none : {M : Type 0} → CallsNone (dest_rules {M = M})
calls_none {M} = serves_none {M = M}
