-- The operations of a destination make no call on its volume: what a job lands, it lands between them.
use Rattle.std.specs.Prelude.{Option, Result, Ok, Err, refl}
use Rattle.commit_laws.specs.Calling.{CameByCalls}
use Rattle.commit_laws.specs.CallLaws.{by_none}
use Rattle.compound_server.specs.Serves.{Served}
use Rattle.copy_ops.specs.declared.arg.CopyArg.{CopyArg}
use Rattle.copy_ops.specs.declared.arg.CopyArg.TheVariants as args
use Rattle.copy_ops.specs.declared.args.CopyArgs.{CopyArgs}
use Rattle.dest_jobs.specs.declared.carried.Carried.{Carried}
use Rattle.dest_jobs.specs.declared.copying.CopyRoom.{CopyRoom}
use Rattle.dest_jobs.specs.declared.copying.Ends.{Ends}
use Rattle.file_server.specs.Machine.{Going}
use Rattle.file_server.specs.declared.extension.Caller.{Caller}
use Rattle.nfs_base.specs.declared.status.Status.{Status}
use Rattle.server_volume.specs.Choices.{Choice}
use Rattle.dest_core.specs.Copying.{copy_between, ends_of, room_of}
use Rattle.dest_core.specs.Serving.{serves}
use Rattle.dest_core.specs.declared.destination.Destination.{Destination}

abbrev Stays : {M : Type 0} → Going (Destination M) → Served (Destination M) → Type 0
Stays g s = CameByCalls g.machine.store s.going.machine.store g.used s.going.used

between_stays : {M : Type 0} (ends : Result Ends Status) (caller : Caller) (carry : Option Carried) (asked : CopyArgs) (room : CopyRoom) (g : Going (Destination M))
    → Stays g (copy_between ends caller carry asked room g)
between_stays (Err status) caller carry asked room g = by_none _ _ _ _ refl refl
between_stays (Ok ends) caller carry asked room g = by_none _ _ _ _ refl refl

pub serves_by_calls : {M : Type 0} (choice : Choice) (caller : Caller) (carry : Option Carried) (op : CopyArg) (g : Going (Destination M)) → Stays g (serves choice caller carry op g)
unfolding serves
serves_by_calls choice caller carry (args.Copy a) g =
    between_stays (ends_of g.machine.store g.held.current g.held.saved) caller carry a (room_of carry a) g
serves_by_calls choice caller carry (args.CopyNotify a) g = by_none _ _ _ _ refl refl
serves_by_calls choice caller carry (args.OffloadCancel id) g = by_none _ _ _ _ refl refl
serves_by_calls choice caller carry (args.OffloadStatus id) g = by_none _ _ _ _ refl refl
serves_by_calls choice caller carry (args.Clone a) g = by_none _ _ _ _ refl refl
