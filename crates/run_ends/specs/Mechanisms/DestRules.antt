-- By its own rules a destination keeps its mechanism.
use Rattle.std.specs.Prelude.{◌≡◌, Option, Result, Ok, Err, refl}
use Rattle.std.proofs.Common.{◌∙◌}
use Rattle.copy_ops.specs.declared.arg.CopyArg.{CopyArg}
use Rattle.copy_ops.specs.declared.arg.CopyArg.TheVariants as args
use Rattle.copy_ops.specs.declared.args.CopyArgs.{CopyArgs}
use Rattle.dest_core.specs.Copying.{copy_between, ends_of, room_of}
use Rattle.dest_core.specs.Core.{dest_rules}
use Rattle.dest_core.specs.Serving.{serves}
use Rattle.dest_core.specs.declared.destination.Destination.{Destination}
use Rattle.dest_jobs.specs.declared.carried.Carried.{Carried}
use Rattle.dest_jobs.specs.declared.copying.CopyRoom.{CopyRoom}
use Rattle.dest_jobs.specs.declared.copying.Ends.{Ends}
use Rattle.file_server.specs.Machine.{Going}
use Rattle.file_server.specs.declared.extension.Caller.{Caller}
use Rattle.nfs_base.specs.declared.status.Status.{Status}
use Rattle.own_laws.specs.Following.{FollowsIn}
use Rattle.run_ends.specs.Mechanisms.Mechanisms.{SameDest}
use Rattle.server_volume.specs.Choices.{Choice}

abbrev Stays : {M : Type 0} → Going (Destination M) → Going (Destination M) → Type 0
Stays g h = SameDest g.machine.extra h.machine.extra

between_same : {M : Type 0} (ends : Result Ends Status) (caller : Caller) (carry : Option Carried) (a : CopyArgs) (room : CopyRoom) (g : Going (Destination M))
    → Stays g (copy_between ends caller carry a room g).going
between_same (Err status) caller carry a room g = refl
between_same (Ok ends) caller carry a room g = refl

serve_same : {M : Type 0} (choice : Choice) (caller : Caller) (carry : Option Carried) (op : CopyArg) (g : Going (Destination M))
    → Stays g (serves choice caller carry op g).going
unfolding serves
serve_same choice caller carry (args.Copy a) g =
    between_same (ends_of g.machine.store g.held.current g.held.saved) caller carry a (room_of carry a) g
serve_same choice caller carry (args.CopyNotify a) g = refl
serve_same choice caller carry (args.OffloadCancel id) g = refl
serve_same choice caller carry (args.OffloadStatus id) g = refl
serve_same choice caller carry (args.Clone a) g = refl

-- ---- in all of its rules

pub follows : {M : Type 0} → FollowsIn {X = Destination M} {C = Carried} SameDest dest_rules
follows = record {
  same = λ x. refl;
  joins = λ x y z first second. second ∙ first;
  gate = λ x caller carry ask. refl;
  serve = serve_same;
  leave = λ client why x. refl;
  lapse = λ second x. refl;
  silent = λ x. refl;
}
