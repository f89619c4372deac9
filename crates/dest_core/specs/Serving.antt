-- The operations of a copy at a destination, and what ends with time and with clients. RFC 7862 sections 15.2, 15.8 and
-- 15.9.
use Rattle.std.specs.Prelude.{◌≡◌, ℕ, Option, Some}
use Rattle.compound_server.specs.Serves.{Served, served}
use Rattle.compound_server.specs.declared.client_end.ClientEnd.{ClientEnd}
use Rattle.compound_server.specs.declared.client_end.ClientEnd.TheVariants.{Lapsed, Gone}
use Rattle.copy_ops.specs.declared.arg.CopyArg.{CopyArg}
use Rattle.copy_ops.specs.declared.arg.CopyArg.TheVariants as args
use Rattle.copy_ops.specs.declared.res.CopyRes.TheVariants as results
use Rattle.dest_jobs.specs.Ending as ending
use Rattle.dest_jobs.specs.declared.carried.Carried.{Carried}
use Rattle.dest_jobs.specs.declared.copying.CopyRoom.{CopyRoom}
use Rattle.file_server.specs.Machine.{Going}
use Rattle.file_server.specs.declared.extension.Caller.{Caller}
use Rattle.nfs_base.specs.declared.answer.Answer.TheVariants.{Refused}
use Rattle.nfs_base.specs.declared.job.Stop.{Stop}
use Rattle.nfs_base.specs.declared.job.Stop.TheVariants.{ClientGone, LeaseExpired}
use Rattle.nfs_base.specs.declared.status.TheConstants.Status.{NOTSUPP}
use Rattle.server_volume.specs.Choices.{Choice}
use Rattle.dest_core.specs.Copying.{copy, offload_cancel, offload_status, room_of}
use Rattle.dest_core.specs.declared.destination.Destination.{Destination}

unfoldable pub serves : {M : Type 0} → Choice → Caller → Option Carried → CopyArg → Going (Destination M) → Served (Destination M)
serves choice caller carry (args.Copy a) g = copy caller carry a g
serves choice caller carry (args.CopyNotify a) g = served g (results.CopyNotify (Refused NOTSUPP))
serves choice caller carry (args.OffloadCancel id) g = offload_cancel caller.client id g
serves choice caller carry (args.OffloadStatus id) g = offload_status caller.client id g
serves choice caller carry (args.Clone a) g = served g (results.Clone NOTSUPP)

-- the memory that was taken for an operation: COPY wants what a job keeps
abbrev pub suits : Option CopyRoom → Option Carried → CopyArg → Type 0
suits room carry (args.Copy a) = room ≡ Some (room_of carry a)
suits room carry _ = Unit {0}

-- a client's jobs end with it, as by its lease where that made it end
abbrev pub stop_of : ClientEnd → Stop
stop_of Lapsed = LeaseExpired
stop_of Gone = ClientGone

abbrev pub leaves : {M : Type 0} → (client : ℕ) → ClientEnd → Destination M → Destination M
leaves client why x = record x { copier = record x.copier { copies = ending.leaves client (stop_of why) x.copier.copies } }

-- a second alone ends nothing; leases end where the server itself goes through its jobs
abbrev pub lapses : {M : Type 0} → (second : ℕ) → Destination M → Destination M
lapses second x = x

abbrev pub given : {M : Type 0} → Destination M → ℕ
given x = x.copier.copies.book.table.made
