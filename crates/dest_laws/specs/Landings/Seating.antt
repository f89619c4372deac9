-- By its own rules a destination leaves its workers as they are, and what its mount awaits: a job that is accepted gets a seat, at
-- which nothing of the one before is left.
use Rattle.std.proofs.Common.{◌≡◌, ◌∙◌, ℕ, Option, Some, None, Result, Ok, Err, refl}
use Rattle.copy_ops.specs.declared.arg.CopyArg.{CopyArg}
use Rattle.copy_ops.specs.declared.arg.CopyArg.TheVariants as args
use Rattle.copy_ops.specs.declared.args.CopyArgs.{CopyArgs}
use Rattle.dest_back.specs.declared.callbacks.Party.{Party}
use Rattle.dest_core.specs.Core.{dest_rules}
use Rattle.dest_core.specs.Copying.{copied_here, copy_between, ends_of, job_in, room_of, seated_for}
use Rattle.dest_core.specs.Serving.{serves}
use Rattle.dest_core.specs.declared.destination.Destination.{Destination}
use Rattle.dest_jobs.specs.declared.carried.Carried.{Carried}
use Rattle.dest_jobs.specs.declared.copying.CopyRoom.{CopyRoom}
use Rattle.dest_jobs.specs.declared.copying.Ends.{Ends as Between}
use Rattle.dest_steps.specs.Copier.{at_seat}
use Rattle.dest_steps.specs.declared.copier.Copier.{Copier}
use Rattle.dest_tasks.specs.Seats.{free_seat}
use Rattle.file_server.specs.Machine.{Going}
use Rattle.file_server.specs.declared.extension.Caller.{Caller}
use Rattle.nfs_base.specs.declared.job.JobName.{JobName}
use Rattle.nfs_base.specs.declared.status.Status.{Status}
use Rattle.own_laws.specs.Following.{FollowsIn}
use Rattle.server_volume.specs.Choices.{Choice}

pub record SameWork (x y : Copier) : Type 0 where
  pub workers : y.work.workers ≡ x.work.workers
  pub places : y.work.mount.places ≡ x.work.mount.places

abbrev pub KeepsWork : {M : Type 0} → Destination M → Destination M → Type 0
KeepsWork x y = SameWork x.copier y.copier

pub same_work : (x : Copier) → SameWork x x
same_work x = record { workers = refl; places = refl }

pub joined_work : (x y z : Copier) → SameWork x y → SameWork y z → SameWork x z
joined_work x y z first second = record { workers = second.workers ∙ first.workers; places = second.places ∙ first.places }

seat_keeps : (seat : Option ℕ) (job : JobName) (party : Party) (x : Copier) → SameWork x (at_seat seat job party x)
seat_keeps None job party x = same_work x
seat_keeps (Some seat) job party x = record { workers = refl; places = refl }

seated_keeps : (session : ℕ) (carry : Option Carried) (job : Option JobName) (x : Copier) → SameWork x (seated_for session carry job x)
seated_keeps session None job x = same_work x
seated_keeps session (Some carried) None x = same_work x
seated_keeps session (Some carried) (Some job) x =
    seat_keeps (free_seat job.boot x.copies.book.table x.work.seats) job (record { session = session; key = carried.root }) x

abbrev KeepsIn : {M : Type 0} → Going (Destination M) → Going (Destination M) → Type 0
KeepsIn g h = SameWork g.machine.extra.copier h.machine.extra.copier

between_keeps : {M : Type 0} (ends : Result Between Status) (caller : Caller) (carry : Option Carried) (a : CopyArgs) (room : CopyRoom) (g : Going (Destination M))
    → KeepsIn g (copy_between ends caller carry a room g).going
between_keeps (Err status) caller carry a room g = same_work g.machine.extra.copier
between_keeps (Ok ends) caller carry a room g =
    let d = copied_here caller carry a ends room g in
    let x = g.machine.extra.copier in
    let y : Copier = record x { copies = d.0 } in
    joined_work x y (seated_for caller.session carry (job_in d.1) y) (record { workers = refl; places = refl }) (seated_keeps caller.session carry (job_in d.1) y)

serve_keeps : {M : Type 0} (choice : Choice) (caller : Caller) (carry : Option Carried) (op : CopyArg) (g : Going (Destination M))
    → KeepsIn g (serves choice caller carry op g).going
unfolding serves
serve_keeps choice caller carry (args.Copy a) g =
    between_keeps (ends_of g.machine.store g.held.current g.held.saved) caller carry a (room_of carry a) g
serve_keeps choice caller carry (args.CopyNotify a) g = same_work g.machine.extra.copier
serve_keeps choice caller carry (args.OffloadCancel id) g = record { workers = refl; places = refl }
serve_keeps choice caller carry (args.OffloadStatus id) g = same_work g.machine.extra.copier
serve_keeps choice caller carry (args.Clone a) g = same_work g.machine.extra.copier

-- ---- all of its rules

pub follows : {M : Type 0} → FollowsIn {X = Destination M} {C = Carried} KeepsWork dest_rules
follows = record {
  same = λ x. same_work x.copier;
  joins = λ x y z. joined_work x.copier y.copier z.copier;
  gate = λ x caller carry ask. same_work x.copier;
  serve = serve_keeps;
  leave = λ client why x. record { workers = refl; places = refl };
  lapse = λ second x. same_work x.copier;
  silent = λ x. record { workers = refl; places = refl };
}
