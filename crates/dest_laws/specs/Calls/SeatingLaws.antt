-- By its own rules a destination seats jobs, and does nothing else as a caller of its source.
use Rattle.std.specs.Prelude.{◌≡◌, ℕ, List, [], ◌∷◌, ◌++◌, Option, Some, None, Result, Ok, Err, refl}
use Rattle.std.proofs.Common.{◌∙◌, sym, ap}
use Rattle.copy_ops.specs.declared.arg.CopyArg.{CopyArg}
use Rattle.copy_ops.specs.declared.arg.CopyArg.TheVariants as args
use Rattle.copy_ops.specs.declared.args.CopyArgs.{CopyArgs}
use Rattle.dest_back.specs.Callbacks.{CallbackTable, posted}
use Rattle.dest_back.specs.declared.callbacks.Party.{Party}
use Rattle.dest_core.specs.Copying.{copied_here, copy_between, ends_of, job_in, room_of, seated_for}
use Rattle.dest_core.specs.Core.{dest_rules}
use Rattle.dest_core.specs.Serving.{serves}
use Rattle.dest_core.specs.declared.destination.Destination.{Destination}
use Rattle.dest_jobs.specs.declared.carried.Carried.{Carried}
use Rattle.dest_jobs.specs.declared.copying.CopyRoom.{CopyRoom}
use Rattle.dest_jobs.specs.declared.copying.Ends.{Ends as Between}
use Rattle.dest_laws.specs.Calls.Seating.{Seating, Seats, SeatsAlong, seats_forgotten, seats_posted}
use Rattle.dest_steps.specs.Copier.{at_seat}
use Rattle.dest_steps.specs.declared.copier.Copier.{Copier}
use Rattle.dest_tasks.specs.Seats.{free_seat}
use Rattle.file_server.specs.Machine.{Going}
use Rattle.file_server.specs.declared.extension.Caller.{Caller}
use Rattle.mount.specs.Falling.{forgotten}
use Rattle.mount.specs.State.{Mounted}
use Rattle.nfs_base.specs.declared.job.JobName.{JobName}
use Rattle.nfs_base.specs.declared.status.Status.{Status}
use Rattle.own_laws.specs.Following.{FollowsIn}
use Rattle.server_volume.specs.Choices.{Choice}

forgotten_both : (xs ys : List Seating) (m : Mounted) → seats_forgotten (xs ++ ys) m ≡ seats_forgotten ys (seats_forgotten xs m)
forgotten_both [] ys m = refl
forgotten_both (x ∷ xs) ys m = forgotten_both xs ys (forgotten x.seat m)

posted_both : (xs ys : List Seating) (c : CallbackTable) → seats_posted (xs ++ ys) c ≡ seats_posted ys (seats_posted xs c)
posted_both [] ys c = refl
posted_both (x ∷ xs) ys c = posted_both xs ys (posted x.seat x.job x.party c)

stays : (x : Copier) → Seats x x
stays x = record { seated = []; mount = refl; back_is = refl; workers = refl; principal = refl }

both : (x y z : Copier) → Seats x y → Seats y z → Seats x z
both x y z first second = record {
  seated = first.seated ++ second.seated;
  mount = second.mount ∙ ap (seats_forgotten second.seated) first.mount ∙ sym (forgotten_both first.seated second.seated x.work.mount);
  back_is = second.back_is ∙ ap (seats_posted second.seated) first.back_is ∙ sym (posted_both first.seated second.seated x.back);
  workers = second.workers ∙ first.workers;
  principal = second.principal ∙ first.principal;
}

at_seat_seats : (seat : Option ℕ) (job : JobName) (party : Party) (x : Copier) → Seats x (at_seat seat job party x)
at_seat_seats None job party x = stays x
at_seat_seats (Some seat) job party x =
    record { seated = (record { seat = seat; job = job.number; party = party }) ∷ []; mount = refl; back_is = refl; workers = refl; principal = refl }

seated_seats : (session : ℕ) (carry : Option Carried) (job : Option JobName) (x : Copier) → Seats x (seated_for session carry job x)
seated_seats session None job x = stays x
seated_seats session (Some carried) None x = stays x
seated_seats session (Some carried) (Some job) x =
    at_seat_seats (free_seat job.boot x.copies.book.table x.work.seats) job (record { session = session; key = carried.root }) x

-- ---- the operations

abbrev SeatsIn : {M : Type 0} → Going (Destination M) → Going (Destination M) → Type 0
SeatsIn g h = SeatsAlong g.machine.extra h.machine.extra

between_seats : {M : Type 0} (ends : Result Between Status) (caller : Caller) (carry : Option Carried) (a : CopyArgs) (room : CopyRoom) (g : Going (Destination M))
    → SeatsIn g (copy_between ends caller carry a room g).going
between_seats (Err status) caller carry a room g = record { seats = stays g.machine.extra.copier; mech = refl }
between_seats (Ok ends) caller carry a room g =
    let d = copied_here caller carry a ends room g in
    let x = g.machine.extra.copier in
    let y : Copier = record x { copies = d.0 } in
    record {
      seats =
          both x y (seated_for caller.session carry (job_in d.1) y) (record { seated = []; mount = refl; back_is = refl; workers = refl; principal = refl })
          (seated_seats caller.session carry (job_in d.1) y);
      mech = refl;
    }

serve_seats : {M : Type 0} (choice : Choice) (caller : Caller) (carry : Option Carried) (op : CopyArg) (g : Going (Destination M))
    → SeatsIn g (serves choice caller carry op g).going
unfolding serves
serve_seats choice caller carry (args.Copy a) g =
    between_seats (ends_of g.machine.store g.held.current g.held.saved) caller carry a (room_of carry a) g
serve_seats choice caller carry (args.CopyNotify a) g = record { seats = stays g.machine.extra.copier; mech = refl }
serve_seats choice caller carry (args.OffloadCancel id) g =
    record { seats = record { seated = []; mount = refl; back_is = refl; workers = refl; principal = refl }; mech = refl }
serve_seats choice caller carry (args.OffloadStatus id) g = record { seats = stays g.machine.extra.copier; mech = refl }
serve_seats choice caller carry (args.Clone a) g = record { seats = stays g.machine.extra.copier; mech = refl }

-- ---- all of its rules

pub follows : {M : Type 0} → FollowsIn {X = Destination M} {C = Carried} SeatsAlong dest_rules
follows = record {
  same = λ x. record { seats = stays x.copier; mech = refl };
  joins = λ x y z first second. record { seats = both x.copier y.copier z.copier first.seats second.seats; mech = second.mech ∙ first.mech };
  gate = λ x caller carry ask. record { seats = stays x.copier; mech = refl };
  serve = serve_seats;
  leave = λ client why x. record { seats = record { seated = []; mount = refl; back_is = refl; workers = refl; principal = refl }; mech = refl };
  lapse = λ second x. record { seats = stays x.copier; mech = refl };
  silent = λ x. record { seats = record { seated = []; mount = refl; back_is = refl; workers = refl; principal = refl }; mech = refl };
}
