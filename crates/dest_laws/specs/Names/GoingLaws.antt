-- By its own rules a destination tells nobody anything: where a copy is taken, a new post awaits nothing.
use Rattle.std.proofs.Common.{◌≡◌, ◌⊎◌, inl, inr, ℕ, zero, suc, List, [], ◌∷◌, Option, Some, None, Result, Ok, Err, refl, sym, ap, ◌∙◌}
use Rattle.std.specs.Prelude.{slice_index_or, slice_set}
use Rattle.copy_ops.specs.declared.arg.CopyArg.{CopyArg}
use Rattle.copy_ops.specs.declared.arg.CopyArg.TheVariants as args
use Rattle.copy_ops.specs.declared.args.CopyArgs.{CopyArgs}
use Rattle.dest_back.specs.Callbacks.{CallbackTable, posted}
use Rattle.dest_back.specs.declared.callbacks.Awaiting.{Awaiting}
use Rattle.dest_back.specs.declared.callbacks.Party.{Party}
use Rattle.dest_back.specs.declared.callbacks.Post.{Post}
use Rattle.dest_back.specs.declared.compound.Ended.{Ended}
use Rattle.dest_core.specs.Copying.{copied_here, copy_between, ends_of, job_in, room_of, seated_for}
use Rattle.dest_core.specs.Core.{dest_rules}
use Rattle.dest_core.specs.Serving.{serves}
use Rattle.dest_core.specs.declared.destination.Destination.{Destination}
use Rattle.dest_jobs.specs.declared.carried.Carried.{Carried}
use Rattle.dest_jobs.specs.declared.copying.CopyRoom.{CopyRoom}
use Rattle.dest_jobs.specs.declared.copying.Ends.{Ends}
use Rattle.dest_laws.specs.Names.Going.{KeepsCallbacks, StaysTold}
use Rattle.dest_laws.specs.Names.Posts.{IsAwaited}
use Rattle.dest_steps.specs.Copier.{at_seat}
use Rattle.dest_steps.specs.declared.copier.Copier.{Copier}
use Rattle.dest_tasks.specs.Seats.{free_seat}
use Rattle.file_server.specs.Machine.{Going}
use Rattle.file_server.specs.declared.extension.Caller.{Caller}
use Rattle.nfs_base.specs.declared.job.JobName.{JobName}
use Rattle.nfs_base.specs.declared.status.Status.{Status}
use Rattle.own_laws.specs.Following.{FollowsIn}
use Rattle.server_volume.specs.Choices.{Choice}

pub same_told : (c : CallbackTable) → StaysTold c c
same_told c = record { told = λ told is. is; lines = refl }

pub both_told : (b c d : CallbackTable) → StaysTold b c → StaysTold c d → StaysTold b d
both_told b c d first second = record { told = λ told is. first.told told (second.told told is); lines = second.lines ∙ first.lines }

-- ---- a post where nobody is told yet

-- at a place of a list stands what was set somewhere, or what stood there
pub set_gives : {A : Type 0} (xs : List A) (i j : ℕ) (v d : A) → (slice_index_or (slice_set xs i v) j d ≡ v) ⊎ (slice_index_or (slice_set xs i v) j d ≡ slice_index_or xs j d)
set_gives [] i j v d = inr refl
set_gives (x ∷ xs) zero zero v d = inl refl
set_gives (x ∷ xs) zero (suc j) v d = inr refl
set_gives (x ∷ xs) (suc i) zero v d = inr refl
set_gives (x ∷ xs) (suc i) (suc j) v d = set_gives xs i j v d

no_post : (p q : Post) (a : Awaiting) → ◌≡◌ {A = Option Post} (Some p) (Some q) → p.awaiting ≡ None → q.awaiting ≡ Some a → ⊥
no_post p q a same none some =
    let is : p ≡ q = cc in
    let both : ◌≡◌ {A = Option Awaiting} None (Some a) = sym none ∙ (ap (λ (x : Post). x.awaiting) is ∙ some) in
    absurd cc

posted_told : (seat job : ℕ) (party : Party) (c : CallbackTable) → StaysTold c (posted seat job party c)
posted_told seat job party c = record { told = before; lines = refl }
  where
    new : Post
    new = record { job = job; party = party; awaiting = None }

    before : (told : Ended) → IsAwaited (posted seat job party c) told → IsAwaited c told
    before told is =
        elim (set_gives c.posts seat is.seat (Some new) None) [
          | inl here ↦ absurd (no_post new is.post is.awaiting (sym here ∙ is.there) refl is.awaits)
          | inr old ↦ record { seat = is.seat; post = is.post; awaiting = is.awaiting; there = sym old ∙ is.there; awaits = is.awaits; told_is = is.told_is }
        ]

seat_told : (seat : Option ℕ) (job : JobName) (party : Party) (x : Copier) → StaysTold x.back (at_seat seat job party x).back
seat_told None job party x = same_told x.back
seat_told (Some seat) job party x = posted_told seat job.number party x.back

seated_told : (session : ℕ) (carry : Option Carried) (job : Option JobName) (x : Copier) → StaysTold x.back (seated_for session carry job x).back
seated_told session None job x = same_told x.back
seated_told session (Some carried) None x = same_told x.back
seated_told session (Some carried) (Some job) x =
    seat_told (free_seat job.boot x.copies.book.table x.work.seats) job (record { session = session; key = carried.root }) x

-- ---- the operations

abbrev Keeps : {M : Type 0} → Going (Destination M) → Going (Destination M) → Type 0
Keeps g h = StaysTold g.machine.extra.copier.back h.machine.extra.copier.back

between_told : {M : Type 0} (ends : Result Ends Status) (caller : Caller) (carry : Option Carried) (a : CopyArgs) (room : CopyRoom) (g : Going (Destination M))
    → Keeps g (copy_between ends caller carry a room g).going
between_told (Err status) caller carry a room g = same_told g.machine.extra.copier.back
between_told (Ok ends) caller carry a room g =
    let d = copied_here caller carry a ends room g in
    seated_told caller.session carry (job_in d.1) (record g.machine.extra.copier { copies = d.0 })

serve_told : {M : Type 0} (choice : Choice) (caller : Caller) (carry : Option Carried) (op : CopyArg) (g : Going (Destination M)) → Keeps g (serves choice caller carry op g).going
unfolding serves
serve_told choice caller carry (args.Copy a) g = between_told (ends_of g.machine.store g.held.current g.held.saved) caller carry a (room_of carry a) g
serve_told choice caller carry (args.CopyNotify a) g = same_told g.machine.extra.copier.back
serve_told choice caller carry (args.OffloadCancel id) g = same_told g.machine.extra.copier.back
serve_told choice caller carry (args.OffloadStatus id) g = same_told g.machine.extra.copier.back
serve_told choice caller carry (args.Clone a) g = same_told g.machine.extra.copier.back

-- ---- all of its rules

pub follows : {M : Type 0} → FollowsIn {X = Destination M} {C = Carried} KeepsCallbacks dest_rules
follows = record {
  same = λ x. same_told x.copier.back;
  joins = λ x y z. both_told x.copier.back y.copier.back z.copier.back;
  gate = λ x caller carry ask. same_told x.copier.back;
  serve = serve_told;
  leave = λ client why x. same_told x.copier.back;
  lapse = λ second x. same_told x.copier.back;
  silent = λ x. same_told x.copier.back;
}
