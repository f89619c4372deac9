-- By its own rules a destination takes copies and ends jobs, and does nothing else to them.
use Rattle.std.proofs.Common.{◌≡◌, ℕ, zero, suc, Bool, true, false, List, [], ◌∷◌, ◌++◌, Option, Some, None, Result, Ok, Err, refl, sym, ap, subst}
use Rattle.copy_ops.specs.declared.arg.CopyArg.{CopyArg}
use Rattle.copy_ops.specs.declared.arg.CopyArg.TheVariants as args
use Rattle.copy_ops.specs.declared.args.CopyArgs.{CopyArgs}
use Rattle.copy_ops.specs.declared.results.CopyAnswer.{CopyAnswer}
use Rattle.dest_back.specs.declared.callbacks.Party.{Party}
use Rattle.dest_core.specs.Copying.{copied_here, copy_between, ends_of, job_in, room_of, seated_for}
use Rattle.dest_core.specs.Core.{dest_rules}
use Rattle.dest_core.specs.Serving.{serves, stop_of}
use Rattle.dest_core.specs.declared.destination.Destination.{Destination}
use Rattle.dest_jobs.specs.Copying.{copied, decided, plan_of, refusal}
use Rattle.dest_jobs.specs.Ending.{at_next, end_all, end_from, end_if, ended, is_client, stop_told, takes}
use Rattle.dest_jobs.specs.Offloads.{after_cancel, own_job}
use Rattle.dest_jobs.specs.declared.carried.Carried.{Carried}
use Rattle.dest_jobs.specs.declared.copies.Copies.{Copies}
use Rattle.dest_jobs.specs.declared.copying.CopyRoom.{CopyRoom}
use Rattle.dest_jobs.specs.declared.copying.Ends.{Ends as Between}
use Rattle.dest_laws.specs.Histories.Kinds.{AreOf, GoesBy, is_taking}
use Rattle.dest_laws.specs.Own.Going.{TakesAlong}
use Rattle.dest_steps.specs.Copier.{at_seat}
use Rattle.dest_steps.specs.declared.copier.Copier.{Copier}
use Rattle.dest_tasks.specs.Completing.{Accepts, Comes, Deed, Does, Retires}
use Rattle.dest_tasks.specs.Seats.{free_seat}
use Rattle.file_server.specs.Answering.{meant_id, open_refusal}
use Rattle.file_server.specs.Machine.{Going}
use Rattle.file_server.specs.declared.extension.Caller.{Caller}
use Rattle.job_book.specs.Book.{BookView, client_of, id_of, next_name, retired}
use Rattle.job_table.specs.Table.{is_running}
use Rattle.job_table.specs.declared.job.Plan.{Plan}
use Rattle.nfs_base.specs.declared.job.JobName.{JobName}
use Rattle.nfs_base.specs.declared.job.Stop.{Stop}
use Rattle.nfs_base.specs.declared.job.Stop.TheVariants.{Cancelled}
use Rattle.nfs_base.specs.declared.limits.TheConstants.{MOST_JOBS}
use Rattle.nfs_base.specs.declared.status.Status.{Status}
use Rattle.own_laws.specs.Following.{FollowsIn}
use Rattle.server_volume.specs.Choices.{Choice}
use Rattle.state_ids.specs.declared.access.Access.TheVariants as access

pub after_those : (deeds more : List Deed) (b c d : BookView) → Comes deeds b c → Comes more c d → Comes (deeds ++ more) b d
unfolding Comes
after_those [] more b c d come rest = subst (λ (x : BookView). Comes more x d) come rest
after_those (deed ∷ deeds) more b c d come rest = (come.0, come.1, after_those deeds more come.0 c d come.2 rest)

module _ (kind : Deed → Bool) where
  abbrev Goes : BookView → BookView → Type 0
  Goes b c = GoesBy kind b c

  -- ---- deeds one after another

  pub none : (b c : BookView) → c ≡ b → Goes b c
  unfolding Comes
  none b c same = record { deeds = []; come = same; are = tt }

  pub one : (deed : Deed) (b c : BookView) → kind deed ≡ true → Does deed b c → Goes b c
  unfolding Comes
  one deed b c is done = record { deeds = deed ∷ []; come = (c, done, refl); are = (is, tt) }

  are_both : (deeds more : List Deed) → AreOf kind deeds → AreOf kind more → AreOf kind (deeds ++ more)
  are_both [] more first second = second
  are_both (deed ∷ deeds) more first second = (first.0, are_both deeds more first.1 second)

  pub both : (b c d : BookView) → Goes b c → Goes c d → Goes b d
  both b c d first second = record {
    deeds = first.deeds ++ second.deeds;
    come = after_those first.deeds second.deeds b c d first.come second.come;
    are = are_both first.deeds second.deeds first.are second.are;
  }

  -- ---- jobs end

  module _ (retires : (name : JobName) → kind (Retires name) ≡ true) where
    same_book : (running : Bool) (cause : Stop) (job : JobName) (x : Copies) → (stop_told running cause job x).book ≡ x.book
    same_book true cause job x = refl
    same_book false cause job x = refl

    ended_goes : (cause : Stop) (job : JobName) (x : Copies) → Goes x.book (ended cause job x).book
    ended_goes cause job x =
        one (Retires job) x.book (ended cause job x).book (retires job)
        (ap (λ (b : BookView). retired job b) (same_book (is_running x.book.table (id_of job)) cause job x))

    one_ends : (ends : Bool) (cause : Stop) (job : JobName) (x : Copies) → Goes x.book (end_if ends cause job x).book
    one_ends true cause job x = ended_goes cause job x
    one_ends false cause job x = none x.book x.book refl

    next_ends : (next : Option JobName) (go : JobName → Copies → Copies) (x : Copies) → ((job : JobName) → Goes x.book (go job x).book)
        → Goes x.book (at_next next go x).book
    next_ends None go x does = none x.book x.book refl
    next_ends (Some job) go x does = does job

    some_end : (test : ℕ → Bool) (cause : Stop) (left after : ℕ) (x : Copies) → Goes x.book (end_from test cause left after x).book
    unfolding end_from
    some_end test cause zero after x = none x.book x.book refl
    some_end test cause (suc left) after x =
        next_ends (next_name x.book.table after)
        (λ name y. end_from test cause left name.number (end_if (takes test (client_of y.book.table name)) cause name y)) x
        (λ name.
        let y = end_if (takes test (client_of x.book.table name)) cause name x in
        both x.book y.book (end_from test cause left name.number y).book (one_ends (takes test (client_of x.book.table name)) cause name x)
        (some_end test cause left name.number y))

    pub all_end : (test : ℕ → Bool) (cause : Stop) (x : Copies) → Goes x.book (end_all test cause x).book
    all_end test cause x = some_end test cause MOST_JOBS 0 x

    pub cancel_goes : (job : Option JobName) (x : Copies) → Goes x.book (after_cancel job x).book
    cancel_goes None x = none x.book x.book refl
    cancel_goes (Some job) x = ended_goes Cancelled job x

    -- ---- a copy is taken

    module _ (accepts : (plan : Plan) → kind (Accepts plan) ≡ true) where
      decided_goes : (answer : Option CopyAnswer) (plan : Plan) (boot : ℕ) (x : Copies) → Goes x.book (decided answer plan boot x).0.book
      decided_goes (Some answer) plan boot x = none x.book x.book refl
      decided_goes None plan boot x = one (Accepts plan) x.book (decided None plan boot x).0.book (accepts plan) refl

      pub copied_goes : (client : ℕ) (carry : Option Carried) (args : CopyArgs) (ends : Between) (room : CopyRoom) (closed : Option Status) (boot : ℕ) (x : Copies)
          → Goes x.book (copied client carry args ends room closed boot x).0.book
      copied_goes client carry args ends room closed boot x =
          decided_goes (refusal x.source.loc carry args closed) (plan_of client args ends room) boot x

-- ---- a seat changes no book

at_seat_keeps : (seat : Option ℕ) (job : JobName) (party : Party) (x : Copier) → (at_seat seat job party x).copies.book ≡ x.copies.book
at_seat_keeps None job party x = refl
at_seat_keeps (Some seat) job party x = refl

seated_keeps : (session : ℕ) (carry : Option Carried) (job : Option JobName) (x : Copier) → (seated_for session carry job x).copies.book ≡ x.copies.book
seated_keeps session None job x = refl
seated_keeps session (Some carried) None x = refl
seated_keeps session (Some carried) (Some job) x =
    at_seat_keeps (free_seat job.boot x.copies.book.table x.work.seats) job (record { session = session; key = carried.root }) x

-- ---- the operations

abbrev TakesIn : {M : Type 0} → Going (Destination M) → Going (Destination M) → Type 0
TakesIn g h = GoesBy is_taking g.machine.extra.copier.copies.book h.machine.extra.copier.copies.book

stays : {M : Type 0} (g : Going (Destination M)) → TakesIn g g
stays g = none is_taking g.machine.extra.copier.copies.book g.machine.extra.copier.copies.book refl

between_goes : {M : Type 0} (ends : Result Between Status) (caller : Caller) (carry : Option Carried) (a : CopyArgs) (room : CopyRoom) (g : Going (Destination M))
    → TakesIn g (copy_between ends caller carry a room g).going
between_goes (Err status) caller carry a room g = stays g
between_goes (Ok ends) caller carry a room g =
    let d = copied_here caller carry a ends room g in
    let x = g.machine.extra.copier in
    let y : Copier = record x { copies = d.0 } in
    subst (λ (b : BookView). GoesBy is_taking x.copies.book b) (sym (seated_keeps caller.session carry (job_in d.1) y))
    (copied_goes is_taking (λ name. refl) (λ plan. refl) caller.client carry a ends room
    (open_refusal g.machine.opens (meant_id g.held.id a.dst_id) ends.file access.Write) g.machine.store.volume.boot x.copies)

serve_goes : {M : Type 0} (choice : Choice) (caller : Caller) (carry : Option Carried) (op : CopyArg) (g : Going (Destination M))
    → TakesIn g (serves choice caller carry op g).going
unfolding serves
serve_goes choice caller carry (args.Copy a) g =
    between_goes (ends_of g.machine.store g.held.current g.held.saved) caller carry a (room_of carry a) g
serve_goes choice caller carry (args.CopyNotify a) g = stays g
serve_goes choice caller carry (args.OffloadCancel id) g =
    let x = g.machine.extra.copier.copies in cancel_goes is_taking (λ name. refl) (own_job x.book.table caller.client id) x
serve_goes choice caller carry (args.OffloadStatus id) g = stays g
serve_goes choice caller carry (args.Clone a) g = stays g

-- ---- all of its rules

pub follows : {M : Type 0} → FollowsIn {X = Destination M} {C = Carried} TakesAlong dest_rules
follows = record {
  same = λ x. none is_taking x.copier.copies.book x.copier.copies.book refl;
  joins = λ x y z. both is_taking x.copier.copies.book y.copier.copies.book z.copier.copies.book;
  gate = λ x caller carry ask. none is_taking x.copier.copies.book x.copier.copies.book refl;
  serve = serve_goes;
  leave = λ client why x. all_end is_taking (λ name. refl) (is_client client) (stop_of why) x.copier.copies;
  lapse = λ second x. none is_taking x.copier.copies.book x.copier.copies.book refl;
  silent = λ x. none is_taking x.copier.copies.book x.copier.copies.book refl;
}
