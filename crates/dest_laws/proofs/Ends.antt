-- The ends of jobs: a stop, what is told of, a cancellation, and the end of clients.
use Rattle.std.proofs.Common.{◌≡◌, ℕ, zero, suc, arith, Bool, true, false, Option, Some, None, refl, ap}
use Rattle.dest_jobs.specs.Copying.{copied, decided, plan_of, refusal}
use Rattle.dest_jobs.specs.Ending.{at_next, end_all, end_from, end_if, ended, stop_told, takes}
use Rattle.dest_jobs.specs.Offloads.{after_cancel}
use Rattle.dest_jobs.specs.Progress.{reported_if, stopped_if}
use Rattle.dest_jobs.specs.declared.carried.Carried.{Carried}
use Rattle.dest_jobs.specs.declared.copies.Copies.{Copies}
use Rattle.dest_jobs.specs.declared.copying.CopyRoom.{CopyRoom}
use Rattle.dest_jobs.specs.declared.copying.Ends.{Ends}
use Rattle.copy_ops.specs.declared.args.CopyArgs.{CopyArgs}
use Rattle.copy_ops.specs.declared.results.CopyAnswer.{CopyAnswer}
use Rattle.dest_tasks.specs.Completing.{Accepts, Retires, Stops}
use Rattle.job_book.specs.Book.{BookView, client_of, id_of, next_name, retired}
use Rattle.job_table.specs.Table.{is_running}
use Rattle.job_table.specs.declared.job.Plan.{Plan}
use Rattle.nfs_base.specs.declared.job.JobName.{JobName}
use Rattle.nfs_base.specs.declared.job.Stop.{Stop}
use Rattle.nfs_base.specs.declared.job.Stop.TheVariants.{Cancelled}
use Rattle.nfs_base.specs.declared.limits.TheConstants.{MOST_JOBS}
use Rattle.nfs_base.specs.declared.status.Status.{Status}
use Rattle.dest_laws.specs.Deeds.{GoesWithin}
use Rattle.dest_laws.proofs.Joined.{both, none, one}

pub stop_does : (running : Bool) (cause : Stop) (job : JobName) (x : Copies) → GoesWithin 0 1 x.book (stopped_if running cause job x).book
stop_does true cause job x = one (Stops cause job) x.book (stopped_if true cause job x).book refl (omega arith) (omega arith)
stop_does false cause job x = none x.book x.book refl

pub report_does : (is_ended : Bool) (job : JobName) (x : Copies) → GoesWithin 0 0 x.book (reported_if is_ended job x).book
report_does true job x = one (Retires job) x.book (reported_if true job x).book refl (omega arith) (omega arith)
report_does false job x = none x.book x.book refl

-- ---- a job ends at once

same_book : (running : Bool) (cause : Stop) (job : JobName) (x : Copies) → (stop_told running cause job x).book ≡ x.book
same_book true cause job x = refl
same_book false cause job x = refl

end_does : (cause : Stop) (job : JobName) (x : Copies) → GoesWithin 0 0 x.book (ended cause job x).book
end_does cause job x =
    one (Retires job) x.book (ended cause job x).book (ap (λ (b : BookView). retired job b) (same_book (is_running x.book.table (id_of job)) cause job x)) (omega arith) (omega arith)

end_one_does : (ends : Bool) (cause : Stop) (job : JobName) (x : Copies) → GoesWithin 0 0 x.book (end_if ends cause job x).book
end_one_does true cause job x = end_does cause job x
end_one_does false cause job x = none x.book x.book refl

next_does : (next : Option JobName) (go : JobName → Copies → Copies) (x : Copies) → ((job : JobName) → GoesWithin 0 0 x.book (go job x).book)
    → GoesWithin 0 0 x.book (at_next next go x).book
next_does None go x does = none x.book x.book refl
next_does (Some job) go x does = does job

ends_do : (test : ℕ → Bool) (cause : Stop) (left after : ℕ) (x : Copies) → GoesWithin 0 0 x.book (end_from test cause left after x).book
unfolding end_from
ends_do test cause zero after x = none x.book x.book refl
ends_do test cause (suc left) after x =
    next_does (next_name x.book.table after)
    (λ name y. end_from test cause left name.number (end_if (takes test (client_of y.book.table name)) cause name y)) x
    (λ name.
    let y = end_if (takes test (client_of x.book.table name)) cause name x in
    both x.book y.book (end_from test cause left name.number y).book (end_one_does (takes test (client_of x.book.table name)) cause name x)
    (ends_do test cause left name.number y))

pub all_end_does : (test : ℕ → Bool) (cause : Stop) (x : Copies) → GoesWithin 0 0 x.book (end_all test cause x).book
all_end_does test cause x = ends_do test cause MOST_JOBS 0 x

pub cancel_does : (job : Option JobName) (x : Copies) → GoesWithin 0 0 x.book (after_cancel job x).book
cancel_does None x = none x.book x.book refl
cancel_does (Some job) x = end_does Cancelled job x

-- ---- a copy is taken

decided_does : (answer : Option CopyAnswer) (plan : Plan) (boot : ℕ) (x : Copies) → GoesWithin 1 0 x.book (decided answer plan boot x).0.book
decided_does (Some answer) plan boot x = none x.book x.book refl
decided_does None plan boot x = one (Accepts plan) x.book (decided None plan boot x).0.book refl (omega arith) (omega arith)

pub copy_does : (client : ℕ) (carry : Option Carried) (args : CopyArgs) (ends : Ends) (room : CopyRoom) (closed : Option Status) (boot : ℕ) (x : Copies)
    → GoesWithin 1 0 x.book (copied client carry args ends room closed boot x).0.book
copy_does client carry args ends room closed boot x =
    decided_does (refusal x.source.loc carry args closed) (plan_of client args ends room) boot x
