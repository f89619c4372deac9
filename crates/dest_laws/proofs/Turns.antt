-- What is due in a worker's turn claims the chunk that is asked for, and no other.
use Rattle.std.proofs.Common.{◌≡◌, ℕ, arith, Bool, true, false, List, Option, Some, None, refl, sym, ap}
use Rattle.std.specs.Prelude.{if◌then◌else◌, is_some}
use Rattle.dest_tasks.specs.Completing.{Claims, GivesBack}
use Rattle.dest_tasks.specs.Posts.{holds, post_at}
use Rattle.dest_tasks.specs.Tasks.{after_task, task_from}
use Rattle.dest_tasks.specs.declared.tasks.Sight.{Sight}
use Rattle.dest_tasks.specs.declared.tasks.Task.{Task}
use Rattle.dest_tasks.specs.declared.tasks.Task.TheVariants as tasks
use Rattle.dest_work.specs.Work.{by_task, claim_kept, is_asked, next_turn, read, sight_at, task_at, turn, turn_by}
use Rattle.dest_work.specs.declared.work.Due.{Due}
use Rattle.dest_work.specs.declared.work.Work.{Work}
use Rattle.gss_ctx.specs.Seals.{Mic}
use Rattle.job_book.specs.Book.{BookView, named}
use Rattle.job_book.specs.Working.{claimed, next_chunk, with_its}
use Rattle.job_log.specs.Log.{given_back}
use Rattle.job_log.specs.declared.chunk.Chunk.{Chunk}
use Rattle.mount.specs.State.{awaited_at, has_numbers}
use Rattle.mount.specs.declared.machine.SendAt.{SendAt}
use Rattle.nfs_base.specs.declared.job.JobName.{JobName}
use Rattle.nfs_base.specs.declared.limits.TheConstants.{MOST_JOBS}
use Rattle.sess_slots.specs.Table.{SessionTable}
use Rattle.dest_laws.specs.Deeds.{GoesWithin}
use Rattle.dest_laws.proofs.Joined.{both, none, one}

-- the law of dest_tasks
abbrev pub ChunksAreNext : Type 0
ChunksAreNext = (see : JobName → Sight) (left after : ℕ) (b : BookView) (name : JobName) (chunk : Chunk) → task_from see left after b ≡ Some (tasks.Read name chunk)
    → next_chunk (named b.table name) ≡ Some chunk

kept_does : (asked : Bool) (name : JobName) (chunk : Chunk) (b : BookView) → GoesWithin 0 0 b (if asked then b else with_its name (λ log. given_back log chunk) b)
kept_does true name chunk b = none b b refl
kept_does false name chunk b = one (GivesBack name chunk) b (with_its name (λ log. given_back log chunk) b) refl (omega arith) (omega arith)

claim_does : (due : Due) (name : JobName) (chunk : Chunk) (b : BookView) → next_chunk (named b.table name) ≡ Some chunk
    → GoesWithin 0 0 b (claim_kept due name chunk (claimed (Some chunk) name b))
claim_does due name chunk b next =
    let c = claimed (Some chunk) name b in
    both b c (claim_kept due name chunk c) (one (Claims name) b c (ap (λ (o : Option Chunk). claimed o name b) (sym next)) (omega arith) (omega arith)) (kept_does (is_asked due) name chunk c)

task_does : (mic : Mic) (at : SendAt) (me : List ℕ) (task : Option Task) (w : Work) (b : BookView)
    → ((name : JobName) (chunk : Chunk) → task ≡ Some (tasks.Read name chunk) → next_chunk (named b.table name) ≡ Some chunk)
    → GoesWithin 0 0 b (by_task mic at me task w (after_task task b)).book
task_does mic at me None w b next = none b b refl
task_does mic at me (Some (tasks.Setup job)) w b next = none b b refl
task_does mic at me (Some (tasks.Confirm job)) w b next = none b b refl
task_does mic at me (Some (tasks.Size job)) w b next = none b b refl
task_does mic at me (Some (tasks.Read job chunk)) w b next =
    claim_does (read mic at job chunk (claimed (Some chunk) job b) w).0 job chunk b (next job chunk refl)
task_does mic at me (Some (tasks.Commit job)) w b next = none b b refl

next_does : (left : Bool) (mic : Mic) (at : SendAt) (me : List ℕ) (task : Option Task) (w : Work) (b : BookView)
    → ((name : JobName) (chunk : Chunk) → task ≡ Some (tasks.Read name chunk) → next_chunk (named b.table name) ≡ Some chunk)
    → GoesWithin 0 0 b (next_turn left mic at me task w b).book
next_does true mic at me task w b next = task_does mic at me task w b next
next_does false mic at me task w b next = none b b refl

by_does : (awaits holding left : Bool) (mic : Mic) (at : SendAt) (me : List ℕ) (task : Option Task) (w : Work) (b : BookView)
    → ((name : JobName) (chunk : Chunk) → task ≡ Some (tasks.Read name chunk) → next_chunk (named b.table name) ≡ Some chunk)
    → GoesWithin 0 0 b (turn_by awaits holding left mic at me task w b).book
by_does true holding left mic at me task w b next = none b b refl
by_does false true left mic at me task w b next = none b b refl
by_does false false left mic at me task w b next = next_does left mic at me task w b next

pub due_does : ChunksAreNext → (mic : Mic) (at : SendAt) (me : List ℕ) (sessions : SessionTable) (w : Work) (b : BookView)
    → GoesWithin 0 0 b (turn mic at me sessions w b).book
due_does law mic at me sessions w b =
    by_does (is_some (awaited_at w.mount at.place)) (holds (post_at w.workers at.place)) (has_numbers w.mount.standing at.place) mic at me (task_at sessions at.now w b) w b
    (λ name chunk is. law (sight_at sessions at.now w b.table) MOST_JOBS 0 b name chunk is)
