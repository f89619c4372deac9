-- Nothing lands by a worker's turn: a chunk is claimed, or given back.
use Rattle.std.proofs.Common.{◌≡◌, ℕ, Bool, true, false, if◌then◌else◌, List, is_some, Option, Some, None, refl, ◌∙◌}
use Rattle.copy_model.specs.Job.{landed_bytes}
use Rattle.dest_jobs.specs.BytesLaws.{its_keep_bytes}
use Rattle.dest_jobs.specs.Counting.{bytes_of}
use Rattle.dest_tasks.specs.declared.tasks.Task.{Task}
use Rattle.dest_tasks.specs.declared.tasks.Task.TheVariants as tasks
use Rattle.dest_tasks.specs.Posts.{holds, post_at}
use Rattle.dest_tasks.specs.Tasks.{after_task}
use Rattle.dest_work.specs.Work.{by_task, is_asked, next_turn, task_at, turn, turn_by}
use Rattle.dest_work.specs.declared.work.Work.{Work}
use Rattle.gss_ctx.specs.Seals.{Mic}
use Rattle.job_book.specs.Book.{BookView}
use Rattle.job_book.specs.Working.{with_its}
use Rattle.job_log.specs.Log.{JobView, given_back, is_claimed, with_claim}
use Rattle.job_log.specs.declared.chunk.Chunk.{Chunk}
use Rattle.mount.specs.State.{awaited_at, has_numbers}
use Rattle.mount.specs.declared.machine.SendAt.{SendAt}
use Rattle.nfs_base.specs.declared.job.JobName.{JobName}
use Rattle.sess_slots.specs.Table.{SessionTable}

claims_none : (task : Option Task) (b : BookView) → bytes_of (after_task task b) ≡ bytes_of b
claims_none None b = refl
claims_none (Some (tasks.Setup job)) b = refl
claims_none (Some (tasks.Confirm job)) b = refl
claims_none (Some (tasks.Size job)) b = refl
claims_none (Some (tasks.Read job chunk)) b = its_keep_bytes job (λ log. with_claim log chunk true) b (λ log. refl)
claims_none (Some (tasks.Commit job)) b = refl

given_at : (claimed : Bool) (log : JobView) (chunk : Chunk)
    → landed_bytes (if claimed then with_claim log chunk false else log).entries ≡ landed_bytes log.entries
given_at true log chunk = refl
given_at false log chunk = refl

kept_none : (asked : Bool) (job : JobName) (chunk : Chunk) (b : BookView)
    → bytes_of (if asked then b else with_its job (λ log. given_back log chunk) b) ≡ bytes_of b
kept_none true job chunk b = refl
kept_none false job chunk b =
    its_keep_bytes job (λ log. given_back log chunk) b (λ log. given_at (is_claimed log chunk) log chunk)

tasked_none : (mic : Mic) (at : SendAt) (me : List ℕ) (task : Option Task) (w : Work) (b : BookView) → bytes_of (by_task mic at me task w b).book ≡ bytes_of b
tasked_none mic at me None w b = refl
tasked_none mic at me (Some (tasks.Setup job)) w b = refl
tasked_none mic at me (Some (tasks.Confirm job)) w b = refl
tasked_none mic at me (Some (tasks.Size job)) w b = refl
tasked_none mic at me (Some (tasks.Read job chunk)) w b = kept_none (is_asked (by_task mic at me (Some (tasks.Read job chunk)) w b).told.0) job chunk b
tasked_none mic at me (Some (tasks.Commit job)) w b = refl

next_none : (left : Bool) (mic : Mic) (at : SendAt) (me : List ℕ) (task : Option Task) (w : Work) (b : BookView)
    → bytes_of (next_turn left mic at me task w b).book ≡ bytes_of b
next_none true mic at me task w b = tasked_none mic at me task w (after_task task b) ∙ claims_none task b
next_none false mic at me task w b = refl

turned_none : (awaits holding left : Bool) (mic : Mic) (at : SendAt) (me : List ℕ) (task : Option Task) (w : Work) (b : BookView)
    → bytes_of (turn_by awaits holding left mic at me task w b).book ≡ bytes_of b
turned_none true holding left mic at me task w b = refl
turned_none false true left mic at me task w b = refl
turned_none false false left mic at me task w b = next_none left mic at me task w b

pub turning_lands_none : (mic : Mic) (at : SendAt) (me : List ℕ) (sessions : SessionTable) (w : Work) (b : BookView)
    → bytes_of (turn mic at me sessions w b).book ≡ bytes_of b
turning_lands_none mic at me sessions w b =
    turned_none (is_some (awaited_at w.mount at.place)) (holds (post_at w.workers at.place)) (has_numbers w.mount.standing at.place)
    mic at me (task_at sessions at.now w b) w b
