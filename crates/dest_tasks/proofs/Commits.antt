-- A commit that is found is of a job that runs and is whole.
use Rattle.std.proofs.Common.{◌≡◌, ℕ, zero, suc, Bool, true, false, Option, Some, None, refl, subst}
use Rattle.std.specs.Prelude.{◌&&◌, not, is_some, IfSome}
use Rattle.job_log.specs.declared.chunk.Chunk.{Chunk}
use Rattle.job_table.specs.Table.{is_running}
use Rattle.nfs_base.specs.declared.job.JobName.{JobName}
use Rattle.job_book.specs.Book.{BookView, id_of, named, next_name}
use Rattle.job_book.specs.Working.{is_whole, next_chunk, size_in}
use Rattle.dest_tasks.specs.declared.tasks.Sight.{Sight}
use Rattle.dest_tasks.specs.declared.tasks.Task.{Task}
use Rattle.dest_tasks.specs.declared.tasks.Task.TheVariants as tasks
use Rattle.dest_tasks.specs.Tasks.{asking_task, at_next, goes_on, going_task, job_task, landing_task, may_call, or_else, read_of, read_when, task_from, task_if, when}

pub record IsCommit (b : BookView) (name : JobName) : Type 0 where
  pub running : is_running b.table (id_of name) ≡ true
  pub whole : is_whole (named b.table name) ≡ true

abbrev pub IsRight : BookView → Task → Type 0
IsRight b (tasks.Commit name) = IsCommit b name
IsRight b _ = Unit {0}

either : (P : Task → Type 0) (a c : Option Task) → IfSome a P → IfSome c P → IfSome (or_else a c) P
either P (Some task) c first second = first
either P None c first second = second

due : (P : Task → Type 0) (is_due : Bool) (task : Task) → (is_due ≡ true → P task) → IfSome (when is_due task) P
due P true task is = is refl
due P false task is = tt

reads : (b : BookView) (name : JobName) (chunk : Option Chunk) → IfSome (read_of name chunk) (IsRight b)
reads b name None = tt
reads b name (Some chunk) = tt

reading : (b : BookView) (name : JobName) (may : Bool) (chunk : Option Chunk) → IfSome (read_when may name chunk) (IsRight b)
reading b name true chunk = reads b name chunk
reading b name false chunk = tt

going : (b : BookView) (s : Sight) (name : JobName) → is_running b.table (id_of name) ≡ true → IfSome (going_task s name (named b.table name)) (IsRight b)
going b s name running =
    let P = IsRight b in
    let job = named b.table name in
    let sized = is_some (size_in job) in
    let setup : Bool = not s.session && not s.setting_up in
    let confirm : Bool = s.session && (not s.context && not s.confirming) in
    let size : Bool = may_call s && (not sized && not s.sizing) in
    let may : Bool = may_call s && sized in
    let asks = or_else (when confirm (tasks.Confirm name)) (when size (tasks.Size name)) in
    either P (asking_task s sized name) (landing_task may name job)
    (either P (when setup (tasks.Setup name)) asks (due P setup (tasks.Setup name) (λ is. tt))
    (either P (when confirm (tasks.Confirm name)) (when size (tasks.Size name)) (due P confirm (tasks.Confirm name) (λ is. tt)) (due P size (tasks.Size name) (λ is. tt))))
    (either P (read_when may name (next_chunk job)) (when (is_whole job) (tasks.Commit name)) (reading b name may (next_chunk job))
    (due P (is_whole job) (tasks.Commit name) (λ whole. record { running = running; whole = whole })))

runs : (running gone : Bool) → (running && not gone) ≡ true → running ≡ true
runs true gone is = refl
runs false gone is = absurd (cc)

of_job : (b : BookView) (s : Sight) (name : JobName) (goes : Bool) → (goes ≡ true → is_running b.table (id_of name) ≡ true)
    → IfSome (task_if goes s name (named b.table name)) (IsRight b)
of_job b s name true running = going b s name (running refl)
of_job b s name false running = tt

of_next : (see : JobName → Sight) (b : BookView) (left : ℕ) (name : Option JobName)
    → ((after : ℕ) → IfSome (task_from see left after b) (IsRight b))
    → IfSome (at_next name (λ found. or_else (job_task see found b) (task_from see left found.number b))) (IsRight b)
of_next see b left None more = tt
of_next see b left (Some name) more =
    either (IsRight b) (job_task see name b) (task_from see left name.number b)
    (of_job b (see name) name (goes_on (is_running b.table (id_of name)) (see name)) (λ is. runs (is_running b.table (id_of name)) (see name).gone is))
    (more name.number)

all_right : (see : JobName → Sight) (b : BookView) (left after : ℕ) → IfSome (task_from see left after b) (IsRight b)
unfolding task_from
all_right see b zero after = tt
all_right see b (suc left) after = of_next see b left (next_name b.table after) (λ next. all_right see b left next)

pub commit_is_right : (see : JobName → Sight) (left after : ℕ) (b : BookView) (name : JobName) → task_from see left after b ≡ Some (tasks.Commit name) → IsCommit b name
commit_is_right see left after b name is = subst (λ (t : Option Task). IfSome t (IsRight b)) is (all_right see b left after)
