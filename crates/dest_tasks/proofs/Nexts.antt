-- A chunk that is to be read is its job's next one.
use Rattle.std.proofs.Common.{◌≡◌, ℕ, zero, suc, Bool, true, false, Option, Some, None, refl, subst}
use Rattle.std.specs.Prelude.{◌&&◌, not, is_some, IfSome}
use Rattle.job_log.specs.declared.chunk.Chunk.{Chunk}
use Rattle.job_table.specs.Table.{is_running}
use Rattle.nfs_base.specs.declared.job.JobName.{JobName}
use Rattle.job_book.specs.Book.{BookView, id_of, named, next_name}
use Rattle.job_book.specs.Working.{is_whole, next_chunk, size_in}
use Rattle.dest_tasks.specs.declared.tasks.Sight.{Sight}
use Rattle.dest_tasks.specs.declared.tasks.Task.{Task}
use Rattle.dest_tasks.specs.declared.tasks.Task.TheVariants as tasks
use Rattle.dest_tasks.specs.Tasks.{asking_task, at_next, goes_on, going_task, job_task, landing_task, may_call, or_else, read_of, read_when, task_from, task_if, when}

abbrev pub IsNext : BookView → Task → Type 0
IsNext b (tasks.Read name chunk) = next_chunk (named b.table name) ≡ Some chunk
IsNext b _ = Unit {0}

either_next : (P : Task → Type 0) (a c : Option Task) → IfSome a P → IfSome c P → IfSome (or_else a c) P
either_next P (Some task) c first second = first
either_next P None c first second = second

due_next : (P : Task → Type 0) (due : Bool) (task : Task) → P task → IfSome (when due task) P
due_next P true task is = is
due_next P false task is = tt

read_next : (b : BookView) (name : JobName) (chunk : Option Chunk) → next_chunk (named b.table name) ≡ chunk → IfSome (read_of name chunk) (IsNext b)
read_next b name None is = tt
read_next b name (Some chunk) is = is

reading_next : (b : BookView) (name : JobName) (may : Bool) → IfSome (read_when may name (next_chunk (named b.table name))) (IsNext b)
reading_next b name true = read_next b name (next_chunk (named b.table name)) refl
reading_next b name false = tt

going_next : (b : BookView) (s : Sight) (name : JobName) → IfSome (going_task s name (named b.table name)) (IsNext b)
going_next b s name =
    let P = IsNext b in
    let job = named b.table name in
    let sized = is_some (size_in job) in
    let setup : Bool = not s.session && not s.setting_up in
    let confirm : Bool = s.session && (not s.context && not s.confirming) in
    let size : Bool = may_call s && (not sized && not s.sizing) in
    let reads : Bool = may_call s && sized in
    let asks = or_else (when confirm (tasks.Confirm name)) (when size (tasks.Size name)) in
    either_next P (asking_task s sized name) (landing_task reads name job)
    (either_next P (when setup (tasks.Setup name)) asks (due_next P setup (tasks.Setup name) tt)
    (either_next P (when confirm (tasks.Confirm name)) (when size (tasks.Size name)) (due_next P confirm (tasks.Confirm name) tt) (due_next P size (tasks.Size name) tt)))
    (either_next P (read_when reads name (next_chunk job)) (when (is_whole job) (tasks.Commit name)) (reading_next b name reads)
    (due_next P (is_whole job) (tasks.Commit name) tt))

running_next : (b : BookView) (s : Sight) (name : JobName) (running : Bool) → IfSome (task_if running s name (named b.table name)) (IsNext b)
running_next b s name true = going_next b s name
running_next b s name false = tt

named_next : (see : JobName → Sight) (b : BookView) (left : ℕ) (name : Option JobName)
    → ((after : ℕ) → IfSome (task_from see left after b) (IsNext b))
    → IfSome (at_next name (λ found. or_else (job_task see found b) (task_from see left found.number b))) (IsNext b)
named_next see b left None more = tt
named_next see b left (Some name) more =
    either_next (IsNext b) (job_task see name b) (task_from see left name.number b) (running_next b (see name) name (goes_on (is_running b.table (id_of name)) (see name))) (more name.number)

pub all_next : (see : JobName → Sight) (b : BookView) (left after : ℕ) → IfSome (task_from see left after b) (IsNext b)
unfolding task_from
all_next see b zero after = tt
all_next see b (suc left) after = named_next see b left (next_name b.table after) (λ next. all_next see b left next)

pub read_is_next : (b : BookView) (task : Option Task) (name : JobName) (chunk : Chunk) → IfSome task (IsNext b) → task ≡ Some (tasks.Read name chunk)
    → next_chunk (named b.table name) ≡ Some chunk
read_is_next b task name chunk next is = subst (λ (t : Option Task). IfSome t (IsNext b)) is next
