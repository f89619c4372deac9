-- Plans that are within their bounds stay so in a worker's turn, and so is what is asked by them.
use Rattle.std.proofs.Common.{◌≡◌, inl, inr, ℕ, zero, suc, ◌<◌, Bool, true, false, List, [], ◌∷◌, Option, Some, None, refl, subst, arith}
use Rattle.std.specs.Prelude.{◌^◌, ◌&&◌, codes, find, is_some, not, option_map, IfSome}
use Rattle.std.specs.List.{AllByRecursion}
use Rattle.caller_laws.specs.Fitting.Bounds.{TextFits}
use Rattle.caller_laws.specs.Fitting.BytesLaws.{all_below, below_are}
use Rattle.copy_model.specs.Job.{chunks_of, has_ended}
use Rattle.copy_privs.specs.Forms.{privilege, privilege_spell}
use Rattle.copy_privs.specs.declared.privilege.Privilege.TheVariants.{Confirm}
use Rattle.dest_laws.proofs.calls.GivenOut.{changed_all, chosen}
use Rattle.dest_laws.specs.Calls.Fits.{EachPlanIsFit, JobIsFit}
use Rattle.dest_tasks.specs.Tasks.{after_task, asking_task, at_next, goes_on, going_task, job_task, landing_task, may_call, or_else, read_when, task_from, task_if, when}
use Rattle.dest_tasks.specs.declared.tasks.Sight.{Sight}
use Rattle.dest_tasks.specs.declared.tasks.Task.{Task}
use Rattle.dest_tasks.specs.declared.tasks.Task.TheVariants as tasks
use Rattle.gss_mech.specs.BytesLaws.{glued, opaque_are}
use Rattle.job_book.specs.Book.{BookView, id_of, named, next_name}
use Rattle.job_book.specs.Working.{chunk_at, claimed, first_free, is_taken, is_whole, next_chunk, next_unless, size_in}
use Rattle.job_log.specs.Log.{JobView, total, with_claim}
use Rattle.job_log.specs.declared.chunk.Chunk.{Chunk}
use Rattle.job_table.specs.Fits.{PlanIsFit}
use Rattle.job_table.specs.Table.{is_job, is_running}
use Rattle.job_table.specs.declared.job.Job.{Job}
use Rattle.job_table.specs.declared.job.JobId.{JobId}
use Rattle.nfs_base.specs.declared.job.JobName.{JobName}
use Rattle.nfs_base.specs.declared.limits.TheConstants.{NAME_LIMIT}
use Rattle.wire_xdr.specs.Cursor.{IsBytes}
use Rattle.wire_xdr.specs.Words.{opaque_bytes}

-- ---- plans

pub found_fit : (boot : ℕ) (id : JobId) (jobs : List Job) (job : Job) → AllByRecursion JobIsFit jobs → find (is_job boot id) jobs ≡ Some job → PlanIsFit job.plan
found_fit boot id [] job all is = absurd cc
found_fit boot id (first ∷ jobs) job all is =
    elim (chosen (is_job boot id first) first job (find (is_job boot id) jobs) is) [
      | inl here ↦ subst JobIsFit here.1 all.0
      | inr later ↦ found_fit boot id jobs job all.1 later
    ]

claimed_fit : (chunk : Chunk) (name : JobName) (b : BookView) → EachPlanIsFit b.table → EachPlanIsFit (claimed (Some chunk) name b).table
claimed_fit chunk name b all =
    changed_all JobIsFit (is_job b.table.boot (id_of name)) (λ job. record job { log = with_claim job.log chunk true }) (λ job it. it) b.table.jobs all

pub after_fit : (task : Option Task) (b : BookView) → EachPlanIsFit b.table → EachPlanIsFit (after_task task b).table
after_fit None b all = all
after_fit (Some (tasks.Setup job)) b all = all
after_fit (Some (tasks.Confirm job)) b all = all
after_fit (Some (tasks.Size job)) b all = all
after_fit (Some (tasks.Read job chunk)) b all = claimed_fit chunk job b all
after_fit (Some (tasks.Commit job)) b all = all

-- ---- chunks

-- a chunk that is to be read is no longer than a call may ask
abbrev pub ReadsShort : Option Task → Type 0
ReadsShort (Some (tasks.Read job chunk)) = chunk.len < 2 ^ 32
ReadsShort _ = Unit {0}

abbrev IsShort : Chunk → Type 0
IsShort chunk = chunk.len < 2 ^ 32

free_short : (v : JobView) (o : Option ℕ) → IfSome (option_map (chunk_at v) o) IsShort
free_short v None = tt
free_short v (Some number) = omega arith

unless_short : (ended : Bool) (v : JobView) → IfSome (next_unless ended v) IsShort
unless_short true v = tt
unless_short false v = free_short v (first_free (is_taken v) (chunks_of (total v.entries)) 0)

next_short : (job : Option Job) → IfSome (next_chunk job) IsShort
next_short None = tt
next_short (Some job) = unless_short (has_ended job.log.entries) job.log

either_short : (o more : Option Task) → ReadsShort o → ReadsShort more → ReadsShort (or_else o more)
either_short None more first second = second
either_short (Some task) more first second = first

when_short : (b : Bool) (task : Task) → ReadsShort (Some task) → ReadsShort (when b task)
when_short true task it = it
when_short false task it = tt

read_short : (may : Bool) (name : JobName) (o : Option Chunk) → IfSome o IsShort → ReadsShort (read_when may name o)
read_short true name None it = tt
read_short true name (Some chunk) it = it
read_short false name o it = tt

asking_short : (begins confirms sizes : Bool) (name : JobName)
    → ReadsShort (or_else (when begins (tasks.Setup name)) (or_else (when confirms (tasks.Confirm name)) (when sizes (tasks.Size name))))
asking_short true confirms sizes name = tt
asking_short false true sizes name = tt
asking_short false false true name = tt
asking_short false false false name = tt

landing_short : (may : Bool) (name : JobName) (job : Option Job) → ReadsShort (landing_task may name job)
landing_short may name job =
    either_short (read_when may name (next_chunk job)) (when (is_whole job) (tasks.Commit name)) (read_short may name (next_chunk job) (next_short job))
    (when_short (is_whole job) (tasks.Commit name) tt)

going_short : (s : Sight) (name : JobName) (job : Option Job) → ReadsShort (going_task s name job)
going_short s name job =
    let sized = is_some (size_in job) in
    either_short (asking_task s sized name) (landing_task (may_call s && sized) name job)
    (asking_short (not s.session && not s.setting_up) (s.session && (not s.context && not s.confirming)) (may_call s && (not sized && not s.sizing)) name)
    (landing_short (may_call s && sized) name job)

if_short : (running : Bool) (s : Sight) (name : JobName) (job : Option Job) → ReadsShort (task_if running s name job)
if_short true s name job = going_short s name job
if_short false s name job = tt

pub task_short : (see : JobName → Sight) (left after : ℕ) (b : BookView) → ReadsShort (task_from see left after b)
unfolding task_from
task_short see zero after b = tt
task_short see (suc left) after b = by (next_name b.table after) (λ name. task_short see left name.number b)
  where
    by : (o : Option JobName) → ((name : JobName) → ReadsShort (task_from see left name.number b))
        → ReadsShort (at_next o (λ name. or_else (job_task see name b) (task_from see left name.number b)))
    by None more = tt
    by (Some name) more =
        either_short (job_task see name b) (task_from see left name.number b)
        (if_short (goes_on (is_running b.table (id_of name)) (see name)) (see name) name (named b.table name)) (more name)

-- ---- privileges

pub confirm_are : (code user : List ℕ) → IsBytes code → IsBytes user → IsBytes (privilege_spell (Confirm code user))
unfolding privilege
confirm_are code user c u = glued (opaque_bytes code) (opaque_bytes user) (opaque_are code c) (opaque_are user u)

pub confirm_named : TextFits NAME_LIMIT (codes "copy_confirm_auth")
unfolding all_below
confirm_named = record { short = omega arith; are_bytes = below_are (codes "copy_confirm_auth") refl }
