-- What is known of the source where a task is found.
use Rattle.std.proofs.Common.{◌≡◌, ℕ, zero, suc, Bool, true, false, Option, Some, None, refl, subst}
use Rattle.std.specs.Prelude.{◌&&◌, not, is_some, IfSome, IsSome}
use Rattle.job_log.specs.declared.chunk.Chunk.{Chunk}
use Rattle.job_table.specs.Table.{is_live, is_running, passes}
use Rattle.job_table.specs.declared.job.Job.{Job}
use Rattle.nfs_base.specs.declared.job.JobName.{JobName}
use Rattle.job_book.specs.Book.{BookView, id_of, named, next_name}
use Rattle.job_book.specs.Working.{is_whole, next_chunk, size_in}
use Rattle.dest_tasks.specs.declared.tasks.Sight.{Sight}
use Rattle.dest_tasks.specs.declared.tasks.Task.{Task}
use Rattle.dest_tasks.specs.declared.tasks.Task.TheVariants as tasks
use Rattle.dest_tasks.specs.Tasks.{asking_task, at_next, goes_on, going_task, job_task, landing_task, may_call, or_else, read_of, read_when, task_from, task_if, when}

pub record WantsSetup (s : Sight) : Type 0 where
  pub no_session : s.session ≡ false
  pub none_awaited : s.setting_up ≡ false

pub record WantsContext (s : Sight) (job : Option Job) : Type 0 where
  pub session : s.session ≡ true
  pub there : IsSome job

pub record WantsCall (s : Sight) (job : Option Job) : Type 0 where
  pub session : s.session ≡ true
  pub context : s.context ≡ true
  pub there : IsSome job

abbrev pub IsDue : (JobName → Sight) → BookView → Task → Type 0
IsDue see b (tasks.Setup name) = WantsSetup (see name)
IsDue see b (tasks.Confirm name) = WantsContext (see name) (named b.table name)
IsDue see b (tasks.Size name) = WantsCall (see name) (named b.table name)
IsDue see b (tasks.Read name chunk) = WantsCall (see name) (named b.table name)
IsDue see b (tasks.Commit name) = Unit {0}

either : (P : Task → Type 0) (a c : Option Task) → IfSome a P → IfSome c P → IfSome (or_else a c) P
either P (Some task) c first second = first
either P None c first second = second

due : (P : Task → Type 0) (is_due : Bool) (task : Task) → (is_due ≡ true → P task) → IfSome (when is_due task) P
due P true task is = is refl
due P false task is = tt

two : (a b : Bool) → (a && b) ≡ true → (a ≡ true) × (b ≡ true)
two true b is = (refl, is)
two false b is = absurd (cc)

not_so : (a : Bool) → not a ≡ true → a ≡ false
not_so false is = refl
not_so true is = absurd (cc)

found_there : (job : Option Job) → passes is_live job ≡ true → IsSome job
found_there (Some job) is = refl
found_there None is = absurd (cc)

wants_setup : (s : Sight) → (not s.session && not s.setting_up) ≡ true → WantsSetup s
wants_setup s is = let t = two (not s.session) (not s.setting_up) is in record { no_session = not_so s.session t.0; none_awaited = not_so s.setting_up t.1 }

wants_call : (s : Sight) (job : Option Job) → IsSome job → may_call s ≡ true → WantsCall s job
wants_call s job there is = let t = two s.session s.context is in record { session = t.0; context = t.1; there = there }

reads : (P : Task → Type 0) (name : JobName) (chunk : Option Chunk) → ((c : Chunk) → P (tasks.Read name c)) → IfSome (read_of name chunk) P
reads P name None each = tt
reads P name (Some chunk) each = each chunk

reading : (P : Task → Type 0) (name : JobName) (may : Bool) (chunk : Option Chunk) → (may ≡ true → (c : Chunk) → P (tasks.Read name c)) → IfSome (read_when may name chunk) P
reading P name true chunk each = reads P name chunk (each refl)
reading P name false chunk each = tt

going : (see : JobName → Sight) (b : BookView) (name : JobName) → is_running b.table (id_of name) ≡ true
    → IfSome (going_task (see name) name (named b.table name)) (IsDue see b)
going see b name running =
    let P = IsDue see b in
    let s = see name in
    let job = named b.table name in
    let there = found_there job running in
    let sized = is_some (size_in job) in
    let setup : Bool = not s.session && not s.setting_up in
    let rest : Bool = not s.context && not s.confirming in
    let confirm : Bool = s.session && rest in
    let missing : Bool = not sized && not s.sizing in
    let size : Bool = may_call s && missing in
    let may : Bool = may_call s && sized in
    let asks = or_else (when confirm (tasks.Confirm name)) (when size (tasks.Size name)) in
    either P (asking_task s sized name) (landing_task may name job)
    (either P (when setup (tasks.Setup name)) asks (due P setup (tasks.Setup name) (λ is. wants_setup s is))
    (either P (when confirm (tasks.Confirm name)) (when size (tasks.Size name))
    (due P confirm (tasks.Confirm name) (λ is. record { session = (two s.session rest is).0; there = there }))
    (due P size (tasks.Size name) (λ is. wants_call s job there (two (may_call s) missing is).0))))
    (either P (read_when may name (next_chunk job)) (when (is_whole job) (tasks.Commit name))
    (reading P name may (next_chunk job) (λ is c. wants_call s job there (two (may_call s) sized is).0))
    (due P (is_whole job) (tasks.Commit name) (λ is. tt)))

of_job : (see : JobName → Sight) (b : BookView) (name : JobName) (goes : Bool) → (goes ≡ true → is_running b.table (id_of name) ≡ true)
    → IfSome (task_if goes (see name) name (named b.table name)) (IsDue see b)
of_job see b name true running = going see b name (running refl)
of_job see b name false running = tt

of_next : (see : JobName → Sight) (b : BookView) (left : ℕ) (name : Option JobName)
    → ((after : ℕ) → IfSome (task_from see left after b) (IsDue see b))
    → IfSome (at_next name (λ found. or_else (job_task see found b) (task_from see left found.number b))) (IsDue see b)
of_next see b left None more = tt
of_next see b left (Some name) more =
    either (IsDue see b) (job_task see name b) (task_from see left name.number b)
    (of_job see b name (goes_on (is_running b.table (id_of name)) (see name)) (λ is. (two (is_running b.table (id_of name)) (not (see name).gone) is).0))
    (more name.number)

all_due : (see : JobName → Sight) (b : BookView) (left after : ℕ) → IfSome (task_from see left after b) (IsDue see b)
unfolding task_from
all_due see b zero after = tt
all_due see b (suc left) after = of_next see b left (next_name b.table after) (λ next. all_due see b left next)

pub found_is_due : (see : JobName → Sight) (left after : ℕ) (b : BookView) (task : Task) → task_from see left after b ≡ Some task → IsDue see b task
found_is_due see left after b task is = subst (λ (t : Option Task). IfSome t (IsDue see b)) is (all_due see b left after)
