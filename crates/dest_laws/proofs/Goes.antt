-- A found task isn't idle.
use Rattle.std.proofs.Common.{◌≡◌, ℕ, ◌+◌, ◌^◌, ◌<◌, ◌≤◌, Bool, true, false, List, Option, Some, None, refl, sym, ap, subst, ◌∙◌}
use Rattle.std.proofs.lemmas.Bool.{lt-ltb}
use Rattle.std.specs.Prelude.{nat_lt, is_some, length, if◌then◌else◌, IsSome, option_map}
use Rattle.dest_tasks.specs.NamedLaws.{find_changed}
use Rattle.dest_tasks.specs.Posts.{holds, post_at}
use Rattle.dest_tasks.specs.Seats.{seat_of}
use Rattle.dest_tasks.specs.Tasks.{after_task, has_context}
use Rattle.dest_tasks.specs.declared.post.Errand.{Errand}
use Rattle.dest_tasks.specs.declared.post.Errand.TheVariants as errands
use Rattle.dest_tasks.specs.declared.tasks.Task.{Task}
use Rattle.dest_tasks.specs.declared.tasks.Task.TheVariants as tasks
use Rattle.copy_privs.specs.Forms.{privilege_spell}
use Rattle.dest_work.specs.Sending.{call_sent, confirm_sent, privilege_of, read_call, setup_sent, size_call, wants_nonce}
use Rattle.dest_work.specs.Work.{ask_size, asked, asked_by, by_plan, by_task, confirm, has_session, plan_in, read, read_at, set_up, sight_at, source_of, task_at, turn, turn_by, with_mount}
use Rattle.dest_work.specs.declared.work.Due.{Due}
use Rattle.dest_work.specs.declared.work.Due.TheVariants as dues
use Rattle.dest_work.specs.declared.work.Work.{Work}
use Rattle.gss_ctx.specs.Seals.{Mic}
use Rattle.job_book.specs.Book.{BookView, id_of, named}
use Rattle.job_book.specs.Working.{claimed, next_chunk}
use Rattle.job_log.specs.Log.{JobView, with_claim}
use Rattle.job_log.specs.declared.chunk.Chunk.{Chunk}
use Rattle.job_table.specs.Table.{is_job}
use Rattle.job_table.specs.declared.job.Job.{Job}
use Rattle.job_table.specs.declared.job.Plan.{Plan}
use Rattle.mount.specs.State.{Mounted, awaited_at, child_name, has_numbers, is_setting_up, setup_in}
use Rattle.mount.specs.declared.machine.SendAt.{SendAt}
use Rattle.mount.specs.declared.machine.Sent.{Sent}
use Rattle.nfs_base.specs.declared.job.JobName.{JobName}
use Rattle.nfs_base.specs.declared.limits.TheConstants.{MOST_JOBS, NAME_LIMIT, PRIVILEGE_LIMIT}
use Rattle.sess_slots.specs.Table.{SessionTable}
use Rattle.dest_laws.specs.Going.{CanAsk, CanAskAll, CanCall, is_rest}
use Rattle.dest_laws.proofs.Falls.{relogged}
use Rattle.dest_laws.proofs.Found.{IsDue, WantsCall, WantsContext, found_is_due}
use Rattle.dest_laws.proofs.Sends.{call_some, confirm_some, seen_there, setup_some}
use Rattle.dest_laws.proofs.Turns.{ChunksAreNext}

asked_goes : (place : ℕ) (job : JobName) (errand : Errand) (sent : Option Sent) (w : Work) → IsSome sent → is_rest (asked place job errand sent w).0 ≡ false
asked_goes place job errand None w some = absurd (cc)
asked_goes place job errand (Some sent) w some = refl

if_false : (b : Bool) (x y : Due × Work) → b ≡ false → is_rest y.0 ≡ false → is_rest (if b then x else y).0 ≡ false
if_false true x y is goes = absurd (cc)
if_false false x y is goes = goes

if_true : (b : Bool) (x y : Due × Work) → b ≡ true → is_rest x.0 ≡ false → is_rest (if b then x else y).0 ≡ false
if_true true x y is goes = goes
if_true false x y is goes = absurd (cc)

either_way : (b : Bool) (x y : Due × Work) → is_rest x.0 ≡ false → (b ≡ false → is_rest y.0 ≡ false) → is_rest (if b then x else y).0 ≡ false
either_way true x y first second = first
either_way false x y first second = second refl

setup_goes : (mic : Mic) (at : SendAt) (me : List ℕ) (job : JobName) (w : Work) → CanCall w.mount → is_setting_up w.mount ≡ false → has_session w.mount ≡ false
    → is_rest (set_up mic at me job w).0 ≡ false
setup_goes mic at me job w can alone none =
    let m = w.mount in
    let call = asked_by at.place job errands.Setup (setup_sent mic at me m) w in
    if_false (is_setting_up m) (dues.Rest, w) (if wants_nonce m then (dues.Begin job, w) else call) alone
    (either_way (wants_nonce m) (dues.Begin job, w) call refl
    (λ has. asked_goes at.place job errands.Setup (setup_sent mic at me m).0 (with_mount (setup_sent mic at me m).1 w)
    (setup_some mic at me m (setup_in m.standing) refl none has can)))

by_plan_goes : (seat : Option ℕ) (plan : Option Plan) (go : ℕ → Plan → Due × Work) (w : Work) → IsSome seat → IsSome plan
    → ((s : ℕ) (p : Plan) → seat ≡ Some s → plan ≡ Some p → is_rest (go s p).0 ≡ false) → is_rest (by_plan seat plan go w).0 ≡ false
by_plan_goes None plan go w seated there goes = absurd (cc)
by_plan_goes (Some seat) None go w seated there goes = absurd (cc)
by_plan_goes (Some seat) (Some plan) go w seated there goes = goes seat plan refl refl

plan_there : (job : Option Job) → IsSome job → IsSome (plan_in job)
plan_there None there = absurd (cc)
plan_there (Some job) there = refl

plan_is : (found : Option Job) (plan : Plan) {P : Type 0} → plan_in found ≡ Some plan → ((job : Job) → found ≡ Some job → job.plan ≡ plan → P) → P
plan_is None plan is goes = absurd (cc)
plan_is (Some job) plan is goes = let same : job.plan ≡ plan = cc in goes job refl same

seat_there : (found : Option Job) {mic : Mic} {w : Work} {name : JobName} → IsSome found → ((job : Job) → found ≡ Some job → CanAsk mic w name job) → IsSome (seat_of name.number w.seats)
seat_there None there can = absurd (cc)
seat_there (Some job) there can = (can job refl).seat

-- the context that is seen for a job is at its seat
context_at : (m : Mounted) (seat : Option ℕ) (s : ℕ) → seat ≡ Some s → has_context (source_of m).contexts seat ≡ true → IsSome (child_name m s)
context_at m seat s is has = seen_there m s (subst (λ (o : Option ℕ). has_context (source_of m).contexts o ≡ true) is has)

confirm_goes : (mic : Mic) (at : SendAt) (sessions : SessionTable) (w : Work) (b : BookView) (job : JobName) → WantsContext (sight_at sessions at.now w b.table job) (named b.table job)
    → CanCall w.mount → CanAskAll mic w b → is_rest (confirm mic at job b w).0 ≡ false
confirm_goes mic at sessions w b job d can ask =
    let m = w.mount in
    let found = named b.table job in
    by_plan_goes (seat_of job.number w.seats) (plan_in found) (λ seat plan. asked_by at.place job errands.Confirm (confirm_sent mic at seat plan m) w) w
    (seat_there found d.there (λ j is. ask job j is)) (plan_there found d.there)
    (λ s p sis pis. plan_is found p pis (λ j is same.
    let c = ask job j is in
    asked_goes at.place job errands.Confirm (confirm_sent mic at s p m).0 (with_mount (confirm_sent mic at s p m).1 w)
    (confirm_some mic at s p m (subst (λ (q : Plan). length q.user ≤ NAME_LIMIT) same c.user)
    (λ root r. subst (λ (q : Plan). length (privilege_spell (privilege_of mic root.key q)) ≤ PRIVILEGE_LIMIT) same (c.privilege root r)) d.session can)))

size_goes : (mic : Mic) (at : SendAt) (sessions : SessionTable) (w : Work) (b : BookView) (job : JobName) → WantsCall (sight_at sessions at.now w b.table job) (named b.table job)
    → CanCall w.mount → CanAskAll mic w b → is_rest (ask_size mic at job b w).0 ≡ false
size_goes mic at sessions w b job d can ask =
    let m = w.mount in
    let found = named b.table job in
    by_plan_goes (seat_of job.number w.seats) (plan_in found) (λ seat plan. asked_by at.place job errands.Size (call_sent mic at seat plan size_call m) w) w
    (seat_there found d.there (λ j is. ask job j is)) (plan_there found d.there)
    (λ s p sis pis. asked_goes at.place job errands.Size (call_sent mic at s p size_call m).0 (with_mount (call_sent mic at s p size_call m).1 w)
    (call_some mic at s p size_call m (context_at m (seat_of job.number w.seats) s sis d.context) d.session can))

mapped_plan : (f : JobView → JobView) (found : Option Job) → plan_in (option_map (relogged f) found) ≡ plan_in found
mapped_plan f None = refl
mapped_plan f (Some job) = refl

claimed_plan : (b : BookView) (job : JobName) (chunk : Chunk) → plan_in (named (claimed (Some chunk) job b).table job) ≡ plan_in (named b.table job)
claimed_plan b job chunk =
    ap plan_in (find_changed (is_job b.table.boot (id_of job)) (relogged (λ log. with_claim log chunk true)) b.table.jobs (λ x. refl))
    ∙ mapped_plan (λ log. with_claim log chunk true) (named b.table job)

read_goes : (mic : Mic) (at : SendAt) (sessions : SessionTable) (w : Work) (b : BookView) (job : JobName) (chunk : Chunk)
    → WantsCall (sight_at sessions at.now w b.table job) (named b.table job) → next_chunk (named b.table job) ≡ Some chunk
    → CanCall w.mount → CanAskAll mic w b → is_rest (read mic at job chunk (claimed (Some chunk) job b) w).0 ≡ false
read_goes mic at sessions w b job chunk d next can ask =
    let m = w.mount in
    let found = named b.table job in
    let go : ℕ → Plan → Due × Work = λ seat plan. read_at mic at job chunk seat plan w in
    subst (λ (plan : Option Plan). is_rest (by_plan (seat_of job.number w.seats) plan go w).0 ≡ false) (sym (claimed_plan b job chunk))
    (by_plan_goes (seat_of job.number w.seats) (plan_in found) go w
    (seat_there found d.there (λ j is. ask job j is)) (plan_there found d.there)
    (λ s p sis pis. plan_is found p pis (λ j is same.
    let c = ask job j is in
    let mine : next_chunk (Some j) ≡ Some chunk = sym (ap next_chunk is) ∙ next in
    let lt : p.src_off + chunk.off < 2 ^ 64 = subst (λ (q : Plan). q.src_off + chunk.off < 2 ^ 64) same (c.range chunk mine) in
    if_true (nat_lt (p.src_off + chunk.off) (2 ^ 64)) (asked_by at.place job (errands.Bytes chunk) (call_sent mic at s p (read_call p chunk) m) w) (dues.Rest, w) (lt-ltb (p.src_off + chunk.off) (2 ^ 64) lt)
    (asked_goes at.place job (errands.Bytes chunk) (call_sent mic at s p (read_call p chunk) m).0 (with_mount (call_sent mic at s p (read_call p chunk) m).1 w)
    (call_some mic at s p (read_call p chunk) m (context_at m (seat_of job.number w.seats) s sis d.context) d.session can)))))

task_goes : (mic : Mic) (at : SendAt) (me : List ℕ) (sessions : SessionTable) (w : Work) (b : BookView) (task : Task) → IsDue (sight_at sessions at.now w b.table) b task
    → ((name : JobName) (chunk : Chunk) → task ≡ tasks.Read name chunk → next_chunk (named b.table name) ≡ Some chunk)
    → CanCall w.mount → CanAskAll mic w b → is_rest (by_task mic at me (Some task) w (after_task (Some task) b)).told.0 ≡ false
task_goes mic at me sessions w b (tasks.Setup job) d next can ask = setup_goes mic at me job w can d.none_awaited d.no_session
task_goes mic at me sessions w b (tasks.Confirm job) d next can ask = confirm_goes mic at sessions w b job d can ask
task_goes mic at me sessions w b (tasks.Size job) d next can ask = size_goes mic at sessions w b job d can ask
task_goes mic at me sessions w b (tasks.Read job chunk) d next can ask = read_goes mic at sessions w b job chunk d (next job chunk refl) can ask
task_goes mic at me sessions w b (tasks.Commit job) d next can ask = refl

turn_goes : (mic : Mic) (at : SendAt) (me : List ℕ) (w : Work) (b : BookView) (awaits holding left : Bool) (found : Option Task) (task : Task) → awaits ≡ false → holding ≡ false
    → left ≡ true → found ≡ Some task → is_rest (by_task mic at me (Some task) w (after_task (Some task) b)).told.0 ≡ false
    → is_rest (turn_by awaits holding left mic at me found w b).told.0 ≡ false
turn_goes mic at me w b true holding left found task free empty has is goes = absurd (cc)
turn_goes mic at me w b false true left found task free empty has is goes = absurd (cc)
turn_goes mic at me w b false false false found task free empty has is goes = absurd (cc)
turn_goes mic at me w b false false true found task free empty has is goes =
    subst (λ (t : Option Task). is_rest (by_task mic at me t w (after_task t b)).told.0 ≡ false) (sym is) goes

pub found_goes : ChunksAreNext → (mic : Mic) (at : SendAt) (me : List ℕ) (sessions : SessionTable) (w : Work) (b : BookView) (task : Task)
    → awaited_at w.mount at.place ≡ None → holds (post_at w.workers at.place) ≡ false → has_numbers w.mount.standing at.place ≡ true → CanCall w.mount → CanAskAll mic w b
    → task_at sessions at.now w b ≡ Some task → is_rest (turn mic at me sessions w b).told.0 ≡ false
found_goes law mic at me sessions w b task free empty has can ask is =
    let see = sight_at sessions at.now w b.table in
    turn_goes mic at me w b (is_some (awaited_at w.mount at.place)) (holds (post_at w.workers at.place)) (has_numbers w.mount.standing at.place) (task_at sessions at.now w b) task
    (ap is_some free) empty has is
    (task_goes mic at me sessions w b task (found_is_due see MOST_JOBS 0 b task is)
    (λ name chunk same. law see MOST_JOBS 0 b name chunk (is ∙ ap (λ (t : Task). Some t) same)) can ask)
