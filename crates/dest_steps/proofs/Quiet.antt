-- A turn by which a chunk is to land, a nonce is wanted or a file is to be committed leaves all as it was.
use Rattle.std.proofs.Common.{◌≡◌, ℕ, ◌+◌, ◌^◌, Bool, true, false, nat_lt, if◌then◌else◌, List, is_some, Option, Some, None, Result, Ok, Err, OnErr, refl, sym, ap, ◌∙◌}
use Rattle.dest_tasks.specs.declared.post.Errand.{Errand}
use Rattle.dest_tasks.specs.declared.tasks.Task.{Task}
use Rattle.dest_tasks.specs.declared.tasks.Task.TheVariants as tasks
use Rattle.dest_tasks.specs.Posts.{holds, post_at}
use Rattle.dest_tasks.specs.Seats.{seat_of}
use Rattle.dest_tasks.specs.Tasks.{after_task}
use Rattle.dest_work.specs.Sending.{call_sent, confirm_sent, read_call, setup_sent, size_call, wants_nonce}
use Rattle.dest_work.specs.Work.{asked, asked_by, by_plan, by_task, next_turn, plan_in, task_at, turn, turn_by, IfBegins, Turn}
use Rattle.dest_work.specs.declared.work.Due.{Due}
use Rattle.dest_work.specs.declared.work.Due.TheVariants as dues
use Rattle.dest_work.specs.declared.work.Work.{Work}
use Rattle.gss_ctx.specs.Seals.{Mic}
use Rattle.job_book.specs.Book.{BookView, named}
use Rattle.job_table.specs.declared.job.Plan.{Plan}
use Rattle.mount.specs.State.{Mounted, awaited_at, has_numbers, is_setting_up}
use Rattle.mount.specs.declared.machine.SendAt.{SendAt}
use Rattle.mount.specs.declared.machine.Sent.{Sent}
use Rattle.nfs_base.specs.declared.job.JobName.{JobName}
use Rattle.sess_slots.specs.Table.{SessionTable}
use Rattle.dest_steps.specs.Turning.{is_quiet, with_turn}
use Rattle.dest_steps.specs.declared.copier.Copier.{Copier}

-- what goes out or gives a chunk back isn't quiet
abbrev Speaks : Due × Work → Type 0
Speaks told = is_quiet told.0 ≡ true → ⊥

asked_speaks : (place : ℕ) (job : JobName) (errand : Errand) (sent : Option Sent) (w : Work) → Speaks (asked place job errand sent w)
asked_speaks place job errand None w = λ e. absurd (cc)
asked_speaks place job errand (Some sent) w = λ e. absurd (cc)

asked_by_speaks : (place : ℕ) (job : JobName) (errand : Errand) (outcome : Option Sent × Mounted) (w : Work) → Speaks (asked_by place job errand outcome w)
asked_by_speaks place job errand outcome w = asked_speaks place job errand outcome.0 (record w { mount = outcome.1 })

planned_speaks : (w : Work) (seat : Option ℕ) (plan : Option Plan) (go : ℕ → Plan → Due × Work)
    → ((seat : ℕ) → (plan : Plan) → Speaks (go seat plan)) → Speaks (by_plan seat plan go w)
planned_speaks w None plan go each = λ e. absurd (cc)
planned_speaks w (Some seat) None go each = λ e. absurd (cc)
planned_speaks w (Some seat) (Some plan) go each = each seat plan

read_speaks : (w : Work) (fits : Bool) (told : Due × Work) → Speaks told → Speaks (if fits then told else (dues.Rest, w))
read_speaks w true told speaks = speaks
read_speaks w false told speaks = λ e. absurd (cc)

-- where a turn is quiet, the work and the jobs are these
pub record IsLeft (w : Work) (b : BookView) (t : Turn) : Type 0 where
  pub work : t.told.1 ≡ w
  pub book : t.book ≡ b

abbrev IsLeftIf : Work → BookView → Turn → Type 0
IsLeftIf w b t = is_quiet t.told.0 ≡ true → IsLeft w b t

set_up_left : (job : JobName) (w : Work) (b : BookView) (setting wants : Bool) (told : Due × Work) → Speaks told
    → IsLeftIf w b (record { told = if setting then (dues.Rest, w) else (if wants then (dues.Begin job, w) else told); book = b })
set_up_left job w b true wants told speaks = λ e. absurd (cc)
set_up_left job w b false true told speaks = λ e. record { work = refl; book = refl }
set_up_left job w b false false told speaks = λ e. absurd (speaks e)

tasked_left : (mic : Mic) (at : SendAt) (me : List ℕ) (task : Option Task) (w : Work) (b : BookView) → IsLeftIf w b (by_task mic at me task w (after_task task b))
tasked_left mic at me None w b = λ e. absurd (cc)
tasked_left mic at me (Some (tasks.Setup job)) w b =
    set_up_left job w b (is_setting_up w.mount) (wants_nonce w.mount) _ (asked_by_speaks at.place job _ (setup_sent mic at me w.mount) w)
tasked_left mic at me (Some (tasks.Confirm job)) w b = λ e.
    absurd (planned_speaks w (seat_of job.number w.seats) (plan_in (named b.table job)) _ (λ seat plan. asked_by_speaks at.place job _ (confirm_sent mic at seat plan w.mount) w) e)
tasked_left mic at me (Some (tasks.Size job)) w b = λ e.
    absurd (planned_speaks w (seat_of job.number w.seats) (plan_in (named b.table job)) _ (λ seat plan. asked_by_speaks at.place job _ (call_sent mic at seat plan size_call w.mount) w) e)
tasked_left mic at me (Some (tasks.Read job chunk)) w b = λ e.
    absurd (planned_speaks w (seat_of job.number w.seats) (plan_in (named (after_task (Some (tasks.Read job chunk)) b).table job)) _
    (λ seat plan. read_speaks w (nat_lt (plan.src_off + chunk.off) (2 ^ 64)) _ (asked_by_speaks at.place job _ (call_sent mic at seat plan (read_call plan chunk) w.mount) w)) e)
tasked_left mic at me (Some (tasks.Commit job)) w b = λ e. record { work = refl; book = refl }

next_left : (left : Bool) (mic : Mic) (at : SendAt) (me : List ℕ) (task : Option Task) (w : Work) (b : BookView) → IsLeftIf w b (next_turn left mic at me task w b)
next_left true mic at me task w b = tasked_left mic at me task w b
next_left false mic at me task w b = λ e. absurd (cc)

turned_left : (awaits holding left : Bool) (mic : Mic) (at : SendAt) (me : List ℕ) (task : Option Task) (w : Work) (b : BookView)
    → IsLeftIf w b (turn_by awaits holding left mic at me task w b)
turned_left true holding left mic at me task w b = λ e. absurd (cc)
turned_left false true left mic at me task w b = λ e. record { work = refl; book = refl }
turned_left false false left mic at me task w b = next_left left mic at me task w b

pub quiet_left : (mic : Mic) (at : SendAt) (me : List ℕ) (sessions : SessionTable) (w : Work) (b : BookView)
    → is_quiet (turn mic at me sessions w b).told.0 ≡ true → IsLeft w b (turn mic at me sessions w b)
quiet_left mic at me sessions w b =
    turned_left (is_some (awaited_at w.mount at.place)) (holds (post_at w.workers at.place)) (has_numbers w.mount.standing at.place)
    mic at me (task_at sessions at.now w b) w b

-- so the copies are as before, by a turn that is quiet
pub with_quiet : (t : Turn) (x : Copier) → IsLeft x.work x.copies.book t → with_turn t x ≡ x
with_quiet t x left =
    ap (λ (b : BookView). record x { copies = record x.copies { book = b }; work = t.told.1 }) left.book
    ∙ ap (λ (w : Work). record x { work = w }) left.work

-- what the work's turn leaves in code, and what is due by it
pub record IsWork (t : Turn) (due : Due) (x y : Copier) : Type 0 where
  pub due_is : due ≡ t.told.0
  pub after_is : y ≡ with_turn t x

pub quiet_same : (mic : Mic) (at : SendAt) (sessions : SessionTable) (due : Due) (x y : Copier)
    → IsWork (turn mic at x.principal sessions x.work x.copies.book) due x y → is_quiet due ≡ true → y ≡ x
quiet_same mic at sessions due x y works quiet =
    let t = turn mic at x.principal sessions x.work x.copies.book in
    works.after_is ∙ with_quiet t x (quiet_left mic at x.principal sessions x.work x.copies.book (ap (λ (d : Due). is_quiet d) (sym works.due_is) ∙ quiet))

-- what holds where a nonce is wanted, since that is quiet
pub begins_if : (due : Due) (P : Type 0) → (is_quiet due ≡ true → P) → IfBegins due P
begins_if dues.Rest P holds = tt
begins_if dues.Land P holds = tt
begins_if (dues.Begin job) P holds = holds refl
begins_if (dues.Asked errand sent) P holds = tt
begins_if (dues.Commit job) P holds = tt

pub on_err_both : {T E P Q R : Type 0} (r : Result T E) → (P → Q → R) → OnErr r P → OnErr r Q → OnErr r R
on_err_both (Ok x) both p q = tt
on_err_both (Err e) both p q = both p q
