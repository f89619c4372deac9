-- What a worker's turn does to its post and its place: nothing, or a call goes out.
use Rattle.std.proofs.Common.{◌≡◌, ◌∙◌, inl, inr, ℕ, ◌+◌, ◌^◌, ◌<◌, ◌≤◌, Bool, true, false, List, [], ◌∷◌, Option, Some, None, refl, sym, ap, subst}
use Rattle.std.specs.Prelude.{◌==◌, ◌&&◌, if◌then◌else◌, All, find, is_some, length, nat_le, nat_lt}
use Rattle.std.proofs.lemmas.Bool.{eqb-true}
use Rattle.std.proofs.lemmas.List.Elements.{All-head, All-tail}
use Rattle.copy_privs.specs.Forms.{privilege_spell}
use Rattle.copy_privs.specs.declared.privilege.Privilege.{Privilege}
use Rattle.dest_laws.proofs.landings.Places.{seen_of, slotted_asks}
use Rattle.dest_laws.proofs.landings.Posts.{Moves}
use Rattle.dest_laws.specs.Histories.Seen.{IsGiven}
use Rattle.dest_laws.specs.Landings.Posted.{Asks, AsksBy, IsErrand, asked_at}
use Rattle.dest_tasks.specs.Posts.{holds, post_at}
use Rattle.dest_tasks.specs.Seats.{seat_of}
use Rattle.dest_tasks.specs.Tasks.{after_task}
use Rattle.dest_tasks.specs.declared.post.Errand.{Errand}
use Rattle.dest_tasks.specs.declared.post.Errand.TheVariants as errands
use Rattle.dest_tasks.specs.declared.tasks.Task.{Task}
use Rattle.dest_tasks.specs.declared.tasks.Task.TheVariants as tasks
use Rattle.dest_work.specs.Sending.{call_sent, confirm_sent, confirmed_under, created_by, privilege_of, read_call, setup_sent, size_call, step_by, wants_nonce}
use Rattle.dest_work.specs.Work.{ask_size, asked, asked_by, begun_for, by_plan, by_task, confirm, next_turn, plan_in, read, read_at, set_up, task_at, turn, turn_by, with_mount, Turn}
use Rattle.dest_work.specs.declared.work.Due.{Due}
use Rattle.dest_work.specs.declared.work.Due.TheVariants as dues
use Rattle.dest_work.specs.declared.work.Work.{Work}
use Rattle.gss_ctx.specs.Seals.{Mic}
use Rattle.job_book.specs.Book.{BookView, id_of, named}
use Rattle.job_book.specs.Working.{claimed}
use Rattle.job_log.specs.Log.{with_claim}
use Rattle.job_log.specs.declared.chunk.Chunk.{Chunk}
use Rattle.job_table.specs.Table.{JobTable, changed, is_job}
use Rattle.job_table.specs.declared.job.Job.{Job}
use Rattle.job_table.specs.declared.job.Plan.{Plan}
use Rattle.mount.specs.Laws.{Goes, Went}
use Rattle.mount.specs.Sending.{begun, begun_anew, child_asked, name_under, slotted, stepped_in}
use Rattle.mount.specs.State.{Mounted, awaited_at, has_numbers, is_setting_up, root_context, setup_in}
use Rattle.mount.specs.declared.calling.Under.TheVariants.{Child}
use Rattle.mount.specs.declared.machine.SendAt.{SendAt}
use Rattle.mount.specs.declared.machine.Sent.{Sent}
use Rattle.mount.specs.declared.state.Aim.{Aim}
use Rattle.mount.specs.declared.state.Aim.TheVariants as aims
use Rattle.mount.specs.declared.state.Context.{Context}
use Rattle.nfs_base.specs.declared.job.JobName.{JobName}
use Rattle.nfs_base.specs.declared.limits.TheConstants.{NAME_LIMIT, PRIVILEGE_LIMIT}
use Rattle.sess_slots.specs.Table.{SessionTable}
use Rattle.session_calls.specs.declared.slot_call.FileCall.{FileCall}
use Rattle.session_calls.specs.declared.slot_call.SlotCall.{SlotCall}
use Rattle.session_calls.specs.declared.slot_call.SlotCall.TheVariants.{OnFile}
use Rattle.session_calls.specs.declared.sole_call.BackChannel.{BackChannel}
use Rattle.session_client.specs.declared.setup.Setup.{Setup}
use Rattle.session_client.specs.declared.setup.Setup.TheVariants as setups

-- the laws of mounts
pub record SendLaws : Type 0 where
  pub begin : (at : SendAt) (nonce : List ℕ) (token : Option (List ℕ)) (m : Mounted) → Went at m (begun at nonce token m)
  pub anew : (at : SendAt) (m : Mounted) → Went at m (begun_anew at m)
  pub step : (mic : Mic) (at : SendAt) (principal : List ℕ) (back : Option BackChannel) (m : Mounted) → Went at m (stepped_in mic at principal back m.standing m)
  pub slot : (mic : Mic) (at : SendAt) (context : Option ℕ) (aim : Aim) (call : SlotCall) (m : Mounted) → Went at m (slotted mic at context aim call m)
  pub create : (mic : Mic) (at : SendAt) (child : ℕ) (name privilege : List ℕ) (m : Mounted) → Went at m (child_asked mic at child name privilege m)

-- ---- a job that is there was given its number, and keeps its plan where a chunk is claimed

abbrev pub AreGiven : JobTable → Type 0
AreGiven t = All (λ (job : Job). (0 < job.number) × (job.number ≤ t.made)) t.jobs

both_so : (a b : Bool) → (a && b) ≡ true → (a ≡ true) × (b ≡ true)
both_so true b is = (refl, is)
both_so false b is = absurd cc

found_or : (p : Job → Bool) (P : Job → Type 0) (x : Job) (xs : List Job) (job : Job) (b : Bool) → p x ≡ b → P x → (find p xs ≡ Some job → P job × (p job ≡ true))
    → (if b then Some x else find p xs) ≡ Some job → P job × (p job ≡ true)
found_or p P x xs job true is has rest found = let same : x ≡ job = cc in (subst P same has, subst (λ (y : Job). p y ≡ true) same is)
found_or p P x xs job false is has rest found = rest found

pub found_has : (p : Job → Bool) (P : Job → Type 0) (xs : List Job) (job : Job) → All P xs → find p xs ≡ Some job → P job × (p job ≡ true)
found_has p P [] job all found = absurd cc
found_has p P (x ∷ xs) job all found = found_or p P x xs job (p x) refl (All-head P x xs all) (found_has p P xs job (All-tail P x xs all)) found

pub record IsThere (t : JobTable) (name : JobName) (job : Job) : Type 0 where
  pub boot : name.boot ≡ t.boot
  pub number : name.number ≡ job.number
  pub first : 0 < name.number
  pub given : name.number ≤ t.made

pub there : (t : JobTable) (name : JobName) (job : Job) → AreGiven t → named t name ≡ Some job → IsThere t name job
there t name job all found =
    let f = found_has (is_job t.boot (id_of name)) (λ (job : Job). (0 < job.number) × (job.number ≤ t.made)) t.jobs job all found in
    let parts = both_so (name.boot == t.boot) (name.number == job.number) f.1 in
    let same = eqb-true name.number job.number parts.1 in
    record {
      boot = eqb-true name.boot t.boot parts.0;
      number = same;
      first = subst (λ (n : ℕ). 0 < n) (sym same) f.0.0;
      given = subst (λ (n : ℕ). n ≤ t.made) (sym same) f.0.1;
    }

given_plan : (t : JobTable) (name : JobName) (plan : Plan) (job : Option Job) → AreGiven t → named t name ≡ job → plan_in job ≡ Some plan → IsGiven t name
given_plan t name plan None all is planned = absurd cc
given_plan t name plan (Some job) all is planned = (there t name job all is).given

changed_at : (p : Job → Bool) (f : Job → Job) (x : Job) (xs : List Job) (b : Bool) → p x ≡ b → p (f x) ≡ p x → (f x).plan ≡ x.plan
    → plan_in (find p (changed p f xs)) ≡ plan_in (find p xs)
    → plan_in (find p (if b then f x ∷ xs else x ∷ changed p f xs)) ≡ plan_in (if b then Some x else find p xs)
changed_at p f x xs true is keeps same rest = rw (keeps, is) (ap (λ (q : Plan). Some q) same)
changed_at p f x xs false is keeps same rest = rw is rest

pub changed_plan : (p : Job → Bool) (f : Job → Job) (xs : List Job) → ((x : Job) → p (f x) ≡ p x) → ((x : Job) → (f x).plan ≡ x.plan)
    → plan_in (find p (changed p f xs)) ≡ plan_in (find p xs)
changed_plan p f [] keeps same = refl
changed_plan p f (x ∷ xs) keeps same = changed_at p f x xs (p x) refl (keeps x) (same x) (changed_plan p f xs keeps same)

claimed_plan : (b : BookView) (job : JobName) (chunk : Chunk) → plan_in (named (claimed (Some chunk) job b).table job) ≡ plan_in (named b.table job)
claimed_plan b job chunk =
    changed_plan (is_job b.table.boot (id_of job)) (λ (j : Job). record j { log = with_claim j.log chunk true }) b.table.jobs (λ x. refl) (λ x. refl)

-- ---- a call goes out

module _ (laws : SendLaws) (t : JobTable) (mic : Mic) (at : SendAt) (w : Work) where
  abbrev Moved : Due × Work → Type 0
  Moved o = Moves t at.place w o.1

  asked_moves : (job : JobName) (errand : Errand) (sent : Option Sent) (m : Mounted) → Goes at w.mount sent m
      → ((s : Sent) → sent ≡ Some s → IsErrand t job (asked_at m at.place) errand) → Moved (asked at.place job errand sent (with_mount m w))
  asked_moves job errand None m goes asks = inl (ap (λ (n : Mounted). with_mount n w) goes)
  asked_moves job errand (Some s) m goes asks = inr (record {
    job = job;
    errand = errand;
    workers = refl;
    others = λ p other. ap seen_of (goes.others p other);
    asks = asks s refl;
  })

  by_moves : (job : JobName) (errand : Errand) (outcome : Option Sent × Mounted) → Went at w.mount outcome
      → ((s : Sent) → outcome.0 ≡ Some s → IsErrand t job (asked_at outcome.1 at.place) errand) → Moved (asked_by at.place job errand outcome w)
  by_moves job errand outcome went asks = asked_moves job errand outcome.0 outcome.1 went asks

  if_moves : (b : Bool) (x y : Due × Work) → Moved x → Moved y → Moved (if b then x else y)
  if_moves true x y first second = first
  if_moves false x y first second = second

  step_went : (setup : Setup) (me : List ℕ) → Went at w.mount (step_by setup mic at me w.mount)
  step_went setups.Down me = laws.anew at w.mount
  step_went (setups.Rooted _) me = laws.step mic at me None w.mount
  step_went (setups.Registered _ _) me = laws.step mic at me None w.mount
  step_went (setups.Joined _ _) me = laws.step mic at me None w.mount
  step_went (setups.Up _ _) me = laws.step mic at me None w.mount

  setup_moves : (me : List ℕ) (job : JobName) → Moved (set_up mic at me job w)
  setup_moves me job =
      let m = w.mount in
      let call = asked_by at.place job errands.Setup (setup_sent mic at me m) w in
      if_moves (is_setting_up m) (dues.Rest, w) (if wants_nonce m then (dues.Begin job, w) else call) (inl refl)
      (if_moves (wants_nonce m) (dues.Begin job, w) call (inl refl)
      (by_moves job errands.Setup (setup_sent mic at me m) (step_went (setup_in m.standing) me) (λ s is. tt)))

  plan_moves : (seat : Option ℕ) (plan : Option Plan) (go : ℕ → Plan → Due × Work) → ((s : ℕ) (p : Plan) → plan ≡ Some p → Moved (go s p)) → Moved (by_plan seat plan go w)
  plan_moves None plan go moves = inl refl
  plan_moves (Some seat) None go moves = inl refl
  plan_moves (Some seat) (Some plan) go moves = moves seat plan refl

  went_if : (b : Bool) (x : Option Sent × Mounted) → Went at w.mount x → Went at w.mount (if b then x else (None, w.mount))
  went_if true x went = went
  went_if false x went = refl

  created_went : (seat : ℕ) (privilege : Privilege) → Went at w.mount (created_by mic at seat privilege w.mount)
  created_went seat privilege = went_if (nat_le (length (privilege_spell privilege)) PRIVILEGE_LIMIT) _ (laws.create mic at seat _ _ w.mount)

  under_went : (seat : ℕ) (plan : Plan) (root : Option Context) → Went at w.mount (confirmed_under mic at seat plan root w.mount)
  under_went seat plan None = refl
  under_went seat plan (Some root) = created_went seat (privilege_of mic root.key plan)

  confirm_went : (seat : ℕ) (plan : Plan) → Went at w.mount (confirm_sent mic at seat plan w.mount)
  confirm_went seat plan = went_if (nat_le (length plan.user) NAME_LIMIT) _ (under_went seat plan (root_context w.mount))

  confirm_moves : (job : JobName) (b : BookView) → Moved (confirm mic at job b w)
  confirm_moves job b =
      plan_moves (seat_of job.number w.seats) (plan_in (named b.table job)) (λ seat plan. asked_by at.place job errands.Confirm (confirm_sent mic at seat plan w.mount) w)
      (λ seat plan is. by_moves job errands.Confirm (confirm_sent mic at seat plan w.mount) (confirm_went seat plan) (λ s sent. tt))

  -- a call of the source's file, by the plan of a job that is there
  call_by : (job : JobName) (call : Plan → FileCall) (seat : ℕ) (plan : Plan) → AreGiven t → plan_in (named t job) ≡ Some plan
      → (s : Sent) → (call_sent mic at seat plan (call plan) w.mount).0 ≡ Some s
      → AsksBy t job (asked_at (call_sent mic at seat plan (call plan) w.mount).1 at.place) (λ p. OnFile p.source (call p))
  call_by job call seat plan all is s sent = record {
    given = given_plan t job plan (named t job) all refl is;
    asks = λ other there.
        let both : Some plan ≡ Some other = sym is ∙ there in
        let same : plan ≡ other = cc in
        subst (λ (p : Plan). Asks (asked_at (call_sent mic at seat plan (call plan) w.mount).1 at.place) (OnFile p.source (call p))) same
        (slotted_asks mic at (OnFile plan.source (call plan)) (name_under (Child seat) w.mount) w.mount s sent);
  }

  call_went : (seat : ℕ) (plan : Plan) (call : FileCall) → Went at w.mount (call_sent mic at seat plan call w.mount)
  call_went seat plan call = laws.slot mic at (name_under (Child seat) w.mount) aims.Slot (OnFile plan.source call) w.mount

  size_moves : (job : JobName) (b : BookView) → AreGiven t → plan_in (named b.table job) ≡ plan_in (named t job) → Moved (ask_size mic at job b w)
  size_moves job b all same =
      plan_moves (seat_of job.number w.seats) (plan_in (named b.table job)) (λ seat plan. asked_by at.place job errands.Size (call_sent mic at seat plan size_call w.mount) w)
      (λ seat plan is. by_moves job errands.Size (call_sent mic at seat plan size_call w.mount) (call_went seat plan size_call)
      (λ s sent. call_by job (λ p. size_call) seat plan all (sym same ∙ is) s sent))

  read_moves : (job : JobName) (chunk : Chunk) (b : BookView) → AreGiven t → plan_in (named b.table job) ≡ plan_in (named t job) → Moved (read mic at job chunk b w)
  read_moves job chunk b all same =
      plan_moves (seat_of job.number w.seats) (plan_in (named b.table job)) (λ seat plan. read_at mic at job chunk seat plan w)
      (λ seat plan is. if_moves (nat_lt (plan.src_off + chunk.off) (2 ^ 64)) (asked_by at.place job (errands.Bytes chunk) (call_sent mic at seat plan (read_call plan chunk) w.mount) w) (dues.Rest, w)
      (by_moves job (errands.Bytes chunk) (call_sent mic at seat plan (read_call plan chunk) w.mount) (call_went seat plan (read_call plan chunk))
      (λ s sent. call_by job (λ p. read_call p chunk) seat plan all (sym same ∙ is) s sent)) (inl refl))

  -- INIT with a nonce that was drawn
  pub begun_moves : (job : JobName) (outcome : Option Sent × Mounted) → Went at w.mount outcome → Moves t at.place w (begun_for at.place job outcome w).1
  begun_moves job (None, m) went = inl refl
  begun_moves job (Some sent, m) went =
      inr (record { job = job; errand = errands.Setup; workers = refl; others = λ p other. ap seen_of (went.others p other); asks = tt })

-- ---- a turn

module _ (laws : SendLaws) (mic : Mic) (at : SendAt) (me : List ℕ) (w : Work) (b : BookView) (all : AreGiven b.table) where
  abbrev TurnMoves : Turn → Type 0
  TurnMoves turn = Moves b.table at.place w turn.told.1

  task_moves : (task : Option Task) → TurnMoves (by_task mic at me task w (after_task task b))
  task_moves None = inl refl
  task_moves (Some (tasks.Setup job)) = setup_moves laws b.table mic at w me job
  task_moves (Some (tasks.Confirm job)) = confirm_moves laws b.table mic at w job b
  task_moves (Some (tasks.Size job)) = size_moves laws b.table mic at w job b all refl
  task_moves (Some (tasks.Read job chunk)) = read_moves laws b.table mic at w job chunk (claimed (Some chunk) job b) all (claimed_plan b job chunk)
  task_moves (Some (tasks.Commit job)) = inl refl

  next_moves : (left : Bool) (task : Option Task) → TurnMoves (next_turn left mic at me task w b)
  next_moves true task = task_moves task
  next_moves false task = inl refl

  by_moves_all : (awaits holding left : Bool) (task : Option Task) → TurnMoves (turn_by awaits holding left mic at me task w b)
  by_moves_all true holding left task = inl refl
  by_moves_all false true left task = inl refl
  by_moves_all false false left task = next_moves left task

  pub turn_moves : (sessions : SessionTable) → TurnMoves (turn mic at me sessions w b)
  turn_moves sessions =
      by_moves_all (is_some (awaited_at w.mount at.place)) (holds (post_at w.workers at.place)) (has_numbers w.mount.standing at.place) (task_at sessions at.now w b)
