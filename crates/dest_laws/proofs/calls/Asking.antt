-- What is due in a worker's turn: nothing that changes its mount, or a call that the mount may send.
use Rattle.std.proofs.Common.{◌≡◌, ◌⊎◌, inl, inr, ℕ, ◌+◌, ◌-◌, ◌<◌, ◌≤◌, Bool, true, false, List, length, Option, Some, None, refl, ap, subst, arith}
use Rattle.std.proofs.lemmas.Bool.{and_parts, leb-true, lt-ltb, ltb-true}
use Rattle.std.specs.Prelude.{◌^◌, is_none, is_some, nat_le, nat_lt, if◌then◌else◌}
use Rattle.caller_laws.specs.Fitting.Asking.{SlotCallIsFit}
use Rattle.caller_laws.specs.Fitting.Bounds.{TextFits}
use Rattle.caller_laws.specs.Fitting.Moving.{GivesBytes, SendIsFit}
use Rattle.caller_laws.specs.Good.{Identity}
use Rattle.caller_laws.specs.Lawful.{Suits}
use Rattle.caller_laws.specs.Moves.{BeginAnew, InSlot, Make, Send, Sends, SetUp, sent_by}
use Rattle.caller_laws.specs.OneStep.Order.{is_anew}
use Rattle.caller_laws.specs.View.{Above}
use Rattle.copy_privs.specs.Forms.{privilege_name, privilege_spell}
use Rattle.copy_privs.specs.declared.privilege.Privilege.{Privilege}
use Rattle.dest_laws.proofs.calls.GivenOut.{claimed_given, found_given}
use Rattle.dest_laws.proofs.calls.Plans.{ReadsShort, after_fit, confirm_are, confirm_named, found_fit, task_short}
use Rattle.dest_laws.specs.Calls.Fits.{EachPlanIsFit}
use Rattle.dest_laws.specs.Calls.Settled.{AreGivenOut}
use Rattle.dest_laws.specs.View.View.{errand_purpose, place_of, ready_by}
use Rattle.dest_tasks.specs.Posts.{holds, post_at, put_at}
use Rattle.dest_tasks.specs.Seats.{seat_of}
use Rattle.dest_tasks.specs.Tasks.{after_task}
use Rattle.dest_tasks.specs.declared.post.Errand.{Errand}
use Rattle.dest_tasks.specs.declared.post.Errand.TheVariants as errands
use Rattle.dest_tasks.specs.declared.post.Post.TheVariants.{Awaits}
use Rattle.dest_tasks.specs.declared.tasks.Task.{Task}
use Rattle.dest_tasks.specs.declared.tasks.Task.TheVariants as tasks
use Rattle.dest_work.specs.Sending as sendings
use Rattle.dest_work.specs.Sending.{is_down, wants_nonce}
use Rattle.dest_work.specs.Work as works
use Rattle.dest_work.specs.Work.{MayBegin, plan_in, task_at, with_mount}
use Rattle.dest_work.specs.declared.work.Due.{Due}
use Rattle.dest_work.specs.declared.work.Due.TheVariants as dues
use Rattle.dest_work.specs.declared.work.Work.{Work}
use Rattle.gss_ctx.specs.Seals.{Mic}
use Rattle.gss_mech.specs.declared.mechanism.TheConstants.{INITIATOR}
use Rattle.job_book.specs.Book.{BookView, id_of, named}
use Rattle.job_log.specs.declared.chunk.Chunk.{Chunk}
use Rattle.job_table.specs.Fits.{PlanIsFit}
use Rattle.job_table.specs.declared.job.Job.{Job}
use Rattle.job_table.specs.declared.job.Plan.{Plan}
use Rattle.mount.specs.Laws.{Goes, Went}
use Rattle.mount.specs.Sending.{child_asked}
use Rattle.mount.specs.State.{Mounted, awaited_at, has_numbers, is_setting_up, kept_in, root_context, setup_in}
use Rattle.mount.specs.declared.calling.Under.TheVariants.{Child}
use Rattle.mount.specs.declared.machine.SendAt.{SendAt}
use Rattle.mount.specs.declared.machine.Sent.{Sent}
use Rattle.mount.specs.declared.state.Awaiting.{Awaiting}
use Rattle.mount.specs.declared.state.Context.{Context}
use Rattle.nfs_base.specs.declared.job.JobName.{JobName}
use Rattle.nfs_base.specs.declared.limits.TheConstants.{MOST_JOBS, NAME_LIMIT, PRIVILEGE_LIMIT}
use Rattle.sess_slots.specs.Table.{SessionTable}
use Rattle.session_calls.specs.declared.slot_call.FileCall.{FileCall}
use Rattle.session_calls.specs.declared.slot_call.SlotCall.TheVariants.{OnFile}
use Rattle.session_client.specs.declared.setup.Setup.{Setup}
use Rattle.session_client.specs.declared.setup.Setup.TheVariants as setups
use Rattle.wire_xdr.specs.Cursor.{IsBytes}

-- a task is for a job whose call, once it goes out, is ready
abbrev pub IsReady : (made : ℕ) → JobName → Errand → Type 0
IsReady made job errand = ready_by made (errand_purpose job errand) ≡ true

module _ (fit : Type 0) (who : Identity) (mic : Mic) (at : SendAt) (me : List ℕ) (w : Work) where
  pub record IsQuiet (told : Due × Work) : Type 0 where
    pub work : told.1 ≡ w
    pub unasked : (errand : Errand) (sent : Sent) → told.0 ≡ dues.Asked errand sent → ⊥
    pub begins : (job : JobName) → told.0 ≡ dues.Begin job → MayBegin at.place w.mount

  pub record IsCall (made : ℕ) (told : Due × Work) : Type 0 where
    pub send : Send
    pub errand : Errand
    pub job : JobName
    pub sent : Sent
    pub goes : (sent_by mic at send w.mount).0 ≡ Some sent
    pub due : told.0 ≡ dues.Asked errand sent
    pub work : told.1 ≡ record w { mount = (sent_by mic at send w.mount).1; workers = put_at at.place (Awaits job errand) w.workers }
    pub anew : is_anew (Sends at send) ≡ true
    pub suits : (above : Above) → above.ready (above.purpose at.place) ≡ true → Suits who above w.mount at send
    pub ready : IsReady made job errand
    pub sends : fit → SendIsFit send

  abbrev pub Does : (made : ℕ) → Due × Work → Type 0
  Does made told = IsQuiet told ⊎ IsCall made told

  rests : (made : ℕ) → Does made (dues.Rest, w)
  rests made = inl (record { work = refl; unasked = λ errand sent e. absurd cc; begins = λ job e. absurd cc })

  module _ (went : (send : Send) → Went at w.mount (sent_by mic at send w.mount)) (free : awaited_at w.mount at.place ≡ None) (made : ℕ)
      (spells : fit → GivesBytes mic) (me_fits : fit → TextFits NAME_LIMIT me) where
    asked_does : (job : JobName) (errand : Errand) (send : Send) → is_anew (Sends at send) ≡ true
        → ((above : Above) → above.ready (above.purpose at.place) ≡ true → Suits who above w.mount at send) → (fit → SendIsFit send)
        → IsReady made job errand → Does made (works.asked_by at.place job errand (sent_by mic at send w.mount) w)
    asked_does job errand send anew suits sends ready = by (sent_by mic at send w.mount).0 refl
      where
        by : (o : Option Sent) → (sent_by mic at send w.mount).0 ≡ o → Does made (works.asked at.place job errand o (with_mount (sent_by mic at send w.mount).1 w))
        by None is =
            let same : (sent_by mic at send w.mount).1 ≡ w.mount =
            subst (λ (o : Option Sent). Goes at w.mount o (sent_by mic at send w.mount).1) is (went send) in
            inl (record { work = ap (λ (m : Mounted). with_mount m w) same; unasked = λ errand sent e. absurd cc; begins = λ job e. absurd cc })
        by (Some sent) is =
            inr (record { send = send; errand = errand; job = job; sent = sent; goes = is; due = refl; work = refl; anew = anew; suits = suits; ready = ready; sends = sends })

    nothing_asked : (job : JobName) (errand : Errand) → Does made (works.asked_by at.place job errand (None, w.mount) w)
    nothing_asked job errand = rests made

    -- ---- a step of the setup

    down_is : (setup : Setup) → is_down setup ≡ true → setup ≡ setups.Down
    down_is setups.Down e = refl
    down_is (setups.Rooted nonce) e = absurd cc
    down_is (setups.Registered client sequence) e = absurd cc
    down_is (setups.Joined client session) e = absurd cc
    down_is (setups.Up client session) e = absurd cc

    step_does : (job : JobName) → is_setting_up w.mount ≡ false → (setup : Setup)
        → Does made (works.asked_by at.place job errands.Setup (sendings.step_by setup mic at me w.mount) w)
    step_does job alone setups.Down = asked_does job errands.Setup BeginAnew refl (λ above ready. (free, alone)) (λ f. tt) refl
    step_does job alone (setups.Rooted nonce) = asked_does job errands.Setup (SetUp me None) refl (λ above ready. (free, alone)) (λ f. (me_fits f, tt)) refl
    step_does job alone (setups.Registered client sequence) = asked_does job errands.Setup (SetUp me None) refl (λ above ready. (free, alone)) (λ f. (me_fits f, tt)) refl
    step_does job alone (setups.Joined client session) = asked_does job errands.Setup (SetUp me None) refl (λ above ready. (free, alone)) (λ f. (me_fits f, tt)) refl
    step_does job alone (setups.Up client session) = asked_does job errands.Setup (SetUp me None) refl (λ above ready. (free, alone)) (λ f. (me_fits f, tt)) refl

    setup_does : (job : JobName) → Does made (works.set_up mic at me job w)
    setup_does job = by (is_setting_up w.mount) refl
      where
        wanting : is_setting_up w.mount ≡ false → (b : Bool) → wants_nonce w.mount ≡ b
            → Does made (if b then (dues.Begin job, w) else works.asked_by at.place job errands.Setup (sendings.setup_sent mic at me w.mount) w)
        wanting alone true wants =
            let parts = and_parts (is_down (setup_in w.mount.standing)) (is_none (kept_in w.mount.standing)) wants in
            inl (record {
              work = refl;
              unasked = λ errand sent e. absurd cc;
              begins = λ other e. record { free = free; down = down_is (setup_in w.mount.standing) parts.0; alone = alone };
            })
        wanting alone false wants = step_does job alone (setup_in w.mount.standing)

        by : (b : Bool) → is_setting_up w.mount ≡ b
            → Does made (if b then (dues.Rest, w)
            else (if wants_nonce w.mount then (dues.Begin job, w) else works.asked_by at.place job errands.Setup (sendings.setup_sent mic at me w.mount) w))
        by true is = rests made
        by false is = wanting is (wants_nonce w.mount) refl

    -- ---- what is asked for a job that has a seat and a plan

    module _ (b : BookView) (given : AreGivenOut b.table) (counted : b.table.made ≡ made) (plans : fit → EachPlanIsFit b.table) where
      planned : (job : JobName) (go : ℕ → Plan → Due × Work)
          → ((seat : ℕ) (plan : Plan) → (fit → PlanIsFit plan) → (0 < job.number) × (job.number ≤ made) → Does made (go seat plan))
          → Does made (works.for_job job go b w)
      planned job go does = by (seat_of job.number w.seats) (named b.table job) refl
        where
          by : (seat : Option ℕ) (o : Option Job) → named b.table job ≡ o → Does made (works.by_plan seat (plan_in o) go w)
          by None o is = rests made
          by (Some seat) None is = rests made
          by (Some seat) (Some own) is =
              let out = found_given b.table.made b.table.boot (id_of job) b.table.jobs own given is in
              does seat own.plan (λ f. found_fit b.table.boot (id_of job) b.table.jobs own (plans f) is) (subst (λ (x : ℕ). (0 < job.number) × (job.number ≤ x)) counted out)

      is_ready : (job : JobName) → (0 < job.number) × (job.number ≤ made) → nat_lt (place_of job) made ≡ true
      is_ready job out =
          let low : 0 < job.number = out.0 in
          let high : job.number ≤ made = out.1 in
          let below : job.number - 1 < made = omega arith in
          lt-ltb (job.number - 1) made below

      created_does : (job : JobName) (seat : ℕ) (privilege : Privilege)
          → (fit → IsBytes (privilege_spell privilege) × TextFits NAME_LIMIT (privilege_name privilege))
          → Does made (works.asked_by at.place job errands.Confirm (sendings.created_by mic at seat privilege w.mount) w)
      created_does job seat privilege fits = by (nat_le (length (privilege_spell privilege)) PRIVILEGE_LIMIT) refl
        where
          by : (o : Bool) → nat_le (length (privilege_spell privilege)) PRIVILEGE_LIMIT ≡ o → Does made (works.asked_by at.place job errands.Confirm
              (if o then child_asked mic at seat (privilege_name privilege) (privilege_spell privilege) w.mount else (None, w.mount)) w)
          by true short =
              asked_does job errands.Confirm (Make seat (privilege_name privilege) (privilege_spell privilege)) refl (λ above ready. free)
              (λ f. ((fits f).1, record { short = leb-true (length (privilege_spell privilege)) PRIVILEGE_LIMIT short; are_bytes = (fits f).0 })) refl
          by false short = rests made

      confirmed_does : (job : JobName) (seat : ℕ) (plan : Plan) → (fit → PlanIsFit plan) → (o : Option Context)
          → Does made (works.asked_by at.place job errands.Confirm (sendings.confirmed_under mic at seat plan o w.mount) w)
      confirmed_does job seat plan fits None = rests made
      confirmed_does job seat plan fits (Some root) =
          created_does job seat (sendings.privilege_of mic root.key plan)
          (λ f. (confirm_are (mic root.key INITIATOR plan.secret) plan.user (spells f root.key INITIATOR plan.secret) (fits f).user, confirm_named))

      confirm_at : (job : JobName) (seat : ℕ) (plan : Plan) → (fit → PlanIsFit plan) → Does made (works.asked_by at.place job errands.Confirm (sendings.confirm_sent mic at seat plan w.mount) w)
      confirm_at job seat plan fits = by (nat_le (length plan.user) NAME_LIMIT)
        where
          by : (o : Bool) → Does made (works.asked_by at.place job errands.Confirm
              (if o then sendings.confirmed_under mic at seat plan (root_context w.mount) w.mount else (None, w.mount)) w)
          by true = confirmed_does job seat plan fits (root_context w.mount)
          by false = rests made

      call_does : (job : JobName) (errand : Errand) (seat : ℕ) (plan : Plan) (call : FileCall) → (fit → SlotCallIsFit (OnFile plan.source call)) → IsReady made job errand
          → Does made (works.asked_by at.place job errand (sendings.call_sent mic at seat plan call w.mount) w)
      call_does job errand seat plan call fits ready = asked_does job errand (InSlot (Child seat) (OnFile plan.source call)) refl (λ above goes. (free, goes)) fits ready

      read_does : (job : JobName) (chunk : Chunk) (seat : ℕ) (plan : Plan) → chunk.len < 2 ^ 32 → (fit → PlanIsFit plan) → (0 < job.number) × (job.number ≤ made)
          → Does made (works.read_at mic at job chunk seat plan w)
      read_does job chunk seat plan short fits out = by (nat_lt (plan.src_off + chunk.off) (2 ^ 64)) refl
        where
          by : (o : Bool) → nat_lt (plan.src_off + chunk.off) (2 ^ 64) ≡ o → Does made (if o
              then works.asked_by at.place job (errands.Bytes chunk) (sendings.call_sent mic at seat plan (sendings.read_call plan chunk) w.mount) w
              else (dues.Rest, w))
          by true below =
              call_does job (errands.Bytes chunk) seat plan (sendings.read_call plan chunk)
              (λ f. ((fits f).source, ((fits f).src_id, ltb-true (plan.src_off + chunk.off) (2 ^ 64) below, short))) (is_ready job out)
          by false below = rests made

      -- ---- a task

      task_does : (task : Option Task) → ReadsShort task → Does made (works.by_task mic at me task w b).told
      task_does None short = rests made
      task_does (Some (tasks.Setup job)) short = setup_does job
      task_does (Some (tasks.Confirm job)) short = planned job _ (λ seat plan fits out. confirm_at job seat plan fits)
      task_does (Some (tasks.Size job)) short =
          planned job _ (λ seat plan fits out. call_does job errands.Size seat plan sendings.size_call (λ f. ((fits f).source, tt)) (is_ready job out))
      task_does (Some (tasks.Read job chunk)) short = planned job _ (λ seat plan fits out. read_does job chunk seat plan short fits out)
      task_does (Some (tasks.Commit job)) short = inl (record { work = refl; unasked = λ errand sent e. absurd cc; begins = λ other e. absurd cc })

  after_given : (task : Option Task) (b : BookView) → AreGivenOut b.table → AreGivenOut (after_task task b).table
  after_given None b given = given
  after_given (Some (tasks.Setup job)) b given = given
  after_given (Some (tasks.Confirm job)) b given = given
  after_given (Some (tasks.Size job)) b given = given
  after_given (Some (tasks.Read job chunk)) b given = claimed_given (Some chunk) job b given
  after_given (Some (tasks.Commit job)) b given = given

  after_made : (task : Option Task) (b : BookView) → (after_task task b).table.made ≡ b.table.made
  after_made None b = refl
  after_made (Some (tasks.Setup job)) b = refl
  after_made (Some (tasks.Confirm job)) b = refl
  after_made (Some (tasks.Size job)) b = refl
  after_made (Some (tasks.Read job chunk)) b = refl
  after_made (Some (tasks.Commit job)) b = refl

  -- where a chunk is to land, nothing is awaited
  pub record IsTurned (made : ℕ) (told : Due × Work) : Type 0 where
    pub does : Does made told
    pub lands : told.0 ≡ dues.Land → awaited_at w.mount at.place ≡ None
    pub free : IsCall made told → awaited_at w.mount at.place ≡ None

  asks_nothing : (o : Option Awaiting) → is_some o ≡ false → o ≡ None
  asks_nothing None e = refl
  asks_nothing (Some a) e = absurd cc

  pub turn_does : ((send : Send) → Went at w.mount (sent_by mic at send w.mount)) → (sessions : SessionTable) (b : BookView) → AreGivenOut b.table
      → (fit → GivesBytes mic) → (fit → TextFits NAME_LIMIT me) → (fit → EachPlanIsFit b.table)
      → IsTurned b.table.made (works.turn mic at me sessions w b).told
  turn_does went sessions b given spells me_fits plans =
      by (is_some (awaited_at w.mount at.place)) (holds (post_at w.workers at.place)) (has_numbers w.mount.standing at.place) refl
    where
      by : (awaits holding left : Bool) → is_some (awaited_at w.mount at.place) ≡ awaits
          → IsTurned b.table.made (works.turn_by awaits holding left mic at me (task_at sessions at.now w b) w b).told
      by true holding left is = record { does = rests b.table.made; lands = λ e. absurd cc; free = λ call. let due = call.due in absurd cc }
      by false true left is = record {
        does = inl (record { work = refl; unasked = λ errand sent e. absurd cc; begins = λ other e. absurd cc });
        lands = λ e. asks_nothing (awaited_at w.mount at.place) is;
        free = λ call. asks_nothing (awaited_at w.mount at.place) is;
      }
      by false false false is = record { does = rests b.table.made; lands = λ e. absurd cc; free = λ call. asks_nothing (awaited_at w.mount at.place) is }
      by false false true is =
          let free = asks_nothing (awaited_at w.mount at.place) is in
          let doing = task_at sessions at.now w b in
          record {
            does = task_does went free b.table.made spells me_fits (after_task doing b) (after_given doing b given) (after_made doing b)
                (λ f. after_fit doing b (plans f)) doing (task_short _ MOST_JOBS 0 b);
            lands = λ e. free;
            free = λ call. free;
          }
