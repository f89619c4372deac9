-- What a destination's mount sends is sealed under contexts of its own, so not for the client.
use Rattle.std.proofs.Common.{◌≡◌, ℕ, ◌+◌, ◌^◌, Bool, true, false, cond, List, [], ◌∷◌, length, Option, Some, None, refl, sym, ap, ◌∙◌}
use Rattle.std.specs.Prelude.{◌==◌, nat_le, nat_lt, is_some, if◌then◌else◌, option_map}
use Rattle.caller_laws.specs.Good.{Identity, IsGood}
use Rattle.caller_laws.specs.View.{face}
use Rattle.copy_privs.specs.Forms.{privilege_name, privilege_spell}
use Rattle.copy_privs.specs.declared.privilege.Privilege.{Privilege}
use Rattle.dest_laws.specs.Names.Posts.{AreNotClients, IsNotClients, IsNotHis}
use Rattle.dest_tasks.specs.Posts.{holds, post_at}
use Rattle.dest_tasks.specs.Seats.{seat_of}
use Rattle.dest_tasks.specs.Tasks.{after_task}
use Rattle.dest_tasks.specs.declared.post.Errand.{Errand}
use Rattle.dest_tasks.specs.declared.post.Errand.TheVariants as errands
use Rattle.dest_tasks.specs.declared.tasks.Task.{Task}
use Rattle.dest_tasks.specs.declared.tasks.Task.TheVariants as tasks
use Rattle.dest_work.specs.Sending as sendings
use Rattle.dest_work.specs.Sending.{wants_nonce}
use Rattle.dest_work.specs.Work as works
use Rattle.dest_work.specs.Work.{begun_for, plan_in, task_at}
use Rattle.dest_work.specs.declared.work.Due.{Due}
use Rattle.dest_work.specs.declared.work.Due.TheVariants as dues
use Rattle.dest_work.specs.declared.work.Work.{Work}
use Rattle.gss_ctx.specs.Calls.{Side}
use Rattle.gss_ctx.specs.Seals.{Mic}
use Rattle.job_book.specs.Book.{BookView, named}
use Rattle.job_log.specs.declared.chunk.Chunk.{Chunk}
use Rattle.job_table.specs.declared.job.Plan.{Plan}
use Rattle.mount.specs.Sending.{awaits_anew, begun, begun_by, call_awaits, call_under, child_asked, contexts_after, contexts_anew, name_under, numbered, numbered_once, out_anew, pending_anew, sealed_by, sealed_so, sent_again, sent_anew, sent_by, slot_asked_in, slotted, step_asked, stepped_in, under_anew}
use Rattle.mount.specs.State.{Mounted, awaited_at, context_of, has_numbers, is_setting_up, kept_in, root_context, root_name, setup_in}
use Rattle.mount.specs.declared.calling.Under.TheVariants.{Child}
use Rattle.mount.specs.declared.machine.SendAt.{SendAt}
use Rattle.mount.specs.declared.machine.Sent.{Sent}
use Rattle.mount.specs.declared.state.Aim.{Aim}
use Rattle.mount.specs.declared.state.Aim.TheVariants as aims
use Rattle.mount.specs.declared.state.Awaiting.{Awaiting}
use Rattle.mount.specs.declared.state.Context.{Context}
use Rattle.mount.specs.declared.state.Pending.{Pending}
use Rattle.mount.specs.declared.state.Pending.TheVariants as pendings
use Rattle.mount.specs.declared.state.Standing.{Standing}
use Rattle.mount.specs.declared.state.Standing.TheVariants.{Down, Rooted}
use Rattle.nfs_base.specs.declared.job.JobName.{JobName}
use Rattle.nfs_base.specs.declared.limits.TheConstants.{NAME_LIMIT, PRIVILEGE_LIMIT}
use Rattle.nfs_base.specs.declared.seal.End.TheVariants.{Client, Source}
use Rattle.nfs_base.specs.declared.seal.Seal.{Seal}
use Rattle.sess_slots.specs.Table.{SessionTable}
use Rattle.session_calls.specs.declared.slot_call.FileCall.{FileCall}
use Rattle.session_calls.specs.declared.slot_call.SlotCall.{SlotCall}
use Rattle.session_calls.specs.declared.slot_call.SlotCall.TheVariants.{OnFile}
use Rattle.session_calls.specs.declared.sole_call.BackChannel.{BackChannel}
use Rattle.session_client.specs.Asked.{asked_call, called_if, called_under, create_args}
use Rattle.session_client.specs.Pending.{Beginning}
use Rattle.session_client.specs.declared.asked.Asked.{Asked}
use Rattle.session_client.specs.declared.asked.Asked.TheVariants.{Create}
use Rattle.session_client.specs.declared.sealing.SealedCall.{SealedCall}
use Rattle.session_client.specs.declared.setup.Setup.{Setup}
use Rattle.session_client.specs.declared.setup.Setup.TheVariants as setups

abbrev pub SentOwn : Option Sent → Type 0
SentOwn None = Unit {0}
SentOwn (Some sent) = IsNotClients sent.seal

unsealed : IsNotClients None
unsealed seal is owner = absurd cc

-- ---- a call under a context

sealed_under : (b : Bool) (mic : Mic) (xid : ℕ) (asked : Asked) (side : Side) (call : SealedCall) → (called_if b mic side xid asked).0 ≡ Some call → call.seal.owner ≡ side.owner
sealed_under true mic xid asked side call is = let same : asked_call mic side xid asked ≡ call = cc in ap (λ (s : SealedCall). s.seal.owner) (sym same)
sealed_under false mic xid asked side call is = absurd cc

side_after : (b : Bool) (mic : Mic) (xid : ℕ) (asked : Asked) (side : Side) → (called_if b mic side xid asked).1.owner ≡ side.owner
side_after true mic xid asked side = refl
side_after false mic xid asked side = refl

module _ (mic : Mic) where
  under_own : (name xid : ℕ) (asked : Asked) (contexts : List Context) → AreNotClients contexts → (call : SealedCall) → (sealed_by mic name xid asked contexts).0 ≡ Some call
      → IsNotClients (Some call.seal)
  under_own name xid asked contexts are call = by (context_of name contexts) refl
    where
      by : (o : Option Context) → context_of name contexts ≡ o → call_under mic xid asked o ≡ Some call → IsNotClients (Some call.seal)
      by None there is = absurd cc
      by (Some c) there is = λ seal same owner.
          let inner : call.seal ≡ seal = cc in
          are name c there (sym (sealed_under (nat_lt c.caller.next 2147483648) mic xid asked c.caller call is) ∙ (ap (λ (s : Seal). s.owner) inner ∙ owner))

  -- what is numbered keeps whose it is
  not_numbered : (name n : ℕ) (side : Side) → (side.owner ≡ Client → ⊥) → (contexts : List Context) → ((k : Context) → context_of n contexts ≡ Some k → IsNotHis k)
      → (k : Context) → context_of n (numbered_once name side contexts) ≡ Some k → IsNotHis k
  not_numbered name n side own [] are k there = are k there
  not_numbered name n side own (x ∷ xs) are k there = here (x.name == name) are (λ more is. not_numbered name n side own xs more k is) there
    where
      first : (e : Bool) → ((c : Context) → cond e (Some x) (context_of n xs) ≡ Some c → IsNotHis c) → cond e (Some (record x { caller = side })) (context_of n xs) ≡ Some k → IsNotHis k
      first true all is = λ owner. let same : record x { caller = side } ≡ k = cc in own (ap (λ (c : Context). c.caller.owner) same ∙ owner)
      first false all is = all k is

      later : (e : Bool) → ((c : Context) → cond e (Some x) (context_of n xs) ≡ Some c → IsNotHis c)
          → (((c : Context) → context_of n xs ≡ Some c → IsNotHis c) → context_of n (numbered_once name side xs) ≡ Some k → IsNotHis k)
          → cond e (Some x) (context_of n (numbered_once name side xs)) ≡ Some k → IsNotHis k
      later true all rest is = all k is
      later false all rest is = rest all is

      here : (b : Bool) → ((c : Context) → context_of n (x ∷ xs) ≡ Some c → IsNotHis c)
          → (((c : Context) → context_of n xs ≡ Some c → IsNotHis c) → context_of n (numbered_once name side xs) ≡ Some k → IsNotHis k)
          → context_of n (cond b (record x { caller = side } ∷ xs) (x ∷ numbered_once name side xs)) ≡ Some k → IsNotHis k
      here true all rest is = first (x.name == n) all is
      here false all rest is = later (x.name == n) all rest is

  so_own : (name : ℕ) (call : Option SealedCall) (side : Side) (contexts : List Context) → (side.owner ≡ Client → ⊥) → AreNotClients contexts → AreNotClients (sealed_so name call side contexts)
  so_own name None side contexts own are = are
  so_own name (Some call) side contexts own are = λ n. not_numbered name n side own contexts (are n)

  contexts_own : (name xid : ℕ) (asked : Asked) (contexts : List Context) → AreNotClients contexts → AreNotClients (sealed_by mic name xid asked contexts).1
  contexts_own name xid asked contexts are = by (context_of name contexts) refl
    where
      by : (o : Option Context) → context_of name contexts ≡ o → AreNotClients (contexts_after mic name xid asked o contexts)
      by None there = are
      by (Some c) there =
          so_own name (called_under mic c.caller xid asked).0 (called_under mic c.caller xid asked).1 contexts
          (λ owner. are name c there (sym (side_after (nat_lt c.caller.next 2147483648) mic xid asked c.caller) ∙ owner)) are

  awaits_own : (at : SendAt) (context : ℕ) (aim : Aim) (asked : Asked) (call : Option SealedCall) (m : Mounted) → ((c : SealedCall) → call ≡ Some c → IsNotClients (Some c.seal))
      → SentOwn (call_awaits at context aim asked call m).0
  awaits_own at context aim asked None m own = tt
  awaits_own at context aim asked (Some call) m own = own call refl

  by_own : (at : SendAt) (context : Option ℕ) (aim : Aim) (asked : Option Asked) (m : Mounted) → AreNotClients m.contexts → SentOwn (sent_by mic at context aim asked m).0
  by_own at None aim asked m are = tt
  by_own at (Some context) aim None m are = tt
  by_own at (Some context) aim (Some asked) m are =
      awaits_own at context aim asked (sealed_by mic context at.xid asked m.contexts).0 _ (under_own context at.xid asked m.contexts are)

  -- ---- each kind of call

  kept_own : (at : SendAt) (kept : Option Beginning) (m : Mounted) → SentOwn (begun_by at kept m).0
  kept_own at None m = tt
  kept_own at (Some init) m = unsealed

  pub begun_own : (at : SendAt) (nonce : List ℕ) (token : Option (List ℕ)) (m : Mounted) → SentOwn (begun at nonce token m).0
  begun_own at nonce None m = tt
  begun_own at nonce (Some token) m = unsealed

  stepped_own : (at : SendAt) (me : List ℕ) (back : Option BackChannel) (standing : Standing) (m : Mounted) → AreNotClients m.contexts → SentOwn (stepped_in mic at me back standing m).0
  stepped_own at me back (Down kept) m are = tt
  stepped_own at me back (Rooted root) m are = by_own at (Some root.name) aims.Setup (step_asked me back root.setup) m are

  numbered_own : (slot : ℕ) (sent : Option Sent) (m : Mounted) → SentOwn sent → SentOwn (numbered slot sent m).0
  numbered_own slot None m own = tt
  numbered_own slot (Some sent) m own = own

  slotted_own : (at : SendAt) (context : Option ℕ) (aim : Aim) (call : SlotCall) (m : Mounted) → AreNotClients m.contexts → SentOwn (slotted mic at context aim call m).0
  slotted_own at context aim call m are =
      let asked = slot_asked_in at.place call m.standing in
      numbered_own at.place (sent_by mic at context aim asked m).0 (sent_by mic at context aim asked m).1 (by_own at context aim asked m are)

  -- ---- what goes out again

  again_out : (xid : ℕ) (contexts : List Context) (pending : Pending) → AreNotClients contexts → SentOwn (out_anew mic xid contexts pending)
  again_out xid contexts (pendings.Init init) are = unsealed
  again_out xid contexts (pendings.Under context aim call) are = by (sealed_by mic context xid call.asked contexts).0 (under_own context xid call.asked contexts are)
    where
      by : (o : Option SealedCall) → ((c : SealedCall) → o ≡ Some c → IsNotClients (Some c.seal)) → SentOwn (under_anew o)
      by None own = tt
      by (Some c) own = own c refl

  again_contexts : (xid : ℕ) (contexts : List Context) (pending : Pending) → AreNotClients contexts → AreNotClients (contexts_anew mic xid contexts pending)
  again_contexts xid contexts (pendings.Init init) are = are
  again_contexts xid contexts (pendings.Under context aim call) are = contexts_own context xid call.asked contexts are

  abbrev GoesOwn : Option Sent × Mounted → Type 0
  GoesOwn outcome = SentOwn outcome.0 × AreNotClients outcome.1.contexts

  anew_own : (at : SendAt) (sent : Option Sent) (contexts : List Context) (pending : Pending) (m : Mounted) → SentOwn sent → AreNotClients contexts → AreNotClients m.contexts
      → GoesOwn (awaits_anew at sent contexts pending m)
  anew_own at None contexts pending m own are was = (tt, was)
  anew_own at (Some sent) contexts pending m own are was = (own, are)

  by_again : (at : SendAt) (o : Option Awaiting) (m : Mounted) → AreNotClients m.contexts → GoesOwn (sent_anew mic at o m)
  by_again at None m are = (tt, are)
  by_again at (Some a) m are =
      anew_own at (out_anew mic at.xid m.contexts a.pending) (contexts_anew mic at.xid m.contexts a.pending) (pending_anew mic at.xid m.contexts a.pending) m
      (again_out at.xid m.contexts a.pending are) (again_contexts at.xid m.contexts a.pending are) are

  pub again_own : (at : SendAt) (m : Mounted) → AreNotClients m.contexts → SentOwn (sent_again mic at m).0 × AreNotClients (sent_again mic at m).1.contexts
  again_own at m are = by_again at (awaited_at m at.place) m are

-- ---- what a worker asks

abbrev pub AskedOwn : Due → Type 0
AskedOwn (dues.Asked errand sent) = IsNotClients sent.seal
AskedOwn _ = Unit {0}

pub for_own : (place : ℕ) (job : JobName) (outcome : Option Sent × Mounted) (w : Work) → SentOwn outcome.0 → SentOwn (begun_for place job outcome w).0
for_own place job (None, m) w own = tt
for_own place job (Some sent, m) w own = own

module _ (mic : Mic) (at : SendAt) (me : List ℕ) (w : Work) (are : AreNotClients w.mount.contexts) where
  asked_own : (job : JobName) (errand : Errand) (outcome : Option Sent × Mounted) → SentOwn outcome.0 → AskedOwn (works.asked_by at.place job errand outcome w).0
  asked_own job errand (None, m) own = tt
  asked_own job errand (Some sent, m) own = own

  step_own : (setup : Setup) → SentOwn (sendings.step_by setup mic at me w.mount).0
  step_own setups.Down = kept_own mic at (kept_in w.mount.standing) w.mount
  step_own (setups.Rooted nonce) = stepped_own mic at me None w.mount.standing w.mount are
  step_own (setups.Registered client sequence) = stepped_own mic at me None w.mount.standing w.mount are
  step_own (setups.Joined client session) = stepped_own mic at me None w.mount.standing w.mount are
  step_own (setups.Up client session) = stepped_own mic at me None w.mount.standing w.mount are

  setup_own : (job : JobName) → AskedOwn (works.set_up mic at me job w).0
  setup_own job = by (is_setting_up w.mount) (wants_nonce w.mount)
    where
      by : (a b : Bool) → AskedOwn (if a then (dues.Rest, w) else (if b then (dues.Begin job, w) else works.asked_by at.place job errands.Setup (sendings.setup_sent mic at me w.mount) w)).0
      by true b = tt
      by false true = tt
      by false false = asked_own job errands.Setup (sendings.setup_sent mic at me w.mount) (step_own (setup_in w.mount.standing))

  planned_own : (seat : Option ℕ) (plan : Option Plan) (go : ℕ → Plan → Due × Work) → ((s : ℕ) (p : Plan) → AskedOwn (go s p).0) → AskedOwn (works.by_plan seat plan go w).0
  planned_own None plan go own = tt
  planned_own (Some seat) None go own = tt
  planned_own (Some seat) (Some plan) go own = own seat plan

  job_own : (job : JobName) (b : BookView) (go : ℕ → Plan → Due × Work) → ((s : ℕ) (p : Plan) → AskedOwn (go s p).0) → AskedOwn (works.for_job job go b w).0
  job_own job b go own = planned_own (seat_of job.number w.seats) (plan_in (named b.table job)) go own

  created_own : (seat : ℕ) (privilege : Privilege) → SentOwn (sendings.created_by mic at seat privilege w.mount).0
  created_own seat privilege = by (nat_le (length (privilege_spell privilege)) PRIVILEGE_LIMIT)
    where
      by : (o : Bool) → SentOwn (if o then child_asked mic at seat (privilege_name privilege) (privilege_spell privilege) w.mount else (None, w.mount)).0
      by true = by_own mic at (root_name w.mount.standing) (aims.Child seat) (Some (Create (create_args (privilege_name privilege) (privilege_spell privilege)))) w.mount are
      by false = tt

  under_root : (seat : ℕ) (plan : Plan) (o : Option Context) → SentOwn (sendings.confirmed_under mic at seat plan o w.mount).0
  under_root seat plan None = tt
  under_root seat plan (Some root) = created_own seat (sendings.privilege_of mic root.key plan)

  confirm_own : (seat : ℕ) (plan : Plan) → SentOwn (sendings.confirm_sent mic at seat plan w.mount).0
  confirm_own seat plan = by (nat_le (length plan.user) NAME_LIMIT)
    where
      by : (o : Bool) → SentOwn (if o then sendings.confirmed_under mic at seat plan (root_context w.mount) w.mount else (None, w.mount)).0
      by true = under_root seat plan (root_context w.mount)
      by false = tt

  call_own : (seat : ℕ) (plan : Plan) (call : FileCall) → SentOwn (sendings.call_sent mic at seat plan call w.mount).0
  call_own seat plan call = slotted_own mic at (name_under (Child seat) w.mount) aims.Slot (OnFile plan.source call) w.mount are

  read_own : (job : JobName) (chunk : Chunk) (seat : ℕ) (plan : Plan) → AskedOwn (works.read_at mic at job chunk seat plan w).0
  read_own job chunk seat plan = by (nat_lt (plan.src_off + chunk.off) (2 ^ 64))
    where
      by : (o : Bool) → AskedOwn (if o
          then works.asked_by at.place job (errands.Bytes chunk) (sendings.call_sent mic at seat plan (sendings.read_call plan chunk) w.mount) w
          else (dues.Rest, w)).0
      by true = asked_own job (errands.Bytes chunk) _ (call_own seat plan (sendings.read_call plan chunk))
      by false = tt

  task_own : (task : Option Task) (b : BookView) → AskedOwn (works.by_task mic at me task w b).told.0
  task_own None b = tt
  task_own (Some (tasks.Setup job)) b = setup_own job
  task_own (Some (tasks.Confirm job)) b = job_own job b _ (λ seat plan. asked_own job errands.Confirm _ (confirm_own seat plan))
  task_own (Some (tasks.Size job)) b = job_own job b _ (λ seat plan. asked_own job errands.Size _ (call_own seat plan sendings.size_call))
  task_own (Some (tasks.Read job chunk)) b = job_own job b _ (λ seat plan. read_own job chunk seat plan)
  task_own (Some (tasks.Commit job)) b = tt

  next_own : (left : Bool) (task : Option Task) (b : BookView) → AskedOwn (works.next_turn left mic at me task w b).told.0
  next_own true task b = task_own task (after_task task b)
  next_own false task b = tt

  pub turn_own : (sessions : SessionTable) (b : BookView) → AskedOwn (works.turn mic at me sessions w b).told.0
  turn_own sessions b =
      by (is_some (awaited_at w.mount at.place)) (holds (post_at w.workers at.place)) (has_numbers w.mount.standing at.place)
    where
      by : (awaits holding left : Bool) → AskedOwn (works.turn_by awaits holding left mic at me (task_at sessions at.now w b) w b).told.0
      by true holding left = tt
      by false true left = tt
      by false false left = next_own left (task_at sessions at.now w b) b

-- ---- a good mount of the source has contexts of its own alone

pub good_own : (who : Identity) (m : Mounted) → IsGood who m → m.server ≡ Source → AreNotClients m.contexts
good_own who m good server name c there owner =
    let own : c.caller.owner ≡ m.server = (good.held name (face c) (ap (λ (o : Option Context). option_map face o) there)).owner in
    let both : Source ≡ Client = sym server ∙ (sym own ∙ owner) in
    cc
