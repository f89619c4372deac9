-- Whatever holds of a destination's workers and goes along with each of their moves stays in each step.
use Rattle.std.proofs.Common.{◌≡◌, ◌∙◌, inl, ℕ, zero, suc, ◌+◌, Bool, true, false, List, length, Option, Some, None, refl, sym, ap, subst}
use Rattle.std.specs.Prelude.{max, nat_le, option_map}
use Rattle.dest_back.specs.Callbacks as backs
use Rattle.dest_back.specs.Callbacks.{CallbackTable, sent_in}
use Rattle.dest_back.specs.Telling.{told_again}
use Rattle.dest_back.specs.declared.telling.Sent.{Sent as Callback}
use Rattle.dest_core.specs.Stepping.{DestState, DestStep, IsReply, IsWork, around, copier_in, doing_in, failure_step, second_in, with_copier, without_lapsed}
use Rattle.dest_laws.proofs.landings.Doings.{Turned, turn_work, work_in}
use Rattle.dest_laws.proofs.landings.Places.{Fewer, again_fewer, fewer_joins, fewer_same}
use Rattle.dest_laws.proofs.landings.Posts.{Moves}
use Rattle.dest_laws.proofs.landings.Turns.{AreGiven, SendLaws, begun_moves, turn_moves}
use Rattle.dest_steps.specs.Calls.{errand_label}
use Rattle.dest_steps.specs.Copier.{Around, Codes, xid_of}
use Rattle.dest_steps.specs.Failing.{failed, failing, given_up}
use Rattle.dest_steps.specs.Landing.{Doing}
use Rattle.dest_steps.specs.Replying.{effect_done}
use Rattle.dest_steps.specs.Telling.{call_at}
use Rattle.dest_steps.specs.Ticking.{again, at_next, call_added, call_again, call_by, call_for, call_if, calls_from, job_again, job_told, jobs_from, none_again, told_added, told_by, told_for, told_if}
use Rattle.dest_steps.specs.Turning.{IsDue, IsTurn, IsTurnOf, begun_turn, drawn_turn, send_at, with_turn}
use Rattle.dest_steps.specs.Working.{turn_made}
use Rattle.dest_steps.specs.declared.copier.Copier.{Copier}
use Rattle.dest_steps.specs.declared.failing.Failing.{Failing}
use Rattle.dest_steps.specs.declared.failing.Failing.TheVariants as fails
use Rattle.dest_steps.specs.declared.ticking.Again.{Again}
use Rattle.dest_steps.specs.declared.turning.Turn.{Turn as DueTurn}
use Rattle.dest_tasks.specs.Posts as posts
use Rattle.dest_tasks.specs.Seats.{seat_of}
use Rattle.dest_tasks.specs.Tasks.{is_gone}
use Rattle.dest_tasks.specs.declared.post.Errand.{Errand}
use Rattle.dest_tasks.specs.declared.workers.TheConstants.{WORKERS}
use Rattle.dest_work.specs.Work.{begun_for, is_due, turn}
use Rattle.dest_work.specs.declared.work.Due.{Due}
use Rattle.dest_work.specs.declared.work.Due.TheVariants as dues
use Rattle.dest_work.specs.declared.work.Work.{Work}
use Rattle.job_book.specs.Book.{client_of, next_name}
use Rattle.job_table.specs.Table.{JobTable}
use Rattle.mount.specs.Sending.{begun, sent_again}
use Rattle.mount.specs.State.{Mounted, awaited_at, setup_in}
use Rattle.mount.specs.declared.machine.SendAt.{SendAt}
use Rattle.mount.specs.declared.machine.Sent.{Sent}
use Rattle.mount.specs.declared.state.Awaiting.{Awaiting}
use Rattle.nfs_base.specs.declared.job.JobName.{JobName}
use Rattle.nfs_base.specs.declared.limits.TheConstants.{MOST_JOBS, NAME_LIMIT}
use Rattle.outbox.specs.declared.label.CallLabel.{CallLabel}
use Rattle.server_volume.specs.Choices.{Choice, choice_of}
use Rattle.session_client.specs.declared.setup.Setup.{Setup}
use Rattle.streams.specs.declared.draws.Drawn.{Drawn}
use Rattle.streams.specs.declared.draws.Drawn.TheVariants as draws

-- ---- a worker's turn

begun_work : (codes : Codes) (around : Around) (place : ℕ) (job : JobName) (o : Option Sent × Work) (x : Copier) → (begun_turn codes around place job o x).1.work ≡ o.1
begun_work codes around place job (None, w) x = refl
begun_work codes around place job (Some sent, w) x = refl

module _ {W : Type 0} (laws : SendLaws) (gives : W → Drawn → W → Type 0) (started : List ℕ → List ℕ → Option (List ℕ)) (codes : Codes) (around : Around) (before after : W) (t : JobTable) where
  drawn_moves : (at : SendAt) (job : JobName) (drawn : Drawn) (x : Copier) → Moves t at.place x.work (drawn_turn started codes around at job drawn x).1.work
  drawn_moves at job draws.Failed x = inl refl
  drawn_moves at job (draws.Got nonce) x =
      let outcome = begun at nonce (started x.principal nonce) x.work.mount in
      subst (λ (v : Work). Moves t at.place x.work v) (sym (begun_work codes around at.place job (begun_for at.place job outcome x.work) x))
      (begun_moves laws t codes.mic at x.work job outcome (laws.begin at nonce (started x.principal nonce) x.work.mount))

  abbrev work_of : DueTurn × Copier → Work
  work_of o = o.1.work

  due_moves : (at : SendAt) (setup : Setup) (due : Due) (x : Copier) (o : DueTurn × Copier) → IsDue gives started codes around at setup due x before after o
      → Moves t at.place x.work (work_of o)
  due_moves at setup dues.Rest x o is = inl (ap work_of is.is)
  due_moves at setup dues.Land x o is = inl (ap work_of is.is)
  due_moves at setup (dues.Begin job) x o is = subst (λ (p : DueTurn × Copier). Moves t at.place x.work (work_of p)) (sym is.is) (drawn_moves at job is.drawn x)
  due_moves at setup (dues.Asked errand sent) x o is = inl (ap work_of is.is)
  due_moves at setup (dues.Commit job) x o is = inl (ap work_of is.is)

module _ {W : Type 0} (laws : SendLaws) (gives : W → Drawn → W → Type 0) (started : List ℕ → List ℕ → Option (List ℕ)) (codes : Codes) (around : Around) (place : ℕ) (x : Copier)
    (before after : W) (Q : Work → Type 0) (moves : (u v : Work) → Moves x.copies.book.table place u v → Q u → Q v) (given : AreGiven x.copies.book.table) where
  turn_keeps : (short : Bool) (xid : Option ℕ) (o : DueTurn × Copier) → IsTurn short xid gives started codes around place x before after o → Q x.work → Q o.1.work
  turn_keeps false xid o is has = subst Q (sym (ap (λ (p : DueTurn × Copier). p.1.work) is.is)) has
  turn_keeps true None o is has = subst Q (sym (ap (λ (p : DueTurn × Copier). p.1.work) is.is)) has
  turn_keeps true (Some xid) o is has =
      let at = send_at around place xid in
      let due = turn codes.mic at x.principal around.sessions x.work x.copies.book in
      moves due.told.1 o.1.work
      (due_moves laws gives started codes around before after x.copies.book.table at (setup_in x.work.mount.standing) due.told.0 (with_turn due x) o is)
      (moves x.work due.told.1 (turn_moves laws codes.mic at x.principal x.work x.copies.book given around.sessions) has)

  pub due_keeps : (o : DueTurn × Copier) → IsTurnOf gives started codes around place x before after o → Q x.work → Q o.1.work
  due_keeps o is has = turn_keeps (nat_le (length x.principal) NAME_LIMIT) (xid_of x.work.mount x.back) o is has

abbrev pub work_at : {M : Type 0} → DestState M → Work
work_at s = (copier_in s).work

pub work_keeps : {M W : Type 0} (laws : SendLaws) (gives : W → Drawn → W → Type 0) (started : List ℕ → List ℕ → Option (List ℕ)) (codes : Codes) (place now : ℕ)
    (s : DestState M) (before after : W) (t : DestStep M) (Q : Work → Type 0) → ((u v : Work) → Moves (copier_in s).copies.book.table place u v → Q u → Q v)
    → ((u v : Work) → Turned place u v → Q u → Q v) → AreGiven (copier_in s).copies.book.table → IsWork gives started codes place now s before after t
    → Q (work_at s) → Q (work_at t.host)
work_keeps {M} laws gives started codes place now s before after t Q moves turns given work has =
    let choice = choice_of t.out.used in
    let start : DestState M = with_copier work.copier s in
    let d = doing_in (without_lapsed (second_in now start)) in
    let due = due_keeps laws gives started codes (around (max s.second now) s) place (copier_in s) before after Q moves given (work.turn, work.copier) work.due has in
    subst (λ (u : DestStep M). Q (work_at u.host)) (sym (work.is choice (λ n below. refl)))
    (turns work.copier.work (work_in (turn_made choice place work.turn d).doing) (turn_work choice place work.turn d) due)

-- ---- a record of the source

pub reply_keeps : {M : Type 0} (codes : Codes) (finish : List ℕ → List ℕ → Option (List ℕ)) (place : ℕ) (message : List ℕ) (now : ℕ)
    (s : DestState M) (t : DestStep M) (Q : Work → Type 0) (reply : IsReply codes finish place message now s t)
    → ((choice : Choice) (d : Doing) → d.copier ≡ reply.copier → Q (work_in (effect_done choice place reply.heard.effect d).doing)) → Q (work_at t.host)
reply_keeps {M} codes finish place message now s t Q reply does =
    let choice = choice_of t.out.used in
    let start : DestState M = with_copier reply.copier s in
    subst (λ (u : DestStep M). Q (work_at u.host)) (sym (reply.is choice (λ n below. refl))) (does choice (doing_in (second_in now start)) refl)

-- ---- a link that failed

failed_work : (f : Failing) (x : Copier) → (failed f x).0.work ≡ x.work
failed_work fails.Nothing x = refl
failed_work (fails.Stops job told) x = refl

pub failure_work : {M : Type 0} (codes : Codes) (place : ℕ) (s : DestState M) → work_at (failure_step codes place s).host ≡ (given_up place (copier_in s)).work
failure_work codes place s = failed_work (failing codes (around s.second s) place (copier_in s)) (given_up place (copier_in s))

-- ---- a second that comes by itself

told_added_mount : (o : Option Callback × CallbackTable) (a : Again) → (told_added o a).mount ≡ a.mount
told_added_mount (None, back) a = refl
told_added_mount (Some call, back) a = refl

module _ (codes : Codes) (around : Around) (x : Copier) where
  told_by_mount : (xid : Option ℕ) (seat : ℕ) (a : Again) → (told_by xid codes around seat a).mount ≡ a.mount
  told_by_mount None seat a = refl
  told_by_mount (Some xid) seat a = told_added_mount (told_again codes.mic codes.derived around.sessions (call_at around seat xid) a.back) a

  told_if_mount : (due : Bool) (seat : ℕ) (a : Again) → (told_if due codes around seat a).mount ≡ a.mount
  told_if_mount true seat a = told_by_mount (xid_of a.mount a.back) seat a
  told_if_mount false seat a = refl

  told_for_mount : (seat : Option ℕ) (a : Again) → (told_for codes around seat a).mount ≡ a.mount
  told_for_mount None a = refl
  told_for_mount (Some seat) a = told_if_mount (is_due (sent_in (backs.post_at a.back seat)) around.second) seat a

  job_told_mount : (gone : Bool) (seat : Option ℕ) (a : Again) → (job_told gone codes around seat a).mount ≡ a.mount
  job_told_mount true seat a = refl
  job_told_mount false seat a = told_for_mount seat a

  next_mount : (next : Option JobName) (go : JobName → Again → Again) (a : Again) → ((name : JobName) → (go name a).mount ≡ a.mount) → (at_next next go a).mount ≡ a.mount
  next_mount None go a same = refl
  next_mount (Some name) go a same = same name

  jobs_mount : (left after : ℕ) (a : Again) → (jobs_from codes around x left after a).mount ≡ a.mount
  unfolding jobs_from
  jobs_mount zero after a = refl
  jobs_mount (suc left) after a =
      next_mount (next_name x.copies.book.table after) (λ name b. jobs_from codes around x left name.number (job_again codes around name x b)) a
      (λ name. jobs_mount left name.number (job_again codes around name x a)
      ∙ job_told_mount (is_gone around.sessions around.second (client_of x.copies.book.table name)) (seat_of name.number x.work.seats) a)

  added_mount : (place : ℕ) (label : CallLabel) (o : Option Sent × Mounted) (a : Again) → (call_added place label o a).mount ≡ o.1
  added_mount place label (None, m) a = refl
  added_mount place label (Some sent, m) a = refl

  by_fewer : (xid : Option ℕ) (place : ℕ) (errand : Errand) (a : Again) → Fewer a.mount (call_by xid codes around place errand a).mount
  by_fewer None place errand a = fewer_same a.mount a.mount refl
  by_fewer (Some xid) place errand a =
      let o = sent_again codes.mic (send_at around place xid) a.mount in
      subst (Fewer a.mount) (sym (added_mount place (errand_label errand (setup_in a.mount.standing)) o a)) (again_fewer codes.mic (send_at around place xid) a.mount)

  for_fewer : (place : ℕ) (call : Option (JobName × Errand)) (a : Again) → Fewer a.mount (call_for codes around place call a).mount
  for_fewer place None a = fewer_same a.mount a.mount refl
  for_fewer place (Some call) a = by_fewer (xid_of a.mount a.back) place call.1 a

  if_fewer : (due : Bool) (place : ℕ) (a : Again) → Fewer a.mount (call_if due codes around place x a).mount
  if_fewer true place a = for_fewer place (posts.asks (posts.post_at x.work.workers place)) a
  if_fewer false place a = fewer_same a.mount a.mount refl

  calls_fewer : (left place : ℕ) (a : Again) → Fewer a.mount (calls_from codes around x left place a).mount
  unfolding calls_from
  calls_fewer zero place a = fewer_same a.mount a.mount refl
  calls_fewer (suc left) place a =
      let b = call_again codes around place x a in
      fewer_joins a.mount b.mount (calls_from codes around x left (place + 1) b).mount
      (if_fewer (is_due (option_map (λ (w : Awaiting). w.sent_at) (awaited_at a.mount place)) around.second) place a) (calls_fewer left (place + 1) b)

  pub again_all_fewer : Fewer x.work.mount (again codes around x).mount
  again_all_fewer =
      let calls = calls_from codes around x WORKERS 0 (none_again x) in
      subst (Fewer x.work.mount) (sym (jobs_mount MOST_JOBS 0 calls)) (calls_fewer WORKERS 0 (none_again x))
