-- A destination goes by one principal, and by one mechanism.
use Rattle.std.proofs.Common.{◌≡◌, ◌∙◌, ℕ, Bool, true, false, List, length, Option, Some, None, Result, Ok, Err, refl, sym, ap, subst}
use Rattle.std.specs.Prelude.{max, nat_le}
use Rattle.block_file.specs.declared.faults.ReadFault.{ReadFault}
use Rattle.block_file.specs.declared.faults.WriteFault.{WriteFault}
use Rattle.dest_back.specs.declared.hearing.Hearing.{Hearing}
use Rattle.dest_back.specs.declared.hearing.Hearing.TheVariants as hears
use Rattle.dest_core.specs.Core.{dest_rules}
use Rattle.dest_core.specs.Stepping.{DestState, DestStep, IsRecord, IsRecordBy, IsReply, IsWork, copier_in}
use Rattle.dest_core.specs.declared.destination.Destination.{Destination}
use Rattle.dest_jobs.specs.declared.carried.Carried.{Carried}
use Rattle.dest_laws.specs.Calls.Seating.{SeatsAlong}
use Rattle.dest_steps.specs.Copier.{Around, Codes, xid_of}
use Rattle.dest_steps.specs.Failing.{link_failed}
use Rattle.dest_steps.specs.Hearing.{heard_client, hearing_done}
use Rattle.dest_steps.specs.Landing as landings
use Rattle.dest_steps.specs.Landing.{Doing, Done, landed}
use Rattle.dest_steps.specs.Replying as replyings
use Rattle.dest_steps.specs.Replying.{IsFound, IsHeardBy, IsHeardIf, effect_done, is_read, mounted, taken_of}
use Rattle.dest_steps.specs.Turning.{IsDue, IsTurn, begun_turn, drawn_turn, send_at, with_turn}
use Rattle.dest_steps.specs.Working as workings
use Rattle.dest_steps.specs.declared.copier.Copier.{Copier}
use Rattle.dest_steps.specs.declared.failing.Failing.{Failing}
use Rattle.dest_steps.specs.declared.failing.Failing.TheVariants as fails
use Rattle.dest_steps.specs.declared.landing.Landing.{Landing}
use Rattle.dest_steps.specs.declared.replying.Effect.{Effect}
use Rattle.dest_steps.specs.declared.replying.Effect.TheVariants as effects
use Rattle.dest_steps.specs.declared.replying.Heard.{Heard}
use Rattle.dest_steps.specs.declared.turning.Committing.{Committing}
use Rattle.dest_steps.specs.declared.turning.Turn.TheVariants as turns
use Rattle.dest_steps.specs.declared.turning.Turn.{Turn as DueTurn}
use Rattle.dest_tasks.specs.Posts.{post_at}
use Rattle.dest_tasks.specs.declared.post.Errand.{Errand}
use Rattle.dest_tasks.specs.declared.post.Post.{Post}
use Rattle.dest_tasks.specs.declared.post.Post.TheVariants.{Awaits, Holds, Idle}
use Rattle.dest_work.specs.Work.{begun_for, turn}
use Rattle.dest_work.specs.declared.finding.Finding.{Finding}
use Rattle.dest_work.specs.declared.finding.Finding.TheVariants as findings
use Rattle.dest_work.specs.declared.work.Due.{Due}
use Rattle.dest_work.specs.declared.work.Due.TheVariants as dues
use Rattle.dest_work.specs.declared.work.Taken.{Taken}
use Rattle.dest_work.specs.declared.work.Work.{Work}
use Rattle.gss_mech.specs.declared.mechanism.Accepted.{Accepted}
use Rattle.job_book.specs.Book.{id_of, named}
use Rattle.job_log.specs.declared.chunk.Chunk.{Chunk}
use Rattle.job_log.specs.declared.chunk.Landing.{Landing as TakesIt}
use Rattle.job_log.specs.declared.chunk.Landing.TheVariants as takes
use Rattle.job_table.specs.Table.{table_landing}
use Rattle.mount.specs.Sending.{begun}
use Rattle.mount.specs.State.{Mounted, setup_in}
use Rattle.mount.specs.declared.machine.SendAt.{SendAt}
use Rattle.mount.specs.declared.machine.Sent.{Sent}
use Rattle.nfs_base.specs.declared.job.JobName.{JobName}
use Rattle.nfs_base.specs.declared.job.Stop.{Stop}
use Rattle.nfs_base.specs.declared.limits.TheConstants.{NAME_LIMIT}
use Rattle.own_laws.specs.Following.{InTurns}
use Rattle.rpc_calls.specs.Judging.{judged_of}
use Rattle.rpc_calls.specs.declared.call.Judged.{Judged}
use Rattle.rpc_calls.specs.declared.call.Judged.TheVariants as judged
use Rattle.rpc_calls.specs.declared.call.TheConstants.Program as programs
use Rattle.server_volume.specs.Calls.{commit_call, write_call}
use Rattle.server_volume.specs.Choices.{Choice, choice_of}
use Rattle.session_client.specs.declared.setup.Setup.{Setup}
use Rattle.session_server.specs.Host as hosts
use Rattle.session_server.specs.Steps.{IsJudgedTurn}
use Rattle.streams.specs.declared.draws.Drawn.{Drawn}
use Rattle.streams.specs.declared.draws.Drawn.TheVariants as draws

abbrev of : Copier → List ℕ
of x = x.principal

-- ---- what is done

abbrev Same : Doing → Done → Type 0
Same d done = of done.doing.copier ≡ of d.copier

written_same : (job : JobName) (chunk : Chunk) (told : Landing) (d : Doing) (o : Option WriteFault) → Same d (landings.written job chunk told o d)
written_same job chunk told d None = refl
written_same job chunk told d (Some fault) = refl

where_same : (choice : Choice) (job : JobName) (chunk : Chunk) (bytes : List ℕ) (told : Landing) (d : Doing) (o : Option (ℕ × ℕ)) → Same d (landings.written_where choice job chunk bytes told o d)
where_same choice job chunk bytes told d None = refl
where_same choice job chunk bytes told d (Some place) =
    let c = write_call choice d.used d.store place.0 place.1 bytes in
    written_same job chunk told (landings.with_write c d) c.fault

if_same : (choice : Choice) (job : JobName) (chunk : Chunk) (bytes : List ℕ) (d : Doing) (told : Option Landing) → Same d (landings.written_if choice job chunk bytes told d)
if_same choice job chunk bytes d None = refl
if_same choice job chunk bytes d (Some told) =
    where_same choice job chunk bytes told d (landings.target d.store chunk (length bytes) (named d.copier.copies.book.table job))

by_same : (t : TakesIt) (choice : Choice) (place : ℕ) (job : JobName) (chunk : Chunk) (bytes : List ℕ) (told : Option Landing) (d : Doing)
    → Same d (landings.landed_by t choice place job chunk bytes told d)
by_same takes.Late choice place job chunk bytes told d = refl
by_same takes.Held choice place job chunk bytes told d = refl
by_same takes.Landed choice place job chunk bytes told d = if_same choice job chunk bytes d told

landed_same : (choice : Choice) (place : ℕ) (job : JobName) (chunk : Chunk) (bytes : List ℕ) (told : Option Landing) (d : Doing) → Same d (landed choice place job chunk bytes told d)
landed_same choice place job chunk bytes told d =
    by_same (table_landing d.copier.copies.book.table (id_of job) chunk) choice place job chunk bytes told d

held_same : (choice : Choice) (place : ℕ) (told : Option Landing) (post : Post) (d : Doing) → Same d (workings.held_landed choice place told post d)
held_same choice place told Idle d = refl
held_same choice place told (Awaits job errand) d = refl
held_same choice place told (Holds job chunk bytes) d = landed_same choice place job chunk bytes told (workings.without_post place d)

done_same : (job : JobName) (told : Committing) (o : Option ReadFault) (d : Doing) → Same d (workings.commit_done job told o d)
done_same job told None d = refl
done_same job told (Some fault) d = refl

in_same : (choice : Choice) (job : JobName) (told : Committing) (o : Option ℕ) (d : Doing) → Same d (workings.commit_in choice job told o d)
in_same choice job told None d = refl
in_same choice job told (Some file) d =
    let c = commit_call choice d.used d.store file in
    done_same job told c.fault (workings.with_commit c d)

commit_same : (may : Bool) (choice : Choice) (job : JobName) (told : Committing) (d : Doing) → Same d (workings.commit_if may choice job told d)
commit_same false choice job told d = refl
commit_same true choice job told d = in_same choice job told (landings.target_file d.store (named d.copier.copies.book.table job)) d

made_same : (choice : Choice) (place : ℕ) (turn : DueTurn) (d : Doing) → Same d (workings.turn_made choice place turn d)
made_same choice place turns.Rest d = refl
made_same choice place turns.Undrawn d = refl
made_same choice place (turns.Sent call) d = refl
made_same choice place (turns.Stops job cause told) d = refl
made_same choice place (turns.Lands told) d = held_same choice place told (post_at d.copier.work.workers place) d
made_same choice place (turns.Commits job told) d = commit_same (workings.may_commit job d.copier) choice job told d

effect_same : (choice : Choice) (place : ℕ) (effect : Effect) (d : Doing) → Same d (effect_done choice place effect d)
effect_same choice place (effects.Drops why) d = refl
effect_same choice place (effects.Goes m) d = refl
effect_same choice place (effects.Denied job m) d = refl
effect_same choice place (effects.Stops job cause told m) d = refl
effect_same choice place (effects.Lands job chunk bytes told m) d = landed_same choice place job chunk bytes told (landings.with_copier (mounted m d.copier) d)

-- ---- what is due

begun_same : (codes : Codes) (around : Around) (place : ℕ) (job : JobName) (begins : Option Sent × Work) (x : Copier) → of (begun_turn codes around place job begins x).1 ≡ of x
begun_same codes around place job (None, w) x = refl
begun_same codes around place job (Some sent, w) x = refl

drawn_same : (started : List ℕ → List ℕ → Option (List ℕ)) (codes : Codes) (around : Around) (at : SendAt) (job : JobName) (drawn : Drawn) (x : Copier)
    → of (drawn_turn started codes around at job drawn x).1 ≡ of x
drawn_same started codes around at job draws.Failed x = refl
drawn_same started codes around at job (draws.Got nonce) x =
    begun_same codes around at.place job (begun_for at.place job (begun at nonce (started x.principal nonce) x.work.mount) x.work) x

module _ {W : Type 0} (gives : W → Drawn → W → Type 0) (started : List ℕ → List ℕ → Option (List ℕ)) (codes : Codes) (around : Around) (before after : W) where
  due_same : (at : SendAt) (setup : Setup) (due : Due) (x : Copier) (t : DueTurn × Copier) → IsDue gives started codes around at setup due x before after t → of t.1 ≡ of x
  due_same at setup dues.Rest x t is = ap (λ (p : DueTurn × Copier). of p.1) is.is
  due_same at setup dues.Land x t is = ap (λ (p : DueTurn × Copier). of p.1) is.is
  due_same at setup (dues.Begin job) x t is = ap (λ (p : DueTurn × Copier). of p.1) is.is ∙ drawn_same started codes around at job is.drawn x
  due_same at setup (dues.Asked errand sent) x t is = ap (λ (p : DueTurn × Copier). of p.1) is.is
  due_same at setup (dues.Commit job) x t is = ap (λ (p : DueTurn × Copier). of p.1) is.is

  turn_same : (short : Bool) (xid : Option ℕ) (place : ℕ) (x : Copier) (t : DueTurn × Copier) → IsTurn short xid gives started codes around place x before after t → of t.1 ≡ of x
  turn_same false xid place x t is = ap (λ (p : DueTurn × Copier). of p.1) is.is
  turn_same true None place x t is = ap (λ (p : DueTurn × Copier). of p.1) is.is
  turn_same true (Some xid) place x t is =
      let due = turn codes.mic (send_at around place xid) x.principal around.sessions x.work x.copies.book in
      due_same (send_at around place xid) (setup_in x.work.mount.standing) due.told.0 (with_turn due x) t is

-- ---- what is heard

size_same : (codes : Codes) (around : Around) (job : JobName) (m : Mounted) (o : Option (Result ℕ Stop)) (x : Copier) (effect : Effect) (y : Copier)
    → replyings.IsSizedBy codes around job m o x effect y → of y ≡ of x
size_same codes around job m None x effect y is = ap of is.still
size_same codes around job m (Some (Err cause)) x effect y is = ap of is.still
size_same codes around job m (Some (Ok len)) x effect y is = ap of is.is

sized_same : (may : Bool) (codes : Codes) (around : Around) (job : JobName) (size : ℕ) (m : Mounted) (x : Copier) (effect : Effect) (y : Copier)
    → replyings.IsSizedIf may codes around job size m x effect y → of y ≡ of x
sized_same false codes around job size m x effect y is = ap of is.still
sized_same true codes around job size m x effect y is =
    size_same codes around job m (replyings.len_for x.copies.book.table.capacity size (named x.copies.book.table job)) x effect y is

found_same : (codes : Codes) (around : Around) (job : JobName) (errand : Errand) (finding : Finding) (m : Mounted) (x : Copier) (effect : Effect) (y : Copier)
    → IsFound codes around job errand finding m x effect y → of y ≡ of x
found_same codes around job errand findings.Unmatched m x effect y is = ap of is.still
found_same codes around job errand findings.GoesOn m x effect y is = ap of is.still
found_same codes around job errand findings.FirstDenial m x effect y is = ap of is.still
found_same codes around job errand (findings.Stops cause) m x effect y is = ap of is.still
found_same codes around job errand (findings.HasSize size) m x effect y is = sized_same (replyings.may_size job x) codes around job size m x effect y is
found_same codes around job errand (findings.Brings bytes) m x effect y is = ap of is.still

heard_by : (codes : Codes) (around : Around) (o : Option Taken) (x : Copier) (heard : Heard) (y : Copier) → IsHeardBy codes around o x heard y → of y ≡ of x
heard_by codes around None x heard y is = ap of is.still
heard_by codes around (Some t) x heard y is = found_same codes around t.job t.errand t.finding t.mount x heard.effect y is.effect

heard_same : (read : Bool) (codes : Codes) (around : Around) (o : Option Taken) (x : Copier) (heard : Heard) (y : Copier) → IsHeardIf read codes around o x heard y → of y ≡ of x
heard_same false codes around o x heard y is = ap of is.still
heard_same true codes around o x heard y is = heard_by codes around o x heard y is

-- ---- whole steps

abbrev pub principal_of : {M : Type 0} → DestState M → List ℕ
principal_of s = (copier_in s).principal

pub work_same : {M W : Type 0} (gives : W → Drawn → W → Type 0) (started : List ℕ → List ℕ → Option (List ℕ)) (codes : Codes) (place now : ℕ) (s : DestState M)
    (before after : W) (t : DestStep M) → IsWork gives started codes place now s before after t → principal_of t.host ≡ principal_of s
work_same {M} gives started codes place now s before after t work =
    let choice = choice_of t.out.used in
    ap (λ (u : DestStep M). principal_of u.host) (work.is choice (λ n below. refl))
    ∙ made_same choice place work.turn _
    ∙ turn_same gives started codes _ before after (nat_le (length (copier_in s).principal) NAME_LIMIT) (xid_of (copier_in s).work.mount (copier_in s).back) place (copier_in s)
    (work.turn, work.copier) work.due

pub reply_same : {M : Type 0} (codes : Codes) (finish : List ℕ → List ℕ → Option (List ℕ)) (place : ℕ) (message : List ℕ) (now : ℕ) (s : DestState M) (t : DestStep M)
    → IsReply codes finish place message now s t → principal_of t.host ≡ principal_of s
reply_same {M} codes finish place message now s t reply =
    let choice = choice_of t.out.used in
    ap (λ (u : DestStep M). principal_of u.host) (reply.is choice (λ n below. refl))
    ∙ effect_same choice place reply.heard.effect _
    ∙ heard_same (is_read message) codes _ (taken_of codes finish place message (copier_in s)) (copier_in s) reply.heard reply.copier reply.is_heard

pub failing_same : (place : ℕ) (f : Failing) (x : Copier) → of (link_failed place f x).0 ≡ of x
failing_same place fails.Nothing x = refl
failing_same place (fails.Stops job told) x = refl

hearing_same : (boot : ℕ) (h : Hearing) (x : Copier) → of (hearing_done boot h x).0 ≡ of x
hearing_same boot hears.Unmatched x = refl
hearing_same boot (hears.Passed number accepted) x = refl
hearing_same boot (hears.Done number seal) x = refl

module _ {M W : Type 0} (codes : hosts.Codes) (tokens : List ℕ → List ℕ → Option Accepted) (gives : W → Drawn → W → Type 0)
    (seats : InTurns {X = Destination M} {C = Carried} SeatsAlong dest_rules codes tokens gives) (conn : ℕ) (message : List ℕ) (now : ℕ) (s : DestState M) (before after : W)
    (t : DestStep M) where
  by_judged : (j : Judged) → judged_of codes.mic (max s.second now) programs.NFS message s.contexts ≡ j → IsRecordBy j codes tokens gives conn message now s before after t
      → principal_of t.host ≡ principal_of s
  by_judged judged.Reply is turn =
      ap (λ (u : DestStep M). principal_of u.host) turn.is
      ∙ hearing_same s.state.machine.store.volume.boot (heard_client codes.mic s.state.machine.store.volume.boot message (copier_in s)) (copier_in s)
  by_judged judged.Unread is turn =
      (seats conn message now s before after t (subst (λ (j : Judged). IsJudgedTurn j dest_rules codes tokens gives (max s.second now) conn s before after t) (sym is) turn)).seats.principal
  by_judged (judged.Call call) is turn =
      (seats conn message now s before after t (subst (λ (j : Judged). IsJudgedTurn j dest_rules codes tokens gives (max s.second now) conn s before after t) (sym is) turn)).seats.principal

  pub record_same : IsRecord codes tokens gives conn message now s before after t → principal_of t.host ≡ principal_of s
  record_same turn = by_judged (judged_of codes.mic (max s.second now) programs.NFS message s.contexts) refl turn

  mech_by : (j : Judged) → judged_of codes.mic (max s.second now) programs.NFS message s.contexts ≡ j → IsRecordBy j codes tokens gives conn message now s before after t
      → t.host.state.machine.extra.mech ≡ s.state.machine.extra.mech
  mech_by judged.Reply is turn = ap (λ (u : DestStep M). u.host.state.machine.extra.mech) turn.is
  mech_by judged.Unread is turn =
      (seats conn message now s before after t (subst (λ (j : Judged). IsJudgedTurn j dest_rules codes tokens gives (max s.second now) conn s before after t) (sym is) turn)).mech
  mech_by (judged.Call call) is turn =
      (seats conn message now s before after t (subst (λ (j : Judged). IsJudgedTurn j dest_rules codes tokens gives (max s.second now) conn s before after t) (sym is) turn)).mech

  pub record_mech : IsRecord codes tokens gives conn message now s before after t → t.host.state.machine.extra.mech ≡ s.state.machine.extra.mech
  record_mech turn = mech_by (judged_of codes.mic (max s.second now) programs.NFS message s.contexts) refl turn

pub work_mech : {M W : Type 0} (gives : W → Drawn → W → Type 0) (started : List ℕ → List ℕ → Option (List ℕ)) (codes : Codes) (place now : ℕ) (s : DestState M)
    (before after : W) (t : DestStep M) → IsWork gives started codes place now s before after t → t.host.state.machine.extra.mech ≡ s.state.machine.extra.mech
work_mech {M} gives started codes place now s before after t work =
    ap (λ (u : DestStep M). u.host.state.machine.extra.mech) (work.is (choice_of t.out.used) (λ n below. refl))

pub reply_mech : {M : Type 0} (codes : Codes) (finish : List ℕ → List ℕ → Option (List ℕ)) (place : ℕ) (message : List ℕ) (now : ℕ) (s : DestState M) (t : DestStep M)
    → IsReply codes finish place message now s t → t.host.state.machine.extra.mech ≡ s.state.machine.extra.mech
reply_mech {M} codes finish place message now s t reply =
    ap (λ (u : DestStep M). u.host.state.machine.extra.mech) (reply.is (choice_of t.out.used) (λ n below. refl))
