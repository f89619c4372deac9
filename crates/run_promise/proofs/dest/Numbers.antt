-- Numbers of jobs have four bytes: a step gives out no more than a COMPOUND has operations, and a server makes few steps.
use Rattle.std.proofs.Common.{◌≡◌, inl, inr, ℕ, ◌+◌, ◌*◌, ◌<◌, ◌≤◌, ◌^◌, Bool, true, false, List, Option, Some, None, Result, Ok, Err, refl, sym, ap, subst, arith}
use Rattle.std.specs.Prelude.{max}
use Rattle.copy_ops.specs.declared.arg.CopyArg.{CopyArg}
use Rattle.copy_ops.specs.declared.arg.CopyArg.TheVariants as args
use Rattle.copy_ops.specs.declared.args.CopyArgs.{CopyArgs}
use Rattle.copy_ops.specs.declared.results.CopyAnswer.{CopyAnswer}
use Rattle.dest_back.specs.declared.callbacks.Party.{Party}
use Rattle.dest_back.specs.declared.hearing.Hearing.{Hearing}
use Rattle.dest_back.specs.declared.hearing.Hearing.TheVariants as hears
use Rattle.dest_core.specs.Copying.{copied_here, copy_between, ends_of, job_in, room_of, seated_for}
use Rattle.dest_core.specs.Core.{dest_rules}
use Rattle.dest_core.specs.Laws.{leaving_gives, same_given}
use Rattle.dest_core.specs.Serving.{given, serves}
use Rattle.dest_core.specs.Stepping.{DestState, DestStep, IsRecordBy, IsReply, IsWork, answer_step, copier_in, second_in, tick_step}
use Rattle.dest_core.specs.declared.destination.Destination.{Destination}
use Rattle.dest_jobs.specs.Copying.{decided, plan_of, refusal}
use Rattle.dest_jobs.specs.Ending.{stop_told}
use Rattle.dest_jobs.specs.Offloads.{after_cancel, own_job}
use Rattle.dest_jobs.specs.Progress.{reported_if}
use Rattle.dest_jobs.specs.declared.carried.Carried.{Carried}
use Rattle.dest_jobs.specs.declared.copies.Copies.{Copies}
use Rattle.dest_jobs.specs.declared.copying.CopyRoom.{CopyRoom}
use Rattle.dest_jobs.specs.declared.copying.Ends.{Ends}
use Rattle.dest_laws.specs.Copies.GivenLaws.{none_made}
use Rattle.dest_laws.specs.Deeds.{GoesWithin}
use Rattle.dest_laws.specs.Own.Going.{jobs_in}
use Rattle.dest_laws.specs.View.View.{made_in}
use Rattle.dest_steps.specs.Copier.{Codes, at_seat}
use Rattle.dest_steps.specs.Hearing.{heard_client, hearing_done, job_name}
use Rattle.dest_steps.specs.declared.copier.Copier.{Copier}
use Rattle.dest_tasks.specs.Seats.{free_seat}
use Rattle.file_server.specs.Answering.{meant_id, open_refusal}
use Rattle.file_server.specs.Machine.{Going}
use Rattle.file_server.specs.declared.extension.Caller.{Caller}
use Rattle.job_book.specs.Book.{BookView, accept_answer, after_accept, id_of}
use Rattle.job_book.specs.declared.acceptance.Acceptance.{Acceptance}
use Rattle.job_book.specs.declared.acceptance.Acceptance.TheVariants.{Accepted, Full, Overlap, TooFar}
use Rattle.job_table.specs.Table.{is_ended, is_running}
use Rattle.job_table.specs.declared.job.Plan.{Plan}
use Rattle.nfs_base.specs.declared.job.JobName.{JobName}
use Rattle.nfs_base.specs.declared.job.Stop.{Stop}
use Rattle.nfs_base.specs.declared.job.Stop.TheVariants.{Cancelled}
use Rattle.nfs_base.specs.declared.limits.TheConstants.{MOST_OPERATIONS}
use Rattle.nfs_base.specs.declared.status.Status.{Status}
use Rattle.own_laws.specs.Following.{GivesFew, GivesOne, InTurns}
use Rattle.rpc_calls.specs.Judging.{judged_of}
use Rattle.rpc_calls.specs.declared.call.Judged.{Judged}
use Rattle.rpc_calls.specs.declared.call.Judged.TheVariants as judged
use Rattle.rpc_calls.specs.declared.call.TheConstants.Program as programs
use Rattle.run_ends.specs.Ends.{Words}
use Rattle.run_promise.proofs.dest.Records.{codes_of}
use Rattle.run_promise.specs.Dest.Kinds.{Kind, TakesRecord}
use Rattle.server_laws.specs.ContextLaws.{InEachStep}
use Rattle.server_laws.specs.Good.{IsGood}
use Rattle.server_laws.specs.Steps.{IsStep}
use Rattle.server_laws.specs.Told.{HasKind}
use Rattle.server_volume.specs.Choices.{Choice, choice_of}
use Rattle.session_server.specs.Steps.{IsJudgedTurn, IsTurn}
use Rattle.session_server.specs.declared.host.TheConstants.{MOST_STEPS}
use Rattle.state_ids.specs.declared.access.Access.TheVariants as access
use Rattle.wire_lines.specs.declared.letters.Speaker.{Speaker}
use Rattle.wire_model.specs.Wire.{Executed}

-- ---- where no copy is taken, no number is given out

within_none : (entries : ℕ) (b c : BookView) → GoesWithin 0 entries b c → c.table.made ≡ b.table.made
within_none entries b c goes = none_made goes.deeds b c goes.come goes.few_accepts

-- ---- a COPY gives out one at most

accepted_few : (answer : Acceptance) (plan : Plan) (b : BookView) → (after_accept answer plan b).table.made ≤ b.table.made + 1
accepted_few (Accepted name) plan b = omega arith
accepted_few (Overlap name) plan b = omega arith
accepted_few Full plan b = omega arith
accepted_few TooFar plan b = omega arith

decided_few : (answer : Option CopyAnswer) (plan : Plan) (boot : ℕ) (x : Copies) → (decided answer plan boot x).0.book.table.made ≤ x.book.table.made + 1
decided_few (Some answer) plan boot x = omega arith
decided_few None plan boot x = accepted_few (accept_answer x.book.table plan) plan x.book

seat_same : (seat : Option ℕ) (job : JobName) (party : Party) (x : Copier) → (at_seat seat job party x).copies.book.table.made ≡ x.copies.book.table.made
seat_same None job party x = refl
seat_same (Some seat) job party x = refl

seated_same : (session : ℕ) (carry : Option Carried) (job : Option JobName) (x : Copier)
    → (seated_for session carry job x).copies.book.table.made ≡ x.copies.book.table.made
seated_same session None job x = refl
seated_same session (Some carried) None x = refl
seated_same session (Some carried) (Some job) x =
    seat_same (free_seat job.boot x.copies.book.table x.work.seats) job (record { session = session; key = carried.root }) x

-- a job's end gives none, nor does a client's reply

told_same : (running : Bool) (cause : Stop) (name : JobName) (x : Copies) → (stop_told running cause name x).book.table.made ≡ x.book.table.made
told_same true cause name x = refl
told_same false cause name x = refl

cancelled_same : (job : Option JobName) (x : Copies) → (after_cancel job x).book.table.made ≡ x.book.table.made
cancelled_same None x = refl
cancelled_same (Some name) x = told_same (is_running x.book.table (id_of name)) Cancelled name x

reported_same : (ended : Bool) (name : JobName) (x : Copies) → (reported_if ended name x).book.table.made ≡ x.book.table.made
reported_same true name x = refl
reported_same false name x = refl

heard_same : (boot : ℕ) (hearing : Hearing) (x : Copier) → (hearing_done boot hearing x).0.copies.book.table.made ≡ x.copies.book.table.made
heard_same boot hears.Unmatched x = refl
heard_same boot (hears.Passed number accepted) x = refl
heard_same boot (hears.Done number seal) x =
    reported_same (is_ended x.copies.book.table (id_of (job_name boot number))) (job_name boot number) x.copies

module _ {M : Type 0} where
  abbrev One : Going (Destination M) → Going (Destination M) → Type 0
  One g h = given h.machine.extra ≤ given g.machine.extra + 1

  no_more : (g : Going (Destination M)) → One g g
  no_more g = omega arith

  between_few : (ends : Result Ends Status) (caller : Caller) (carry : Option Carried) (a : CopyArgs) (room : CopyRoom) (g : Going (Destination M))
      → One g (copy_between ends caller carry a room g).going
  between_few (Err status) caller carry a room g = no_more g
  between_few (Ok ends) caller carry a room g =
      let x = g.machine.extra.copier in
      let d = copied_here caller carry a ends room g in
      let few =
      decided_few (refusal x.copies.source.loc carry a (open_refusal g.machine.opens (meant_id g.held.id a.dst_id) ends.file access.Write)) (plan_of caller.client a ends room)
      g.machine.store.volume.boot x.copies in
      subst (λ (n : ℕ). n ≤ given g.machine.extra + 1) (sym (seated_same caller.session carry (job_in d.1) (record x { copies = d.0 }))) few

  serves_one : (choice : Choice) (caller : Caller) (carry : Option Carried) (op : CopyArg) (g : Going (Destination M)) → One g (serves choice caller carry op g).going
  unfolding serves
  serves_one choice caller carry (args.Copy a) g = between_few (ends_of g.machine.store g.held.current g.held.saved) caller carry a (room_of carry a) g
  serves_one choice caller carry (args.CopyNotify a) g = no_more g
  serves_one choice caller carry (args.OffloadCancel id) g =
      let copies = g.machine.extra.copier.copies in
      subst (λ (n : ℕ). n ≤ given g.machine.extra + 1) (sym (cancelled_same (own_job copies.book.table caller.client id) copies)) (no_more g)
  serves_one choice caller carry (args.OffloadStatus id) g = no_more g
  serves_one choice caller carry (args.Clone a) g = no_more g

  pub gives_one : GivesOne given (dest_rules {M = M})
  gives_one = record {
    gate = λ x caller carry ask. same_given x;
    serve = serves_one;
    leave = leaving_gives;
    lapse = λ second x. same_given x;
    silent = λ x. same_given x;
  }

-- ---- a step

pub record HasNumbers {M : Type 0} (d : DestState M) : Type 0 where
  pub counted : made_in d ≤ d.steps * MOST_OPERATIONS
  pub few : d.steps ≤ MOST_STEPS

pub few_jobs : {M : Type 0} (d : DestState M) → HasNumbers d → made_in d + 1 < 2 ^ 32
few_jobs d has = let counted = has.counted in let few = has.few in omega (arith, counted, few)

pub record AreCounted {M : Type 0} (words : Words M ℕ) : Type 0 where
  pub turns : (mech : M) → InTurns (GivesFew given) (dest_rules {M = M}) (codes_of words) (words.accepted mech) words.gives
  pub kinds : (mech : M) → InEachStep (dest_rules {M = M}) (codes_of words) (words.accepted mech) words.gives (HasKind (dest_rules {M = M}) (codes_of words))
  pub work : (started : List ℕ → List ℕ → Option (List ℕ)) (codes : Codes) (place now : ℕ) (d : DestState M) (before after : ℕ) (t : DestStep M)
      → IsWork words.gives started codes place now d before after t → GoesWithin 0 1 (jobs_in d) (jobs_in t.host)
  pub reply : (codes : Codes) (finish : List ℕ → List ℕ → Option (List ℕ)) (place : ℕ) (message : List ℕ) (now : ℕ) (d : DestState M) (t : DestStep M)
      → IsReply codes finish place message now d t → GoesWithin 0 1 (jobs_in d) (jobs_in t.host)
  pub tick : (codes : Codes) (now : ℕ) (d : DestState M) → GoesWithin 0 0 (jobs_in d) (jobs_in (tick_step codes now d).host)

-- what a record gives out, in one step
record Gives {M : Type 0} (d t : DestState M) : Type 0 where
  given_out : made_in t ≤ made_in d + MOST_OPERATIONS
  step : t.steps ≡ d.steps + 1

module _ {M : Type 0} (words : Words M ℕ) (known : AreCounted words) where
  goes_on : (d t : DestState M) → Gives d t → d.steps < MOST_STEPS → HasNumbers d → HasNumbers t
  goes_on d t g few has =
      let out = g.given_out in
      let step = g.step in
      let counted = has.counted in
      record { counted = omega (arith, out, step, counted); few = omega (arith, step, few) }

  own_step : (entries : ℕ) (d t : DestState M) → GoesWithin 0 entries (jobs_in d) (jobs_in t) → t.steps ≡ d.steps + 1 → Gives d t
  own_step entries d t goes step =
      let same : made_in t ≡ made_in d = within_none entries (jobs_in d) (jobs_in t) goes in
      record { given_out = omega (arith, same); step = step }

  module _ (conn : ℕ) (bytes : List ℕ) (now : ℕ) (s : DestState M) (before after : ℕ) (t : DestStep M) where
    abbrev Turn : Type 0
    Turn = IsTurn (dest_rules {M = M}) (codes_of words) (words.accepted s.state.machine.extra.mech) words.gives conn bytes now s before after t

    abbrev Step : Type 0
    Step = IsStep (dest_rules {M = M}) (codes_of words) (words.accepted s.state.machine.extra.mech) words.gives conn bytes now s before after t

    step_counted : HasKind (dest_rules {M = M}) (codes_of words) bytes now s t → t.host.steps ≡ s.steps + 1
    step_counted (inl k) = ap (λ (x : DestStep M). x.host.steps) k.1.step_is
    step_counted (inr o) = o.steps

    turned : Turn → Step → Gives s t.host
    turned turn step = record {
      given_out = known.turns s.state.machine.extra.mech conn bytes now s before after t turn;
      step = step_counted (known.kinds s.state.machine.extra.mech conn bytes now s before after t step);
    }

    answered : Gives s (answer_step words.mic bytes now s).host
    answered =
        let boot = s.state.machine.store.volume.boot in
        let same : made_in (answer_step words.mic bytes now s).host ≡ made_in s = heard_same boot (heard_client words.mic boot bytes (copier_in s)) (copier_in (second_in now s)) in
        record { given_out = omega (arith, same); step = refl }

    by_judged : (j : Judged)
        → (IsJudgedTurn j (dest_rules {M = M}) (codes_of words) (words.accepted s.state.machine.extra.mech) words.gives (max s.second now) conn s before after t → Gives s t.host)
        → IsRecordBy j (codes_of words) (words.accepted s.state.machine.extra.mech) words.gives conn bytes now s before after t → Gives s t.host
    by_judged judged.Reply turn d = subst (λ (x : DestStep M). Gives s x.host) (sym d.is) answered
    by_judged judged.Unread turn d = turn d
    by_judged (judged.Call call) turn d = turn d

  record_gives : (d : DestState M) (t : DestStep M) (took : Option (List ℕ)) (speaker : Speaker) (executed : Option Executed) (r : TakesRecord words d t took speaker executed)
      → IsGood d → Gives d t.host
  record_gives d t took speaker executed r good =
      by_judged r.conn r.bytes r.now d r.draws r.left t (judged_of words.mic (max d.second r.now) programs.NFS r.bytes d.contexts)
      (λ turn. turned r.conn r.bytes r.now d r.draws r.left t turn
      (record { good = good; few = r.handled.few; are_bytes = r.handled.taken; turn = turn; short = r.short }))
      r.is

  abbrev own_codes : Codes
  own_codes = record { mic = words.mic; derived = words.derived }

  pub numbers_on : (d : DestState M) (t : DestStep M) (took : Option (List ℕ)) (speaker : Speaker) (executed : Option Executed)
      → Kind words d t took speaker executed → IsGood d → HasNumbers d → HasNumbers t.host
  numbers_on d t took speaker executed (inl r) good has = goes_on d t.host (record_gives d t took speaker executed r good) r.handled.few has
  numbers_on d t took speaker executed (inr (inl r)) good has =
      goes_on d t.host
      (own_step 1 d t.host (known.work (words.started d.state.machine.extra.mech) own_codes r.place r.now d r.draws r.left t r.is)
      (ap (λ (x : DestStep M). x.host.steps) (r.is.is (choice_of t.out.used) (λ n below. refl))))
      r.handled.few has
  numbers_on d t took speaker executed (inr (inr (inl r))) good has =
      goes_on d t.host
      (own_step 1 d t.host (known.reply own_codes (words.finished d.state.machine.extra.mech d.state.machine.extra.copier.principal) r.place r.bytes r.now d t r.is)
      (ap (λ (x : DestStep M). x.host.steps) (r.is.is (choice_of t.out.used) (λ n below. refl))))
      r.handled.few has
  numbers_on d t took speaker executed (inr (inr (inr (inl r)))) good has =
      subst (λ (x : DestStep M). HasNumbers x.host) (sym r.is)
      (goes_on d (tick_step own_codes r.now d).host (own_step 0 d (tick_step own_codes r.now d).host (known.tick own_codes r.now d) refl) r.handled.few has)
  numbers_on d t took speaker executed (inr (inr (inr (inr r)))) good has = subst (λ (x : DestState M). HasNumbers x) (sym r.same) has
