-- Each step of a destination changes its jobs by deeds.
use Rattle.std.proofs.Common.{◌≡◌, ℕ, Bool, true, false, List, [], ◌++◌, length, Option, Some, None, refl, sym, ap, subst, ◌∙◌, arith}
use Rattle.std.proofs.lemmas.List.Sums.{sum_by-append}
use Rattle.std.specs.Prelude.{max, nat_le}
use Rattle.dest_core.specs.Stepping.{DestState, DestStep, IsReply, IsWork, around, copier_in, doing_in, failure_step, second_in, tick_step, turn_step, with_copier, without_lapsed}
use Rattle.dest_jobs.specs.Ending.{end_all}
use Rattle.dest_jobs.specs.declared.copies.Copies.{Copies}
use Rattle.dest_laws.specs.Deeds.{ByDeeds, GoesWithin, accept_in, book_in, entry_in}
use Rattle.dest_laws.specs.Histories.Kinds.{GoesBy}
use Rattle.dest_laws.specs.Own.Begins.{BeginsQuietly}
use Rattle.dest_laws.specs.Own.Going.{jobs_in}
use Rattle.dest_laws.specs.Own.GoingLaws.{after_those}
use Rattle.dest_steps.specs.Copier.{Around, Codes, xid_of}
use Rattle.dest_steps.specs.Failing.{failing, link_failed}
use Rattle.dest_steps.specs.Landing.{Doing}
use Rattle.dest_steps.specs.Replying.{IsHeard, effect_done}
use Rattle.dest_steps.specs.Turning.{IsDue, IsTurn, IsTurnOf, begun_turn, drawn_turn, send_at, with_turn}
use Rattle.dest_steps.specs.Working.{turn_made}
use Rattle.dest_steps.specs.declared.copier.Copier.{Copier}
use Rattle.dest_steps.specs.declared.failing.Failing.{Failing}
use Rattle.dest_steps.specs.declared.replying.Heard.{Heard}
use Rattle.dest_steps.specs.declared.turning.Turn.{Turn as DueTurn}
use Rattle.dest_tasks.specs.Completing.{Comes, Deed}
use Rattle.dest_work.specs.Work.{Turn, begun_for, turn}
use Rattle.dest_work.specs.declared.work.Due.{Due}
use Rattle.dest_work.specs.declared.work.Due.TheVariants as dues
use Rattle.dest_work.specs.declared.work.Work.{Work}
use Rattle.gss_ctx.specs.Seals.{Mic}
use Rattle.job_book.specs.Book.{BookView}
use Rattle.mount.specs.Sending.{begun}
use Rattle.mount.specs.State.{setup_in}
use Rattle.mount.specs.declared.machine.SendAt.{SendAt}
use Rattle.mount.specs.declared.machine.Sent.{Sent}
use Rattle.nfs_base.specs.declared.job.JobName.{JobName}
use Rattle.nfs_base.specs.declared.job.Stop.{Stop}
use Rattle.nfs_base.specs.declared.job.Stop.TheVariants.{LeaseExpired}
use Rattle.nfs_base.specs.declared.limits.TheConstants.{NAME_LIMIT}
use Rattle.server_volume.specs.Choices.{Choice, choice_of}
use Rattle.sess_slots.specs.Begins.{has_lapsed}
use Rattle.sess_slots.specs.Table.{SessionTable}
use Rattle.session_client.specs.declared.setup.Setup.{Setup}
use Rattle.streams.specs.declared.draws.Drawn.{Drawn}
use Rattle.streams.specs.declared.draws.Drawn.TheVariants as draws

-- ---- deeds one after another

pub by_kind : (kind : Deed → Bool) (b c : BookView) → GoesBy kind b c → ByDeeds b c
by_kind kind b c goes = (goes.deeds, goes.come)

pub by_count : (accepts entries : ℕ) (b c : BookView) → GoesWithin accepts entries b c → ByDeeds b c
by_count accepts entries b c goes = (goes.deeds, goes.come)

none_by : {a e : ℕ} (b c : BookView) → c ≡ b → GoesWithin a e b c
unfolding Comes
none_by b c same = record { deeds = []; come = same; few_accepts = omega arith; few_entries = omega arith }

both_by : {a e : ℕ} (b c d : BookView) → GoesWithin 0 0 b c → GoesWithin a e c d → GoesWithin a e b d
both_by b c d first second = record {
  deeds = first.deeds ++ second.deeds;
  come = after_those first.deeds second.deeds b c d first.come second.come;
  few_accepts = let m = first.few_accepts in let n = second.few_accepts in omega (arith, sum_by-append accept_in first.deeds second.deeds, m, n);
  few_entries = let m = first.few_entries in let n = second.few_entries in omega (arith, sum_by-append entry_in first.deeds second.deeds, m, n);
}

-- the laws of dest_laws
pub record EntryLaws : Type 0 where
  pub due : (mic : Mic) (at : SendAt) (me : List ℕ) (sessions : SessionTable) (w : Work) (b : BookView) → GoesWithin 0 0 b (turn mic at me sessions w b).book
  pub turn_is : (choice : Choice) (place : ℕ) (turn : DueTurn) (d : Doing) → GoesWithin 0 1 (book_in d) (book_in (turn_made choice place turn d).doing)
  pub heard : (choice : Choice) (codes : Codes) (finished : List ℕ → List ℕ → Option (List ℕ)) (around : Around) (place : ℕ) (message : List ℕ) (old : Copier) (heard : Heard) (new : Copier) (d : Doing)
      → IsHeard codes finished around place message old heard new → d.copier ≡ new → GoesWithin 0 1 old.copies.book (book_in (effect_done choice place heard.effect d).doing)
  pub failure : (place : ℕ) (failing : Failing) (x : Copier) → GoesWithin 0 1 x.copies.book (link_failed place failing x).0.copies.book
  pub clients : (test : ℕ → Bool) (cause : Stop) (x : Copies) → GoesWithin 0 0 x.book (end_all test cause x).book

-- ---- what is due in a worker's turn

begun_book : (codes : Codes) (around : Around) (place : ℕ) (job : JobName) (begins : Option Sent × Work) (x : Copier)
    → (begun_turn codes around place job begins x).1.copies.book ≡ x.copies.book
begun_book codes around place job (None, w) x = refl
begun_book codes around place job (Some sent, w) x = refl

drawn_book : (started : List ℕ → List ℕ → Option (List ℕ)) (codes : Codes) (around : Around) (at : SendAt) (job : JobName) (drawn : Drawn) (x : Copier)
    → (drawn_turn started codes around at job drawn x).1.copies.book ≡ x.copies.book
drawn_book started codes around at job draws.Failed x = refl
drawn_book started codes around at job (draws.Got nonce) x =
    begun_book codes around at.place job (begun_for at.place job (begun at nonce (started x.principal nonce) x.work.mount) x.work) x

abbrev book_of : DueTurn × Copier → BookView
book_of t = t.1.copies.book

module _ {W : Type 0} (gives : W → Drawn → W → Type 0) (started : List ℕ → List ℕ → Option (List ℕ)) (codes : Codes) (around : Around) (before after : W) where
  due_book : (at : SendAt) (setup : Setup) (due : Due) (x : Copier) (t : DueTurn × Copier) → IsDue gives started codes around at setup due x before after t
      → book_of t ≡ x.copies.book
  due_book at setup dues.Rest x t is = ap book_of is.is
  due_book at setup dues.Land x t is = ap book_of is.is
  due_book at setup (dues.Begin job) x t is = ap book_of is.is ∙ drawn_book started codes around at job is.drawn x
  due_book at setup (dues.Asked errand sent) x t is = ap book_of is.is
  due_book at setup (dues.Commit job) x t is = ap book_of is.is

  turned_does : EntryLaws → (place xid : ℕ) (x : Copier) (due : Turn) (t : DueTurn × Copier)
      → due ≡ turn codes.mic (send_at around place xid) x.principal around.sessions x.work x.copies.book
      → IsDue gives started codes around (send_at around place xid) (setup_in x.work.mount.standing) due.told.0 (with_turn due x) before after t
      → GoesWithin 0 0 x.copies.book (book_of t)
  turned_does laws place xid x due t is turned =
      let at = send_at around place xid in
      subst (λ (b : BookView). GoesWithin 0 0 x.copies.book b)
      (sym (due_book at (setup_in x.work.mount.standing) due.told.0 (with_turn due x) t turned ∙ ap (λ (d : Turn). d.book) is))
      (laws.due codes.mic at x.principal around.sessions x.work x.copies.book)

  turn_does : EntryLaws → (short : Bool) (xid : Option ℕ) (place : ℕ) (x : Copier) (t : DueTurn × Copier)
      → IsTurn short xid gives started codes around place x before after t → GoesWithin 0 0 x.copies.book (book_of t)
  turn_does laws false xid place x t is = none_by x.copies.book (book_of t) (ap book_of is.is)
  turn_does laws true None place x t is = none_by x.copies.book (book_of t) (ap book_of is.is)
  turn_does laws true (Some xid) place x t is =
      turned_does laws place xid x (turn codes.mic (send_at around place xid) x.principal around.sessions x.work x.copies.book) t refl is

  due_does : EntryLaws → (place : ℕ) (x : Copier) (t : DueTurn × Copier) → IsTurnOf gives started codes around place x before after t
      → GoesWithin 0 0 x.copies.book (book_of t)
  due_does laws place x t is = turn_does laws (nat_le (length x.principal) NAME_LIMIT) (xid_of x.work.mount x.back) place x t is

-- ---- whole steps

lapsed_does : {M : Type 0} → EntryLaws → (s : DestState M) → GoesWithin 0 0 (jobs_in s) (jobs_in (without_lapsed s))
lapsed_does laws s = laws.clients (λ client. has_lapsed s.state.sessions client s.second) LeaseExpired (copier_in s).copies

pub begins : {M W : Type 0} → EntryLaws → (gives : W → Drawn → W → Type 0) → BeginsQuietly M gives
begins laws gives = record {
  due = λ started codes around place x before after t is. due_does gives started codes around before after laws place x t is;
  lapsed = lapsed_does laws;
}

pub tick_does : {M : Type 0} → EntryLaws → (codes : Codes) (now : ℕ) (s : DestState M) → GoesWithin 0 0 (jobs_in s) (jobs_in (tick_step codes now s).host)
tick_does laws codes now s = lapsed_does laws (second_in now s)

turn_step_does : {M : Type 0} → EntryLaws → (choice : Choice) (place now : ℕ) (turn : DueTurn) (s : DestState M)
    → GoesWithin 0 1 (jobs_in s) (jobs_in (turn_step choice place now turn s).host)
turn_step_does laws choice place now turn s =
    let t = without_lapsed (second_in now s) in
    both_by (jobs_in s) (jobs_in t) (jobs_in (turn_step choice place now turn s).host) (lapsed_does laws (second_in now s))
    (laws.turn_is choice place turn (doing_in t))

pub work_does : {M W : Type 0} → EntryLaws → (gives : W → Drawn → W → Type 0) (started : List ℕ → List ℕ → Option (List ℕ)) (codes : Codes) (place now : ℕ)
    (s : DestState M) (before after : W) (t : DestStep M) → IsWork gives started codes place now s before after t → GoesWithin 0 1 (jobs_in s) (jobs_in t.host)
work_does {M} laws gives started codes place now s before after t work =
    let choice = choice_of t.out.used in
    let start : DestState M = with_copier work.copier s in
    let is = work.is choice (λ n below. refl) in
    both_by (jobs_in s) (jobs_in start) (jobs_in t.host)
    (due_does gives started codes (around (max s.second now) s) before after laws place (copier_in s) (work.turn, work.copier) work.due)
    (subst (λ (u : DestStep M). GoesWithin 0 1 (jobs_in start) (jobs_in u.host)) (sym is) (turn_step_does laws choice place now work.turn start))

pub reply_does : {M : Type 0} → EntryLaws → (codes : Codes) (finish : List ℕ → List ℕ → Option (List ℕ)) (place : ℕ) (message : List ℕ) (now : ℕ)
    (s : DestState M) (t : DestStep M) → IsReply codes finish place message now s t → GoesWithin 0 1 (jobs_in s) (jobs_in t.host)
reply_does {M} laws codes finish place message now s t reply =
    let choice = choice_of t.out.used in
    let start : DestState M = with_copier reply.copier s in
    let is = reply.is choice (λ n below. refl) in
    subst (λ (u : DestStep M). GoesWithin 0 1 (jobs_in s) (jobs_in u.host)) (sym is)
    (laws.heard choice codes finish (around (max s.second now) s) place message (copier_in s) reply.heard reply.copier (doing_in (second_in now start)) reply.is_heard refl)

pub failure_does : {M : Type 0} → EntryLaws → (codes : Codes) (place : ℕ) (s : DestState M) → GoesWithin 0 1 (jobs_in s) (jobs_in (failure_step codes place s).host)
failure_does laws codes place s =
    laws.failure place (failing codes (around s.second s) place (copier_in s)) (copier_in (second_in s.second s))
