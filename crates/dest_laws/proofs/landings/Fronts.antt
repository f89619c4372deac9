-- What comes before anything is done in a worker's turn: no job gets an entry, and nothing is noted but jobs whose leases ended.
use Rattle.std.proofs.Common.{◌≡◌, ◌∙◌, inl, inr, ℕ, Bool, true, false, List, length, Option, Some, None, refl, sym, ap, subst}
use Rattle.std.specs.Prelude.{is_some, nat_le}
use Rattle.dest_jobs.specs.Ending.{expires}
use Rattle.dest_jobs.specs.declared.copies.Copies.{Copies}
use Rattle.dest_laws.proofs.landings.Deeds.{is_plain, within_plain}
use Rattle.dest_laws.proofs.landings.Places.{set_cases}
use Rattle.dest_laws.proofs.landings.Posts.{Moves}
use Rattle.dest_laws.specs.Deeds.{GoesWithin}
use Rattle.dest_laws.specs.Histories.Kinds.{GoesBy, is_end}
use Rattle.dest_laws.specs.Own.GoingLaws.{all_end, none}
use Rattle.dest_steps.specs.Copier.{Around, Codes, xid_of}
use Rattle.dest_steps.specs.Turning.{IsDue, IsTurn, IsTurnOf, begun_turn, drawn_turn, send_at, with_turn}
use Rattle.dest_steps.specs.declared.copier.Copier.{Copier}
use Rattle.dest_steps.specs.declared.turning.Turn.{Turn as DueTurn}
use Rattle.dest_tasks.specs.Posts.{holds, post_at, put_at}
use Rattle.dest_tasks.specs.declared.post.Post.{Post}
use Rattle.dest_tasks.specs.declared.post.Post.TheVariants.{Awaits, Holds, Idle}
use Rattle.dest_tasks.specs.declared.tasks.Task.{Task}
use Rattle.dest_work.specs.Work.{begun_for, task_at, turn, turn_by}
use Rattle.dest_work.specs.declared.work.Due.{Due}
use Rattle.dest_work.specs.declared.work.Due.TheVariants as dues
use Rattle.dest_work.specs.declared.work.Work.{Work}
use Rattle.gss_ctx.specs.Seals.{Mic}
use Rattle.job_book.specs.Book.{BookView}
use Rattle.job_log.specs.declared.chunk.Chunk.{Chunk}
use Rattle.job_table.specs.Table.{JobTable}
use Rattle.mount.specs.Sending.{begun}
use Rattle.mount.specs.State.{awaited_at, has_numbers, setup_in}
use Rattle.mount.specs.declared.machine.SendAt.{SendAt}
use Rattle.mount.specs.declared.machine.Sent.{Sent}
use Rattle.nfs_base.specs.declared.job.JobName.{JobName}
use Rattle.nfs_base.specs.declared.job.Stop.TheVariants.{LeaseExpired}
use Rattle.nfs_base.specs.declared.limits.TheConstants.{NAME_LIMIT}
use Rattle.sess_slots.specs.Begins.{has_lapsed}
use Rattle.sess_slots.specs.Table.{SessionTable}
use Rattle.session_client.specs.declared.setup.Setup.{Setup}
use Rattle.streams.specs.declared.draws.Drawn.{Drawn}
use Rattle.streams.specs.declared.draws.Drawn.TheVariants as draws

-- the law of what is due
abbrev pub DueLaw : Type 0
DueLaw = (mic : Mic) (at : SendAt) (me : List ℕ) (sessions : SessionTable) (w : Work) (b : BookView) → GoesWithin 0 0 b (turn mic at me sessions w b).book

-- ---- a worker that holds a chunk claims nothing

by_book : (awaits holding left : Bool) (mic : Mic) (at : SendAt) (me : List ℕ) (task : Option Task) (w : Work) (b : BookView) → holding ≡ true
    → (turn_by awaits holding left mic at me task w b).book ≡ b
by_book true holding left mic at me task w b is = refl
by_book false true left mic at me task w b is = refl
by_book false false left mic at me task w b is = absurd cc

turn_book : (mic : Mic) (at : SendAt) (me : List ℕ) (sessions : SessionTable) (w : Work) (b : BookView) → holds (post_at w.workers at.place) ≡ true
    → (turn mic at me sessions w b).book ≡ b
turn_book mic at me sessions w b is =
    by_book (is_some (awaited_at w.mount at.place)) (holds (post_at w.workers at.place)) (has_numbers w.mount.standing at.place) mic at me (task_at sessions at.now w b) w b is

-- ---- what is due

pub record DueIs (place : ℕ) (x : Copier) (copies : Copies) : Type 0 where
  pub book : GoesBy is_plain x.copies.book copies.book
  pub told : copies.told ≡ x.copies.told
  pub kept : holds (post_at x.work.workers place) ≡ true → copies.book ≡ x.copies.book

begun_copies : (codes : Codes) (around : Around) (place : ℕ) (job : JobName) (o : Option Sent × Work) (x : Copier) → (begun_turn codes around place job o x).1.copies ≡ x.copies
begun_copies codes around place job (None, w) x = refl
begun_copies codes around place job (Some sent, w) x = refl

module _ {W : Type 0} (gives : W → Drawn → W → Type 0) (started : List ℕ → List ℕ → Option (List ℕ)) (codes : Codes) (around : Around) (before after : W) where
  drawn_copies : (at : SendAt) (job : JobName) (drawn : Drawn) (x : Copier) → (drawn_turn started codes around at job drawn x).1.copies ≡ x.copies
  drawn_copies at job draws.Failed x = refl
  drawn_copies at job (draws.Got nonce) x =
      begun_copies codes around at.place job (begun_for at.place job (begun at nonce (started x.principal nonce) x.work.mount) x.work) x

  abbrev copies_of : DueTurn × Copier → Copies
  copies_of o = o.1.copies

  due_copies : (at : SendAt) (setup : Setup) (due : Due) (x : Copier) (o : DueTurn × Copier) → IsDue gives started codes around at setup due x before after o → copies_of o ≡ x.copies
  due_copies at setup dues.Rest x o is = ap copies_of is.is
  due_copies at setup dues.Land x o is = ap copies_of is.is
  due_copies at setup (dues.Begin job) x o is = ap copies_of is.is ∙ drawn_copies at job is.drawn x
  due_copies at setup (dues.Asked errand sent) x o is = ap copies_of is.is
  due_copies at setup (dues.Commit job) x o is = ap copies_of is.is

  same_due : (place : ℕ) (x : Copier) (copies : Copies) → copies ≡ x.copies → DueIs place x copies
  same_due place x copies same = record {
    book = none is_plain x.copies.book copies.book (ap (λ (c : Copies). c.book) same);
    told = ap (λ (c : Copies). c.told) same;
    kept = λ _. ap (λ (c : Copies). c.book) same;
  }

  turn_is : DueLaw → (short : Bool) (xid : Option ℕ) (place : ℕ) (x : Copier) (o : DueTurn × Copier) → IsTurn short xid gives started codes around place x before after o
      → DueIs place x (copies_of o)
  turn_is law false xid place x o is = same_due place x (copies_of o) (ap copies_of is.is)
  turn_is law true None place x o is = same_due place x (copies_of o) (ap copies_of is.is)
  turn_is law true (Some xid) place x o is =
      let at = send_at around place xid in
      let due = turn codes.mic at x.principal around.sessions x.work x.copies.book in
      let same = due_copies at (setup_in x.work.mount.standing) due.told.0 (with_turn due x) o is in
      record {
        book = subst (λ (c : Copies). GoesBy is_plain x.copies.book c.book) (sym same) (within_plain 0 x.copies.book due.book (law codes.mic at x.principal around.sessions x.work x.copies.book));
        told = ap (λ (c : Copies). c.told) same;
        kept = λ held. ap (λ (c : Copies). c.book) same ∙ turn_book codes.mic at x.principal around.sessions x.work x.copies.book held;
      }

  pub due_is : DueLaw → (place : ℕ) (x : Copier) (o : DueTurn × Copier) → IsTurnOf gives started codes around place x before after o → DueIs place x (copies_of o)
  due_is law place x o is = turn_is law (nat_le (length x.principal) NAME_LIMIT) (xid_of x.work.mount x.back) place x o is

-- ---- a chunk that a worker holds it held before

abbrev pub HeldBefore : ℕ → Work → Work → Type 0
HeldBefore place w v = (job : JobName) (chunk : Chunk) (bytes : List ℕ) → post_at v.workers place ≡ Holds job chunk bytes → post_at w.workers place ≡ Holds job chunk bytes

pub held_moves : (t : JobTable) (place : ℕ) (w u v : Work) → Moves t place u v → HeldBefore place w u → HeldBefore place w v
held_moves t place w u v (inl same) held job chunk bytes is = held job chunk bytes (sym (ap (λ (x : Work). post_at x.workers place) same) ∙ is)
held_moves t place w u v (inr asking) held job chunk bytes is =
    let there : post_at (put_at place (Awaits asking.job asking.errand) u.workers) place ≡ Holds job chunk bytes
    = sym (ap (λ (posts : List Post). post_at posts place) asking.workers) ∙ is in
    set_cases (λ (post : Post). post ≡ Holds job chunk bytes → post_at w.workers place ≡ Holds job chunk bytes) u.workers place place (Awaits asking.job asking.errand) Idle
    (λ _ e. absurd cc) (λ e. absurd cc) (λ other. absurd (other refl)) there

-- ---- leases end

pub lapsed_ends : (sessions : SessionTable) (second : ℕ) (x : Copies) → GoesBy is_end x.book (expires sessions second x).book
lapsed_ends sessions second x = all_end is_end (λ name. refl) (λ client. has_lapsed sessions client second) LeaseExpired x

pub lapsed_plain : (sessions : SessionTable) (second : ℕ) (x : Copies) → GoesBy is_plain x.book (expires sessions second x).book
lapsed_plain sessions second x = all_end is_plain (λ name. refl) (λ client. has_lapsed sessions client second) LeaseExpired x
