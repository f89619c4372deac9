-- A worker's turn, and a record of the source that tells no length, in a few words.
use Rattle.std.proofs.Common.{◌≡◌, ◌∙◌, inl, inr, ℕ, List, [], Option, refl, ap}
use Rattle.std.specs.Prelude.{max}
use Rattle.dest_core.specs.Stepping as steps
use Rattle.dest_core.specs.Stepping.{DestState, DestStep, IsReply, IsWork, copier_in, doing_in, reply_step, second_in, turn_step, with_copier, without_lapsed}
use Rattle.dest_laws.proofs.landings.Deeds.{is_plain}
use Rattle.dest_laws.proofs.landings.Fronts.{DueLaw, HeldBefore, due_is, held_moves, lapsed_ends, lapsed_plain}
use Rattle.dest_laws.proofs.landings.Keeping.{due_keeps, work_at}
use Rattle.dest_laws.proofs.landings.Notes.{IsQuiet, lapsed_quiet, silent_quiet}
use Rattle.dest_laws.proofs.landings.Outcomes.{IsEffect, Outcome, book_at, effect_outcome, turn_outcome}
use Rattle.dest_laws.proofs.landings.Turns.{SendLaws}
use Rattle.dest_laws.specs.Histories.Kinds.{GoesBy, is_end}
use Rattle.dest_laws.specs.Own.Going.{jobs_in}
use Rattle.dest_laws.specs.Own.GoingLaws.{both, none}
use Rattle.dest_steps.specs.Copier.{Codes}
use Rattle.dest_steps.specs.Landing.{Doing}
use Rattle.dest_steps.specs.Replying.{effect_done}
use Rattle.dest_steps.specs.Working.{turn_made}
use Rattle.dest_steps.specs.declared.copier.Copier.{Copier}
use Rattle.dest_tasks.specs.Posts.{holds, post_at}
use Rattle.dest_tasks.specs.declared.post.Post.TheVariants.{Holds}
use Rattle.job_book.specs.Book.{IsSound}
use Rattle.job_log.specs.declared.chunk.Chunk.{Chunk}
use Rattle.nfs_base.specs.declared.job.JobName.{JobName}
use Rattle.server_volume.specs.Choices.{choice_of}
use Rattle.streams.specs.declared.draws.Drawn.{Drawn}

-- From d on something is done, which leaves e; before that jobs end, or a chunk is claimed. P tells which chunk may be written.
pub record IsStep {M : Type 0} (P : JobName → Chunk → List ℕ → Type 0) (s : DestState M) (t : DestStep M) : Type 0 where
  pub first : Doing
  pub last : Doing
  pub used : t.out.used ≡ last.used
  pub notes : t.out.notes ≡ last.copier.copies.told
  pub volume : t.host.state.machine.store.volume ≡ last.store.volume
  pub book : jobs_in t.host ≡ book_at last
  pub quiet : IsQuiet 16 first.copier.copies.told
  pub outcome : Outcome P first last
  pub plain : GoesBy is_plain (jobs_in s) (book_at first)
  pub ends : (job : JobName) (chunk : Chunk) (bytes : List ℕ) → P job chunk bytes → GoesBy is_end (jobs_in s) (book_at first)

-- which chunk a worker held
abbrev pub WasHeld : {M : Type 0} → ℕ → DestState M → JobName → Chunk → List ℕ → Type 0
WasHeld place s job chunk bytes = post_at (work_at s).workers place ≡ Holds job chunk bytes

outcome_by : {P Q : JobName → Chunk → List ℕ → Type 0} (d e : Doing) → ((job : JobName) (chunk : Chunk) (bytes : List ℕ) → P job chunk bytes → Q job chunk bytes)
    → Outcome P d e → Outcome Q d e
outcome_by d e by (inl quiet) = inl quiet
outcome_by d e by (inr (job, chunk, bytes, is, writes)) = inr (job, chunk, bytes, by job chunk bytes is, writes)

pub work_step : {M W : Type 0} (sends : SendLaws) (law : DueLaw) (gives : W → Drawn → W → Type 0) (started : List ℕ → List ℕ → Option (List ℕ)) (codes : Codes) (place now : ℕ)
    (s : DestState M) (before after : W) (t : DestStep M) → IsSound (jobs_in s).table → (copier_in s).copies.told ≡ []
    → IsWork gives started codes place now s before after t → IsStep (WasHeld place s) s t
work_step {M} sends law gives started codes place now s before after t sound silent work =
    let choice = choice_of t.out.used in
    let start : DestState M = with_copier work.copier s in
    let u = second_in now start in
    let d = doing_in (without_lapsed u) in
    let e = (turn_made choice place work.turn d).doing in
    let is = work.is choice (λ n below. refl) in
    let x = copier_in s in
    let around = steps.around (max s.second now) s in
    let due = due_is gives started codes around before after law place x (work.turn, work.copier) work.due in
    let was = due_keeps sends gives started codes around place x before after (HeldBefore place x.work) (held_moves x.copies.book.table place x.work) sound.given
    (work.turn, work.copier) work.due (λ job chunk bytes h. h) in
    record {
      first = d;
      last = e;
      used = ap (λ (v : DestStep M). v.out.used) is;
      notes = ap (λ (v : DestStep M). v.out.notes) is;
      volume = ap (λ (v : DestStep M). v.host.state.machine.store.volume) is;
      book = ap (λ (v : DestStep M). jobs_in v.host) is;
      quiet = lapsed_quiet u.state.sessions u.second work.copier.copies (due.told ∙ silent);
      outcome = outcome_by d e (λ job chunk bytes held. was job chunk bytes held) (turn_outcome choice place work.turn d refl);
      plain = both is_plain x.copies.book work.copier.copies.book (book_at d) due.book (lapsed_plain u.state.sessions u.second work.copier.copies);
      ends = λ job chunk bytes held.
          both is_end x.copies.book work.copier.copies.book (book_at d)
          (none is_end x.copies.book work.copier.copies.book (due.kept (ap holds held)))
          (lapsed_ends u.state.sessions u.second work.copier.copies);
    }

pub reply_step_is : {M : Type 0} (codes : Codes) (finish : List ℕ → List ℕ → Option (List ℕ)) (place : ℕ) (message : List ℕ) (now : ℕ)
    (s : DestState M) (t : DestStep M) → (copier_in s).copies.told ≡ [] → (reply : IsReply codes finish place message now s t) → reply.copier ≡ copier_in s
    → IsStep (IsEffect reply.heard.effect) s t
reply_step_is {M} codes finish place message now s t silent reply same =
    let choice = choice_of t.out.used in
    let start : DestState M = with_copier reply.copier s in
    let d = doing_in (second_in now start) in
    let e = (effect_done choice place reply.heard.effect d).doing in
    let is = reply.is choice (λ n below. refl) in
    record {
      first = d;
      last = e;
      used = ap (λ (v : DestStep M). v.out.used) is;
      notes = ap (λ (v : DestStep M). v.out.notes) is;
      volume = ap (λ (v : DestStep M). v.host.state.machine.store.volume) is;
      book = ap (λ (v : DestStep M). jobs_in v.host) is;
      quiet = silent_quiet reply.copier.copies.told (ap (λ (x : Copier). x.copies.told) same ∙ silent);
      outcome = effect_outcome choice place reply.heard.effect d refl;
      plain = none is_plain (jobs_in s) (book_at d) (ap (λ (x : Copier). x.copies.book) same);
      ends = λ job chunk bytes is_effect. none is_end (jobs_in s) (book_at d) (ap (λ (x : Copier). x.copies.book) same);
    }
