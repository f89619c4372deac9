-- A chunk that a worker holds it held before, or it is brought in this step.
use Rattle.std.proofs.Common.{◌≡◌, ◌∙◌, ◌⊎◌, inl, inr, ℕ, List, Option, Some, sym, ap, subst}
use Rattle.std.specs.Prelude.{max, suc}
use Rattle.dest_core.specs.Stepping as steps
use Rattle.dest_core.specs.Stepping.{DestState, DestStep, IsReply, IsWork, copier_in, failure_step, tick_step}
use Rattle.dest_laws.proofs.landings.Chunks.{waits_by}
use Rattle.dest_laws.proofs.landings.Doings.{IfWaits, effect_has, turned_has}
use Rattle.dest_laws.proofs.landings.Heard.{IfLands, heard_so}
use Rattle.dest_laws.proofs.landings.Keeping.{failure_work, reply_keeps, work_at, work_keeps}
use Rattle.dest_laws.proofs.landings.Posts.{Has, moves_has, settled_has}
use Rattle.dest_laws.proofs.landings.Stays.{same_by}
use Rattle.dest_laws.proofs.landings.Turns.{SendLaws}
use Rattle.dest_laws.proofs.landings.Wells.{piece_of}
use Rattle.dest_laws.specs.Landings.Seating.{SameWork}
use Rattle.dest_laws.specs.Own.Going.{jobs_in}
use Rattle.dest_laws.specs.View.Steps.{Shows}
use Rattle.dest_laws.specs.View.View.{held_in}
use Rattle.dest_steps.specs.Copier.{Codes}
use Rattle.dest_steps.specs.declared.copier.Copier.{Copier}
use Rattle.dest_steps.specs.declared.replying.Effect.{Effect}
use Rattle.dest_steps.specs.declared.replying.Effect.TheVariants as effects
use Rattle.dest_tasks.specs.Posts.{post_at}
use Rattle.dest_tasks.specs.declared.post.Errand.{Errand}
use Rattle.dest_tasks.specs.declared.post.Post.{Post}
use Rattle.dest_tasks.specs.declared.post.Post.TheVariants.{Awaits, Holds, Idle}
use Rattle.dest_work.specs.Work.{with_mount}
use Rattle.dest_work.specs.declared.work.Work.{Work}
use Rattle.job_book.specs.Book.{IsSound, named}
use Rattle.job_table.specs.declared.job.Job.{Job}
use Rattle.mount.specs.Falling.{given_up}
use Rattle.nfs_base.specs.declared.job.JobName.{JobName}
use Rattle.streams.specs.declared.draws.Drawn.{Drawn}
use Rattle.wire_model.specs.System.{Chunk as Piece, System}

module _ {M : Type 0} (d : DestState M) (Fetched : Piece → Type 0) where
  -- it was held at this place, or is fetched
  abbrev pub Was : ℕ → Post → Type 0
  Was p post = (c : Piece) → held_in post ≡ Some c → (held_in (post_at (work_at d).workers p) ≡ Some c) ⊎ Fetched c

  pub idle_was : (p : ℕ) → Was p Idle
  idle_was p c is = absurd cc

  awaits_was : (p : ℕ) (job : JobName) (errand : Errand) → Was p (Awaits job errand)
  awaits_was p job errand c is = absurd cc

  pub first_was : Has Was idle_was (work_at d).workers
  first_was p c is = inl is

  pub same_has : (t : DestState M) → SameWork (copier_in d) (copier_in t) → Has Was idle_was (work_at t).workers
  same_has t same p c is = inl (ap (λ (posts : List Post). held_in (post_at posts p)) (sym same.workers) ∙ is)

  pub work_has : {W : Type 0} (sends : SendLaws) (gives : W → Drawn → W → Type 0) (started : List ℕ → List ℕ → Option (List ℕ)) (codes : Codes) (place now : ℕ)
      (before after : W) (t : DestStep M) → IsSound (jobs_in d).table → IsWork gives started codes place now d before after t → Has Was idle_was (work_at t.host).workers
  work_has sends gives started codes place now before after t sound work =
      work_keeps sends gives started codes place now d before after t (λ w. Has Was idle_was w.workers)
      (moves_has Was idle_was awaits_was (copier_in d).copies.book.table place) (turned_has Was idle_was place) sound.given work first_was

  pub failure_has : (codes : Codes) (place : ℕ) → Has Was idle_was (work_at (failure_step codes place d).host).workers
  failure_has codes place =
      subst (λ (w : Work). Has Was idle_was w.workers) (sym (failure_work codes place d))
      (settled_has Was idle_was (with_mount (given_up place (work_at d).mount) (work_at d)) first_was)

  pub tick_has : (codes : Codes) (now : ℕ) → Has Was idle_was (work_at (tick_step codes now d).host).workers
  tick_has codes now = first_was

  -- ---- a record of the source

  brought_was : (place : ℕ) (effect : Effect) (x : Copier) → IfLands effect (λ job chunk bytes. (found : Job) → named x.copies.book.table job ≡ Some found → Fetched (piece_of job chunk bytes))
      → IfWaits effect x (λ job chunk bytes. Was place (Holds job chunk bytes))
  brought_was place (effects.Drops why) x lands = tt
  brought_was place (effects.Goes m) x lands = tt
  brought_was place (effects.Denied job m) x lands = tt
  brought_was place (effects.Stops job cause told m) x lands = tt
  brought_was place (effects.Lands job chunk bytes told m) x lands = λ waits c is.
      let found = waits_by x.copies.book.table job chunk waits in
      let same : piece_of job chunk bytes ≡ c = cc in
      inr (subst Fetched same (lands found.0 found.1))

  pub reply_has : (codes : Codes) (finish : List ℕ → List ℕ → Option (List ℕ)) (place : ℕ) (message : List ℕ) (now : ℕ)
      (t : DestStep M) (reply : IsReply codes finish place message now d t)
      → IfLands reply.heard.effect (λ job chunk bytes. (found : Job) → named reply.copier.copies.book.table job ≡ Some found → Fetched (piece_of job chunk bytes))
      → Has Was idle_was (work_at t.host).workers
  reply_has codes finish place message now t reply brings =
      let old = copier_in d in
      let so = heard_so codes finish (steps.around (max d.second now) d) place message old reply.heard reply.copier reply.is_heard in
      reply_keeps codes finish place message now d t (λ w. Has Was idle_was w.workers) reply
      (λ choice e is.
      let work : e.copier.work ≡ old.work = ap (λ (x : Copier). x.work) is ∙ same_by codes finish place message old reply.heard reply.copier so in
      effect_has Was idle_was choice place reply.heard.effect e
      (brought_was place reply.heard.effect e.copier
      (subst (λ (x : Copier). IfLands reply.heard.effect (λ job chunk bytes. (found : Job) → named x.copies.book.table job ≡ Some found → Fetched (piece_of job chunk bytes))) (sym is) brings))
      (subst (λ (w : Work). Has Was idle_was w.workers) (sym work) first_was))

-- ---- as the system shows it

pub holds_so : {M : Type 0} (s : System) (k : ℕ) (d t : DestState M) (Fetched : Piece → Type 0) → Shows s k d → Shows s (suc k) t → Has (Was d Fetched) (idle_was d Fetched) (work_at t).workers
    → (worker : ℕ) (chunk : Piece) → s.holds (suc k) worker ≡ Some chunk → (s.holds k worker ≡ Some chunk) ⊎ Fetched chunk
holds_so s k d t Fetched before after has worker chunk is =
    elim (has worker chunk (sym (after.holds worker) ∙ is)) [
      | inl was ↦ inl (before.holds worker ∙ was)
      | inr new ↦ inr new
    ]
