-- A destination that was just opened has no job, and its workers hold nothing.
use Rattle.std.proofs.Common.{◌≡◌, ℕ, zero, suc, Bool, [], None, ap, refl, ◌∙◌, replicate}
use Rattle.std.specs.Prelude.{slice_index_or}
use Rattle.dest_core.specs.Stepping.{DestState}
use Rattle.dest_core.specs.declared.destination.Destination.{Destination}
use Rattle.dest_laws.specs.View.Steps.{table_in}
use Rattle.dest_laws.specs.View.View.{held_in, holds_at, made_in}
use Rattle.dest_tasks.specs.Posts.{post_at}
use Rattle.dest_tasks.specs.declared.post.Post.TheVariants.{Idle}
use Rattle.dest_tasks.specs.declared.workers.TheConstants.{WORKERS}
use Rattle.nfs_base.specs.declared.job.JobName.{JobName}
use Rattle.run_ends.specs.Opening.{IsNewDest}
use Rattle.run_promise.specs.System.Listing.{listed_in}
use Rattle.wire_machine.specs.History.{jobs_after}

idle_at : (n i : ℕ) → slice_index_or (replicate n Idle) i Idle ≡ Idle
idle_at zero i = refl
idle_at (suc n) zero = refl
idle_at (suc n) (suc i) = idle_at n i

module _ {M : Type 0} (mech : M) (d : DestState M) (new : IsNewDest mech d) where
  pub new_boot : (table_in d).boot ≡ d.state.machine.store.volume.boot
  new_boot = ap (λ (x : Destination M). x.copier.copies.book.table.boot) new.extra

  pub new_mech : d.state.machine.extra.mech ≡ mech
  new_mech = ap (λ (x : Destination M). x.mech) new.extra

  pub new_jobs : (stable : JobName → Bool) (boot : ℕ) → jobs_after (listed_in (table_in d)) stable boot (made_in d) [] ≡ []
  new_jobs stable boot =
      ap (λ (x : Destination M). jobs_after (listed_in x.copier.copies.book.table) stable boot x.copier.copies.book.table.made []) new.extra

  pub new_made : made_in d ≡ 0
  new_made = ap (λ (x : Destination M). x.copier.copies.book.table.made) new.extra

  pub new_holds : (worker : ℕ) → holds_at d worker ≡ None
  new_holds worker =
      ap (λ (x : Destination M). held_in (post_at x.copier.work.workers worker)) new.extra ∙ ap held_in (idle_at WORKERS worker)
