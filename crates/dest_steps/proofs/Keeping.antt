-- Nothing lands where a job is stopped, committed or reported, and by what is due in a worker's turn.
use Rattle.std.proofs.Common.{◌≡◌, ℕ, List, Result, Ok, Err, ap, refl, subst, sym, ◌∙◌}
use Rattle.std.specs.Prelude.{IfOk, OnErr}
use Rattle.dest_jobs.specs.Counting.{bytes_in, bytes_of, untold_in, KeepsLanded, Lands}
use Rattle.dest_jobs.specs.LandedLaws.{chunks_land, committing_lands_none, reporting_lands_none, stopping_lands_none}
use Rattle.dest_jobs.specs.Progress.{commits, lands, reports, stops, with_book}
use Rattle.dest_jobs.specs.declared.copies.Copies.{Copies}
use Rattle.dest_work.specs.Work.{turn}
use Rattle.dest_work.specs.declared.work.Work.{Work}
use Rattle.gss_ctx.specs.Seals.{Mic}
use Rattle.job_book.specs.Book.{BookView, id_of}
use Rattle.job_log.specs.declared.chunk.Chunk.{Chunk}
use Rattle.job_log.specs.declared.chunk.Landing.TheVariants as landings
use Rattle.job_table.specs.Table.{table_landing}
use Rattle.mount.specs.declared.machine.SendAt.{SendAt}
use Rattle.nfs_base.specs.declared.job.JobName.{JobName}
use Rattle.nfs_base.specs.declared.job.Stop.{Stop}
use Rattle.sess_slots.specs.Table.{SessionTable}
use Rattle.dest_steps.proofs.Claims.{turning_lands_none}

keeps_as : (x y z : Copies) → z ≡ y → KeepsLanded x y → KeepsLanded x z
keeps_as x y z is keeps = record { bytes = ap bytes_in is ∙ keeps.bytes; untold = ap untold_in is ∙ keeps.untold }

pub stopped_keeps : (cause : Stop) (name : JobName) (x y : Copies) → y ≡ stops cause name x → KeepsLanded x y
stopped_keeps cause name x y is = keeps_as x (stops cause name x) y is (stopping_lands_none cause name x)

pub committed_keeps : (name : JobName) (x y : Copies) → y ≡ commits name x → KeepsLanded x y
committed_keeps name x y is = keeps_as x (commits name x) y is (committing_lands_none name x)

pub reported_keeps : (name : JobName) (x y : Copies) → y ≡ reports name x → KeepsLanded x y
reported_keeps name x y is = keeps_as x (reports name x) y is (reporting_lands_none name x)

-- what a turn leaves of the book, or all is as before
pub due_keeps : {T E : Type 0} (r : Result T E) (mic : Mic) (at : SendAt) (me : List ℕ) (sessions : SessionTable) (w : Work) (x : Copies) (b : BookView)
    → IfOk r (λ due. b ≡ (turn mic at me sessions w x.book).book) → OnErr r (b ≡ x.book) → KeepsLanded x (with_book b x)
due_keeps (Ok due) mic at me sessions w x b claims same =
    record { bytes = ap bytes_of claims ∙ turning_lands_none mic at me sessions w x.book; untold = refl }
due_keeps (Err refused) mic at me sessions w x b claims same = record { bytes = ap bytes_of same; untold = refl }

-- and a chunk lands
pub landed_lands : (name : JobName) (chunk : Chunk) (x y : Copies) → table_landing x.book.table (id_of name) chunk ≡ landings.Landed → y ≡ lands name chunk x → Lands x y
landed_lands name chunk x y takes is = subst (λ (z : Copies). Lands x z) (sym is) (chunks_land name chunk x takes)
