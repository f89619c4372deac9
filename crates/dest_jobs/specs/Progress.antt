-- What comes about in a job on its way, and what is told of it (RFC 7862 sections 4.2 and 15.2). The causes of a stop are own.
use Rattle.std.specs.Prelude.{◌≡◌, ℕ, ◌+◌, ◌≤◌, ◌⊎◌, Bool, true, false, None}
use Rattle.copy_model.specs.Job.{Committed, has_ended, size_of}
use Rattle.job_book.specs.Book.{BookView, id_of}
use Rattle.job_book.specs.Working.{stopped, with_its}
use Rattle.job_log.specs.Log.{after_landing, sized, with_entry}
use Rattle.job_log.specs.declared.chunk.Chunk.{Chunk}
use Rattle.job_log.specs.declared.chunk.Landing.TheVariants as landings
use Rattle.job_table.specs.Table.{is_ended, is_running}
use Rattle.job_table.specs.declared.job.Job.{Job}
use Rattle.nfs_base.specs.declared.job.JobName.{JobName}
use Rattle.nfs_base.specs.declared.job.Stop.{Stop}
use Rattle.outbox.specs.declared.note.Note.TheVariants as notes
use Rattle.dest_jobs.specs.Ending.{with_note, with_retired}
use Rattle.dest_jobs.specs.declared.copies.Copies.{Copies}

abbrev pub with_book : BookView → Copies → Copies
with_book b x = record x { book = b }

-- ---- a job that runs is stopped: it stays, so that its client can be told

abbrev pub stopped_if : (running : Bool) → Stop → JobName → Copies → Copies
stopped_if true cause name x = with_book (with_its name (λ log. stopped cause log) x.book) (with_note (notes.Stopped name cause) x)
stopped_if false cause name x = x

abbrev pub stops : Stop → JobName → Copies → Copies
stops cause name x = stopped_if (is_running x.book.table (id_of name)) cause name x

-- ---- its length is known

-- a job that runs and has none can get this one
pub record MaySize (capacity : ℕ) (len : ℕ) (job : Job) : Type 0 where
  pub not_sized : size_of job.log.entries ≡ None
  pub running : has_ended job.log.entries ≡ false
  pub asked : job.plan.count ≡ 0 ⊎ len ≡ job.plan.count
  pub fits : job.plan.dst_off + len ≤ capacity

-- the room that is taken for its chunks is its own matter
abbrev pub sized_with : (spare len : ℕ) → JobName → Copies → Copies
sized_with spare len name x =
    with_book (with_its name (λ log. sized (record log { spare = spare }) len) x.book) (with_note (notes.Sized name len) x)

pub record IsSized (len : ℕ) (name : JobName) (old new : Copies) : Type 0 where
  pub spare : ℕ
  pub is : new ≡ sized_with spare len name old

-- ---- a chunk has landed

abbrev pub lands : JobName → Chunk → Copies → Copies
lands name chunk x =
    with_book (with_its name (λ log. after_landing log chunk landings.Landed) x.book) (with_note (notes.Landed name chunk.off chunk.len) x)

-- ---- all of it landed and was committed

abbrev pub commits : JobName → Copies → Copies
commits name x = with_book (with_its name (λ log. with_entry log Committed) x.book) (with_note (notes.Committed name) x)

-- ---- its client knows how it ended: its place ends

abbrev pub reported_if : (ended : Bool) → JobName → Copies → Copies
reported_if true name x = with_retired name (with_note (notes.Reported name) x)
reported_if false name x = x

abbrev pub reports : JobName → Copies → Copies
reports name x = reported_if (is_ended x.book.table (id_of name)) name x
