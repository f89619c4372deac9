-- A client's reply to a callback (RFC 7862 section 16.1). The jobs of which it is told are those of the book.
use Rattle.std.specs.Prelude.{ℕ, Bool, true, false, List, is_some, Option, Some, None}
use Rattle.dest_back.specs.Hearing.{heard}
use Rattle.dest_back.specs.declared.hearing.Hearing.{Hearing}
use Rattle.dest_back.specs.declared.hearing.Hearing.TheVariants as hears
use Rattle.dest_jobs.specs.Progress.{reports}
use Rattle.gss_ctx.specs.Seals.{Mic}
use Rattle.job_book.specs.Book.{client_of}
use Rattle.job_table.specs.Table.{JobTable}
use Rattle.nfs_base.specs.declared.job.JobName.{JobName}
use Rattle.nfs_base.specs.declared.seal.Seal.{Seal}
use Rattle.outbox.specs.declared.note.Dropped.TheVariants.{Unmatched}
use Rattle.dest_steps.specs.Replying.{dropped}
use Rattle.dest_steps.specs.declared.copier.Copier.{Copier}

abbrev pub job_name : (boot number : ℕ) → JobName
job_name boot number = record { boot = boot; number = number }

abbrev pub is_there : JobTable → (boot number : ℕ) → Bool
is_there t boot number = is_some (client_of t (job_name boot number))

-- one to the callback of a job that isn't in the book any more is none
abbrev pub hearing_if : (there : Bool) → Hearing → Hearing
hearing_if true hearing = hearing
hearing_if false hearing = hears.Unmatched

abbrev pub of_book : JobTable → (boot : ℕ) → Hearing → Hearing
of_book t boot hears.Unmatched = hears.Unmatched
of_book t boot (hears.Passed number accepted) = hearing_if (is_there t boot number) (hears.Passed number accepted)
of_book t boot (hears.Done number seal) = hearing_if (is_there t boot number) (hears.Done number seal)

abbrev pub heard_client : Mic → (boot : ℕ) → (message : List ℕ) → Copier → Hearing
heard_client mic boot message x = of_book x.copies.book.table boot (heard mic message x.back)

-- ---- what it does, and under which seal it was accepted

abbrev pub hearing_done : (boot : ℕ) → Hearing → Copier → Copier × Option Seal
hearing_done boot hears.Unmatched x = (dropped Unmatched x, None)
hearing_done boot (hears.Passed number accepted) x = (x, accepted)
hearing_done boot (hears.Done number seal) x = (record x { copies = reports (job_name boot number) x.copies }, Some seal)
