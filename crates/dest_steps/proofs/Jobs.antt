-- No number is given out where a job is stopped, or its end is told.
use Rattle.std.proofs.Common.{◌≡◌, Bool, true, false, refl}
use Rattle.dest_jobs.specs.Progress.{reported_if, reports, stopped_if, stops}
use Rattle.dest_jobs.specs.declared.copies.Copies.{Copies}
use Rattle.job_book.specs.Book.{id_of}
use Rattle.job_table.specs.Table.{is_ended, is_running}
use Rattle.nfs_base.specs.declared.job.JobName.{JobName}
use Rattle.nfs_base.specs.declared.job.Stop.{Stop}

stopped_made : (running : Bool) (cause : Stop) (name : JobName) (x : Copies) → (stopped_if running cause name x).book.table.made ≡ x.book.table.made
stopped_made true cause name x = refl
stopped_made false cause name x = refl

pub stops_made : (cause : Stop) (name : JobName) (x : Copies) → (stops cause name x).book.table.made ≡ x.book.table.made
stops_made cause name x = stopped_made (is_running x.book.table (id_of name)) cause name x

reported_made : (ended : Bool) (name : JobName) (x : Copies) → (reported_if ended name x).book.table.made ≡ x.book.table.made
reported_made true name x = refl
reported_made false name x = refl

pub reports_made : (name : JobName) (x : Copies) → (reports name x).book.table.made ≡ x.book.table.made
reports_made name x = reported_made (is_ended x.book.table (id_of name)) name x
