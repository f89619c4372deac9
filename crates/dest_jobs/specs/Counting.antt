-- How many bytes a destination's jobs landed, and how many of these are still to be told of in this step.
use Rattle.std.specs.Prelude.{◌≡◌, ℕ, ◌+◌, ◌==◌, ◌<◌, ◌≤◌, ◌||◌, Bool, false, List, [], ◌∷◌, length, if◌then◌else◌}
use Rattle.copy_model.specs.Job.{chunk_size, landed_bytes}
use Rattle.job_book.specs.Book.{BookView}
use Rattle.job_table.specs.declared.job.Job.{Job}
use Rattle.outbox.specs.Counting.{landed_in}
use Rattle.outbox.specs.declared.note.TheConstants.{MOST_NOTES}
use Rattle.dest_jobs.specs.declared.copies.Copies.{Copies}

-- ---- The bytes of all jobs, those that aren't there any more included. Of each number the first job counts; a book has but one.

abbrev pub with_seen : (number : ℕ) → (seen : ℕ → Bool) → ℕ → Bool
with_seen number seen n = (number == n) || seen n

abbrev pub unseen_bytes : (seen : ℕ → Bool) → List Job → ℕ
unseen_bytes seen [] = 0
unseen_bytes seen (job ∷ jobs) =
    (if seen job.number then 0 else landed_bytes job.log.entries) + unseen_bytes (with_seen job.number seen) jobs

abbrev pub none_seen : ℕ → Bool
none_seen n = false

abbrev pub bytes_of : BookView → ℕ
bytes_of b = b.past + unseen_bytes none_seen b.table.jobs

abbrev pub bytes_in : Copies → ℕ
bytes_in x = bytes_of x.book

-- ---- those that are to be told of

abbrev pub untold_in : Copies → ℕ
untold_in x = landed_in x.told

-- nothing lands
pub record KeepsLanded (old new : Copies) : Type 0 where
  pub bytes : bytes_in new ≡ bytes_in old
  pub untold : untold_in new ≡ untold_in old

-- One chunk at most lands. It is to be told of, where the step has room for a note more.
pub record Lands (old new : Copies) : Type 0 where
  pub landed : length old.told < MOST_NOTES → bytes_in new + untold_in old ≡ bytes_in old + untold_in new
  pub one_chunk : untold_in new ≤ untold_in old + chunk_size
