-- The seats of a destination's jobs: each job that isn't retired has one of sixteen, the lowest that was free when it was
-- accepted. By its seat the job has its context at the source, and its slot in the back channel of its client's session.
use Rattle.std.specs.Prelude.{ℕ, ◌==◌, ◌&&◌, Bool, true, false, List, position, slice_set, is_none, Option, Some, None}
use Rattle.std.specs.List.{list_any}
use Rattle.job_book.specs.Book.{client_of}
use Rattle.job_table.specs.Table.{JobTable}
use Rattle.nfs_base.specs.declared.job.JobName.{JobName}
use Rattle.dest_tasks.specs.declared.seats.Seat.{Seat}

abbrev pub sits : (job : ℕ) → Option Seat → Bool
sits job None = false
sits job (Some seat) = seat.job == job

-- the seat of a job, by the job's number
abbrev pub seat_of : (job : ℕ) → List (Option Seat) → Option ℕ
seat_of job seats = position (sits job) seats

-- ---- a job is accepted. Where a job sits that isn't in the book any more, the seat is free.

abbrev pub is_free : (boot : ℕ) → JobTable → Option Seat → Bool
is_free boot t None = true
is_free boot t (Some seat) = is_none (client_of t (record { boot = boot; number = seat.job }))

abbrev pub free_seat : (boot : ℕ) → JobTable → List (Option Seat) → Option ℕ
free_seat boot t seats = position (is_free boot t) seats

abbrev pub seated_at : (job : ℕ) → Option ℕ → List (Option Seat) → List (Option Seat)
seated_at job None seats = seats
seated_at job (Some place) seats = slice_set seats place (Some (record { job = job; denied = false }))

abbrev pub seated : JobName → JobTable → List (Option Seat) → List (Option Seat)
seated job t seats = seated_at job.number (free_seat job.boot t seats) seats

-- ---- the source denied a CREATE for the job

abbrev pub is_denied : (job : ℕ) → Option Seat → Bool
is_denied job None = false
is_denied job (Some seat) = (seat.job == job) && seat.denied

abbrev pub was_denied : (job : ℕ) → List (Option Seat) → Bool
was_denied job seats = list_any (is_denied job) seats

abbrev pub denied_at : (job : ℕ) → Option ℕ → List (Option Seat) → List (Option Seat)
denied_at job None seats = seats
denied_at job (Some place) seats = slice_set seats place (Some (record { job = job; denied = true }))

abbrev pub denied : (job : ℕ) → List (Option Seat) → List (Option Seat)
denied job seats = denied_at job (seat_of job seats) seats
