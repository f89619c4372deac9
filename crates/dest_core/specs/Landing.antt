-- What a destination's jobs land by a step, of any disk, and that each step tells of it.
use Rattle.std.specs.Prelude.{◌≡◌, ℕ, ◌+◌, ◌*◌, ◌≤◌, List, [], length}
use Rattle.copy_model.specs.Job.{chunk_size}
use Rattle.dest_jobs.specs.Counting.{bytes_in}
use Rattle.dest_jobs.specs.declared.carried.Carried.{Carried}
use Rattle.dest_jobs.specs.declared.copies.Copies.{Copies}
use Rattle.outbox.specs.Counting.{landed_in}
use Rattle.outbox.specs.declared.note.Note.{Note}
use Rattle.session_server.specs.declared.host.Host.{Host}
use Rattle.dest_core.specs.declared.destination.Destination.{Destination}

-- its copies
abbrev pub copies_in : {D M : Type 0} → Host D (Destination M) Carried → Copies
copies_in h = h.server.files.extra.copier.copies

-- how many bytes they landed since the volume was opened
abbrev pub landed_by : {D M : Type 0} → Host D (Destination M) Carried → ℕ
landed_by h = bytes_in (copies_in h)

-- Between steps nothing is to be told, and no more landed than a chunk for each step.
pub record IsSilent {D M : Type 0} (h : Host D (Destination M) Carried) : Type 0 where
  pub told : (copies_in h).told ≡ []
  pub few : landed_by h ≤ chunk_size * h.steps

-- What landed by a step is what is told of it, and a chunk at most.
pub record LandsTold (before now : ℕ) (notes : List Note) : Type 0 where
  pub landed : now ≡ before + landed_in notes
  pub one_chunk : landed_in notes ≤ chunk_size

-- ---- of what a server of this kind has of its own

abbrev pub landed : {M : Type 0} → Destination M → ℕ
landed x = bytes_in x.copier.copies

abbrev pub untold : {M : Type 0} → Destination M → ℕ
untold x = length x.copier.copies.told
