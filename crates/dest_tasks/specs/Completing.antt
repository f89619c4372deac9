-- How a sized job comes to its end: what is done to a book, one thing after another, to this job and to others, and how many of a
-- job's chunks haven't landed.
use Rattle.std.specs.Prelude.{◌≡◌, ℕ, zero, suc, ◌+◌, ◌*◌, Bool, true, false, List, [], ◌∷◌, Option, Some, None, sum_by}
use Rattle.std.specs.List.{list_any}
use Rattle.copy_model.specs.Job.{Committed, Entry, chunk_size, chunks_of, has_landed}
use Rattle.job_book.specs.Book.{BookView, IsSound, accept_answer, after_accept, id_of, named, retired}
use Rattle.job_book.specs.Working.{claimed, next_chunk, size_in, stopped, with_its}
use Rattle.job_log.specs.Log.{after_landing, given_back, sized, total, with_entry}
use Rattle.job_log.specs.declared.chunk.Chunk.{Chunk}
use Rattle.job_log.specs.declared.chunk.Landing.TheVariants as landings
use Rattle.job_table.specs.Table.{table_landing}
use Rattle.job_table.specs.declared.job.Job.{Job}
use Rattle.job_table.specs.declared.job.Plan.{Plan}
use Rattle.nfs_base.specs.declared.job.JobName.{JobName}
use Rattle.nfs_base.specs.declared.job.Stop.{Stop}
use Rattle.dest_tasks.specs.Posts.{is_same}

-- ---- how many chunks haven't landed

abbrev pub one_unless : Bool → ℕ
one_unless true = 0
one_unless false = 1

-- of the first n
unfoldable pub left_of : List Entry → (n : ℕ) → ℕ
left_of es zero = 0
left_of es (suc n) = left_of es n + one_unless (has_landed es (n * chunk_size))

-- of a sized job
abbrev pub chunks_left : Option Job → ℕ
chunks_left None = 0
chunks_left (Some job) = left_of job.log.entries (chunks_of (total job.log.entries))

-- ---- what is done to a book

pub data Deed : Type 0 where
  Accepts : (plan : Plan) → Deed
  Sizes : (spare len : ℕ) → (name : JobName) → Deed
  Claims : (name : JobName) → Deed
  GivesBack : (name : JobName) → (chunk : Chunk) → Deed
  Lands : (name : JobName) → (chunk : Chunk) → Deed
  Stops : (cause : Stop) → (name : JobName) → Deed
  Commits : (name : JobName) → Deed
  Retires : (name : JobName) → Deed

-- a length is told of a job that has none, and a chunk lands that is claimed and needn't wait
abbrev pub Does : Deed → BookView → BookView → Type 0
Does (Accepts plan) b c = c ≡ after_accept (accept_answer b.table plan) plan b
Does (Sizes spare len name) b c = (size_in (named b.table name) ≡ None) × (c ≡ with_its name (λ log. sized (record log { spare = spare }) len) b)
Does (Claims name) b c = c ≡ claimed (next_chunk (named b.table name)) name b
Does (GivesBack name chunk) b c = c ≡ with_its name (λ log. given_back log chunk) b
Does (Lands name chunk) b c =
    (table_landing b.table (id_of name) chunk ≡ landings.Landed) × (c ≡ with_its name (λ log. after_landing log chunk landings.Landed) b)
Does (Stops cause name) b c = c ≡ with_its name (λ log. stopped cause log) b
Does (Commits name) b c = c ≡ with_its name (λ log. with_entry log Committed) b
Does (Retires name) b c = c ≡ retired name b

-- one after another
unfoldable pub Comes : List Deed → BookView → BookView → Type 0
Comes [] b c = c ≡ b
Comes (deed ∷ deeds) b c = (mid : BookView) × Does deed b mid × Comes deeds mid c

-- ---- of one job

-- whether a deed ends it
abbrev pub ends : JobName → Deed → Bool
ends name (Stops cause job) = is_same job name
ends name (Commits job) = is_same job name
ends name (Retires job) = is_same job name
ends name _ = false

abbrev pub one_if : Bool → ℕ
one_if true = 1
one_if false = 0

-- whether one of its chunks lands, and how many do
abbrev pub landing_in : JobName → Deed → ℕ
landing_in name (Lands job chunk) = one_if (is_same job name)
landing_in name _ = 0

abbrev pub landings_in : JobName → List Deed → ℕ
landings_in name deeds = sum_by (landing_in name) deeds

-- From one book to another by these deeds, of which none ends this job. Its length is known.
pub record GoesOn (name : JobName) (len : ℕ) (deeds : List Deed) (b c : BookView) : Type 0 where
  pub sound : IsSound b.table
  pub is_sized : size_in (named b.table name) ≡ Some len
  pub spared : list_any (ends name) deeds ≡ false
  pub come : Comes deeds b c
