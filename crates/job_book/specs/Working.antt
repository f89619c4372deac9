-- What comes about in a job on its way: its length becomes known, its chunks are claimed and land, and it is stopped or
-- committed. The next chunk of a job is the lowest that is neither landed nor claimed.
use Rattle.std.specs.Prelude.{ℕ, zero, suc, ◌+◌, ◌*◌, ◌||◌, ◌&&◌, Bool, true, false, if◌then◌else◌, Option, Some, None, option_map, is_none, List}
use Rattle.copy_model.specs.Job.{Entry, Stopped, chunk_len, chunk_size, chunks_of, has_ended, has_landed, size_of, unlanded}
use Rattle.job_log.specs.Bits.{flag}
use Rattle.job_log.specs.Log.{JobView, total, with_claim, with_entry}
use Rattle.job_log.specs.declared.chunk.Chunk.{Chunk}
use Rattle.job_table.specs.Table.{with_log}
use Rattle.job_table.specs.declared.job.Job.{Job}
use Rattle.nfs_base.specs.declared.job.JobName.{JobName}
use Rattle.nfs_base.specs.declared.job.Stop.{Stop}
use Rattle.job_book.specs.Book.{BookView, id_of}

-- the job of this name has another log
abbrev pub with_its : JobName → (JobView → JobView) → BookView → BookView
with_its name f b = record b { table = with_log b.table (id_of name) f }

-- ---- its length

-- once it is known
abbrev pub size_in : Option Job → Option ℕ
size_in None = None
size_in (Some job) = size_of job.log.entries

-- each chunk of a range whose length is known has landed
abbrev pub is_whole_by : List Entry → Option ℕ → Bool
is_whole_by es None = false
is_whole_by es (Some len) = is_none (unlanded es len)

abbrev pub is_whole : Option Job → Bool
is_whole None = false
is_whole (Some job) = is_whole_by job.log.entries (size_of job.log.entries)

-- ---- its next chunk

-- the chunk is claimed, or has landed
abbrev pub is_taken : JobView → (number : ℕ) → Bool
is_taken v number = flag v.claims number || has_landed v.entries (number * chunk_size)

-- the first of so many numbers from one on that isn't taken
abbrev pub first_free : (taken : ℕ → Bool) → (left number : ℕ) → Option ℕ
first_free taken zero number = None
first_free taken (suc left) number = if taken number then first_free taken left (number + 1) else Some number

abbrev pub chunk_at : JobView → (number : ℕ) → Chunk
chunk_at v number = record { off = number * chunk_size; len = chunk_len (total v.entries) (number * chunk_size) }

-- of a job that goes on
abbrev pub next_free : JobView → Option Chunk
next_free v = option_map (chunk_at v) (first_free (is_taken v) (chunks_of (total v.entries)) 0)

abbrev pub next_unless : (ended : Bool) → JobView → Option Chunk
next_unless true v = None
next_unless false v = next_free v

abbrev pub next_chunk : Option Job → Option Chunk
next_chunk None = None
next_chunk (Some job) = next_unless (has_ended job.log.entries) job.log

-- it is claimed
abbrev pub claimed : Option Chunk → JobName → BookView → BookView
claimed None name b = b
claimed (Some chunk) name b = with_its name (λ log. with_claim log chunk true) b

-- ---- its end

abbrev pub stopped : Stop → JobView → JobView
stopped cause log = record (with_entry log Stopped) { cause = Some cause }
