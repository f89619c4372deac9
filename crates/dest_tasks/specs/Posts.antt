-- What the workers of a destination are at, by their places: a worker's place is its number less 1, and its slot at the
-- source. A worker awaits an answer of the source for a job, or holds the bytes of a chunk that is to land.
use Rattle.std.specs.Prelude.{ℕ, zero, suc, ◌+◌, ◌==◌, ◌&&◌, not, Bool, true, false, List, slice_index_or, slice_set, if◌then◌else◌, Option, Some, None}
use Rattle.nfs_base.specs.declared.job.JobName.{JobName}
use Rattle.dest_tasks.specs.declared.post.Errand.{Errand}
use Rattle.dest_tasks.specs.declared.post.Errand.TheVariants as errands
use Rattle.dest_tasks.specs.declared.post.Post.{Post}
use Rattle.dest_tasks.specs.declared.post.Post.TheVariants.{Idle, Awaits, Holds}

abbrev pub is_same : JobName → JobName → Bool
is_same job name = (job.boot == name.boot) && (job.number == name.number)

-- ---- one worker

abbrev pub is_idle : Post → Bool
is_idle Idle = true
is_idle (Awaits job errand) = false
is_idle (Holds job chunk bytes) = false

abbrev pub holds : Post → Bool
holds Idle = false
holds (Awaits job errand) = false
holds (Holds job chunk bytes) = true

abbrev pub is_setup : Errand → Bool
is_setup errands.Setup = true
is_setup _ = false

abbrev pub is_confirm : Errand → Bool
is_confirm errands.Confirm = true
is_confirm _ = false

abbrev pub is_size : Errand → Bool
is_size errands.Size = true
is_size _ = false

abbrev pub sets_up : Post → Bool
sets_up Idle = false
sets_up (Awaits job errand) = is_setup errand
sets_up (Holds job chunk bytes) = false

abbrev pub confirms : JobName → Post → Bool
confirms name Idle = false
confirms name (Awaits job errand) = is_same job name && is_confirm errand
confirms name (Holds job chunk bytes) = false

abbrev pub sizes : JobName → Post → Bool
sizes name Idle = false
sizes name (Awaits job errand) = is_same job name && is_size errand
sizes name (Holds job chunk bytes) = false

abbrev pub job_in : Post → Option JobName
job_in Idle = None
job_in (Awaits job errand) = Some job
job_in (Holds job chunk bytes) = Some job

-- what it awaits
abbrev pub asks : Post → Option (JobName × Errand)
asks Idle = None
asks (Awaits job errand) = Some (job, errand)
asks (Holds job chunk bytes) = None

-- ---- all workers

abbrev pub post_at : List Post → (place : ℕ) → Post
post_at posts place = slice_index_or posts place Idle

abbrev pub put_at : (place : ℕ) → Post → List Post → List Post
put_at place post posts = slice_set posts place post

-- A worker whose answer isn't awaited any more is idle: it came, or was given up.
abbrev pub awaits : Post → Bool
awaits Idle = false
awaits (Awaits job errand) = true
awaits (Holds job chunk bytes) = false

abbrev pub following : (awaited : Bool) → (place : ℕ) → List Post → List Post
following awaited place posts = if not awaited && awaits (post_at posts place) then put_at place Idle posts else posts

-- so many workers from a place on, by whether at their places an answer is awaited
unfoldable pub followed : (awaited : List Bool) → (left place : ℕ) → List Post → List Post
followed awaited zero place posts = posts
followed awaited (suc left) place posts = followed awaited left (place + 1) (following (slice_index_or awaited place false) place posts)
