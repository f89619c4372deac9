-- What the bits and counters of a job's log say of its entries.
use Rattle.std.specs.Prelude.{◌≡◌, ℕ, suc, ◌+◌, ◌*◌, ◌<◌, ◌≤◌, ◌||◌, Bool, true, false, List, [], ◌∷◌, Option, None, length, is_some, map}
use Rattle.copy_model.specs.Job.{Entry, Sized, Landed, Stopped, Committed, Reported, size_of, has_landed, has_ended, is_reported, landed_bytes, chunk_len, chunk_size, chunks_of}
use Rattle.copy_model.specs.Marks.{AreSound}
use Rattle.nfs_base.specs.declared.job.Stop.{Stop}
use Rattle.job_log.specs.declared.log.Entry.{Entry as Kept}
use Rattle.job_log.specs.declared.log.Entry.TheVariants.{Sized as sized, Landed as landed, Stopped as stopped, Committed as committed, Reported as reported}
use Rattle.job_log.specs.Bits.{Flags, flag}
use Rattle.job_log.specs.Log.{JobView, total_of}

abbrev pub entry_of : Kept → Entry
entry_of (sized len) = Sized len
entry_of (landed chunk) = Landed chunk.off chunk.len
entry_of stopped = Stopped
entry_of committed = Committed
entry_of reported = Reported

abbrev pub entries_of : List Kept → List Entry
entries_of kept = map entry_of kept

abbrev pub view_of : Bool → List Kept → Option Stop → Flags → ℕ → JobView
view_of consecutive kept cause claimed spare =
    record { consecutive = consecutive; entries = entries_of kept; cause = cause; claims = claimed.flags; spare = spare }

-- how many flags are set
abbrev pub count_set : List Bool → ℕ
count_set [] = 0
count_set (true ∷ flags) = suc (count_set flags)
count_set (false ∷ flags) = count_set flags

-- the bytes of the chunks whose flags are set, from the i-th on
abbrev pub bytes_set : ℕ → ℕ → List Bool → ℕ
bytes_set total i [] = 0
bytes_set total i (true ∷ flags) = chunk_len total (i * chunk_size) + bytes_set total (i + 1) flags
bytes_set total i (false ∷ flags) = bytes_set total (i + 1) flags

abbrev pub one_if : Bool → ℕ
one_if true = 1
one_if false = 0

pub record IsKept (consecutive : Bool) (es : List Entry) (claimed landed : Flags) (first : ℕ) (len : Option ℕ) (bytes : ℕ) (ended reported : Bool) (spare capacity : ℕ) : Type 0 where
  pub sound : AreSound consecutive es
  pub size_is : size_of es ≡ len
  pub ended_is : has_ended es ≡ ended
  pub reported_is : is_reported es ≡ reported
  pub bytes_is : landed_bytes es ≡ bytes
  pub bytes_of_flags : bytes_set (total_of len) 0 landed.flags ≡ bytes
  pub claimed_length : length claimed.flags ≡ chunks_of (total_of len)
  pub landed_length : length landed.flags ≡ chunks_of (total_of len)
  pub landed_is : (i : ℕ) → i < chunks_of (total_of len) → flag landed.flags i ≡ has_landed es (i * chunk_size)
  pub none_before : len ≡ None → (off : ℕ) → has_landed es off ≡ false
  pub apart : (i : ℕ) → flag claimed.flags i ≡ true → flag landed.flags i ≡ false
  pub taken : (i : ℕ) → i < first * 64 → i < chunks_of (total_of len) → (flag claimed.flags i || flag landed.flags i) ≡ true
  pub entries_count : length es ≡ count_set landed.flags + one_if (is_some len) + one_if ended + one_if reported
  pub entries_room : chunks_of spare + 4 ≤ capacity
  pub claimed_room : chunks_of spare ≤ claimed.room
  pub landed_room : chunks_of spare ≤ landed.room
  pub sized_within : total_of len ≤ spare
