-- What is seen of a run between two steps. Bytes are seen one at a time, as functions of a file's
-- number and a place, so that nothing here speaks of lists, blocks or caches.
use Rattle.std.specs.Prelude.{ℕ, length, Bool, Option, None, Some, ◌==◌, if◌then◌else◌}
use Rattle.copy_model.specs.Volume.{Volume, Doubt, file_at, byte_at}
use Rattle.copy_model.specs.Job.{Plan}

-- The source's volume: the byte at a place of a file, the file's size in bytes and its change attribute
-- (RFC 8881 sections 5.8.1.4 and 5.8.1.5), and whether the volume is broken, so that it can't be read.
pub record Source : Type 0 where
  pub now : ℕ → ℕ → ℕ
  pub size : ℕ → ℕ
  pub change : ℕ → ℕ
  pub broken : Bool

-- The destination's volume: besides the byte now, the byte that is safe, and the byte of the contents
-- in doubt, if the file has such. A crash leaves the safe one or the one in doubt.
pub record Dest : Type 0 where
  pub now : ℕ → ℕ → ℕ
  pub safe : ℕ → ℕ → ℕ
  pub doubt : ℕ → ℕ → Option ℕ
  pub broken : Bool

-- A copy that was accepted. Its length is 0 until it is sized. The marks say whether it was stopped,
-- completed (committed at the destination) and reported as stable (RFC 7862 section 15.2: FILE_SYNC4
-- with its completion).
pub record Copy : Type 0 where
  pub plan : Plan
  pub len : ℕ
  pub stopped : Bool
  pub completed : Bool
  pub stable : Bool

-- What the step that led to a moment did at the destination: nothing to its bytes, a WRITE of len bytes
-- at off, the landing of a chunk of a copy (off counts from the start of its range), or a crash.
pub data Did : Type 0 where
  Rested : Did
  Wrote : (file off len : ℕ) → Did
  Landed : (copy off len : ℕ) → Did
  Crashed : Did

-- One moment. bare is the destination's volume as it would be had no chunk ever landed: its writes,
-- commits and crashes are those of the run. made counts the copies accepted so far; the copies go by
-- the order of their acceptance.
pub record Moment : Type 0 where
  pub source : Source
  pub dest : Dest
  pub bare : Dest
  pub made : ℕ
  pub copy : ℕ → Copy
  pub did : Did

-- a run: the moment after each number of steps
abbrev pub History : Type 0
History = ℕ → Moment

-- what is seen of the source's volume
abbrev pub seen_source : Volume → Source
seen_source v =
    record {
      now = λ file place. byte_at (file_at v file).now place;
      size = λ file. length (file_at v file).now;
      change = λ file. (file_at v file).change;
      broken = v.broken;
    }

-- the byte in doubt at a place of a file
abbrev pub doubted : Option Doubt → ℕ → ℕ → Option ℕ
doubted None file place = None
doubted (Some d) file place = if d.file == file then Some (byte_at d.bytes place) else None

-- what is seen of the destination's volume
abbrev pub seen_dest : Volume → Dest
seen_dest v =
    record {
      now = λ file place. byte_at (file_at v file).now place;
      safe = λ file place. byte_at (file_at v file).safe place;
      doubt = λ file place. doubted v.doubt file place;
      broken = v.broken;
    }
