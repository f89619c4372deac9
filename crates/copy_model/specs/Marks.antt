-- What a job's log says of its copy. Own definitions.
use Rattle.std.specs.Prelude.{◌≡◌, ℕ, ◌+◌, ◌<◌, ◌≤◌, Bool, true, false, ◌&&◌, ltb, leb, None, Some, List, unwrap_or}
use Rattle.std.specs.List.{list_any}
use Rattle.copy_model.specs.Job.{Entry, Sized, Landed, Stopped, Committed, Reported, size_of, has_landed, chunk_len, IsLawful}

-- the length of the copied range, 0 until it is sized
abbrev pub len_of : List Entry → ℕ
len_of es = unwrap_or (size_of es) 0

-- the entry lands this byte of the range
abbrev pub covers : ℕ → Entry → Bool
covers q (Sized len) = false
covers q (Landed off len) = leb off q && ltb q (off + len)
covers q Stopped = false
covers q Committed = false
covers q Reported = false

abbrev pub is_stop : Entry → Bool
is_stop (Sized len) = false
is_stop (Landed off len) = false
is_stop Stopped = true
is_stop Committed = false
is_stop Reported = false

abbrev pub is_commit : Entry → Bool
is_commit (Sized len) = false
is_commit (Landed off len) = false
is_commit Stopped = false
is_commit Committed = true
is_commit Reported = false

-- a byte of the range has landed, the job is stopped, it is committed
abbrev pub has_byte : List Entry → ℕ → Bool
has_byte es q = list_any (covers q) es

abbrev pub is_stopped : List Entry → Bool
is_stopped es = list_any is_stop es

abbrev pub is_committed : List Entry → Bool
is_committed es = list_any is_commit es

-- What is known of a log whose entries came one after the other as they are allowed: it is lawful; a byte that
-- landed lies in the range; each byte of a chunk that landed landed; nothing lands before the size is known.
pub record AreSound (consecutive : Bool) (es : List Entry) : Type 0 where
  pub lawful : IsLawful consecutive es
  pub within : (q : ℕ) → has_byte es q ≡ true → q < len_of es
  pub whole : (total off q : ℕ) → size_of es ≡ Some total → has_landed es off ≡ true → off ≤ q → q < off + chunk_len total off
      → has_byte es q ≡ true
  pub sized_first : (off : ℕ) → size_of es ≡ None → has_landed es off ≡ true → ⊥
