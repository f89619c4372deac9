-- A copy job at the destination: its plan, and the entries of its log. Own definitions; the plan's
-- items are those of COPY (RFC 7862 section 15.2).
use Rattle.std.specs.Prelude.{◌≡◌, ℕ, zero, suc, ◌+◌, ◌-◌, ◌*◌, ◌/◌, ◌<◌, Bool, true, false, ◌==◌, Option, None, Some, List, [], ◌∷◌, take, min, sum_by, slice_get, if◌then◌else◌}
use Rattle.std.specs.List.{list_any}

-- What COPY asked for: count bytes from offset src_off of the source's file to offset dst_off of the
-- destination's. A count of 0 goes to the end of the source file. A consecutive job lands its chunks in
-- order.
pub record Plan : Type 0 where
  pub src_file : ℕ
  pub src_off : ℕ
  pub dst_file : ℕ
  pub dst_off : ℕ
  pub count : ℕ
  pub consecutive : Bool

-- What a job's log says, in the order in which it came about. The offset of a landed chunk counts from
-- the start of the copied range.
pub data Entry : Type 0 where
  Sized : (len : ℕ) → Entry
  Landed : (off len : ℕ) → Entry
  Stopped : Entry
  Committed : Entry
  Reported : Entry

-- the length of the copied range, once it is known
abbrev pub size_of : List Entry → Option ℕ
size_of [] = None
size_of (Sized len ∷ es) = Some len
size_of (Landed off len ∷ es) = size_of es
size_of (Stopped ∷ es) = size_of es
size_of (Committed ∷ es) = size_of es
size_of (Reported ∷ es) = size_of es

-- whether an entry lands the chunk that begins at off
abbrev pub is_landing : ℕ → Entry → Bool
is_landing off (Landed at len) = at == off
is_landing off (Sized len) = false
is_landing off Stopped = false
is_landing off Committed = false
is_landing off Reported = false

-- whether the chunk that begins at off has landed
abbrev pub has_landed : List Entry → ℕ → Bool
has_landed es off = list_any (is_landing off) es

-- whether an entry ends the job
abbrev pub is_end : Entry → Bool
is_end (Sized len) = false
is_end (Landed off len) = false
is_end Stopped = true
is_end Committed = true
is_end Reported = false

-- whether the job is stopped or committed
abbrev pub has_ended : List Entry → Bool
has_ended es = list_any is_end es

abbrev pub is_report : Entry → Bool
is_report (Sized len) = false
is_report (Landed off len) = false
is_report Stopped = false
is_report Committed = false
is_report Reported = true

-- whether the end was reported to the client
abbrev pub is_reported : List Entry → Bool
is_reported es = list_any is_report es

-- how many bytes an entry lands
abbrev pub bytes_landed : Entry → ℕ
bytes_landed (Sized len) = 0
bytes_landed (Landed off len) = len
bytes_landed Stopped = 0
bytes_landed Committed = 0
bytes_landed Reported = 0

-- how many bytes have landed
abbrev pub landed_bytes : List Entry → ℕ
landed_bytes es = sum_by bytes_landed es

-- the bytes of a whole chunk
abbrev pub chunk_size : ℕ
chunk_size = 65536

-- A range of total bytes is cut into chunks at the multiples of the chunk size. One begins at off.
pub record IsChunk (total off : ℕ) : Type 0 where
  pub number : ℕ
  pub start : off ≡ number * chunk_size
  pub within : off < total

-- the length of the chunk that begins at off: the last one may be short
abbrev pub chunk_len : ℕ → ℕ → ℕ
chunk_len total off = min chunk_size (total - off)

-- how many chunks a range has
abbrev pub chunks_of : ℕ → ℕ
chunks_of total = (total + (chunk_size - 1)) / chunk_size

-- of n chunks from off on, where the first that has not landed begins
abbrev pub unlanded_from : List Entry → ℕ → ℕ → Option ℕ
unlanded_from es off zero = None
unlanded_from es off (suc n) = if has_landed es off then unlanded_from es (off + chunk_size) n else Some off

-- where the first chunk of a range begins that has not landed
abbrev pub unlanded : List Entry → ℕ → Option ℕ
unlanded es total = unlanded_from es 0 (chunks_of total)

-- the first chunk of a range that has not landed begins at off
pub record FirstUnlanded (es : List Entry) (total off : ℕ) : Type 0 where
  pub chunk : IsChunk total off
  pub is_new : has_landed es off ≡ false
  pub earlier : (start : ℕ) → IsChunk total start → start < off → has_landed es start ≡ true

-- A landing names a chunk of the sized range that has not landed; in a consecutive job every earlier
-- chunk has.
pub record AllowsLanding (consecutive : Bool) (es : List Entry) (off len : ℕ) : Type 0 where
  pub total : ℕ
  pub is_sized : size_of es ≡ Some total
  pub chunk : IsChunk total off
  pub length_is : len ≡ chunk_len total off
  pub is_new : has_landed es off ≡ false
  pub in_order : consecutive ≡ true → (earlier : ℕ) → IsChunk total earlier → earlier < off → has_landed es earlier ≡ true

-- a commit comes only when the job is sized and every chunk has landed
pub record AllowsCommit (es : List Entry) : Type 0 where
  pub total : ℕ
  pub is_sized : size_of es ≡ Some total
  pub all_landed : (off : ℕ) → IsChunk total off → has_landed es off ≡ true

-- Which entry may come after these. Nothing comes after the end but one report.
abbrev pub Allows : Bool → List Entry → Entry → Type 0
Allows consecutive es (Sized len) = (size_of es ≡ None) × (has_ended es ≡ false)
Allows consecutive es (Landed off len) = AllowsLanding consecutive es off len × (has_ended es ≡ false)
Allows consecutive es Stopped = has_ended es ≡ false
Allows consecutive es Committed = AllowsCommit es × (has_ended es ≡ false)
Allows consecutive es Reported = (has_ended es ≡ true) × (is_reported es ≡ false)

-- a log is lawful where each entry is allowed after those before it
abbrev pub IsLawful : Bool → List Entry → Type 0
IsLawful consecutive es = (i : ℕ) (e : Entry) → slice_get es i ≡ Some e → Allows consecutive (take i es) e
