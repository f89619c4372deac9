-- Records on a stream of bytes (RFC 5531 section 11): a record is its fragments joined. A fragment is
-- a header of four bytes and its bytes; the header's top bit marks the record's last fragment, and
-- its other 31 bits are the fragment's length.
use Rattle.std.specs.Prelude.{ℕ, ◌+◌, ◌-◌, zero, suc, Bool, nat_lt, nat_le, List, [], ◌∷◌, ◌++◌, length, take, drop, if◌then◌else◌}
use Rattle.rpc_msg.specs.declared.records.TheConstants.{RECORD_LIMIT, LAST}
use Rattle.std.specs.Int.{w32, from_be_bytes, to_be_bytes}

-- No record has more bytes than this (own limit).
abbrev pub record_limit : ℕ
record_limit = RECORD_LIMIT

-- What the top bit of a header is worth.
abbrev pub last_mark : ℕ
last_mark = LAST

abbrev pub is_last : ℕ → Bool
is_last header = nat_le last_mark header

abbrev pub fragment_len : ℕ → ℕ
fragment_len header = if is_last header then header - last_mark else header

-- The header of a record in one fragment of this many bytes.
abbrev pub mark_of : ℕ → List ℕ
mark_of len = to_be_bytes w32 (last_mark + len)

-- A record of one fragment as it is sent.
abbrev pub marked : List ℕ → List ℕ
marked bytes = mark_of (length bytes) ++ bytes

-- What stands at the front of a list of bytes: a record and the bytes after it, less than a record, or
-- fragments whose lengths, summed up to a header, pass the limit.
pub data Front : Type 0 where
  Record : List ℕ → List ℕ → Front
  Part : Front
  Large : ℕ → Front

-- The bytes after a header that said `last` and `len`; `joined` is what the record's earlier fragments
-- gave, and `next` says what stands after this one.
abbrev pub fragment_at : List ℕ → Bool → ℕ → List ℕ → (List ℕ → List ℕ → Front) → Front
fragment_at joined last len bytes next =
    if nat_lt record_limit (length joined + len) then Large (length joined + len)
    else (if nat_lt (length bytes) len then Part
    else (if last then Record (joined ++ take len bytes) (drop len bytes)
    else next (joined ++ take len bytes) (drop len bytes)))

abbrev pub header_of : List ℕ → ℕ
header_of bytes = from_be_bytes w32 (take 4 bytes)

-- What stands at the front, of up to so many fragments: as many as there are bytes is enough.
unfoldable pub front_of : ℕ → List ℕ → List ℕ → Front
front_of zero joined bytes = Part
front_of (suc more) joined bytes =
    if nat_lt (length bytes) 4 then Part
    else fragment_at joined (is_last (header_of bytes)) (fragment_len (header_of bytes)) (drop 4 bytes)
    (λ so_far rest. front_of more so_far rest)

-- How a stream ends: with so many bytes after its last whole record, or with a record too large.
pub data End : Type 0 where
  Rest : ℕ → End
  TooLarge : ℕ → End

-- The whole records of a stream, and how it ends.
pub record Told : Type 0 where
  pub records : List (List ℕ)
  pub end : End

abbrev pub told_by : Front → ℕ → (List ℕ → Told) → Told
told_by (Record first rest) len next =
    record { records = first ∷ (next rest).records; end = (next rest).end }
told_by Part len next = record { records = []; end = Rest len }
told_by (Large sum) len next = record { records = []; end = TooLarge sum }

unfoldable pub records_up_to : ℕ → List ℕ → Told
records_up_to zero bytes = record { records = []; end = Rest (length bytes) }
records_up_to (suc more) bytes = told_by (front_of (length bytes) [] bytes) (length bytes) (λ rest. records_up_to more rest)

-- The whole records of a list of bytes, and how it ends. There are fewer records than bytes.
abbrev pub records_of : List ℕ → Told
records_of bytes = records_up_to (length bytes) bytes
