-- How the reply to a COMPOUND begins, by which it says whether its operations ran in a slot: they did where SEQUENCE stands
-- first, with status 0. RFC 8881 sections 16.2 and 18.46.
use Rattle.std.specs.Prelude.{◌≡◌, ◌≢◌, ◌⊎◌, ℕ, ◌<◌, ◌^◌, List, ◌++◌}
use Rattle.file_ops.specs.declared.operation.TheConstants.{OP_SEQUENCE}
use Rattle.wire_xdr.specs.Words.{word_bytes, opaque_bytes}

-- Behind the reply's status, the tag and the count of results stand the operation and the status of the first one.
pub record HasFront (tag : List ℕ) (op status : ℕ) (body : List ℕ) : Type 0 where
  pub last : ℕ
  pub count : ℕ
  pub rest : List ℕ
  pub is : body ≡ word_bytes last ++ (opaque_bytes tag ++ (word_bytes count ++ (word_bytes op ++ (word_bytes status ++ rest))))

-- no result stands in it
pub record HasNoResult (tag body : List ℕ) : Type 0 where
  pub last : ℕ
  pub is : body ≡ word_bytes last ++ (opaque_bytes tag ++ word_bytes 0)

abbrev pub IsOther : (op : ℕ) → Type 0
IsOther op = (op < 2 ^ 32) × (op ≢ OP_SEQUENCE)

abbrev pub IsFailure : (status : ℕ) → Type 0
IsFailure status = (status < 2 ^ 32) × (status ≢ 0)

-- the first result is that of another operation, or of one that failed
pub record HasOther (tag body : List ℕ) : Type 0 where
  pub op : ℕ
  pub status : ℕ
  pub front : HasFront tag op status body
  pub cause : IsOther op ⊎ IsFailure status

-- operations ran in a slot
abbrev pub SaysRun : (tag body : List ℕ) → Type 0
SaysRun tag body = HasFront tag OP_SEQUENCE 0 body

-- none did
abbrev pub SaysNotRun : (tag body : List ℕ) → Type 0
SaysNotRun tag body = HasNoResult tag body ⊎ HasOther tag body
