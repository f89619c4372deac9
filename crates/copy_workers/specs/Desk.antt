-- What one holding of a desk gives to a worker, and what it adds to the desk's books and to the worker's shares. Own
-- definitions; records stand on a link behind their marks (RFC 5531 section 11).
use Rattle.std.specs.Prelude.{◌≡◌, ℕ, ◌+◌, ◌*◌, ◌≤◌, if◌then◌else◌, List, length, sum_by, All, Result, Ok, Err}
use Rattle.outbox.specs.Counting.{is_to, landed_in, records_to}
use Rattle.outbox.specs.declared.outgoing.Outbox.{Outbox}
use Rattle.outbox.specs.declared.outgoing.Outgoing.{Outgoing}
use Rattle.outcome.specs.declared.memory.NoMemory.{NoMemory}
use Rattle.rpc_msg.specs.Records.{record_limit}

-- how many bytes a record is on this worker's link, with its mark of four bytes
abbrev pub carried : (worker : ℕ) → Outgoing → ℕ
carried worker o = if is_to worker o.to then length o.bytes + 4 else 0

-- the bytes that a list of records is on this worker's link
abbrev pub given_to : (worker : ℕ) → List Outgoing → ℕ
given_to worker sent = sum_by (carried worker) sent

-- ---- of a call's answer: nothing landed and nothing is given where memory was refused

abbrev pub landed_by : Result Outbox NoMemory → ℕ
landed_by (Ok out) = landed_in out.notes
landed_by (Err refused) = 0

abbrev pub given_by : (worker : ℕ) → Result Outbox NoMemory → ℕ
given_by worker (Ok out) = given_to worker out.sent
given_by worker (Err refused) = 0

-- So much was added to a book, and the same to a share of its ledger.
pub record Adds (by book book_now share share_now : ℕ) : Type 0 where
  pub booked : book_now ≡ book + by
  pub shared : share_now ≡ share + by

-- ---- what a desk may give a worker at once

abbrev pub IsSmall : Outgoing → Type 0
IsSmall o = length o.bytes ≤ record_limit

-- two records with their marks have no more bytes
abbrev pub given_limit : ℕ
given_limit = 2 * (record_limit + 4)

-- no more than this lands in a holding: one chunk (RFC 7862 section 4.2.2; its length is own)
abbrev pub chunk_limit : ℕ
chunk_limit = 65536

pub record IsModest (worker : ℕ) (out : Outbox) : Type 0 where
  pub few : records_to worker out.sent ≤ 2
  pub small : All IsSmall out.sent
  pub one_chunk : landed_in out.notes ≤ chunk_limit
