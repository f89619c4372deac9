-- How stored records stand for those of a run: what a record's step took is a record of the same list, by number.
use Rattle.std.specs.Prelude.{◌≡◌, ℕ, zero, suc, ◌≤◌, Bool, true, false, List, map, set, length, slice_get, sum_by, All, Option, Some, None, option_map}
use Rattle.outbox.specs.declared.outgoing.Outgoing.{Outgoing}
use Rattle.wire_log.specs.declared.kept.Kept.{Kept}
use Rattle.wire_log.specs.declared.kept.Sending.{Sending}
use Rattle.wire_log.specs.declared.kept.TheConstants.{MOST_RECORDS}
use Rattle.wire_machine.specs.Check.{Reading}
use Rattle.wire_machine.specs.Ends.{port_of}
use Rattle.wire_machine.specs.World.{Posted, posted_at}
use Rattle.wire_spelling.specs.Calls.{xid_in}
use Rattle.wire_spelling.specs.Replies.{is_reply}

-- the stored record of a number; they are counted from 1
abbrev pub kept_at : (number : ℕ) → List Kept → Option Kept
kept_at zero kept = None
kept_at (suc n) kept = slice_get kept n

-- its bytes
abbrev pub stored_bytes : List Kept → (number : ℕ) → Option (List ℕ)
stored_bytes kept number = option_map (λ (k : Kept). k.bytes) (kept_at number kept)

abbrev pub posted_of : List Kept → Kept → Posted
posted_of all k = record {
  bytes = k.bytes;
  seal = k.seal;
  from = k.from;
  port = k.port;
  step = k.step;
  took = stored_bytes all k.took;
  opening = k.opening;
  delivered = k.delivered;
}

abbrev pub posted_all : List Kept → List Posted
posted_all kept = map (posted_of kept) kept

-- ---- records that were just sent

abbrev pub kept_of : Sending → Outgoing → Bool → Kept
kept_of at out is_reply = record {
  bytes = out.bytes;
  seal = out.seal;
  from = at.from;
  port = port_of at.from out.to;
  step = at.step;
  took = at.took;
  opening = at.opening;
  is_reply = is_reply;
  delivered = false;
}

abbrev pub all_kept : Sending → List Outgoing → List Kept
all_kept at outs = map (λ (out : Outgoing). kept_of at out (is_reply out.bytes)) outs

-- ---- the record of a number is delivered

abbrev pub delivered : Kept → Kept
delivered k = record k { delivered = true }

abbrev pub delivered_where : List Kept → ℕ → Option Kept → List Kept
delivered_where kept n None = kept
delivered_where kept n (Some k) = set kept n (delivered k)

abbrev pub delivered_at : (number : ℕ) → List Kept → List Kept
delivered_at zero kept = kept
delivered_at (suc n) kept = delivered_where kept n (slice_get kept n)

-- ---- what is known of stored records

abbrev pub total : List Kept → ℕ
total kept = sum_by (λ (k : Kept). length k.bytes) kept

-- A record among so many: its step took one of them, and whether it is a reply.
pub record IsKept (count : ℕ) (k : Kept) : Type 0 where
  pub took : k.took ≤ count
  pub replies : k.is_reply ≡ is_reply k.bytes

-- How many there are at most, what each is, and how many bytes they have.
pub record AreKept (kept : List Kept) (bytes : ℕ) : Type 0 where
  pub few : length kept ≤ MOST_RECORDS
  pub each : All (IsKept (length kept)) kept
  pub bytes_are : bytes ≡ total kept

-- how records are read
abbrev pub reading : Reading
reading = record { is_reply = is_reply; xid_of = xid_in }

-- ---- what is seen of a list of records

-- the bytes of a record, by its number
abbrev pub bytes_at : List Posted → (number : ℕ) → Option (List ℕ)
bytes_at log number = option_map (λ (r : Posted). r.bytes) (posted_at number log)

-- how many bytes records have that are sent
abbrev pub sent_bytes : List Outgoing → ℕ
sent_bytes outs = sum_by (λ (out : Outgoing). length out.bytes) outs
