-- The opens of a server as contracts see them, and the tests of a stateid. RFC 8881 sections 8.2 and 9.
use Rattle.std.specs.Prelude.{ℕ, ◌+◌, ◌≤◌, ◌==◌, ◌&&◌, ◌||◌, ◌++◌, Bool, List, [], ◌∷◌, Option, None, Some, not, bytes_eq, find, filter, if◌then◌else◌, nat_lt, nat_le, length, Result, Ok, Err, bit_and, bit_or, All}
use Rattle.std.specs.List.{list_any}
use Rattle.nfs_base.specs.Changed.{changed}
use Rattle.nfs_base.specs.declared.state_id.StateId.{StateId}
use Rattle.nfs_base.specs.declared.status.Status.{Status}
use Rattle.nfs_base.specs.declared.status.TheConstants.Status.{BAD_STATEID, OLD_STATEID, OPENMODE}
use Rattle.state_ids.specs.declared.access.Access.{Access}
use Rattle.state_ids.specs.declared.access.Access.TheVariants.{Read, Write}
use Rattle.state_ids.specs.declared.open_file.OpenFile.{OpenFile}
use Rattle.state_ids.specs.declared.opens.Full.{Full}
use Rattle.nfs_base.specs.declared.limits.TheConstants.{MOST_OPENS}

-- The boot number of the server, its opens, how many numbers it gave to opens, and how many numbers and seqids
-- it gave out together.
pub record OpenTable : Type 0 where
  pub boot : ℕ
  pub opens : List OpenFile
  pub numbers : ℕ
  pub made : ℕ

-- ---- the tests of a stateid

-- the bit of OPEN's access word that an operation needs
abbrev pub access_bit : Access → ℕ
access_bit Read = 1
access_bit Write = 2

-- an open has this number and is of this file
abbrev pub is_open : ℕ → ℕ → OpenFile → Bool
is_open number file o = (o.number == number) && (o.file == file)

-- The open that a stateid names for a file: there is none where its boot isn't this one or its kind isn't 1.
abbrev pub named_open : OpenTable → StateId → ℕ → Option OpenFile
named_open table id file =
    if (id.boot == table.boot) && (id.kind == 1) then find (is_open id.number file) table.opens else None

-- A seqid of 0 stands for the open's own; a lower one is old, a higher one was never given out.
abbrev pub seqid_refusal : ℕ → ℕ → Option Status
seqid_refusal seqid current =
    if (seqid == 0) || (seqid == current) then None
    else (if nat_lt seqid current then Some OLD_STATEID else Some BAD_STATEID)

abbrev pub access_refusal : ℕ → Access → Option Status
access_refusal access need = if bit_and access (access_bit need) == 0 then Some OPENMODE else None

-- the second refusal counts where there is no first
abbrev pub first_refusal : Option Status → Option Status → Option Status
first_refusal None second = second
first_refusal (Some status) second = Some status

abbrev pub close_refusal_of : Option OpenFile → ℕ → Option Status
close_refusal_of None seqid = Some BAD_STATEID
close_refusal_of (Some o) seqid = seqid_refusal seqid o.seqid

-- why a stateid is refused where no access is asked: the open first, then the seqid
abbrev pub close_refusal : OpenTable → StateId → ℕ → Option Status
close_refusal table id file = close_refusal_of (named_open table id file) id.seqid

abbrev pub check_refusal_of : Option OpenFile → ℕ → Access → Option Status
check_refusal_of None seqid need = Some BAD_STATEID
check_refusal_of (Some o) seqid need = first_refusal (seqid_refusal seqid o.seqid) (access_refusal o.access need)

-- why a stateid is refused: the open first, then the seqid, then the access
abbrev pub check_refusal : OpenTable → StateId → ℕ → Access → Option Status
check_refusal table id file need = check_refusal_of (named_open table id file) id.seqid need

-- ---- OPEN and CLOSE

-- an open is of a client's owner and of a file
abbrev pub is_same : ℕ → List ℕ → ℕ → OpenFile → Bool
is_same client owner file o = (o.client == client) && (o.file == file) && bytes_eq o.owner owner

abbrev pub same_open : OpenTable → ℕ → List ℕ → ℕ → Option OpenFile
same_open table client owner file = find (is_same client owner file) table.opens

-- an open once more: its access is added, and its seqid rises by one
abbrev pub opened_again : ℕ → OpenFile → OpenFile
opened_again access o = record o { access = bit_or o.access access; seqid = o.seqid + 1 }

-- a stateid of this server's opens
abbrev pub open_id : ℕ → ℕ → ℕ → StateId
open_id boot seqid number = record { seqid = seqid; kind = 1; boot = boot; number = number }

-- the open that a client's owner has already is opened again
abbrev pub reopened : OpenTable → ℕ → List ℕ → ℕ → ℕ → OpenTable
reopened table client owner file access =
    record table {
      opens = changed (is_same client owner file) (opened_again access) table.opens;
      made = table.made + 1;
    }

-- a new open, with seqid 1 and the next number
abbrev pub new_open : ℕ → ℕ → List ℕ → ℕ → ℕ → OpenFile
new_open number client owner file access =
    record { client = client; owner = owner; file = file; access = access; seqid = 1; number = number }

abbrev pub with_open : OpenTable → ℕ → List ℕ → ℕ → ℕ → OpenTable
with_open table client owner file access =
    record table {
      opens = table.opens ++ new_open (table.numbers + 1) client owner file access ∷ [];
      numbers = table.numbers + 1;
      made = table.made + 1;
    }

abbrev pub full : Full
full = record {}

-- OPEN's answer: the stateid of the owner's open with its seqid risen by one; or else that of a new one, unless
-- there are 64
abbrev pub open_answer_at : Option OpenFile → OpenTable → Result StateId Full
open_answer_at (Some o) table = Ok (open_id table.boot (o.seqid + 1) o.number)
open_answer_at None table =
    if nat_le MOST_OPENS (length table.opens) then Err full else Ok (open_id table.boot 1 (table.numbers + 1))

abbrev pub open_answer : OpenTable → ℕ → List ℕ → ℕ → Result StateId Full
open_answer table client owner file = open_answer_at (same_open table client owner file) table

abbrev pub open_table_at : Option OpenFile → OpenTable → ℕ → List ℕ → ℕ → ℕ → OpenTable
open_table_at (Some o) table client owner file access = reopened table client owner file access
open_table_at None table client owner file access =
    if nat_le MOST_OPENS (length table.opens) then table else with_open table client owner file access

abbrev pub open_table : OpenTable → ℕ → List ℕ → ℕ → ℕ → OpenTable
open_table table client owner file access =
    open_table_at (same_open table client owner file) table client owner file access

-- the table without an open
abbrev pub closed : ℕ → OpenTable → OpenTable
closed number table = record table { opens = filter (λ o. not (o.number == number)) table.opens }

-- the stateid that CLOSE answers: it names nothing
abbrev pub closed_id : StateId
closed_id = record { seqid = 4294967295; kind = 0; boot = 0; number = 0 }

-- whether a client has an open
abbrev pub holds_open : OpenTable → ℕ → Bool
holds_open table client = list_any (λ o. o.client == client) table.opens

-- the table without the opens of a client
abbrev pub without_client : OpenTable → ℕ → OpenTable
without_client table client = record table { opens = filter (λ o. not (o.client == client)) table.opens }

-- ---- what holds of every table

-- No seqid of an open is above how many were given out, neither is the count of numbers, and there is room for
-- all opens.
pub record IsGivenOut (numbers made : ℕ) (opens : List OpenFile) (capacity : ℕ) : Type 0 where
  pub numbers_made : numbers ≤ made
  pub seqids : All (λ o. o.seqid ≤ made) opens
  pub room : MOST_OPENS ≤ capacity
