-- Three machines as they look from outside, in small steps. A wire is what one server and its callers show:
-- what each end took and sent in a step, and the parts of their states that RFC 8881 and RFC 2203 give names to.
use Rattle.std.specs.Prelude.{ℕ, Bool, Option, List, Contains}
use Rattle.nfs_base.specs.declared.seal.End.{End}
use Rattle.nfs_base.specs.declared.seal.Seal.{Seal}
use Rattle.wire_model.specs.Spelling.{Context}

-- a record that is sent, and the seal that it carries; one that isn't sealed has none
pub record Sent : Type 0 where
  pub bytes : List ℕ
  pub seal : Option Seal

-- operations whose results a server tells in a step, and those results; what it answers as kept isn't told anew
pub record Executed : Type 0 where
  pub ops : List ℕ
  pub results : List ℕ

-- What an end did in a step: the record that it took, the seal under which it accepted it, what it executed,
-- and what it sent. An end that doesn't act took nothing and sent nothing.
pub record Acts : Type 0 where
  pub took : Option (List ℕ)
  pub accepted : Option Seal
  pub executed : Option Executed
  pub out : List Sent

abbrev pub Sends : Acts → List ℕ → Option Seal → Type 0
Sends a bytes seal = Contains a.out (record { bytes = bytes; seal = seal })

-- the context of a seal
abbrev pub context_of : Seal → Context
context_of seal = record { boot = seal.boot; number = seal.number }

-- A kept reply (RFC 8881 section 2.10.6.1.3): the number that its slot had, the root context of its call, as
-- a number in this opening, and the results.
pub record Kept : Type 0 where
  pub number : ℕ
  pub root : ℕ
  pub results : List ℕ

-- A server: its opening, how many contexts it has made in it, the root of each context that is there (a root
-- is its own), the replies it keeps and the number executed last, each by session and slot. Of a session that
-- is gone the last number is past all numbers.
pub record Server : Type 0 where
  pub boot : ℕ
  pub made : ℕ
  pub root : ℕ → Option ℕ
  pub kept : ℕ → ℕ → Option Kept
  pub last : ℕ → ℕ → ℕ

-- What a call is for: a READ or GETATTR of a worker for a job, by the job's place; of the client's copy, by
-- its number, the GETATTR before COPY, COPY itself, OFFLOAD_STATUS, and the GETATTR once it is stable; or
-- something else.
pub data Purpose : Type 0 where
  ForJob : (job : ℕ) → Purpose
  ForFirst : (copy : ℕ) → Purpose
  ForCopy : (copy : ℕ) → Purpose
  ForStatus : (copy : ℕ) → Purpose
  ForLast : (copy : ℕ) → Purpose
  ForOther : Purpose

-- a call by a slot: the root context under which it is made, its slot and number, its operations, its purpose
pub record Call : Type 0 where
  pub root : Context
  pub slot : ℕ
  pub number : ℕ
  pub ops : List ℕ
  pub purpose : Purpose

-- what a caller awaits the answer to: an INIT, a CREATE under this seal, a call by a slot, or another call
pub data What : Type 0 where
  Begins : What
  Makes : (seal : Seal) → What
  Slotted : (seal : Seal) (call : Call) → What
  Other : What

pub record Awaited : Type 0 where
  pub xid : ℕ
  pub what : What

-- A caller of one server: its opening, how many calls it has sent in it, the contexts that it has, each with
-- its root, the root that it mounted, the next number of each of its slots there, what it awaits at each of
-- its places, and whether all that a purpose waits for has come about.
pub record Caller : Type 0 where
  pub boot : ℕ
  pub calls : ℕ
  pub has : Context → Context → Bool
  pub mount : Option Context
  pub next : ℕ → ℕ
  pub awaits : ℕ → Option Awaited
  pub ready : Purpose → Bool

-- One server and its callers. The acts are those of the step from a moment to the next.
pub record Wire : Type 0 where
  pub owner : End
  pub server : ℕ → Server
  pub caller : End → ℕ → Caller
  pub acts : End → ℕ → Acts
