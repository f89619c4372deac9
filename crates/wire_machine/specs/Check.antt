-- The check of seals. Whatever an end accepts under a seal must be a record of these bytes that another end sealed with
-- exactly that seal; and a reply must be sealed so in a step that took the call that it answers, after that call was sent.
-- Nothing is assumed of the strength of a code: a run in which an end accepts anything else ends there. Own definitions.
use Rattle.std.specs.Prelude.{ℕ, Bool, true, false, not, ◌==◌, ◌&&◌, nat_lt, List, Option, Some, None, find, option_and_then, if◌then◌else◌}
use Rattle.std.specs.List.{list_any}
use Rattle.std.specs.Option.{option_or}
use Rattle.std.specs.Str.{bytes_eq}
use Rattle.nfs_base.specs.declared.seal.End.{End}
use Rattle.nfs_base.specs.declared.seal.End.TheVariants.{Source, Dest, Client}
use Rattle.nfs_base.specs.declared.seal.Seal.{Seal}
use Rattle.wire_machine.specs.declared.mistake.Mistake.{Mistake}
use Rattle.wire_machine.specs.Ends.{Machines}
use Rattle.wire_machine.specs.World.{Part, Parts, Posted, World, opening_of}

-- what is read of a record: whether it is a reply, and its xid
pub record Reading : Type 0 where
  pub is_reply : List ℕ → Bool
  pub xid_of : List ℕ → ℕ

-- ---- equality of ends and seals

abbrev pub same_end : End → End → Bool
same_end Source Source = true
same_end Dest Dest = true
same_end Client Client = true
same_end _ _ = false

abbrev pub same_seal : Seal → Seal → Bool
same_seal a b = same_end a.owner b.owner && ((a.boot == b.boot) && ((a.number == b.number) && (a.seq == b.seq)))

abbrev pub has_seal : Seal → Option Seal → Bool
has_seal seal None = false
has_seal seal (Some other) = same_seal seal other

abbrev pub took_bytes : List ℕ → Option (List ℕ) → Bool
took_bytes bytes None = false
took_bytes bytes (Some took) = bytes_eq took bytes

-- ---- records of the list

-- another end than this one sealed these bytes so
abbrev pub is_sealed : End → Seal → (bytes : List ℕ) → Posted → Bool
is_sealed end seal bytes r = not (same_end r.from end) && (has_seal seal r.seal && bytes_eq r.bytes bytes)

-- the end itself sent this call, in its present opening, with the xid of the reply
abbrev pub is_awaited : Reading → End → (opening : ℕ) → (reply : List ℕ) → Posted → Bool
is_awaited read end opening reply r =
    same_end r.from end && ((r.opening == opening) && (not (read.is_reply r.bytes) && (read.xid_of r.bytes == read.xid_of reply)))

-- an answer was sent in a step that took this call, after it was sent
abbrev pub answers : Posted → Posted → Bool
answers answer call = nat_lt call.step answer.step && took_bytes call.bytes answer.took

-- one of the calls that the end awaits is answered by this record
abbrev pub answers_awaited : Reading → End → (opening : ℕ) → (reply : List ℕ) → List Posted → Posted → Bool
answers_awaited read end opening reply log answer =
    list_any (λ call. is_awaited read end opening reply call && answers answer call) log

-- ---- the check, of what an end accepts under a seal

abbrev pub is_right : Reading → List Posted → End → (opening : ℕ) → Seal → (bytes : List ℕ) → Bool
is_right read log end opening seal bytes =
    if read.is_reply bytes
    then list_any (λ r. is_sealed end seal bytes r && answers_awaited read end opening bytes log r) log
    else list_any (λ r. is_sealed end seal bytes r) log

-- the seal of the first record with these bytes
abbrev pub seal_of : List Posted → (bytes : List ℕ) → Option Seal
seal_of log bytes = option_and_then (λ (r : Posted). r.seal) (find (λ (r : Posted). bytes_eq r.bytes bytes) log)

abbrev pub mistake_unless : Bool → Seal → Option Seal → Option Mistake
mistake_unless true accepted sealed = None
mistake_unless false accepted sealed = Some (record { accepted = accepted; sealed = sealed })

abbrev pub mistake_in : Reading → List Posted → End → (opening : ℕ) → Option Seal → Option (List ℕ) → Option Mistake
mistake_in read log end opening (Some seal) (Some bytes) = mistake_unless (is_right read log end opening seal bytes) seal (seal_of log bytes)
mistake_in read log end opening _ _ = None

module _ {S T C W : Type 0} (m : Machines S T C W) (read : Reading) where
  -- of one end, in a small step from this world
  abbrev pub mistake_of : End → World S T C W → Part → Option Mistake
  mistake_of end before part = mistake_in read before.log end (opening_of m end before) part.out.accepted part.took

  -- of all three
  abbrev pub mistake : World S T C W → Parts → Option Mistake
  mistake before parts =
      option_or (mistake_of Source before parts.source)
      (option_or (mistake_of Dest before parts.dest) (mistake_of Client before parts.client))
