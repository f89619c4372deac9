-- What a context at a source lets its calls do, by the privilege that it carries. RFC 7862 section 4.10.1.3.
use Rattle.std.specs.Prelude.{ℕ, Bool, true, false, ◌==◌, ◌&&◌, ◌||◌, not, if◌then◌else◌, Option, Some, None, List, [], replicate}
use Rattle.copy_grants.specs.Grants.{GrantTable}
use Rattle.copy_grants.specs.Permits.{Asked, is_shown, permit_of, permit_refusal, permit_table, cause_status}
use Rattle.copy_grants.specs.declared.ask.Permit.{Permit}
use Rattle.copy_grants.specs.declared.ask.Permit.TheVariants.{Permitted, Denied}
use Rattle.file_ops.specs.declared.operation.TheConstants.{OP_EXCHANGE_ID, OP_CREATE_SESSION, OP_SEQUENCE, OP_PUTFH}
use Rattle.file_server.specs.declared.extension.Ask.{Ask}
use Rattle.file_server.specs.declared.extension.Ask.TheVariants as asks
use Rattle.file_server.specs.declared.extension.Caller.{Caller}
use Rattle.file_server.specs.declared.extension.Gate.{Gate}
use Rattle.file_server.specs.declared.extension.Gate.TheVariants.{Serve, Refuse, Usual}
use Rattle.gss_ctx.specs.Seals.{Mic}
use Rattle.nfs_base.specs.declared.net_loc.NetLoc.{NetLoc}
use Rattle.nfs_base.specs.declared.state_id.StateId.{StateId}
use Rattle.nfs_base.specs.declared.state_id.TheConstants.StateId.{COPY_NOTIFY}
use Rattle.nfs_base.specs.declared.status.TheConstants.Status.{ACCESS}
use Rattle.source_core.specs.declared.carried.Carried.{Carried}
use Rattle.source_core.specs.declared.carried.Carried.TheVariants.{From, Confirm}
use Rattle.source_core.specs.declared.source.Source.{Source}

-- it confirms a copy
abbrev pub is_confirming : Option Carried → Bool
is_confirming (Some (Confirm code user peer key)) = true
is_confirming (Some (From secret destination user)) = false
is_confirming None = false

-- what it confirms a copy by: the code and the user of the privilege, and where the parent is found and its key
abbrev pub code_of : Option Carried → List ℕ
code_of (Some (Confirm code user peer key)) = code
code_of (Some (From secret destination user)) = []
code_of None = []

abbrev pub user_of : Option Carried → List ℕ
user_of (Some (Confirm code user peer key)) = user
user_of (Some (From secret destination user)) = []
user_of None = []

abbrev pub peer_of : Option Carried → Option NetLoc
peer_of (Some (Confirm code user peer key)) = peer
peer_of (Some (From secret destination user)) = None
peer_of None = None

abbrev pub key_of : Option Carried → List ℕ
key_of (Some (Confirm code user peer key)) = key
key_of (Some (From secret destination user)) = replicate 32 0
key_of None = replicate 32 0

-- what is asked of the grants for it
abbrev pub asked_by : Option Carried → StateId → (file : ℕ) → Asked
asked_by carry id file = record {
  id = id;
  file = file;
  peer = peer_of carry;
  confirmed = is_confirming carry;
  user = user_of carry;
  code = code_of carry;
  key = key_of carry;
}

-- ---- operations that are served as always under a context that confirms a copy (own): all that a READ and a GETATTR
-- need before them

abbrev pub is_free : (op : ℕ) → Bool
is_free op = (op == OP_EXCHANGE_ID) || (op == OP_CREATE_SESSION) || (op == OP_SEQUENCE) || (op == OP_PUTFH)

abbrev pub operation_gate : Option Carried → (op : ℕ) → Gate
operation_gate carry op = if is_confirming carry && not (is_free op) then Refuse ACCESS else Usual

-- ---- READ: by a grant where its stateid is one of COPY_NOTIFY, and else by an open, which such a context may not

abbrev pub permitted : {M : Type 0} → Permit → Source M → Source M × Gate
permitted Permitted x = (x, Serve)
permitted (Denied cause) x = (record x { refusal = Some cause }, Refuse (cause_status cause))

abbrev pub read_by_grant : {M : Type 0} → Mic → (second : ℕ) → Asked → Source M → Source M × Gate
read_by_grant mic second asked x =
    permitted (permit_of (permit_refusal mic x.grants second asked)) (record x { grants = permit_table mic x.grants second asked })

abbrev pub is_of_grant : StateId → Bool
is_of_grant id = id.kind == COPY_NOTIFY

abbrev pub read_by_open : Option Carried → Gate
read_by_open carry = if is_confirming carry then Refuse ACCESS else Usual

abbrev pub read_gate : {M : Type 0} → Mic → (second : ℕ) → Option Carried → (file : ℕ) → StateId → Source M → Source M × Gate
read_gate mic second carry file id x =
    if is_of_grant id then read_by_grant mic second (asked_by carry id file) x else (x, read_by_open carry)

-- ---- GETATTR: such a context sees the attributes of a file that some live grant covers

-- no stateid is asked for
abbrev pub no_id : StateId
no_id = record { seqid = 0; kind = 0; boot = 0; number = 0 }

abbrev pub attributes_gate : Mic → (second : ℕ) → Option Carried → (file : ℕ) → GrantTable → Gate
attributes_gate mic second carry file grants =
    if is_confirming carry
    then (if is_shown mic grants second (asked_by carry no_id file) then Serve else Refuse ACCESS)
    else Usual

-- ---- all three

abbrev pub gated : {M : Type 0} → Mic → Source M → Caller → Option Carried → Ask → Source M × Gate
gated mic x caller carry (asks.Operation op) = (x, operation_gate carry op)
gated mic x caller carry (asks.Read file id) = read_gate mic caller.second carry file id x
gated mic x caller carry (asks.Attributes file) = (x, attributes_gate mic caller.second carry file x.grants)
