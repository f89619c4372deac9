-- What is asked of a server under a context (RFC 8881 section 16.2, RFC 7861 section 2.7, RFC 2203 section 5.4).
use Rattle.std.specs.Prelude.{ℕ, ◌<◌, nat_lt, Bool, true, false, List, [], length, Option, Some, None}
use Rattle.nfs_compound.specs.Compounds.{compound_bytes}
use Rattle.nfs_compound.specs.declared.op.Op.{Op}
use Rattle.gss_ctx.specs.Calls.{Side}
use Rattle.gss_ctx.specs.Forms.{create}
use Rattle.gss_ctx.specs.Seals.{Mic}
use Rattle.session_calls.specs.Calls.{IsSendable}
use Rattle.session_calls.specs.declared.compound.TheConstants.{LONGEST_CALL}
use Rattle.session_client.specs.Sealing.{call_under, after_call}
use Rattle.session_client.specs.declared.asked.Asked.{Asked}
use Rattle.session_client.specs.declared.asked.Asked.TheVariants.{Compound, Create, Destroy}
use Rattle.session_client.specs.declared.sealing.CallKind.{CallKind}
use Rattle.session_client.specs.declared.sealing.CallKind.TheVariants as kinds
use Rattle.session_client.specs.declared.sealing.SealedCall.{SealedCall}

-- what is called for it, and with which arguments
abbrev pub kind_of : Asked → CallKind
kind_of (Compound c) = kinds.Compound
kind_of (Create args) = kinds.Create
kind_of Destroy = kinds.Destroy

abbrev pub args_of : Asked → List ℕ
args_of (Compound c) = compound_bytes c
args_of (Create args) = args
args_of Destroy = []

-- the operations of a compound
abbrev pub ops_of : Asked → List Op
ops_of (Compound c) = c.ops
ops_of _ = []

-- it can go out: a compound that is whole, or short arguments
abbrev pub AskedFits : Asked → Type 0
AskedFits (Compound c) = IsSendable c
AskedFits (Create args) = length args < LONGEST_CALL
AskedFits Destroy = Unit {0}

-- the arguments of CREATE: a privilege's name and its bytes
abbrev pub create_args : List ℕ → List ℕ → List ℕ
create_args name privilege = create.spell (record { name = name; privilege = privilege })

-- it is called with the context's next number, which isn't given again; the numbers run out at 2^31
abbrev pub asked_call : Mic → Side → ℕ → Asked → SealedCall
asked_call mic side xid asked = call_under mic side xid (kind_of asked) (args_of asked)

abbrev pub called_if : Bool → Mic → Side → ℕ → Asked → Option SealedCall × Side
called_if true mic side xid asked = (Some (asked_call mic side xid asked), after_call side)
called_if false mic side xid asked = (None, side)

abbrev pub called_under : Mic → Side → ℕ → Asked → Option SealedCall × Side
called_under mic side xid asked = called_if (nat_lt side.next 2147483648) mic side xid asked
