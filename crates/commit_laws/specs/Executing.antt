-- The operations that a record's COMPOUND has executed, in their order: those behind a SEQUENCE of a new number, up to the
-- first that is answered with a status other than 0. RFC 8881 sections 2.10.6.1 and 16.2.3.
use Rattle.std.specs.Prelude.{ℕ, ◌==◌, Bool, true, false, nat_lt, max, if◌then◌else◌, Option, Some, None, Result, Ok, Err, List, [], ◌∷◌}
use Rattle.compound_server.specs.Compounds.{caller_at}
use Rattle.compound_server.specs.Course.{Course, Performed, Service}
use Rattle.compound_server.specs.Performing.{perform}
use Rattle.compound_server.specs.State.{Parting, State, begun, with_own}
use Rattle.nfs_compound.specs.declared.compound.TheConstants.{MINOR_VERSION}
use Rattle.compound_server.specs.declared.who.Who.{Who}
use Rattle.file_ops.specs.declared.args.FileArg.TheVariants as args
use Rattle.file_server.specs.declared.extension.Caller.{Caller}
use Rattle.gss_ctx.specs.Table.{ContextTable, context_of}
use Rattle.gss_ctx.specs.declared.context.Context.{Context}
use Rattle.nfs_base.specs.declared.limits.TheConstants.{MOST_OPERATIONS}
use Rattle.nfs_compound.specs.Compounds.{compound_of}
use Rattle.nfs_compound.specs.Results.{res_status}
use Rattle.nfs_compound.specs.Walk.{next_number}
use Rattle.nfs_compound.specs.declared.compound.Compound.{Compound}
use Rattle.nfs_compound.specs.declared.op.Op.{Op}
use Rattle.nfs_compound.specs.declared.op.Op.TheVariants.{File}
use Rattle.rpc_calls.specs.Judging.{judged_of}
use Rattle.rpc_calls.specs.declared.call.Judged.{Judged}
use Rattle.rpc_calls.specs.declared.call.Judged.TheVariants as judged
use Rattle.rpc_calls.specs.declared.call.TheConstants.Program as programs
use Rattle.rpc_calls.specs.declared.call.Under.{Under}
use Rattle.rpc_calls.specs.declared.call.What.{What}
use Rattle.rpc_calls.specs.declared.call.What.TheVariants as whats
use Rattle.server_volume.specs.Choices.{Choice}
use Rattle.sess_slots.specs.Begins.{begin_of}
use Rattle.sess_slots.specs.declared.answers.Begin.{Begin}
use Rattle.sess_slots.specs.declared.answers.Begin.TheVariants as begin
use Rattle.session_server.specs.Host.{Codes, HostState, Rules}
use Rattle.session_server.specs.Steps.{who_calls}

-- an operation, what it found and how it was answered
pub record Executed (X : Type 0) : Type 0 where
  pub op : Op
  pub found : Course X
  pub answered : Performed X

-- ---- operations behind a SEQUENCE

-- those behind one, unless its status ends the COMPOUND
abbrev pub goes_on : {X : Type 0} → (status : ℕ) → List (Executed X) → List (Executed X)
goes_on status rest = if status == 0 then rest else []

unfoldable pub executed : {X C : Type 0} → Service X C → Choice → Caller → Option C → List Op → Course X → List (Executed X)
executed v choice caller carry [] c = []
executed v choice caller carry (op ∷ ops) c =
    let a = perform v choice caller carry (next_number ops) op c in
    record { op = op; found = c; answered = a } ∷ goes_on (res_status a.res).number (executed v choice caller carry ops a.course)

-- ---- a COMPOUND

-- a retry executes nothing, nor does a SEQUENCE that is refused
abbrev pub begun_by : {X C : Type 0} → Begin → Service X C → Choice → Who → Option C → List Op → State X → List (Executed X)
begun_by (begin.New place) v choice who carry ops s = executed v choice (caller_at who place s.sessions) carry ops (begun s)
begun_by _ v choice who carry ops s = []

-- an operation that stands outside a session isn't counted here
abbrev pub in_session : {X C : Type 0} → Service X C → Choice → Who → Option C → List Op → State X → List (Executed X)
in_session v choice who carry (File (args.Sequence a) ∷ ops) s =
    begun_by (begin_of s.sessions a.session a.slot a.sequence who.root) v choice who carry ops s
in_session v choice who carry _ s = []

abbrev pub unless_many : {X : Type 0} → Bool → List (Executed X) → List (Executed X)
unless_many true es = []
unless_many false es = es

abbrev pub if_minor : {X : Type 0} → Bool → List (Executed X) → List (Executed X)
if_minor false es = []
if_minor true es = es

abbrev pub in_compound : {X C : Type 0} → Service X C → Parting X → Choice → Who → Option C → Compound → State X → List (Executed X)
in_compound v parting choice who carry c s =
    if_minor (c.minor == MINOR_VERSION) (unless_many (nat_lt MOST_OPERATIONS c.count)
    (in_session v choice who carry c.ops (with_own (parting.lapse who.second s.machine.extra) s)))

-- ---- a record

abbrev pub under_context : {X C : Type 0} → Rules X C → Choice → (second conn : ℕ) → Under → Option (Context C) → Compound → State X → List (Executed X)
under_context rules choice second conn under None c s = []
under_context rules choice second conn under (Some context) c s =
    in_compound rules.service rules.parting choice (who_calls second conn under context) context.carry c s

abbrev pub under_one : {X C : Type 0} → Rules X C → Choice → (second conn : ℕ) → Option Under → ContextTable C → Compound → State X → List (Executed X)
under_one rules choice second conn None contexts c s = []
under_one rules choice second conn (Some under) contexts c s =
    under_context rules choice second conn under (context_of under.number contexts.entries) c s

abbrev pub in_read : {X C : Type 0} → Result Compound ℕ → Rules X C → Choice → (second conn : ℕ) → Option Under → HostState X C → List (Executed X)
in_read (Err at) rules choice second conn under s = []
in_read (Ok c) rules choice second conn under s = under_one rules choice second conn under s.contexts c s.state

abbrev pub in_call : {X C : Type 0} → What → Rules X C → Choice → (second conn : ℕ) → Option Under → HostState X C → List (Executed X)
in_call (whats.Compound args) rules choice second conn under s = in_read (compound_of args) rules choice second conn under s
in_call _ rules choice second conn under s = []

abbrev pub in_judged : {X C : Type 0} → Judged → Rules X C → Choice → (second conn : ℕ) → HostState X C → List (Executed X)
in_judged (judged.Call call) rules choice second conn s = in_call call.what rules choice second conn call.under s
in_judged _ rules choice second conn s = []

-- a record that comes on a connection in a second, by what becomes of the calls on the volume
abbrev pub in_record : {X C : Type 0} → Rules X C → Codes → Choice → (conn : ℕ) → (bytes : List ℕ) → (now : ℕ) → HostState X C → List (Executed X)
in_record rules codes choice conn bytes now s =
    in_judged (judged_of codes.mic (max s.second now) programs.NFS bytes s.contexts) rules choice (max s.second now) conn s
