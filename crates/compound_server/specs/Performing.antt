-- One operation of a compound behind its SEQUENCE. Its tests in their order: where it stands, what the server's extension
-- says, and then its own. RFC 8881 sections 2.10.6.2, 16.2 and 18.
use Rattle.std.specs.Prelude.{ℕ, ◌==◌, ◌||◌, Bool, true, false, Option, Some, None}
use Rattle.file_ops.specs.declared.args.FileArg.{FileArg}
use Rattle.file_ops.specs.declared.args.FileArg.TheVariants as args
use Rattle.file_ops.specs.declared.operation.TheConstants.{OP_READ, OP_GETATTR, OP_EXCHANGE_ID, OP_CREATE_SESSION, OP_DESTROY_SESSION, OP_SEQUENCE, OP_DESTROY_CLIENTID, OP_ILLEGAL}
use Rattle.file_server.specs.declared.extension.Ask.TheVariants.{Operation}
use Rattle.file_server.specs.declared.extension.Caller.{Caller}
use Rattle.file_server.specs.declared.extension.Gate.{Gate}
use Rattle.file_server.specs.declared.extension.Gate.TheVariants as gate
use Rattle.file_server.specs.Machine.{Rules, with_extra}
use Rattle.file_server.specs.Attributes.{get_attributes}
use Rattle.file_server.specs.Closing.{close}
use Rattle.file_server.specs.Names.{lookup}
use Rattle.file_server.specs.Opening.{open_by_name}
use Rattle.file_server.specs.Placing.{put_root, put, get, save, restore}
use Rattle.file_server.specs.Reading.{read}
use Rattle.file_server.specs.Writing.{write, commit}
use Rattle.file_ops.specs.declared.results.FileRes.TheVariants as results
use Rattle.nfs_base.specs.declared.status.Status.{Status}
use Rattle.nfs_base.specs.declared.status.TheConstants.Status as statuses
use Rattle.nfs_compound.specs.declared.op.Op.{Op}
use Rattle.nfs_compound.specs.declared.op.Op.TheVariants.{Copy, File}
use Rattle.nfs_compound.specs.declared.res.Res.TheVariants as res
use Rattle.nfs_compound.specs.Ops.{op_number}
use Rattle.server_volume.specs.Choices.{Choice}
use Rattle.sess_slots.specs.Clients.{reclaim_answer, reclaim_table}
use Rattle.compound_server.specs.Course.{Course, Performed, Service, of_file, of_copy}
use Rattle.compound_server.specs.Refusals.{refused, place_refusal}

abbrev pub file_rules : {X C : Type 0} → Service X C → Rules X (Option C)
file_rules s = record { gate = s.gate }

-- an operation that is answered by a status alone, and changes nothing
abbrev pub refuse : {X : Type 0} → (op : ℕ) → Status → Course X → Performed X
refuse op status c = record { course = c; res = refused op status }

-- RECLAIM_COMPLETE (section 18.51): of the calling client
abbrev pub reclaim : {X : Type 0} → Caller → Course X → Performed X
reclaim caller c = record {
  course = record c { sessions = reclaim_table c.sessions caller.client };
  res = res.File (results.ReclaimComplete (reclaim_answer c.sessions caller.client));
}

-- an operation on files, by the number of the one behind it
unfoldable pub file_done : {X C : Type 0} → Service X C → Choice → Caller → Option C → (next : Option ℕ) → FileArg → Course X → Performed X
file_done s choice caller carry next (args.Close a) c = of_file c.sessions (close a c.going)
file_done s choice caller carry next (args.Commit a) c = of_file c.sessions (commit choice c.going)
file_done s choice caller carry next (args.GetAttr mask) c = of_file c.sessions (get_attributes (file_rules s) caller carry mask c.going)
file_done s choice caller carry next args.GetFh c = of_file c.sessions (get c.going)
file_done s choice caller carry next (args.Lookup name) c = of_file c.sessions (lookup name c.going)
file_done s choice caller carry next (args.Open a) c = of_file c.sessions (open_by_name caller a c.going)
file_done s choice caller carry next (args.PutFh handle) c = of_file c.sessions (put next handle c.going)
file_done s choice caller carry next args.PutRootFh c = of_file c.sessions (put_root c.going)
file_done s choice caller carry next (args.Read a) c = of_file c.sessions (read (file_rules s) choice caller carry a c.going)
file_done s choice caller carry next args.RestoreFh c = of_file c.sessions (restore c.going)
file_done s choice caller carry next args.SaveFh c = of_file c.sessions (save c.going)
file_done s choice caller carry next (args.Write a) c = of_file c.sessions (write choice a c.going)
file_done s choice caller carry next (args.ReclaimComplete one_fs) c = reclaim caller c
file_done s choice caller carry next args.Illegal c = refuse OP_ILLEGAL statuses.OP_ILLEGAL c
-- these don't come here: their place is tested first
file_done s choice caller carry next (args.ExchangeId a) c = refuse OP_EXCHANGE_ID statuses.NOT_ONLY_OP c
file_done s choice caller carry next (args.CreateSession a) c = refuse OP_CREATE_SESSION statuses.NOT_ONLY_OP c
file_done s choice caller carry next (args.DestroySession a) c = refuse OP_DESTROY_SESSION statuses.NOT_ONLY_OP c
file_done s choice caller carry next (args.Sequence a) c = refuse OP_SEQUENCE statuses.SEQUENCE_POS c
file_done s choice caller carry next (args.DestroyClientId a) c = refuse OP_DESTROY_CLIENTID statuses.NOT_ONLY_OP c

abbrev pub done : {X C : Type 0} → Service X C → Choice → Caller → Option C → (next : Option ℕ) → Op → Course X → Performed X
done s choice caller carry next (File a) c = file_done s choice caller carry next a c
done s choice caller carry next (Copy a) c = of_copy c.sessions (s.serve choice caller carry a c.going)

-- ---- what the server's extension says, of all but READ and GETATTR, which ask by themselves once they know the file

abbrev pub asks_later : (op : ℕ) → Bool
asks_later op = (op == OP_READ) || (op == OP_GETATTR)

-- why the extension lets an operation not go on
abbrev pub gate_refusal : Gate → Option Status
gate_refusal (gate.Refuse status) = Some status
gate_refusal gate.Serve = None
gate_refusal gate.Usual = None

abbrev pub with_state : {X : Type 0} → X → Course X → Course X
with_state x c = record c { going = with_extra x c.going }

abbrev pub unless_refused : {X C : Type 0} → Gate → Service X C → Choice → Caller → Option C → (next : Option ℕ) → Op → Course X → Performed X
unless_refused (gate.Refuse status) s choice caller carry next op c = refuse (op_number op) status c
unless_refused gate.Serve s choice caller carry next op c = done s choice caller carry next op c
unless_refused gate.Usual s choice caller carry next op c = done s choice caller carry next op c

abbrev pub gated : {X C : Type 0} → Bool → Service X C → Choice → Caller → Option C → (next : Option ℕ) → Op → Course X → Performed X
gated true s choice caller carry next op c = done s choice caller carry next op c
gated false s choice caller carry next op c =
    let said = s.gate c.going.machine.extra caller carry (Operation (op_number op)) in
    unless_refused said.1 s choice caller carry next op (with_state said.0 c)

abbrev pub placed : {X C : Type 0} → Option Status → Service X C → Choice → Caller → Option C → (next : Option ℕ) → Op → Course X → Performed X
placed (Some status) s choice caller carry next op c = refuse (op_number op) status c
placed None s choice caller carry next op c = gated (asks_later (op_number op)) s choice caller carry next op c

-- an operation behind SEQUENCE
unfoldable pub perform : {X C : Type 0} → Service X C → Choice → Caller → Option C → (next : Option ℕ) → Op → Course X → Performed X
perform s choice caller carry next op c = placed (place_refusal (op_number op)) s choice caller carry next op c

-- ---- the same, where telling whether an operation may go on changes nothing

-- by its place, whether it asks later, and what is said of it
abbrev pub refusal_by : Option Status → (later : Bool) → Gate → Option Status
refusal_by (Some status) later said = Some status
refusal_by None true said = None
refusal_by None false said = gate_refusal said

-- why an operation isn't evaluated
abbrev pub op_refusal : {X C : Type 0} → Service X C → Caller → Option C → (op : ℕ) → X → Option Status
op_refusal s caller carry op x = refusal_by (place_refusal op) (asks_later op) (s.gate x caller carry (Operation op)).1
