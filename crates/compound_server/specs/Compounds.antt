-- COMPOUND in a session: the rules of its first operation, SEQUENCE with its slots, and those that stand alone. RFC 8881
-- sections 2.10.6, 16.2 and 18.46.
use Rattle.std.specs.Prelude.{ℕ, ◌-◌, ◌==◌, Bool, true, false, nat_lt, Option, Some, None, List, [], ◌∷◌}
use Rattle.file_ops.specs.declared.args.FileArg.TheVariants as args
use Rattle.file_ops.specs.declared.operation.TheConstants.{OP_EXCHANGE_ID, OP_CREATE_SESSION, OP_DESTROY_SESSION, OP_SEQUENCE, OP_DESTROY_CLIENTID, OP_ILLEGAL}
use Rattle.file_ops.specs.declared.results.FileRes.TheVariants as results
use Rattle.file_ops.specs.declared.sessions.SequenceArgs.{SequenceArgs}
use Rattle.file_ops.specs.declared.zero.Zero.TheVariants.{Word}
use Rattle.file_server.specs.declared.extension.Ask.TheVariants.{Operation}
use Rattle.file_server.specs.declared.extension.Caller.{Caller}
use Rattle.nfs_base.specs.declared.answer.Answer.TheVariants.{Done}
use Rattle.nfs_base.specs.declared.limits.TheConstants.{MOST_OPERATIONS, SLOTS}
use Rattle.nfs_base.specs.declared.status.Status.{Status}
use Rattle.nfs_base.specs.declared.status.TheConstants.Status as statuses
use Rattle.nfs_compound.specs.declared.compound.Compound.{Compound}
use Rattle.nfs_compound.specs.declared.op.Op.{Op}
use Rattle.nfs_compound.specs.declared.op.Op.TheVariants.{File}
use Rattle.nfs_compound.specs.declared.res.Res.{Res}
use Rattle.nfs_compound.specs.declared.res.Res.TheVariants as res
use Rattle.nfs_compound.specs.declared.tail.Tail.{Tail}
use Rattle.nfs_compound.specs.Ops.{op_number}
use Rattle.nfs_compound.specs.Results.{reply}
use Rattle.nfs_compound.specs.Walk.{last_status}
use Rattle.server_volume.specs.Choices.{Choice}
use Rattle.sess_slots.specs.declared.answers.Begin.{Begin}
use Rattle.sess_slots.specs.declared.answers.Begin.TheVariants as begin
use Rattle.sess_slots.specs.declared.answers.Place.{Place}
use Rattle.sess_slots.specs.Begins.{begin_of, client_at, reply_at, finished}
use Rattle.sess_slots.specs.Table.{SessionTable}
use Rattle.nfs_compound.specs.declared.compound.TheConstants.{MINOR_VERSION}
use Rattle.compound_server.specs.declared.refusing.TailRefusal.{TailRefusal}
use Rattle.compound_server.specs.declared.who.Who.{Who}
use Rattle.compound_server.specs.Course.{Service}
use Rattle.compound_server.specs.Performing.{gate_refusal}
use Rattle.compound_server.specs.Refusals.{refused, tail_refusal}
use Rattle.compound_server.specs.State.{State, Given, Parting, begun, with_own, answered_by, refusal}
use Rattle.compound_server.specs.Clients.{exchange_id, create_session, destroy_session, destroy_clientid}
use Rattle.compound_server.specs.Walking.{Walked, walk}

-- ---- SEQUENCE

-- SEQUENCE answers what it was asked with, and that all 16 slots may be used
abbrev pub sequence_done : SequenceArgs → Res
sequence_done a = res.File (results.Sequence (Done (record {
  session = a.session;
  sequence = a.sequence;
  slot = a.slot;
  highest_slot = SLOTS - 1;
  target_highest_slot = SLOTS - 1;
  status_flags = Word;
})))

-- the client that calls in a session
abbrev pub client_in : Option ℕ → ℕ
client_in None = 0
client_in (Some client) = client

abbrev pub caller_at : Who → Place → SessionTable → Caller
caller_at who place table =
    record { client = client_in (client_at table place.session); session = place.session; context = who.context; second = who.second }

-- Operations that were executed: the reply is kept on the slot, which has moved.
abbrev pub executed : {X : Type 0} → Who → Place → (tag : List ℕ) → SequenceArgs → Walked X → Given X
executed who place tag a w =
    let told = sequence_done a ∷ w.results in
    let body = reply.spell (record { status = last_status told; tag = tag; results = told }) in
    record {
      state = record { machine = w.course.going.machine; sessions = finished w.course.sessions place who.root body who.second };
      used = w.course.going.used;
      body = body;
    }

abbrev pub kept_bytes : Option (List ℕ) → List ℕ
kept_bytes None = []
kept_bytes (Some bytes) = bytes

-- a new number is executed, a retry is answered as before, and all else is refused
abbrev pub by_begin : {X C : Type 0} → Begin → Service X C → Choice → Who → Option C → (tag : List ℕ) → SequenceArgs → List Op → Tail → State X → Given X
by_begin (begin.New place) v choice who carry tag a ops tail s =
    executed who place tag a (walk v choice (caller_at who place s.sessions) carry tail ops (begun s))
by_begin (begin.Replay place) v choice who carry tag a ops tail s =
    record { state = s; used = []; body = kept_bytes (reply_at s.sessions place) }
by_begin begin.FalseRetry v choice who carry tag a ops tail s = refusal s tag OP_SEQUENCE statuses.SEQ_FALSE_RETRY
by_begin begin.BadSession v choice who carry tag a ops tail s = refusal s tag OP_SEQUENCE statuses.BADSESSION
by_begin begin.BadSlot v choice who carry tag a ops tail s = refusal s tag OP_SEQUENCE statuses.BADSLOT
by_begin begin.Misordered v choice who carry tag a ops tail s = refusal s tag OP_SEQUENCE statuses.SEQ_MISORDERED

unfoldable pub sequence : {X C : Type 0} → Service X C → Choice → Who → Option C → (tag : List ℕ) → SequenceArgs → List Op → Tail → State X → Given X
sequence v choice who carry tag a ops tail s =
    by_begin (begin_of s.sessions a.session a.slot a.sequence who.root) v choice who carry tag a ops tail s

-- ---- operations outside a session

-- such an operation is no client's in a session
abbrev pub outside : Who → Caller
outside who = record { client = 0; session = 0; context = who.context; second = who.second }

-- it is the only one, and then the server's extension is asked, which telling so doesn't change
abbrev pub alone_refusal : {X C : Type 0} → Bool → Service X C → Who → Option C → (op : ℕ) → X → Option Status
alone_refusal false v who carry op x = Some statuses.NOT_ONLY_OP
alone_refusal true v who carry op x = gate_refusal (v.gate x (outside who) carry (Operation op)).1

abbrev pub unless : {X : Type 0} → Option Status → (tag : List ℕ) → (op : ℕ) → (State X → Given X) → State X → Given X
unless (Some status) tag op more s = refusal s tag op status
unless None tag op more s = more s

abbrev pub alone : {X C : Type 0} → (count : ℕ) → Service X C → Who → Option C → (tag : List ℕ) → (op : ℕ) → (State X → Given X) → State X → Given X
alone count v who carry tag op more s = unless (alone_refusal (count == 1) v who carry op s.machine.extra) tag op more s

unfoldable pub outside_session : {X C : Type 0} → Service X C → Parting X → Who → (principal : List ℕ) → Option C → (tag : List ℕ) → (count : ℕ) → Op → State X → Given X
outside_session v parting who principal carry tag count (File (args.ExchangeId a)) s =
    alone count v who carry tag OP_EXCHANGE_ID (exchange_id parting who principal tag a) s
outside_session v parting who principal carry tag count (File (args.CreateSession a)) s =
    alone count v who carry tag OP_CREATE_SESSION (create_session parting who tag a) s
outside_session v parting who principal carry tag count (File (args.DestroySession id)) s =
    alone count v who carry tag OP_DESTROY_SESSION (destroy_session tag id) s
outside_session v parting who principal carry tag count (File (args.DestroyClientId client)) s =
    alone count v who carry tag OP_DESTROY_CLIENTID (destroy_clientid parting tag client) s
outside_session v parting who principal carry tag count op s = refusal s tag (op_number op) statuses.OP_NOT_IN_SESSION

-- ---- the first operation decides

abbrev pub tail_results : Option TailRefusal → List Res
tail_results None = []
tail_results (Some r) = refused r.op r.status ∷ []

unfoldable pub by_first : {X C : Type 0} → Service X C → Parting X → Choice → Who → (principal : List ℕ) → Option C → (tag : List ℕ) → (count : ℕ) → List Op → Tail → State X → Given X
by_first v parting choice who principal carry tag count [] tail s = answered_by s tag (tail_results (tail_refusal tail))
by_first v parting choice who principal carry tag count (File (args.Sequence a) ∷ ops) tail s = sequence v choice who carry tag a ops tail s
by_first v parting choice who principal carry tag count (op ∷ ops) tail s = outside_session v parting who principal carry tag count op s

-- the number under which a compound with too many operations is answered
abbrev pub tail_number : Option TailRefusal → ℕ
tail_number None = OP_ILLEGAL
tail_number (Some r) = r.op

abbrev pub first_number : List Op → Tail → ℕ
first_number [] tail = tail_number (tail_refusal tail)
first_number (op ∷ ops) tail = op_number op

abbrev pub unless_many : {X C : Type 0} → Bool → Service X C → Parting X → Choice → Who → (principal : List ℕ) → Option C → Compound → State X → Given X
unless_many true v parting choice who principal carry c s = refusal s c.tag (first_number c.ops c.tail) statuses.TOO_MANY_OPS
unless_many false v parting choice who principal carry c s = by_first v parting choice who principal carry c.tag c.count c.ops c.tail s

-- a compound of another minor version has no results
abbrev pub minor_refusal : {X : Type 0} → (tag : List ℕ) → State X → Given X
minor_refusal tag s = record { state = s; used = []; body = reply.spell (record { status = statuses.MINOR_VERS_MISMATCH; tag = tag; results = [] }) }

abbrev pub by_minor : {X C : Type 0} → Bool → Service X C → Parting X → Choice → Who → (principal : List ℕ) → Option C → Compound → State X → Given X
by_minor false v parting choice who principal carry c s = minor_refusal c.tag s
by_minor true v parting choice who principal carry c s =
    unless_many (nat_lt MOST_OPERATIONS c.count) v parting choice who principal carry c s

-- a COMPOUND
unfoldable pub on_compound : {X C : Type 0} → Service X C → Parting X → Choice → Who → (principal : List ℕ) → Option C → Compound → State X → Given X
on_compound v parting choice who principal carry c s =
    by_minor (c.minor == MINOR_VERSION) v parting choice who principal carry c (with_own (parting.lapse who.second s.machine.extra) s)
