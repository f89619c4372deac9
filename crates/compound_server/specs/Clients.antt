-- The operations on clients and sessions that stand alone: EXCHANGE_ID, CREATE_SESSION, DESTROY_SESSION and DESTROY_CLIENTID.
-- RFC 8881 sections 18.35, 18.36, 18.37 and 18.50.
use Rattle.std.specs.Prelude.{ℕ, ◌+◌, ◌==◌, ◌&&◌, Bool, true, false, not, bit_and, Option, None, option_map, option_to_list, List, [], ◌∷◌, find, length, if◌then◌else◌}
use Rattle.file_ops.specs.declared.operation.TheConstants.{OP_EXCHANGE_ID, OP_CREATE_SESSION, OP_DESTROY_SESSION, OP_DESTROY_CLIENTID}
use Rattle.file_ops.specs.declared.parms.ChannelAttrs.{ChannelAttrs}
use Rattle.file_ops.specs.declared.parms.SecParm.{SecParm}
use Rattle.file_ops.specs.declared.parms.SecParm.TheVariants.{Gss}
use Rattle.file_ops.specs.declared.results.FileRes.TheVariants as results
use Rattle.file_ops.specs.declared.sessions.TheConstants.{CONN_BACK_CHAN}
use Rattle.file_ops.specs.declared.sessions.CreateSessionArgs.{CreateSessionArgs}
use Rattle.file_ops.specs.declared.sessions.CreateSessionDone.{CreateSessionDone}
use Rattle.file_ops.specs.declared.sessions.ExchangeIdArgs.{ExchangeIdArgs}
use Rattle.file_ops.specs.declared.sessions.ExchangeIdDone.{ExchangeIdDone}
use Rattle.file_ops.specs.declared.sessions.Protection.{Protection}
use Rattle.file_ops.specs.declared.sessions.Protection.TheVariants.{Unprotected, Protected}
use Rattle.file_ops.specs.declared.zero.Zero.TheVariants.{Word}
use Rattle.nfs_base.specs.declared.answer.Answer.TheVariants.{Done}
use Rattle.nfs_base.specs.declared.limits.TheConstants.{MOST_OPERATIONS, SLOTS}
use Rattle.nfs_base.specs.declared.status.TheConstants.Status.{NOTSUPP}
use Rattle.nfs_compound.specs.declared.res.Res.{Res}
use Rattle.nfs_compound.specs.declared.res.Res.TheVariants.{File}
use Rattle.rpc_msg.specs.declared.numbers.TheConstants.{RPC_GSS_SVC_INTEGRITY}
use Rattle.rpc_msg.specs.declared.records.TheConstants.{RECORD_LIMIT}
use Rattle.sess_slots.specs.declared.answers.Created.{Created}
use Rattle.sess_slots.specs.declared.answers.Created.TheVariants as created
use Rattle.sess_slots.specs.declared.answers.Exchanged.{Exchanged}
use Rattle.sess_slots.specs.declared.answers.Exchanged.TheVariants as exchanged
use Rattle.sess_slots.specs.Clients as tables
use Rattle.state_ids.specs.Opens.{holds_open}
use Rattle.wire_xdr.specs.Words.{hyper_bytes}
use Rattle.compound_server.specs.declared.client_end.ClientEnd.TheVariants.{Lapsed, Gone}
use Rattle.compound_server.specs.declared.clients.TheConstants.{USE_NON_PNFS, CONFIRMED_R}
use Rattle.compound_server.specs.declared.who.Who.{Who}
use Rattle.compound_server.specs.State.{State, Given, Parting, answered_by, refusal, with_sessions, without_one, without_all}

abbrev pub one_result : {X : Type 0} → State X → (tag : List ℕ) → Res → Given X
one_result s tag res = answered_by s tag (res ∷ [])

-- ---- EXCHANGE_ID

abbrev pub exchange_flags : Bool → ℕ
exchange_flags confirmed = if confirmed then USE_NON_PNFS + CONFIRMED_R else USE_NON_PNFS

-- the server is known by its volume's tag (own)
abbrev pub exchange_done : (tag_bytes : List ℕ) → (client sequence : ℕ) → Bool → ExchangeIdDone
exchange_done tag_bytes client sequence confirmed = record {
  client = client;
  sequence = sequence;
  flags = exchange_flags confirmed;
  protection = Word;
  minor_id = 0;
  major_id = tag_bytes;
  scope = tag_bytes;
  impl_id = None;
}

-- clients that made room have ended, as by their lease
abbrev pub by_exchanged : {X : Type 0} → Exchanged → Parting X → (tag : List ℕ) → State X → Given X
by_exchanged (exchanged.Client id sequence confirmed ended) parting tag s =
    one_result (without_all parting Lapsed ended s) tag (File (results.ExchangeId (Done (exchange_done (hyper_bytes s.machine.store.tag) id sequence confirmed))))
by_exchanged (exchanged.Refused status) parting tag s = refusal s tag OP_EXCHANGE_ID status

-- no protection of state is served
abbrev pub by_protection : {X : Type 0} → Protection → Parting X → Who → (principal tag : List ℕ) → ExchangeIdArgs → State X → Given X
by_protection (Protected how) parting who principal tag a s = refusal s tag OP_EXCHANGE_ID NOTSUPP
by_protection (Unprotected id) parting who principal tag a s =
    by_exchanged (tables.exchange_answer s.sessions principal a.owner a.verifier who.second) parting tag
    (with_sessions (tables.exchange_table s.sessions principal a.owner a.verifier who.second) s)

unfoldable pub exchange_id : {X : Type 0} → Parting X → Who → (principal tag : List ℕ) → ExchangeIdArgs → State X → Given X
exchange_id parting who principal tag a s = by_protection a.protection parting who principal tag a s

-- ---- CREATE_SESSION

-- what a channel carries: records of at most 73,728 bytes, 16 operations and 16 calls at a time, and no RDMA (own)
abbrev pub channel : ChannelAttrs
channel = record {
  header_padding = 0;
  max_request = RECORD_LIMIT;
  max_response = RECORD_LIMIT;
  max_cached_response = RECORD_LIMIT;
  max_operations = MOST_OPERATIONS;
  max_requests = SLOTS;
  rdma = None;
}

-- of what may be asked for only the back channel is granted
abbrev pub asks_back : (flags : ℕ) → Bool
asks_back flags = not (bit_and flags CONN_BACK_CHAN == 0)

abbrev pub granted_flags : Bool → ℕ
granted_flags asked = if asked then CONN_BACK_CHAN else 0

-- a context under which calls are sealed, by a handle of this profile
abbrev pub is_usable : SecParm → Bool
is_usable (Gss parm) = (parm.service == RPC_GSS_SVC_INTEGRITY) && (length parm.handle_from_client == 8)
is_usable _ = false

abbrev pub handle_in : SecParm → List ℕ
handle_in (Gss parm) = parm.handle_from_client
handle_in _ = []

-- the first that is usable makes the back channel
abbrev pub back_handle : CreateSessionArgs → Option (List ℕ)
back_handle a = if asks_back a.flags then option_map handle_in (find is_usable a.parms) else None

abbrev pub create_done : (session : List ℕ) → (sequence : ℕ) → Bool → CreateSessionDone
create_done session sequence asked =
    record { session = session; sequence = sequence; flags = granted_flags asked; fore = channel; back = channel }

-- the client that this one replaces has ended
abbrev pub by_created : {X : Type 0} → Created → Parting X → (tag : List ℕ) → State X → Given X
by_created (created.Made session sequence ended asked) parting tag s =
    one_result (without_all parting Gone (option_to_list ended) s) tag (File (results.CreateSession (Done (create_done session sequence asked))))
by_created (created.Refused status) parting tag s = refusal s tag OP_CREATE_SESSION status

unfoldable pub create_session : {X : Type 0} → Parting X → Who → (tag : List ℕ) → CreateSessionArgs → State X → Given X
create_session parting who tag a s =
    by_created (tables.create_answer s.sessions a.client a.sequence (asks_back a.flags)) parting tag
    (with_sessions (tables.create_table s.sessions a.client a.sequence (asks_back a.flags) (tables.asked_back who.conn a.program (back_handle a))) s)

-- ---- DESTROY_SESSION and DESTROY_CLIENTID

unfoldable pub destroy_session : {X : Type 0} → (tag : List ℕ) → (session : List ℕ) → State X → Given X
destroy_session tag session s =
    refusal (with_sessions (tables.destroy_table s.sessions session) s) tag OP_DESTROY_SESSION (tables.destroy_answer s.sessions session)

-- a client that has ended leaves what a particular server keeps of it
abbrev pub left_if : {X : Type 0} → Bool → Parting X → (client : ℕ) → State X → State X
left_if true parting client s = without_one parting Gone client s
left_if false parting client s = s

unfoldable pub destroy_clientid : {X : Type 0} → Parting X → (tag : List ℕ) → (client : ℕ) → State X → Given X
destroy_clientid parting tag client s =
    let holds = holds_open s.machine.opens client in
    let status = tables.destroy_client_answer s.sessions client holds in
    refusal (left_if (status.number == 0) parting client (with_sessions (tables.destroy_client_table s.sessions client holds) s)) tag
    OP_DESTROY_CLIENTID status
