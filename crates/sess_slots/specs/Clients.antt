-- EXCHANGE_ID, CREATE_SESSION and what ends clients and sessions. RFC 8881 sections 18.35, 18.36, 18.37, 18.50
-- and 18.51, with clients by principal and owner.
use Rattle.std.specs.Prelude.{ℕ, ◌+◌, ◌-◌, ◌==◌, ◌++◌, ◌&&◌, ◌||◌, Bool, true, false, List, [], ◌∷◌, Option, None, Some, not, is_some, if◌then◌else◌, bytes_eq, find, filter, map, option_map, option_to_list, replicate, length, nat_le, nat_lt}
use Rattle.std.specs.List.{list_any}
use Rattle.nfs_base.specs.declared.limits.TheConstants.{SLOTS, MOST_CLIENTS, MOST_SESSIONS}
use Rattle.nfs_base.specs.declared.status.Status.{Status}
use Rattle.nfs_base.specs.declared.status.TheConstants.Status.{OK, DELAY, STALE_CLIENTID, BADSESSION, COMPLETE_ALREADY, SEQ_MISORDERED, CLIENTID_BUSY}
use Rattle.sess_slots.specs.declared.answers.Exchanged.{Exchanged}
use Rattle.sess_slots.specs.declared.answers.Exchanged.TheVariants.{Client as known_as, Refused as exchange_refused}
use Rattle.sess_slots.specs.declared.answers.Created.{Created}
use Rattle.sess_slots.specs.declared.answers.Created.TheVariants.{Made, Refused as create_refused}
use Rattle.sess_slots.specs.declared.answers.Back.{Back}
use Rattle.sess_slots.specs.declared.client.Client.{Client}
use Rattle.sess_slots.specs.declared.client.CreatedSession.{CreatedSession}
use Rattle.nfs_base.specs.Changed.{changed}
use Rattle.sess_slots.specs.declared.session.Session.{Session}
use Rattle.sess_slots.specs.Slots.{next_number, fresh_slot}
use Rattle.sess_slots.specs.Table.{SessionTable, client_id, session_id, client_of_id, session_of_id, has_id, without}
use Rattle.sess_slots.specs.Begins.{is_idle}

-- a client belongs to a principal and an owner
abbrev pub is_of : List ℕ → List ℕ → Client → Bool
is_of principal owner c = bytes_eq c.principal principal && bytes_eq c.owner owner

-- a client is confirmed by its first session
abbrev pub is_confirmed : Client → Bool
is_confirmed c = is_some c.created

-- ---- EXCHANGE_ID

-- the pair's client that has this verifier
abbrev pub known_client : List Client → List ℕ → List ℕ → List ℕ → Option Client
known_client clients principal owner verifier =
    find (λ c. is_of principal owner c && bytes_eq c.verifier verifier) clients

-- a pair has one unconfirmed client at most: it gives way to a new one
abbrev pub gives_way : List ℕ → List ℕ → Client → Bool
gives_way principal owner c = is_of principal owner c && not (is_confirmed c)

-- the clients beside a new one of this pair
abbrev pub beside : List Client → List ℕ → List ℕ → List Client
beside clients principal owner = filter (λ c. not (gives_way principal owner c)) clients

-- those of them that are ended to make room: where there are 16, the ones without use for 90 seconds
abbrev pub ended_for_room : List Client → ℕ → List ℕ
ended_for_room clients now =
    if nat_lt (length clients) MOST_CLIENTS then [] else map (λ c. c.id) (filter (is_idle now) clients)

-- whether the clients are as many as there may be, and none of them can be ended
abbrev pub is_full : List Client → ℕ → Bool
is_full clients now = nat_le MOST_CLIENTS (length clients - length (ended_for_room clients now))

-- a client that was just made: it has no session, and its lease begins
abbrev pub new_client : ℕ → List ℕ → List ℕ → List ℕ → ℕ → Client
new_client id principal owner verifier now =
    record { id = id; principal = principal; owner = owner; verifier = verifier; last = 0; created = None; reclaimed = false; used = now }

-- the ID that the next client gets
abbrev pub next_client : SessionTable → ℕ
next_client table = client_id table.boot (table.clients_made + 1)

abbrev pub exchange_answer_at : Option Client → SessionTable → List ℕ → List ℕ → ℕ → Exchanged
exchange_answer_at (Some c) table principal owner now = known_as c.id (next_number c.last) (is_confirmed c) []
exchange_answer_at None table principal owner now =
    let others = beside table.clients principal owner in
    if is_full others now then exchange_refused DELAY
    else known_as (next_client table) 1 false (ended_for_room others now)

-- The pair's client with this verifier is answered; otherwise a new one is made, unless the table is full.
abbrev pub exchange_answer : SessionTable → List ℕ → List ℕ → List ℕ → ℕ → Exchanged
exchange_answer table principal owner verifier now =
    exchange_answer_at (known_client table.clients principal owner verifier) table principal owner now

-- the table with a client more, and without those that made room for it
abbrev pub with_client : SessionTable → List ℕ → List ℕ → List ℕ → ℕ → SessionTable
with_client table principal owner verifier now =
    let others = beside table.clients principal owner in
    let stay = without (ended_for_room others now) (record table { clients = others }) in
    record stay {
      clients = stay.clients ++ new_client (next_client table) principal owner verifier now ∷ [];
      clients_made = table.clients_made + 1;
    }

abbrev pub exchange_table_at : Option Client → SessionTable → List ℕ → List ℕ → List ℕ → ℕ → SessionTable
exchange_table_at (Some c) table principal owner verifier now = table
exchange_table_at None table principal owner verifier now =
    if is_full (beside table.clients principal owner) now then table
    else with_client table principal owner verifier now

abbrev pub exchange_table : SessionTable → List ℕ → List ℕ → List ℕ → ℕ → SessionTable
exchange_table table principal owner verifier now =
    exchange_table_at (known_client table.clients principal owner verifier) table principal owner verifier now

-- ---- CREATE_SESSION

-- the pair's confirmed client, which ends when another client of the pair gets its first session
abbrev pub old_client : List Client → Client → Option ℕ
old_client clients c =
    if is_confirmed c then None
    else option_map (λ o. o.id) (find (λ o. is_of c.principal c.owner o && is_confirmed o) clients)

-- a session that was just made: nothing was taken on its 16 slots
abbrev pub new_session : ℕ → ℕ → Option Back → Session
new_session number client back =
    record { number = number; client = client; back = back; slots = replicate SLOTS fresh_slot }

-- What CREATE_SESSION meets at a client; `asked` tells whether it asks for a back channel: its answer again, or a refusal, or a session that is to be made
abbrev pub again_answer : Option CreatedSession → ℕ → ℕ → Created
again_answer None boot sequence = create_refused SEQ_MISORDERED
again_answer (Some made) boot sequence = Made (session_id boot made.number) sequence None made.asked

abbrev pub create_answer_at : Option Client → SessionTable → ℕ → Bool → Created
create_answer_at None table sequence asked = create_refused STALE_CLIENTID
create_answer_at (Some c) table sequence asked =
    if sequence == next_number c.last then
    (if nat_le MOST_SESSIONS (length table.sessions) then create_refused DELAY
    else Made (session_id table.boot (table.sessions_made + 1)) sequence (old_client table.clients c) asked)
    else (if sequence == c.last then again_answer c.created table.boot sequence else create_refused SEQ_MISORDERED)

abbrev pub create_answer : SessionTable → ℕ → ℕ → Bool → Created
create_answer table client sequence asked = create_answer_at (client_of_id table.clients client) table sequence asked

-- the client has a session of this sequence
abbrev pub confirmed_by : ℕ → ℕ → CreatedSession → List Client → List Client
confirmed_by client sequence made clients =
    changed (λ c. c.id == client) (λ c. record c { last = sequence; created = Some made }) clients

-- the table with a session more: its client is confirmed
abbrev pub session_added : SessionTable → ℕ → ℕ → Bool → Option Back → SessionTable
session_added table client sequence asked back =
    let number = table.sessions_made + 1 in
    record table {
      clients = confirmed_by client sequence (record { number = number; asked = asked }) table.clients;
      sessions = table.sessions ++ new_session number client back ∷ [];
      sessions_made = number;
    }

-- the same, and the pair's old client has ended
abbrev pub with_session : SessionTable → Client → ℕ → ℕ → Bool → Option Back → SessionTable
with_session table c client sequence asked back =
    without (option_to_list (old_client table.clients c)) (session_added table client sequence asked back)

abbrev pub create_table_at : Option Client → SessionTable → ℕ → ℕ → Bool → Option Back → SessionTable
create_table_at None table client sequence asked back = table
create_table_at (Some c) table client sequence asked back =
    if sequence == next_number c.last then
    (if nat_le MOST_SESSIONS (length table.sessions) then table else with_session table c client sequence asked back)
    else table

-- the back channel that a request asks for: with a handle there is one
abbrev pub asked_back : ℕ → ℕ → Option (List ℕ) → Option Back
asked_back conn program back = option_map (λ handle. record { conn = conn; program = program; handle = handle }) back

abbrev pub create_table : SessionTable → ℕ → ℕ → Bool → Option Back → SessionTable
create_table table client sequence asked back = create_table_at (client_of_id table.clients client) table client sequence asked back

-- ---- DESTROY_SESSION, RECLAIM_COMPLETE, DESTROY_CLIENTID

abbrev pub destroy_answer_at : Option Session → Status
destroy_answer_at None = BADSESSION
destroy_answer_at (Some s) = OK

abbrev pub destroy_answer : SessionTable → List ℕ → Status
destroy_answer table id = destroy_answer_at (session_of_id table id)

abbrev pub destroy_table : SessionTable → List ℕ → SessionTable
destroy_table table id =
    record table { sessions = filter (λ s. not (has_id table.boot id s)) table.sessions }

abbrev pub reclaim_answer_at : Option Client → Status
reclaim_answer_at None = STALE_CLIENTID
reclaim_answer_at (Some c) = if c.reclaimed then COMPLETE_ALREADY else OK

abbrev pub reclaim_answer : SessionTable → ℕ → Status
reclaim_answer table id = reclaim_answer_at (client_of_id table.clients id)

-- RECLAIM_COMPLETE came from a client
abbrev pub reclaimed_by : ℕ → List Client → List Client
reclaimed_by id clients = changed (λ c. c.id == id) (λ c. record c { reclaimed = true }) clients

abbrev pub reclaim_table : SessionTable → ℕ → SessionTable
reclaim_table table id = record table { clients = reclaimed_by id table.clients }

abbrev pub has_session : SessionTable → ℕ → Bool
has_session table id = list_any (λ s. s.client == id) table.sessions

abbrev pub destroy_client_answer_at : Option Client → Bool → Status
destroy_client_answer_at None busy = STALE_CLIENTID
destroy_client_answer_at (Some c) busy = if busy then CLIENTID_BUSY else OK

-- a client that has a session or an open is busy
abbrev pub destroy_client_answer : SessionTable → ℕ → Bool → Status
destroy_client_answer table id holds =
    destroy_client_answer_at (client_of_id table.clients id) (holds || has_session table id)

abbrev pub destroy_client_table_at : Option Client → SessionTable → ℕ → Bool → SessionTable
destroy_client_table_at None table id busy = table
destroy_client_table_at (Some c) table id busy =
    if busy then table else without (id ∷ []) table

-- a client that is there and isn't busy is ended
abbrev pub destroy_client_table : SessionTable → ℕ → Bool → SessionTable
destroy_client_table table id holds =
    destroy_client_table_at (client_of_id table.clients id) table id (holds || has_session table id)
