-- What every list of calls keeps of the tables.
use Rattle.std.proofs.Common.{◌≡◌, ℕ, suc, ◌+◌, ◌*◌, ◌<◌, ◌≤◌, ◌^◌, Bool, true, false, List, [], ◌∷◌, ◌++◌, length, map, Option, Some, None, refl, arith, length-append}
use Rattle.std.specs.Prelude.{◌==◌, ◌||◌, filter, not, if◌then◌else◌, nat_le, is_some, option_to_list}
use Rattle.std.proofs.lemmas.Bool.{leb-false}
use Rattle.nfs_base.specs.declared.limits.TheConstants.{MOST_SESSIONS}
use Rattle.sess_slots.specs.declared.answers.Back.{Back}
use Rattle.sess_slots.specs.declared.client.Client.{Client}
use Rattle.sess_slots.specs.declared.session.Session.{Session}
use Rattle.sess_slots.specs.Slots.{next_number, slots_after}
use Rattle.sess_slots.specs.Table.{SessionTable, client_of_id, without, is_among, has_id}
use Rattle.sess_slots.specs.Begins.{renewed, client_at}
use Rattle.sess_slots.specs.Clients.{known_client, beside, gives_way, ended_for_room, is_full, with_client, exchange_table_at, old_client, with_session, create_table_at, confirmed_by, new_client, next_client, new_session, has_session, destroy_client_table_at}
use Rattle.sess_slots.specs.Lives.{TableCall, Exchanges, Creates, Destroys, Finishes, Reclaims, EndsClient, after_one, after_all, no_clients}
use Rattle.sess_slots.specs.declared.client.CreatedSession.{CreatedSession}
use Rattle.sess_slots.proofs.Counting.{filter_most, changed_most}
use Rattle.sess_slots.proofs.Pairs.{ArePaired, none_paired, paired_filter, paired_changed, paired_exchange, paired_create}
use Rattle.sess_slots.proofs.Rising.{Rising, rising_append, rising_filter, keys_changed}

pub record IsKept (table : SessionTable) : Type 0 where
  pub most : length table.sessions ≤ MOST_SESSIONS
  pub clients : Rising 0 (map (λ (c : Client). c.id) table.clients) (suc (table.boot * 2 ^ 32 + table.clients_made))
  pub sessions : Rising 0 (map (λ (s : Session). s.number) table.sessions) (suc table.sessions_made)
  pub paired : ArePaired table.clients

-- clients end with their sessions
without_kept : (ids : List ℕ) (table : SessionTable) → IsKept table → IsKept (without ids table)
without_kept ids table h = record {
  most = let fewer = filter_most (λ (s : Session). not (is_among ids s.client)) table.sessions in omega (arith, fewer, h.most);
  clients = rising_filter (λ c. c.id) (λ c. not (is_among ids c.id)) 0 table.clients (suc (table.boot * 2 ^ 32 + table.clients_made)) h.clients;
  sessions = rising_filter (λ s. s.number) (λ s. not (is_among ids s.client)) 0 table.sessions (suc table.sessions_made) h.sessions;
  paired = paired_filter (λ c. not (is_among ids c.id)) table.clients h.paired;
}

with_client_kept : (table : SessionTable) (principal owner verifier : List ℕ) (now : ℕ) → is_full (beside table.clients principal owner) now ≡ false → IsKept table → IsKept (with_client table principal owner verifier now)
with_client_kept table principal owner verifier now room h =
    let others : List Client = beside table.clients principal owner in
    let stays = without_kept (ended_for_room others now) (record table { clients = others }) (record {
      most = h.most;
      clients = rising_filter (λ (c : Client). c.id) (λ c. not (gives_way principal owner c)) 0 table.clients (suc (table.boot * 2 ^ 32 + table.clients_made)) h.clients;
      sessions = h.sessions;
      paired = paired_filter (λ c. not (gives_way principal owner c)) table.clients h.paired;
    }) in
    record {
      most = stays.most;
      clients = rising_append (λ (c : Client). c.id) 0 (filter (λ (c : Client). not (is_among (ended_for_room others now) c.id)) others) (new_client (next_client table) principal owner verifier now) (suc (table.boot * 2 ^ 32 + table.clients_made)) (suc (table.boot * 2 ^ 32 + (table.clients_made + 1))) (omega arith) (omega arith) stays.clients;
      sessions = stays.sessions;
      paired = paired_exchange table.clients (next_client table) principal owner verifier now room h.paired;
    }

exchange_room : (full : Bool) (table : SessionTable) (principal owner verifier : List ℕ) (now : ℕ) → is_full (beside table.clients principal owner) now ≡ full → IsKept table → IsKept (if full then table else with_client table principal owner verifier now)
exchange_room true table principal owner verifier now room h = h
exchange_room false table principal owner verifier now room h = with_client_kept table principal owner verifier now room h

exchange_kept : (known : Option Client) (table : SessionTable) (principal owner verifier : List ℕ) (now : ℕ) → IsKept table → IsKept (exchange_table_at known table principal owner verifier now)
exchange_kept (Some c) table principal owner verifier now h = h
exchange_kept None table principal owner verifier now h = exchange_room (is_full (beside table.clients principal owner) now) table principal owner verifier now refl h

session_kept : (table : SessionTable) (c : Client) (client sequence : ℕ) (asked : Bool) (back : Option Back) → client_of_id table.clients client ≡ Some c → nat_le MOST_SESSIONS (length table.sessions) ≡ false → IsKept table → IsKept (with_session table c client sequence asked back)
session_kept table c client sequence asked back found room h =
    let old : List ℕ = option_to_list (old_client table.clients c) in
    let made : CreatedSession = record { number = table.sessions_made + 1; asked = asked } in
    let added : List Session = table.sessions ++ new_session (table.sessions_made + 1) client back ∷ [] in
    let same = keys_changed (λ (d : Client). d.id) (λ d. d.id == client) (λ d. record d { last = sequence; created = Some made }) table.clients (λ d. refl) in
    record {
      most =
          let below : length table.sessions < MOST_SESSIONS = leb-false MOST_SESSIONS (length table.sessions) room in
          let more : length added ≡ length table.sessions + 1 = length-append table.sessions (new_session (table.sessions_made + 1) client back ∷ []) in
          let fewer = filter_most (λ (s : Session). not (is_among old s.client)) added in
          omega (arith, below, more, fewer);
      clients = rising_filter (λ (d : Client). d.id) (λ d. not (is_among old d.id)) 0 (confirmed_by client sequence made table.clients) (suc (table.boot * 2 ^ 32 + table.clients_made)) (rw same h.clients);
      sessions =
          rising_filter (λ (s : Session). s.number) (λ s. not (is_among old s.client)) 0 added (suc (table.sessions_made + 1))
          (rising_append (λ (s : Session). s.number) 0 table.sessions (new_session (table.sessions_made + 1) client back) (suc table.sessions_made) (suc (table.sessions_made + 1)) (omega arith) (omega arith) h.sessions);
      paired = paired_create table.clients c client sequence made found h.paired;
    }

create_room : (full : Bool) (table : SessionTable) (c : Client) (client sequence : ℕ) (asked : Bool) (back : Option Back) → client_of_id table.clients client ≡ Some c → nat_le MOST_SESSIONS (length table.sessions) ≡ full → IsKept table → IsKept (if full then table else with_session table c client sequence asked back)
create_room true table c client sequence asked back found room h = h
create_room false table c client sequence asked back found room h = session_kept table c client sequence asked back found room h

create_kept : (found : Option Client) (table : SessionTable) (client sequence : ℕ) (asked : Bool) (back : Option Back) → client_of_id table.clients client ≡ found → IsKept table → IsKept (create_table_at found table client sequence asked back)
create_kept None table client sequence asked back is h = h
create_kept (Some c) table client sequence asked back is h =
    elim (sequence == next_number c.last) as (λ b. IsKept (if b then (if nat_le MOST_SESSIONS (length table.sessions) then table else with_session table c client sequence asked back) else table)) [
      | true ↦ create_room (nat_le MOST_SESSIONS (length table.sessions)) table c client sequence asked back is refl h
      | false ↦ h
    ]

renewed_paired : (found : Option ℕ) (now : ℕ) (clients : List Client) → ArePaired clients → ArePaired (renewed found now clients)
renewed_paired None now clients h = h
renewed_paired (Some id) now clients h = paired_changed (λ (c : Client). c.id == id) (λ c. record c { used = now }) clients (λ c. refl) h

renewed_keys : (found : Option ℕ) (now : ℕ) (clients : List Client) → map (λ (c : Client). c.id) (renewed found now clients) ≡ map (λ (c : Client). c.id) clients
renewed_keys None now clients = refl
renewed_keys (Some id) now clients = keys_changed (λ (c : Client). c.id) (λ c. c.id == id) (λ c. record c { used = now }) clients (λ c. refl)

ends_kept : (found : Option Client) (table : SessionTable) (client : ℕ) (busy : Bool) → IsKept table → IsKept (destroy_client_table_at found table client busy)
ends_kept None table client busy h = h
ends_kept (Some c) table client true h = h
ends_kept (Some c) table client false h = without_kept (client ∷ []) table h

one_kept : (table : SessionTable) (call : TableCall) → IsKept table → IsKept (after_one table call)
one_kept table (Exchanges principal owner verifier now) h = exchange_kept (known_client table.clients principal owner verifier) table principal owner verifier now h
one_kept table (Creates client sequence asked back) h = create_kept (client_of_id table.clients client) table client sequence asked back refl h
one_kept table (Destroys id) h = record {
  most = let fewer = filter_most (λ (s : Session). not (has_id table.boot id s)) table.sessions in omega (arith, fewer, h.most);
  clients = h.clients;
  sessions = rising_filter (λ (s : Session). s.number) (λ s. not (has_id table.boot id s)) 0 table.sessions (suc table.sessions_made) h.sessions;
  paired = h.paired;
}
one_kept table (Finishes place root reply now) h =
    let f : Session → Session = λ s. record s { slots = slots_after s.slots place.slot root reply } in
    record {
      most = rw (changed_most (λ (s : Session). s.number == place.session) f table.sessions) h.most;
      clients = rw (renewed_keys (client_at table place.session) now table.clients) h.clients;
      sessions = rw (keys_changed (λ (s : Session). s.number) (λ s. s.number == place.session) f table.sessions (λ s. refl)) h.sessions;
      paired = renewed_paired (client_at table place.session) now table.clients h.paired;
    }
one_kept table (Reclaims client) h = record {
  most = h.most;
  clients = rw (keys_changed (λ (c : Client). c.id) (λ c. c.id == client) (λ c. record c { reclaimed = true }) table.clients (λ c. refl)) h.clients;
  sessions = h.sessions;
  paired = paired_changed (λ (c : Client). c.id == client) (λ c. record c { reclaimed = true }) table.clients (λ c. refl) h.paired;
}
one_kept table (EndsClient client holds) h = ends_kept (client_of_id table.clients client) table client (holds || has_session table client) h

pub all_kept : (table : SessionTable) (calls : List TableCall) → IsKept table → IsKept (after_all table calls)
all_kept table [] h = h
all_kept table (call ∷ calls) h = all_kept (after_one table call) calls (one_kept table call h)

pub new_kept : (boot : ℕ) → IsKept (no_clients boot)
new_kept boot = record { most = omega arith; clients = omega arith; sessions = omega arith; paired = none_paired }
