-- The clients and sessions of a server, as contracts see them. RFC 8881 sections 2.4 and 2.10.
use Rattle.std.specs.Prelude.{ℕ, ◌+◌, ◌*◌, ◌^◌, ◌==◌, ◌++◌, Bool, List, Option, not, bytes_eq, find, filter, replicate}
use Rattle.std.specs.Int.{to_be_bytes, w32}
use Rattle.std.specs.List.{list_any}
use Rattle.sess_slots.specs.declared.client.Client.{Client}
use Rattle.sess_slots.specs.declared.session.Session.{Session}

-- The boot number of the server, its clients and its sessions, and how many numbers it gave to each.
pub record SessionTable : Type 0 where
  pub boot : ℕ
  pub clients : List Client
  pub sessions : List Session
  pub clients_made : ℕ
  pub sessions_made : ℕ

-- how many numbers were given out
abbrev pub numbers_made : SessionTable → ℕ
numbers_made table = table.clients_made + table.sessions_made

-- a client's ID: the server's boot number, then the client's number
abbrev pub client_id : ℕ → ℕ → ℕ
client_id boot number = boot * 2 ^ 32 + number

-- a session's ID: the server's boot number, the session's number and eight zero bytes
abbrev pub session_id : ℕ → ℕ → List ℕ
session_id boot number = to_be_bytes w32 boot ++ to_be_bytes w32 number ++ replicate 8 0

abbrev pub client_of_id : List Client → ℕ → Option Client
client_of_id clients id = find (λ c. c.id == id) clients

abbrev pub session_numbered : List Session → ℕ → Option Session
session_numbered sessions number = find (λ s. s.number == number) sessions

-- a session has its ID by the boot number and its own
abbrev pub has_id : ℕ → List ℕ → Session → Bool
has_id boot id s = bytes_eq (session_id boot s.number) id

-- the session that an ID names
abbrev pub session_of_id : SessionTable → List ℕ → Option Session
session_of_id table id = find (has_id table.boot id) table.sessions

abbrev pub is_among : List ℕ → ℕ → Bool
is_among ids id = list_any (λ k. k == id) ids

-- the table once these clients have ended, with their sessions
abbrev pub without : List ℕ → SessionTable → SessionTable
without ids table =
    record table {
      clients = filter (λ c. not (is_among ids c.id)) table.clients;
      sessions = filter (λ s. not (is_among ids s.client)) table.sessions;
    }
