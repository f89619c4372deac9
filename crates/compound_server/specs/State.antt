-- A server without its contexts, as plain data, and what a COMPOUND gives. RFC 8881 sections 2.4 and 16.2.
use Rattle.std.specs.Prelude.{◌≡◌, ℕ, ◌+◌, ◌≤◌, false, List, [], ◌∷◌}
use Rattle.file_server.specs.Answering.{machine_of, nothing_held}
use Rattle.file_server.specs.Machine.{Machine}
use Rattle.nfs_base.specs.declared.limits.TheConstants.{MOST_OPERATIONS}
use Rattle.nfs_base.specs.declared.status.Status.{Status}
use Rattle.nfs_compound.specs.declared.res.Res.{Res}
use Rattle.nfs_compound.specs.Results.{reply}
use Rattle.nfs_compound.specs.Walk.{last_status}
use Rattle.server_volume.specs.declared.used.Used.{Used}
use Rattle.server_volume.specs.Choices.{Choice, Agrees}
use Rattle.sess_slots.specs.Table.{SessionTable, numbers_made}
use Rattle.state_ids.specs.Opens.{without_client}
use Rattle.compound_server.specs.declared.client_end.ClientEnd.{ClientEnd}
use Rattle.compound_server.specs.declared.compounds.Reply.{Reply}
use Rattle.compound_server.specs.declared.server.Server.{Server}
use Rattle.compound_server.specs.Course.{Course}
use Rattle.compound_server.specs.Refusals.{refused}

-- the files with the opens and what a particular server has, and the clients with their sessions
pub record State (X : Type 0) : Type 0 where
  pub machine : Machine X
  pub sessions : SessionTable

abbrev pub state_of : {D X : Type 0} → (D → ℕ) → Server D X → State X
state_of size server = record { machine = machine_of size server.files; sessions = server.sessions }

-- no operation was evaluated yet
abbrev pub begun : {X : Type 0} → State X → Course X
begun s = record { going = record { machine = s.machine; held = nothing_held; used = []; has_read = false }; sessions = s.sessions }

abbrev pub with_own : {X : Type 0} → X → State X → State X
with_own x s = record s { machine = record s.machine { extra = x } }

abbrev pub with_sessions : {X : Type 0} → SessionTable → State X → State X
with_sessions table s = record s { sessions = table }

-- what a client's end leaves of what a particular server has, and what a second does to it
pub record Parting (X : Type 0) : Type 0 where
  pub leave : ℕ → ClientEnd → X → X
  pub lapse : ℕ → X → X

-- clients have ended: their opens are gone
abbrev pub without_one : {X : Type 0} → Parting X → ClientEnd → ℕ → State X → State X
without_one parting why client s =
    record s { machine = record s.machine { opens = without_client s.machine.opens client; extra = parting.leave client why s.machine.extra } }

unfoldable pub without_all : {X : Type 0} → Parting X → ClientEnd → List ℕ → State X → State X
without_all parting why [] s = s
without_all parting why (client ∷ clients) s = without_all parting why clients (without_one parting why client s)

-- what a COMPOUND gives: the state after it, its calls on the volume, and the reply
pub record Given (X : Type 0) : Type 0 where
  pub state : State X
  pub used : List Used
  pub body : List ℕ

abbrev pub given_of : {D X : Type 0} → (D → ℕ) → Server D X → Reply → Given X
given_of size server told = record { state = state_of size server; used = told.used; body = told.body }

-- these results, and no call on the volume
abbrev pub answered_by : {X : Type 0} → State X → (tag : List ℕ) → List Res → Given X
answered_by s tag results =
    record { state = s; used = []; body = reply.spell (record { status = last_status results; tag = tag; results = results }) }

-- one operation, answered by a status alone
abbrev pub refusal_bytes : (tag : List ℕ) → (op : ℕ) → Status → List ℕ
refusal_bytes tag op status =
    reply.spell (record { status = last_status (refused op status ∷ []); tag = tag; results = refused op status ∷ [] })

abbrev pub refusal : {X : Type 0} → State X → (tag : List ℕ) → (op : ℕ) → Status → Given X
refusal s tag op status = answered_by s tag (refused op status ∷ [])

-- At each choice that agrees with the calls that were made, the model gives this.
abbrev pub Gives : {X : Type 0} → (Choice → Given X) → State X → List Used → List ℕ → Type 0
Gives told state used body = (choice : Choice) → Agrees choice used → told choice ≡ record { state = state; used = used; body = body }

-- How many numbers a COMPOUND gives out at most. It lands no byte of a copy.
pub record IsCounted {D X : Type 0} (given lands : X → ℕ) (old new : Server D X) : Type 0 where
  pub opens : new.files.opens.made ≤ old.files.opens.made + MOST_OPERATIONS
  pub own : given new.files.extra ≤ given old.files.extra + MOST_OPERATIONS
  pub clients : numbers_made new.sessions ≤ numbers_made old.sessions + 1
  pub landed : lands new.files.extra ≡ lands old.files.extra

-- How many numbers so many operations behind SEQUENCE give out at most. The sessions with their slots stay, and no byte of a
-- copy lands.
pub record AreCounted {D X : Type 0} (given lands : X → ℕ) (operations : ℕ) (old new : Server D X) : Type 0 where
  pub opens : new.files.opens.made ≤ old.files.opens.made + operations
  pub own : given new.files.extra ≤ given old.files.extra + operations
  pub sessions : new.sessions.sessions ≡ old.sessions.sessions
  pub numbers : numbers_made new.sessions ≡ numbers_made old.sessions
  pub landed : lands new.files.extra ≡ lands old.files.extra

-- What a client's end leaves as it was, the opens and the server's own apart: of these no number is given out, and no byte of a
-- copy lands.
pub record LeavesRest {D X : Type 0} (given lands : X → ℕ) (old new : Server D X) : Type 0 where
  pub volume : new.files.volume ≡ old.files.volume
  pub sessions : new.sessions ≡ old.sessions
  pub opens : new.files.opens.made ≡ old.files.opens.made
  pub own : given new.files.extra ≤ given old.files.extra
  pub landed : lands new.files.extra ≡ lands old.files.extra
