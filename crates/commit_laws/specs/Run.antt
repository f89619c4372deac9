-- A server from an opening of its volume on, through any number of further openings. Own definitions.
use Rattle.std.specs.Prelude.{◌≡◌, ℕ, suc, ◌<◌, ◌^◌, Option, List, []}
use Rattle.block_file.specs.Opened.{IsFresh}
use Rattle.copy_model.specs.Effect.{Crashes, IsAllowed, after}
use Rattle.copy_model.specs.Volume.{Kept}
use Rattle.gss_mech.specs.declared.mechanism.Accepted.{Accepted}
use Rattle.outbox.specs.declared.outgoing.Outbox.{Outbox}
use Rattle.server_volume.specs.Choices.{choice_of}
use Rattle.server_volume.specs.Store.{Store}
use Rattle.server_volume.specs.declared.used.Used.{Used}
use Rattle.session_server.specs.Host.{Codes, HostState, Rules}
use Rattle.session_server.specs.Steps.{IsTurn, ticked}
use Rattle.streams.specs.declared.draws.Drawn.{Drawn}
use Rattle.commit_laws.specs.Calling.{CameByCalls}
use Rattle.commit_laws.specs.Executing.{Executed, in_record}

-- What happens to a server: it takes a record that comes on a connection in a second, and gives this; a second comes by
-- itself; it works for itself, with these calls on its volume; or it stops after these calls, maybe with a commit of a file
-- under way, and its volume is opened anew.
pub data Event : Type 0 where
  Takes : (conn : ℕ) (bytes : List ℕ) (now : ℕ) (out : Outbox) → Event
  Ticks : (now : ℕ) → Event
  Works : (used : List Used) → Event
  Stops : (used : List Used) (under : Option ℕ) (kept : Kept) → Event

-- the calls on the volume that were made in it
abbrev pub used_in : Event → List Used
used_in (Takes conn bytes now out) = out.used
used_in (Ticks now) = []
used_in (Works used) = used
used_in (Stops used under kept) = used

-- the operations that were executed in it
abbrev pub executed_in : {X C : Type 0} → Rules X C → Codes → Event → HostState X C → List (Executed X)
executed_in rules codes (Takes conn bytes now out) s = in_record rules codes (choice_of out.used) conn bytes now s
executed_in rules codes (Ticks now) s = []
executed_in rules codes (Works used) s = []
executed_in rules codes (Stops used under kept) s = []

abbrev pub store_of : {X C : Type 0} → HostState X C → Store
store_of s = s.state.machine.store

-- It stopped after these calls. What was opened then is what a crash leaves of the volume, under the next number.
pub record Stopped (old new : Store) (used : List Used) (under : Option ℕ) (kept : Kept) : Type 0 where
  pub left : Store
  pub calls : CameByCalls old left [] used
  pub allowed : IsAllowed left.volume (Crashes under kept)
  pub opened : new.volume ≡ after left.volume (Crashes under kept)
  pub numbered : new.volume.boot < 2 ^ 32

-- how the server comes from one state to the next
abbrev pub Happens : {X C W : Type 0} → Rules X C → Codes → (List ℕ → List ℕ → Option Accepted) → (W → Drawn → W → Type 0) → Event → HostState X C → HostState X C → Type 0
Happens {X} {C} {W} rules codes accepted gives (Takes conn bytes now out) s t =
    (before : W) × ((after : W) × IsTurn rules codes accepted gives conn bytes now s before after (record { host = t; out = out }))
Happens rules codes accepted gives (Ticks now) s t = t ≡ ticked rules now s
Happens rules codes accepted gives (Works used) s t = CameByCalls (store_of s) (store_of t) [] used
Happens rules codes accepted gives (Stops used under kept) s t = Stopped (store_of s) (store_of t) used under kept

-- A run begins with a volume that was just opened.
pub record IsRun {X C W : Type 0} (rules : Rules X C) (codes : Codes) (accepted : List ℕ → List ℕ → Option Accepted) (gives : W → Drawn → W → Type 0)
    (host : ℕ → HostState X C) (event : ℕ → Event) : Type 0 where
  pub fresh : IsFresh (store_of (host 0)).volume
  pub happens : (k : ℕ) → Happens rules codes accepted gives (event k) (host k) (host (suc k))
