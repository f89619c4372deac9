-- What each of the three ends may do in a step, and where the records go that it sends. Own definitions.
use Rattle.std.specs.Prelude.{ℕ, ◌==◌, List, Option, Some, None, if◌then◌else◌}
use Rattle.copy_model.specs.Volume.{Volume}
use Rattle.nfs_base.specs.declared.copy_spec.CopySpec.{CopySpec}
use Rattle.nfs_base.specs.declared.seal.End.{End}
use Rattle.nfs_base.specs.declared.seal.End.TheVariants as ends
use Rattle.nfs_base.specs.declared.side.Side.{Side}
use Rattle.nfs_base.specs.declared.side.Side.TheVariants as sides
use Rattle.outbox.specs.declared.outgoing.Outbox.{Outbox}
use Rattle.outbox.specs.declared.outgoing.To.{To}
use Rattle.outbox.specs.declared.outgoing.To.TheVariants as to
use Rattle.volume_stops.specs.declared.kept.Kept.{Kept}
use Rattle.wire_machine.specs.declared.port.Port.{Port}
use Rattle.wire_machine.specs.declared.port.Port.TheVariants as ports

-- ---- what an end does

-- a source takes a record on a connection, or looks at the clock
pub data SourceAct : Type 0 where
  SourceTakes : (conn : ℕ) (bytes : List ℕ) → SourceAct
  SourceTicks : SourceAct

-- so does a destination, one of whose workers makes a step, or hears an answer of the source
pub data DestAct : Type 0 where
  DestTakes : (conn : ℕ) (bytes : List ℕ) → DestAct
  Works : (worker : ℕ) → DestAct
  Hears : (worker : ℕ) (bytes : List ℕ) → DestAct
  DestTicks : DestAct

-- a client carries out a command, takes a record from a server, or looks at the clock
pub data ClientAct : Type 0 where
  Writes : (side : Side) (file off : ℕ) (bytes : List ℕ) → ClientAct
  Commits : (side : Side) (file : ℕ) → ClientAct
  Begins : (copy : ℕ) (spec : CopySpec) → ClientAct
  Asks : (copy : ℕ) → ClientAct
  Cancels : (copy : ℕ) → ClientAct
  Retries : ClientAct
  ClientTakes : (from : Side) (bytes : List ℕ) → ClientAct
  ClientTicks : ClientAct

-- Three machines with their states, and draws. Each machine says of an act in a second, from a state and with these draws,
-- which state and draws it may leave and what it gives. Each server says so too of an act in which its machine stops, so that it is
-- opened anew, and of a stop between two acts, with what the crash kept of a commit. The volume and the opening of a server are read
-- off its state.
pub record Machines (S T C W : Type 0) : Type 1 where
  pub source : SourceAct → (now : ℕ) → S → W → S → W → Outbox → Type 0
  pub dest : DestAct → (now : ℕ) → T → W → T → W → Outbox → Type 0
  pub client : ClientAct → (now : ℕ) → C → W → C → W → Outbox → Type 0
  pub source_stops : SourceAct → (now : ℕ) → S → W → S → W → Outbox → Kept → Type 0
  pub dest_stops : DestAct → (now : ℕ) → T → W → T → W → Outbox → Kept → Type 0
  pub source_crashes : S → S → Kept → Type 0
  pub dest_crashes : T → T → Kept → Type 0
  pub source_volume : S → Volume
  pub dest_volume : T → Volume

-- ---- where a record goes that an end sends. A server answers on the connection of the call; the destination's workers call
-- the source each on the connection of its number; the client calls the servers. Elsewhere nothing is sent.

abbrev pub answered_by_source : ℕ → Port
answered_by_source conn = if conn == 0 then ports.Client sides.Source else ports.Worker conn

abbrev pub called_by_client : End → Option Port
called_by_client ends.Source = Some (ports.Source 0)
called_by_client ends.Dest = Some ports.Dest
called_by_client ends.Client = None

abbrev pub port_of : End → To → Option Port
port_of ends.Source (to.Conn conn) = Some (answered_by_source conn)
port_of ends.Source (to.Source worker) = None
port_of ends.Source (to.Server server) = None
port_of ends.Dest (to.Conn conn) = Some (ports.Client sides.Dest)
port_of ends.Dest (to.Source worker) = Some (ports.Source worker)
port_of ends.Dest (to.Server server) = None
port_of ends.Client (to.Conn conn) = None
port_of ends.Client (to.Source worker) = None
port_of ends.Client (to.Server server) = called_by_client server

-- the end at which it goes in
abbrev pub end_at : Port → End
end_at (ports.Source conn) = ends.Source
end_at ports.Dest = ends.Dest
end_at (ports.Worker worker) = ends.Dest
end_at (ports.Client from) = ends.Client
