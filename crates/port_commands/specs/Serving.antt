-- How the servers speak of what they serve. Own definitions.
use Rattle.std.specs.Prelude.{ℕ, Option, List}
use Rattle.block_file.specs.Opened.{Opened}
use Rattle.gss_ctx.specs.Seals.{Mic}
use Rattle.gss_mech.specs.declared.mechanism.Accepted.{Accepted}
use Rattle.server_volume.specs.Store.{Seat}
use Rattle.dest_core.specs.declared.destination.Destination.{Destination}
use Rattle.dest_jobs.specs.declared.carried.Carried.{Carried}
use Rattle.dest_server.specs.Desk as dests
use Rattle.dest_server.specs.declared.serving.DestService.{DestService}
use Rattle.session_server.specs.declared.host.Host.{Host}
use Rattle.source_server.specs.Machine.{source_words, words_of}
use Rattle.source_server.specs.Serving.{NetWords, ServerWords}
use Rattle.source_server.specs.declared.machine.SourceMachine.{SourceMachine}
use Rattle.streams.specs.declared.draws.Drawn.{Drawn}
use Rattle.command_line.specs.declared.command.DestOrder.{DestOrder}
use Rattle.volume_format.specs.DiskWords.{DiskWords}
use Rattle.run_ends.specs.Setting.{dest_name, dest_place, dest_source, source_peers, source_place}

-- How servers speak of what they serve: their net's words, and those of the source and of the destination as machines.
pub record ServiceWords (D K J N : Type 0) : Type 1 where
  pub net : NetWords N
  pub source : ServerWords D K
  pub dest : ServerWords D J

abbrev pub service_words : {D K J N : Type 0} → NetWords N → ServerWords D K → ServerWords D J → ServiceWords D K J N
service_words net source dest = record { net = net; source = source; dest = dest }

-- the destination by this mechanism, and by what its disk, its mechanism and its draws tell of themselves, with the source, the principal and
-- the location that the destination of every schedule has
abbrev pub dest_by : {D M W : Type 0} → DiskWords D → M → (Opened D → Seat) → Mic → (List ℕ → ℕ → List ℕ → List ℕ)
    → (M → List ℕ → List ℕ → Option (List ℕ)) → (M → List ℕ → List ℕ → Option Accepted) → (M → List ℕ → List ℕ → List ℕ → Option (List ℕ))
    → (W → Drawn → W → Type 0) → ServerWords D (Host D (Destination M) Carried)
dest_by d mech seat mic derived started accepted finished gives =
    dests.dest_words d (dests.words_of d.told d.size seat mic derived started accepted finished gives) mech dest_source dest_name dest_place

-- the source by this mechanism, clock and draws, and by what its disk, its mechanism and its draws tell of themselves, with the location and
-- the one peer that the source of every schedule has
abbrev pub source_by : {D M C W : Type 0} → DiskWords D → M → C → W → (Opened D → Seat) → Mic → (List ℕ → ℕ → List ℕ → List ℕ)
    → (M → List ℕ → List ℕ → Option Accepted) → (W → Drawn → W → Type 0) → ServerWords D (SourceMachine D M C W)
source_by d mech clock draws seat mic derived accepted gives =
    source_words d (words_of d.told d.size seat mic derived accepted gives) mech clock draws source_peers source_place

-- what a destination's server is asked to do
abbrev pub dest_service_of : DestOrder → DestService
dest_service_of order = record { conns = order.service.conns; workers = order.workers; port = order.source_port }
