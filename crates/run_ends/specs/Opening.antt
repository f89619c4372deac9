-- A server that was just opened, and one whose machine stopped and that was opened anew. Own definitions.
use Rattle.std.specs.Prelude.{◌≡◌, ℕ, ◌<◌, ◌^◌, List, []}
use Rattle.dest_core.specs.Core as new_dest
use Rattle.dest_core.specs.Stepping.{DestState}
use Rattle.outbox.specs.declared.outgoing.Outbox.{Outbox}
use Rattle.server_volume.specs.declared.used.Used.{Used}
use Rattle.session_server.specs.Host.{HostState}
use Rattle.source_core.specs.Core as new_source
use Rattle.source_core.specs.declared.carried.Carried.{Carried}
use Rattle.source_core.specs.declared.source.Source.{Source}
use Rattle.volume_stops.specs.Stops.{StopsIn}
use Rattle.volume_stops.specs.declared.kept.Kept.{Kept}
use Rattle.run_ends.specs.Setting.{dest_name, dest_place, dest_source, source_peers, source_place}

-- ---- it has its volume, and nobody has called yet

pub record IsNewSource {M : Type 0} (mech : M) (s : HostState (Source M) Carried) : Type 0 where
  pub contexts : s.contexts ≡ new_source.no_contexts s.state.machine.store.volume.boot
  pub opens : s.state.machine.opens ≡ new_source.no_opens s.state.machine.store.volume.boot
  pub sessions : s.state.sessions ≡ new_source.no_sessions s.state.machine.store.volume.boot
  pub extra : s.state.machine.extra ≡ new_source.no_source s.state.machine.store.volume.boot mech source_peers source_place
  pub second : s.second ≡ 0
  pub steps : s.steps ≡ 0

pub record IsNewDest {M : Type 0} (mech : M) (s : DestState M) : Type 0 where
  pub contexts : s.contexts ≡ new_dest.no_contexts s.state.machine.store.volume.boot
  pub opens : s.state.machine.opens ≡ new_dest.no_opens s.state.machine.store.volume.boot
  pub sessions : s.state.sessions ≡ new_dest.no_sessions s.state.machine.store.volume.boot
  pub extra : s.state.machine.extra ≡ new_dest.no_copies s.state.machine.store.volume.boot s.state.machine.store.volume.capacity mech dest_source dest_name dest_place
  pub second : s.second ≡ 0
  pub steps : s.steps ≡ 0

-- ---- Its machine stopped where its step had made these calls on the volume, or between two steps where there are none; then it was
-- opened anew. It has the volume that the stop leaves, and of what it had besides its mechanism alone.

pub record IsSourceAnew {M : Type 0} (s : HostState (Source M) Carried) (used : List Used) (kept : Kept) (t : HostState (Source M) Carried) : Type 0 where
  pub stops : StopsIn s.state.machine.store used kept t.state.machine.store
  pub numbered : t.state.machine.store.volume.boot < 2 ^ 32
  pub opened : IsNewSource s.state.machine.extra.mech t

pub record IsDestAnew {M : Type 0} (s : DestState M) (used : List Used) (kept : Kept) (t : DestState M) : Type 0 where
  pub stops : StopsIn s.state.machine.store used kept t.state.machine.store
  pub numbered : t.state.machine.store.volume.boot < 2 ^ 32
  pub opened : IsNewDest s.state.machine.extra.mech t

-- ---- Nothing of what a step was to send or to tell goes on where its server stops in it. What it accepted, and its calls, stay.

abbrev pub silenced : Outbox → Outbox
silenced out = record out { sent = []; notes = [] }
