-- The world in which a run begins. Own definitions.
use Rattle.std.specs.Prelude.{◌≡◌, ℕ, ◌+◌, ◌*◌, List, [], ◌∷◌, Option, Some, None}
use Rattle.client_core.specs.State.{new_client}
use Rattle.copy_model.specs.Volume.{formatted}
use Rattle.dest_core.specs.Core as new_dest
use Rattle.dest_core.specs.Stepping.{DestState}
use Rattle.nfs_base.specs.declared.side.Side.{Side}
use Rattle.nfs_base.specs.declared.side.Side.TheVariants.{Source, Dest}
use Rattle.source_core.specs.Core as new_source
use Rattle.wire_machine.specs.Runs.{Numbered}
use Rattle.run_ends.specs.Ends.{RunWorld, SourceState}
use Rattle.run_ends.specs.Setting.{dest_name, dest_place, dest_source, source_peers, source_place, user}
use Rattle.run_ends.specs.declared.setting.TheConstants.{SOURCE_TAG, DEST_TAG}
use Rattle.wire_schedule.specs.declared.event.Event.{Event}
use Rattle.wire_schedule.specs.declared.event.Event.TheVariants as kinds

-- ---- servers that were just opened, each on a volume that was just formatted

-- how a server's volume is asked for
pub record Shape : Type 0 where
  pub files : ℕ
  pub blocks : ℕ

pub record IsFreshSource {M : Type 0} (mech : M) (shape : Shape) (s : SourceState M) : Type 0 where
  pub contexts : s.contexts ≡ new_source.no_contexts 1
  pub opens : s.state.machine.opens ≡ new_source.no_opens 1
  pub sessions : s.state.sessions ≡ new_source.no_sessions 1
  pub extra : s.state.machine.extra ≡ new_source.no_source 1 mech source_peers source_place
  pub volume : s.state.machine.store.volume ≡ formatted shape.files (shape.blocks * 4096)
  pub tag : s.state.machine.store.tag ≡ SOURCE_TAG
  pub second : s.second ≡ 0
  pub steps : s.steps ≡ 0

pub record IsFreshDest {M : Type 0} (mech : M) (shape : Shape) (s : DestState M) : Type 0 where
  pub contexts : s.contexts ≡ new_dest.no_contexts 1
  pub opens : s.state.machine.opens ≡ new_dest.no_opens 1
  pub sessions : s.state.sessions ≡ new_dest.no_sessions 1
  pub extra : s.state.machine.extra ≡ new_dest.no_copies 1 (shape.blocks * 4096) mech dest_source dest_name dest_place
  pub volume : s.state.machine.store.volume ≡ formatted shape.files (shape.blocks * 4096)
  pub tag : s.state.machine.store.tag ≡ DEST_TAG
  pub second : s.second ≡ 0
  pub steps : s.steps ≡ 0

-- ---- the first world of a schedule. One that asks for no server has none, and nothing happens in it.

abbrev pub shape_by : Side → Event → Option Shape
shape_by Source (kinds.Volume Source files blocks) = Some (record { files = files; blocks = blocks })
shape_by Dest (kinds.Volume Dest files blocks) = Some (record { files = files; blocks = blocks })
shape_by side event = None

abbrev pub shape_or : Option Shape → Shape → Shape
shape_or (Some shape) other = shape
shape_or None other = other

abbrev pub shape_of : Side → List Numbered → Shape
shape_of side [] = record { files = 0; blocks = 0 }
shape_of side (e ∷ events) = shape_or (shape_by side e.event) (shape_of side events)

pub record IsFirst {M : Type 0} (mech : M) (events : List Numbered) (w : RunWorld M) : Type 0 where
  pub source : IsFreshSource mech (shape_of Source events) w.source
  pub dest : IsFreshDest mech (shape_of Dest events) w.dest
  pub client : w.client ≡ new_client (record { mech = mech; me = user; source = source_place; dest = dest_place })
  pub draws : w.draws ≡ 0
  pub clock : w.clock ≡ 0
  pub steps : w.steps ≡ 0
  pub log : w.log ≡ []
