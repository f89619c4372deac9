-- A destination that was just opened, be it on a volume that was just formatted or after it stopped. Own definitions.
use Rattle.std.specs.Prelude.{◌≡◌, ◌<◌, ◌^◌}
use Rattle.dest_core.specs.Stepping.{DestState}
use Rattle.run_ends.specs.Opening.{IsNewDest}

-- Nobody has called yet, the number of its opening has four bytes, and nothing was written in it.
pub record IsBegun {M : Type 0} (mech : M) (d : DestState M) : Type 0 where
  pub opened : IsNewDest mech d
  pub numbered : d.state.machine.store.volume.boot < 2 ^ 32
  pub unwritten : d.state.machine.store.volume.writes ≡ 0
