-- How a copy by a client of two servers speaks of what it does. Own definitions.
use Rattle.std.specs.Prelude.{ℕ}
use Rattle.client_core.specs.Endings.{Ways}
use Rattle.client_steps.specs.declared.setting.Setting.{Setting}
use Rattle.linked_copy.specs.Nets as nets
use Rattle.nfs_base.specs.declared.copy_spec.CopySpec.{CopySpec}
use Rattle.single_copy.specs.Turns.{Conduct, conduct_of}
use Rattle.streams.specs.declared.draws.Drawn.{Drawn}
use Rattle.run_ends.specs.Setting.{dest_place, source_place, user}

-- How a copy speaks of what it does: how its client and its draws do what they do, by what is copied; what the client knows; the draws; and
-- its net's words.
pub record CopyWords (M W N : Type 0) : Type 1 where
  pub conduct : CopySpec → Conduct M W
  pub setting : Setting M
  pub draws : W
  pub net : nets.NetWords N

-- what the client of every schedule knows, by this mechanism
abbrev pub setting_by : {M : Type 0} → M → Setting M
setting_by mech = record { mech = mech; me = user; source = source_place; dest = dest_place }

abbrev pub copy_words : {M W N : Type 0} → (Setting M → Ways) → (W → Drawn → W → Type 0) → (W → ℕ) → M → W → nets.NetWords N → CopyWords M W N
copy_words ways gives faults mech draws net = record { conduct = conduct_of ways gives faults; setting = setting_by mech; draws = draws; net = net }
