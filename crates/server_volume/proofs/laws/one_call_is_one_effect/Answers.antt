use Rattle.server_volume.specs.EffectLaws.{effect_of_one}
use Rattle.server_volume.proofs.laws.one_call_is_one_effect.Goals as goal

pub returns : goal.returns
returns c = effect_of_one
