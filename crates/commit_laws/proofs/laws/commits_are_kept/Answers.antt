use Rattle.commit_laws.proofs.Runs.{kept}
use Rattle.commit_laws.proofs.Volumes.{EffectLaws}
use Rattle.commit_laws.proofs.laws.commits_are_kept.Goals as goal

pub returns : goal.returns
returns g c mech host event run =
    let effects = c.volume_effects.ensures in
    let laws : EffectLaws = record { firm = effects.firm; quiet = effects.quiet; shown = effects.shown; written = effects.written; settles = effects.settles } in
    kept laws _ g.met.X.Calling.by_calls _ _ _ host event run
