use Rattle.client_laws.proofs.SpelledTurns.{spelled_turn}
use Rattle.client_laws.proofs.fits.turns_are_spelled.Goals as goal

pub returns : goal.returns
returns g c =
    λ ways who boot purposes turn before after v w out own may fits fit told step left.
    spelled_turn c.sends_are_counted.ensures ways _ who boot purposes turn before after v w out own may fits fit told step left
