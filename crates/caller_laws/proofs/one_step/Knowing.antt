-- What is said of every step of every mount.
use Rattle.caller_laws.specs.Good.{Identity, IsGood}
use Rattle.caller_laws.specs.Lawful.{IsStep, Obeys}
use Rattle.caller_laws.specs.Moves.{Move, done}
use Rattle.caller_laws.specs.View.{Above}
use Rattle.mount.specs.State.{Mounted}
use Rattle.mount.specs.Taking.{Means}

abbrev pub Obeying : Identity → Means → Type 0
Obeying who means = (a b : Above) (m : Mounted) (move : Move) → IsStep who means a b m move → Obeys who means a b m move

abbrev pub Keeping : Identity → Means → Type 0
Keeping who means = (a b : Above) (m : Mounted) (move : Move) → IsStep who means a b m move → IsGood who (done means move m).mount
