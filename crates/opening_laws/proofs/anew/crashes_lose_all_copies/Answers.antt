use Rattle.opening_laws.proofs.Opened.{all_lost}
use Rattle.opening_laws.proofs.anew.crashes_lose_all_copies.Goals as goal

pub returns : goal.returns
returns c = all_lost
