use Rattle.client_laws.proofs.bounds.staying.clients_stay_fit.Goals as goal
use Rattle.client_laws.specs.Bounds.StepLaws.{asks_fit, begins_fit, hears_fit, retries_fit, ticks_fit, works_fit}

pub returns : goal.returns
returns g c = record {
  begins = λ ways before j spec now v w end fits h s step. begins_fit ways _ fits before h j spec now v w end s step;
  works = λ ways before side work now v w end fits h s step. works_fit ways _ fits before h side work now v w end s step;
  hears = λ ways before side message now v w end fits h s step. hears_fit ways _ fits before h side message now v w end s step;
  asks = λ ways before j query now fits h. asks_fit ways _ fits before h j query now;
  ticks = λ ways before now fits h. ticks_fit ways _ fits before h now;
  retries = λ ways before now fits h. retries_fit ways _ fits before h now;
}
