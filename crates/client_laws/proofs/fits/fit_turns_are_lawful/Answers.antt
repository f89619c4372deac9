use Rattle.client_laws.proofs.SpelledTurns.{takes_bytes}
use Rattle.client_laws.proofs.fits.fit_turns_are_lawful.Goals as goal

pub returns : goal.returns
returns g c = λ s who boot purposes turn before after v w out own may fits told settled fit step left.
    let bytes = takes_bytes turn told in
    let both = c.turns_are_spelled.ensures _ who boot purposes turn before after v w out own may fits fit told step left in
    record {
      turns = both.turns;
      lawful = λ side. c.turns_are_lawful.ensures s who boot purposes turn before after out both.turns settled bytes both.spelled side;
      settled = c.clients_stay_settled.ensures.stay s who boot purposes turn before after v w out both.turns step settled bytes both.spelled;
      fit = c.turns_leave_clients_fit.ensures _ turn before after v w out fits fit told step;
    }
