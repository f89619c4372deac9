use Rattle.client_laws.proofs.speaking.Carrying.{IsKnownTurn, begins_carried, carried_on, none_stays}
use Rattle.client_laws.proofs.speaking.carried.clients_carry_on.Goals as goal

pub returns : goal.returns
returns g c =
    record {
      begin = λ s who boot purposes.
          begins_carried s who boot purposes (c.clients_stay_settled.ensures.begin who s) (c.places_stay.ensures.begin s)
          (λ side. c.clients_begin_lawful.ensures.fits (purposes side) side s) (λ side. c.clients_begin_lawful.ensures.start boot (purposes side) side s);
      stay = λ s who boot purposes turn before after v w out t may bytes step spelled sends x.
          let none = none_stays turn before may x.none_first in
          let known : IsKnownTurn who _ boot purposes turn before after out t = record {
            lawful = λ side. c.turns_are_lawful.ensures s who boot purposes turn before after out t x.settled bytes spelled side;
            settled = c.clients_stay_settled.ensures.stay s who boot purposes turn before after v w out t step x.settled bytes spelled;
            placed = c.places_stay.ensures.stay s who turn before after v w out x.settled may bytes step x.placed;
            changes = c.copies_change_by_causes.ensures _ turn before after v w out x.few may step;
            none = c.copies_begin_by_command.ensures _ turn before after v w out 0 step none.0 none.1;
            may = may;
          } in
          carried_on c.sends_are_counted.ensures who _ (c.steps_are_lawful.ensures.good s.mech s.me who) boot purposes turn before after out t known spelled sends x;
    }
