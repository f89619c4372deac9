use Rattle.client_laws.proofs.speaking.Turns.{begins_placed_at, stays_placed}
use Rattle.client_laws.proofs.speaking.places.places_stay.Goals as goal

pub returns : goal.returns
returns g c =
    record {
      begin = begins_placed_at;
      stay = λ s who turn before after v w out settled may bytes step x.
          stays_placed who _ _ c.sends_are_counted.ensures (c.steps_are_lawful.ensures.good s.mech s.me who) turn before v w (after, out) settled may bytes step x;
    }
