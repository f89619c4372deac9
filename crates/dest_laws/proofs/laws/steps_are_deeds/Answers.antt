use Rattle.dest_laws.proofs.Ends.{all_end_does, cancel_does, copy_does}
use Rattle.dest_laws.proofs.Joined.{by_deeds}
use Rattle.dest_laws.proofs.Steps.{effect_does, failure_does, heard_does, hearing_does, turn_does}
use Rattle.dest_laws.proofs.Turns.{due_does}
use Rattle.dest_laws.proofs.laws.steps_are_deeds.Goals as goal

pub returns-clause-due : goal.returns-clause-due
returns-clause-due c mic at me sessions w b = by_deeds 0 0 _ _ (due_does c.chunks_are_next.ensures mic at me sessions w b)

pub returns-clause-turn : goal.returns-clause-turn
returns-clause-turn c choice place turn d = by_deeds 0 1 _ _ (turn_does choice place turn d)

pub returns-clause-heard : goal.returns-clause-heard
returns-clause-heard c codes finished around place message old heard new is = by_deeds 0 1 _ _ (heard_does codes finished around place message old heard new is)

pub returns-clause-effect : goal.returns-clause-effect
returns-clause-effect c choice place effect d = by_deeds 0 1 _ _ (effect_does choice place effect d)

pub returns-clause-failure : goal.returns-clause-failure
returns-clause-failure c place failing x = by_deeds 0 1 _ _ (failure_does place failing x)

pub returns-clause-reply : goal.returns-clause-reply
returns-clause-reply c boot hearing x = by_deeds 0 0 _ _ (hearing_does boot hearing x)

pub returns-clause-copy : goal.returns-clause-copy
returns-clause-copy c client carry args ends room closed boot x = by_deeds 1 0 _ _ (copy_does client carry args ends room closed boot x)

pub returns-clause-cancel : goal.returns-clause-cancel
returns-clause-cancel c job x = by_deeds 0 0 _ _ (cancel_does job x)

pub returns-clause-clients : goal.returns-clause-clients
returns-clause-clients c test cause x = by_deeds 0 0 _ _ (all_end_does test cause x)
