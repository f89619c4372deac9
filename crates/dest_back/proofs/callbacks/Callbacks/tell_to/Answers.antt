use Rattle.std.proofs.Common.{ap}
use Rattle.dest_back.specs.Telling.{new_on}
use Rattle.dest_back.specs.declared.line.Line.{Line}
use Rattle.dest_back.proofs.Sendings.{same_sent}
use Rattle.dest_back.proofs.callbacks.Callbacks.tell_to.Goals as goal

pub returns-clause-sent : goal.returns-clause-sent
returns-clause-sent g c =
    same_sent c.tell_on.result _ _ c.tell_on.ensures.sent
    (ap (λ (line : Line). (new_on g.M.Mechanism.mic_of c.args.sessions.now c.args.at c.args.post c.args.back c.args.ended.now line c.args.self.now).0) c.line-line.ensures)
