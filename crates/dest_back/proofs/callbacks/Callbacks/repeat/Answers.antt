use Rattle.std.proofs.Common.{Option, ap, ◌∙◌}
use Rattle.sess_slots.specs.declared.answers.Back.{Back}
use Rattle.dest_back.specs.Telling.{again_to, called_on}
use Rattle.dest_back.specs.declared.line.Line.{Line}
use Rattle.dest_back.proofs.Sendings.{same_sent}
use Rattle.dest_back.proofs.callbacks.Callbacks.repeat.Goals as goal

pub returns-clause-sent : goal.returns-clause-sent
returns-clause-sent g c =
    let mic = g.M.Mechanism.mic_of in
    let derived = g.M.Mechanism.derived in
    let sessions = c.args.sessions.now in
    let a = c.args.awaiting in
    same_sent c.call.result _ _ c.call.ensures.sent
    (ap (λ (line : Line). (called_on mic sessions c.args.at c.args.post c.in-Some.back line a.number a.told c.args.self.now).0) c.line-line.ensures
    ∙ ap (λ (back : Option Back). (again_to mic derived sessions c.args.at c.args.post a back c.args.self.now).0) c.in-Some.ensures)
