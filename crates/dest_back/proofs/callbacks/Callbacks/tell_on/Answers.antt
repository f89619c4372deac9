use Rattle.dest_back.proofs.Sendings.{new_sent, same_sent}
use Rattle.dest_back.proofs.callbacks.Callbacks.tell_on.Goals as goal

pub returns-clause-sent : goal.returns-clause-sent
returns-clause-sent g c =
    same_sent c.call.result _ _ c.call.ensures.sent
    (new_sent g.M.Mechanism.mic_of c.args.sessions.now c.args.at c.args.post c.args.back c.args.ended.now c.args.line c.args.self.now
    c.next-number.result c.note_new.new.self c.next-number.ensures c.note_new.ensures c.if-number-ge4294967295.false)
