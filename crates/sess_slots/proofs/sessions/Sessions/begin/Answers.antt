use Rattle.sess_slots.proofs.There.{begin_there}
use Rattle.sess_slots.proofs.sessions.Sessions.begin.Goals as goal

pub returns-clause-there : goal.returns-clause-there
returns-clause-there c = rw c.decide.ensures (begin_there c.args.self.now c.args.session.now c.args.slot c.args.number c.args.root)
