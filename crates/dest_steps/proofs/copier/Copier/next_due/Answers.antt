use Rattle.dest_steps.proofs.Keeping.{due_keeps}
use Rattle.dest_steps.proofs.copier.Copier.next_due.Goals as goal

pub returns-clause-keeps : goal.returns-clause-keeps
returns-clause-keeps g c =
    let x = c.args.self.now in
    due_keeps c.work.result g.M.Mechanism.mic_of c.args.at c.as_slice.result.now c.args.sessions.now x.work x.copies c.work.new.book c.work.ensures.claims c.work.ensures.book
