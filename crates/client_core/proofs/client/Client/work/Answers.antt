use Rattle.client_core.proofs.Going.{work_undrawn, work_went}
use Rattle.client_core.proofs.client.Client.work.Goals as goal

pub returns-in-Ok-Some-clause-is : goal.returns-in-Ok-Some-clause-is
returns-in-Ok-Some-clause-is g c =
    let m = g.M.Mechanism in
    work_went m.mic_of m.derived m.finished m.started m.accepted g.W.Draws.gives c.args.to c.args.work c.args.now c.args.self.now c.push.new.self
    c.args.draws.now c.go_on_now.new.draws c.in-Ok-Some.course (c.end.new.self, c.end.result) c.in_ok-push.ensures.ok
    (rw c.in-Ok-Some.field-0-is at c.in-Ok-Some.ensures.is) c.end.ensures

pub returns-in-Ok-None-clause-is : goal.returns-in-Ok-None-clause-is
returns-in-Ok-None-clause-is g c =
    let m = g.M.Mechanism in
    work_undrawn m.mic_of m.derived m.finished m.started m.accepted g.W.Draws.gives c.args.to c.args.work c.args.now c.args.self.now c.push.new.self
    c.unpush.new.self c.args.draws.now c.go_on_now.new.draws c.undraw.result c.undraw.new.self c.in_ok-push.ensures.ok
    (rw c.in-Ok-None.field-0-is at c.in-Ok-None.ensures.is) (c.unpush.ensures c.args.work c.args.self.now c.in_ok-push.ensures.ok) c.undraw.ensures.is
