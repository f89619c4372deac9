use Rattle.std.proofs.Common.{refl}
use Rattle.client_steps.specs.declared.acting.Course.{Course}
use Rattle.client_leaving.proofs.Leaves.{farewell_is}
use Rattle.client_leaving.proofs.leaving.Leaving.farewell.Goals as goal

pub returns-clause-is : goal.returns-clause-is
returns-clause-is g c =
    let course = c.in_ok-course.course in
    let next : Course = record course { desk = c.leave-2.new.self } in
    farewell_is g.M.Mechanism.mic_of c.args.now c.args.self.now course next c.leave.new.self c.in_ok-source.source c.in_ok-dest.dest
    (c.end.new.self, c.end.result) c.in_ok-course.ensures c.in_ok-source.ensures.told c.in_ok-source.ensures.after c.in_ok-dest.ensures.told
    c.in_ok-dest.ensures.after refl refl c.end.ensures
