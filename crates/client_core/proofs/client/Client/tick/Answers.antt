use Rattle.std.proofs.Common.{refl}
use Rattle.client_steps.specs.Acting.{on_desk}
use Rattle.client_steps.specs.Commands.{ticked}
use Rattle.client_steps.specs.CopySteps.{all_copies}
use Rattle.client_steps.specs.declared.acting.Course.{Course}
use Rattle.client_core.specs.Endings.{acting_at}
use Rattle.client_core.specs.Parts.{course_of}
use Rattle.client_core.proofs.Going.{desk_done, ended_as}
use Rattle.client_core.proofs.client.Client.tick.Goals as goal

pub returns-clause-is : goal.returns-clause-is
returns-clause-is g c =
    let old = c.args.self.now in
    let does = ticked g.M.Mechanism.mic_of all_copies in
    let next : Course = record c.in_ok-course.course { desk = c.tick.new.self } in
    ended_as old (course_of old next) (on_desk does (acting_at c.args.now old)) (c.end.new.self, c.end.result)
    (desk_done old c.args.now does c.in_ok-course.course next c.in_ok-tick.ensures refl refl c.in_ok-course.ensures) c.end.ensures
