use Rattle.std.proofs.Common.{nat_lt, refl}
use Rattle.client_copies.specs.declared.table.TheConstants.{MOST_COPIES}
use Rattle.client_steps.specs.Acting.{on_desk}
use Rattle.client_steps.specs.declared.acting.Course.{Course}
use Rattle.client_core.specs.Commands.{asked_if}
use Rattle.client_core.specs.Endings.{acting_at}
use Rattle.client_core.specs.Parts.{course_of}
use Rattle.client_core.proofs.Going.{desk_done, ended_as}
use Rattle.client_core.proofs.client.Client.query.Goals as goal

pub returns-clause-is : goal.returns-clause-is
returns-clause-is g c =
    let old = c.args.self.now in
    let does = asked_if (nat_lt c.args.j MOST_COPIES) g.M.Mechanism.mic_of c.args.j c.args.query in
    let next : Course = record c.in_ok-course.course { desk = c.ask.new.desk } in
    ended_as old (course_of old next) (on_desk does (acting_at c.args.now old)) (c.end.new.self, c.end.result)
    (desk_done old c.args.now does c.in_ok-course.course next c.in_ok-ask.ensures refl refl c.in_ok-course.ensures) c.end.ensures
