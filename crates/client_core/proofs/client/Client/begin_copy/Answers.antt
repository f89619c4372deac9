use Rattle.client_core.specs.Commands.{begun_with}
use Rattle.client_core.specs.Endings.{ways_of}
use Rattle.client_core.specs.Parts.{course_of}
use Rattle.client_core.proofs.Going.{begun_on, desk_done, not_begun}
use Rattle.client_core.proofs.client.Client.begin_copy.Goals as goal

pub returns-in-Failed-clause-is : goal.returns-in-Failed-clause-is
returns-in-Failed-clause-is g c =
    let m = g.M.Mechanism in
    let old = c.args.self.now in
    not_begun (ways_of m.mic_of m.derived m.finished m.started m.accepted old.setting) g.W.Draws.gives c.args.j c.args.spec c.args.now old
    c.args.draws.now c.draw.new.self c.undraw.result c.undraw.new.self c.in-Failed.ensures.given c.undraw.ensures.is

pub returns-in-Got-clause-is : goal.returns-in-Got-clause-is
returns-in-Got-clause-is g c =
    let m = g.M.Mechanism in
    let old = c.args.self.now in
    let secret = c.in-Got.secret in
    begun_on (ways_of m.mic_of m.derived m.finished m.started m.accepted old.setting) g.W.Draws.gives c.args.j c.args.spec c.args.now old
    c.args.draws.now c.draw.new.self c.finish.new.draws secret (course_of old c.begun.result) c.finish.result c.finish.new.self
    c.in-Got.ensures.given
    (desk_done old c.args.now (begun_with c.args.j c.args.spec secret) c.in_ok-course.course c.begun.result c.begun.ensures.desk
    c.begun.ensures.source c.begun.ensures.dest c.in_ok-course.ensures)
    c.finish.ensures.is
