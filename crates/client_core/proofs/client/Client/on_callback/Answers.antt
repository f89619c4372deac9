use Rattle.std.proofs.Common.{Some, refl}
use Rattle.client_steps.specs.declared.acting.Course.{Course}
use Rattle.client_core.specs.Callbacks.{called_back}
use Rattle.client_core.specs.Endings.{acting_at, ways_of}
use Rattle.client_core.specs.Parts.{course_of}
use Rattle.client_core.specs.State.{second_at}
use Rattle.client_core.proofs.Going.{desk_done, step_undrawn, step_went}
use Rattle.client_core.proofs.client.Client.on_callback.Goals as goal
use Rattle.client_steps.specs.Acting.{on_desk}
use Rattle.rpc_calls.specs.Answers.{counted}

pub returns-in-None-clause-is : goal.returns-in-None-clause-is
returns-in-None-clause-is g c =
    let m = g.M.Mechanism in
    let old = c.args.self.now in
    let does = called_back m.mic_of c.args.from c.args.call.now c.args.compound old in
    let next : Course = record c.in_ok-course.course { desk = c.answer.new.desk } in
    step_undrawn (ways_of m.mic_of m.derived m.finished m.started m.accepted old.setting) g.W.Draws.gives (course_of old next)
    (on_desk does (acting_at c.args.now old)) (λ _. counted (second_at c.args.now old) c.args.call.now old.back) old c.args.draws.now c.go_on.new.draws
    c.undraw.result c.undraw.new.self
    (desk_done old c.args.now does c.in_ok-course.course next c.in_ok-answer.ensures refl refl c.in_ok-course.ensures)
    (rw c.in-None.is at c.in_ok-go_on.ensures.is) c.undraw.ensures.is

pub returns-in-Some-clause-is : goal.returns-in-Some-clause-is
returns-in-Some-clause-is g c =
    let m = g.M.Mechanism in
    let old = c.args.self.now in
    let does = called_back m.mic_of c.args.from c.args.call.now c.args.compound old in
    let next : Course = record c.in_ok-course.course { desk = c.answer.new.desk } in
    step_went (ways_of m.mic_of m.derived m.finished m.started m.accepted old.setting) g.W.Draws.gives (course_of old next)
    (on_desk does (acting_at c.args.now old)) (λ _. counted (second_at c.args.now old) c.args.call.now old.back) old c.args.draws.now c.go_on.new.draws
    (Some (course_of old c.in-Some.course)) (c.end_call.new.self, c.end_call.result)
    (desk_done old c.args.now does c.in_ok-course.course next c.in_ok-answer.ensures refl refl c.in_ok-course.ensures)
    (rw c.in-Some.is at c.in_ok-go_on.ensures.is) c.end_call.ensures
