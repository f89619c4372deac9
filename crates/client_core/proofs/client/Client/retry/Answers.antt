use Rattle.std.proofs.Common.{◌≡◌, ◌∙◌, ap, sym}
use Rattle.client_steps.specs.Acting.{Acting, acting}
use Rattle.client_steps.specs.Commands.{retried}
use Rattle.client_core.specs.Endings.{acting_at}
use Rattle.client_core.specs.Parts.{course_of}
use Rattle.client_core.specs.State.{ClientState}
use Rattle.client_core.proofs.Going.{ended_as}
use Rattle.client_core.proofs.client.Client.retry.Goals as goal

pub returns-clause-is : goal.returns-clause-is
returns-clause-is g c =
    let old = c.args.self.now in
    let queues = c.self.inside.queues in
    let again = retried g.M.Mechanism.mic_of in
    let began : acting queues c.in_ok-course.course ≡ course_of old c.in_ok-course.course = ap (λ (x : ClientState _). course_of x c.in_ok-course.course) c.self.view_is in
    let went : acting queues c.retry.new.self ≡ course_of old c.retry.new.self = ap (λ (x : ClientState _). course_of x c.retry.new.self) c.self.view_is in
    ended_as old (course_of old c.retry.new.self) (again (acting_at c.args.now old)) (c.end.new.self, c.end.result)
    (sym went ∙ (c.in_ok-retry.ensures ∙ ap (λ (a : Acting). again a) (began ∙ c.in_ok-course.ensures))) c.end.ensures
