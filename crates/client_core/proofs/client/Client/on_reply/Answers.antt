use Rattle.std.proofs.Common.{subst, Some}
use Rattle.std.specs.Prelude.{Option}
use Rattle.client_steps.specs.Acting.{Acting, GoesOn}
use Rattle.client_steps.specs.declared.acting.Course.{Course}
use Rattle.client_core.specs.Backs.{back_added}
use Rattle.client_core.specs.Endings.{ways_of}
use Rattle.client_core.specs.Parts.{course_of, went_of}
use Rattle.client_core.specs.Records.{heard}
use Rattle.client_core.specs.State.{second_at}
use Rattle.client_core.proofs.Steps.{steps_to}
use Rattle.client_core.proofs.client.Client.on_reply.Goals as goal

pub returns-in-Some-clause-is : goal.returns-in-Some-clause-is
returns-in-Some-clause-is g c =
    let s = c.args.self.now in
    let m = g.M.Mechanism in
    let ways = ways_of m.mic_of m.derived m.finished m.started m.accepted s.setting in
    let did = course_of s c.in_ok-course.course in
    let goes =
    subst (λ (to : Option Course). GoesOn s.setting m.mic_of ways.started g.W.Draws.gives did c.args.draws.now c.go_on.new.draws (went_of s to))
    c.in-Some.is c.in_ok-go_on.ensures.is in
    steps_to ways g.W.Draws.gives did (heard ways c.args.from c.args.record_.now c.args.now s)
    (λ (a : Acting). back_added m.derived s.setting.me (second_at c.args.now s) a.desk.made s.back) s c.args.draws.now c.go_on.new.draws
    (Some (course_of s c.in-Some.course)) c.end_reply.new.self c.end_reply.result c.in_ok-course.ensures goes c.end_reply.ensures.is
