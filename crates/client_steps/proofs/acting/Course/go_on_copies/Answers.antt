use Rattle.std.proofs.Common.{ap}
use Rattle.std.proofs.lemmas.Result.{IfOk-equal}
use Rattle.client_steps.specs.Acting.{acting, copies_on, with_desk}
use Rattle.client_steps.specs.CopySteps.{all_copies, copies_go_on}
use Rattle.client_steps.specs.declared.copy_steps.Openings.{Openings}
use Rattle.client_steps.proofs.Going.{desk_after}
use Rattle.client_steps.proofs.acting.Course.go_on_copies.Goals as goal

pub returns : goal.returns
returns g c =
    let mic = g.M.Mechanism.mic_of in
    let s = c.args.setting.now in
    let a = acting c.args.queues.now c.args.self.now in
    let r = c.go_on_copies.result in
    let d = c.go_on_copies.new.self in
    let to = copies_go_on s mic c.openings-openings.result all_copies a.desk in
    IfOk-equal r (with_desk d a) (with_desk to a) (copies_on s mic a) (desk_after r a d to c.go_on_copies.ensures)
    (ap (λ (o : Openings). with_desk (copies_go_on s mic o all_copies a.desk) a) c.openings-openings.ensures)
