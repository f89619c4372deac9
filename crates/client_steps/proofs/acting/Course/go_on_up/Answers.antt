use Rattle.std.proofs.Common.{◌∙◌, ap}
use Rattle.std.proofs.lemmas.Result.{IfOk-equal}
use Rattle.nfs_base.specs.declared.side.Side.TheVariants.{Dest}
use Rattle.client_steps.specs.Acting.{Acting, acting, all_go_on, copies_on, queue_goes_on}
use Rattle.client_steps.proofs.acting.Course.go_on_up.Goals as goal

pub returns : goal.returns
returns g c =
    let mic = g.M.Mechanism.mic_of in
    let s = c.args.setting.now in
    let q = c.args.queues.now in
    IfOk-equal c.go_on_copies.result (acting q c.go_on_copies.new.self) (copies_on s mic (acting q c.go_on_queue-2.new.self))
    (all_go_on s mic (acting q c.args.self.now)) c.go_on_copies.ensures
    (ap (λ (a : Acting). copies_on s mic a)
    (c.in_ok-go_on_queue-2.ensures ∙ ap (λ (a : Acting). queue_goes_on s mic Dest a) c.in_ok-go_on_queue.ensures))
