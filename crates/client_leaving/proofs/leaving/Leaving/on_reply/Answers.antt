use Rattle.std.proofs.Common.{◌≡◌, subst, sym}
use Rattle.client_steps.specs.Acting.{acting}
use Rattle.client_steps.specs.Parting.{parting_replied}
use Rattle.client_steps.specs.declared.setting.Setting.{Setting}
use Rattle.mount.specs.Taking.{Means}
use Rattle.client_leaving.proofs.Leaves.{reply_is}
use Rattle.client_leaving.proofs.leaving.Leaving.on_reply.Goals as goal

pub returns-clause-is : goal.returns-clause-is
returns-clause-is g c =
    let l = c.args.self.now in
    let m = g.M.Mechanism in
    let means : Setting _ → Means = λ s. record { mic = m.mic_of; derived = m.derived; finished = m.finished s.mech s.me } in
    let queues = c.queues-queues.result.now in
    let course = c.in_ok-course.course in
    let asked = c.parting-parting.result in
    let is = c.setting-setting.ensures.is in
    let told =
    subst (λ (s : Setting _). c.in_ok-next.next ≡ (parting_replied (means s) c.args.from c.args.record_.now asked (acting queues course)).0) is
    c.in_ok-next.ensures.told in
    let after =
    subst
    (λ (s : Setting _). acting queues c.on_parting_reply.new.self
    ≡ (parting_replied (means s) c.args.from c.args.record_.now asked (acting queues course)).1)
    is c.in_ok-next.ensures.after in
    reply_is (means l.client.setting) c.args.from c.args.record_.now c.args.now l c.set_parting.new.self queues course c.on_parting_reply.new.self
    asked c.in_ok-next.next (c.end-out.new.self, c.end-out.result) (sym c.queues-queues.ensures.source) (sym c.queues-queues.ensures.dest)
    c.in_ok-course.ensures c.parting-parting.ensures told after c.end-out.ensures c.set_parting.ensures
