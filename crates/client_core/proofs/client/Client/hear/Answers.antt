use Rattle.std.proofs.Common.{refl}
use Rattle.client_core.proofs.Hearing.{hears}
use Rattle.client_core.proofs.client.Client.hear.Goals as goal

pub returns : goal.returns
returns g c =
    let m = g.M.Mechanism in
    hears m.mic_of m.derived m.finished m.started m.accepted c.args.from c.args.record_.now c.args.now _ c.args.self.now c.self.inside.queues
    c.free_number-free.result c.second_at.result c.in_ok-course.course c.on_reply.new.self c.self.view_is refl refl c.in_ok-on_reply.ensures
    c.free_number-free.ensures c.second_at.ensures c.in_ok-course.ensures
