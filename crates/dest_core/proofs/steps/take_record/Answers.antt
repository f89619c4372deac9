use Rattle.std.proofs.Common.{[]}
use Rattle.std.proofs.lemmas.Result.{IfOk-weaker}
use Rattle.compound_server.specs.SayingLaws.{ran_kept}
use Rattle.server_volume.specs.Store.{seat_of}
use Rattle.dest_core.proofs.steps.take_record.Goals as goal

pub returns-in-Reply-clause-ran : goal.returns-in-Reply-clause-ran
returns-in-Reply-clause-ran g c =
    let D = g.D.Disk in
    IfOk-weaker c.take_answer.result _ _
    (λ out unused. ran_kept (seat_of D.size D.fuse D.timeline D.faults) c.args.host.now.server.files.volume c.take_answer.new.host.server.files.volume [] out.used c.take_answer.ensures.volume unused)
    c.take_answer.ensures.unused
