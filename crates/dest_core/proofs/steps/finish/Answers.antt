use Rattle.dest_core.proofs.Hosts.{counted_with}
use Rattle.dest_core.proofs.Turns.{finish_told}
use Rattle.std.proofs.Common.{ap}
use Rattle.dest_core.specs.Serving.{given}
use Rattle.dest_core.proofs.steps.finish.Goals as goal

pub returns-clause-is : goal.returns-clause-is
returns-clause-is g c =
    finish_told g.D.Disk.size c.args.host.now c.tell.new.self c.tell.new.notes c.args.sent c.args.accepted c.args.used c.args.undrawn c.tell.ensures.silent c.tell.ensures.notes

pub returns-clause-counted : goal.returns-clause-counted
returns-clause-counted g c =
    counted_with c.args.host.now c.tell.new.self (ap (λ x. given x) c.tell.ensures.silent) c.requires.counted
