use Rattle.dest_core.proofs.Hosts.{counted_with}
use Rattle.dest_core.proofs.Turns.{failure_told}
use Rattle.std.proofs.Common.{ap, ◌∙◌}
use Rattle.dest_jobs.specs.Counting.{bytes_in}
use Rattle.dest_core.proofs.steps.fail_link.Goals as goal

pub finish-requires-clause-counted : goal.finish-requires-clause-counted
finish-requires-clause-counted g c =
    counted_with c.tick.new.self (record c.tick.new.self.server.files.extra { copier = c.take_failing-sent.new.copier }) c.take_failing-sent.ensures.given c.tick.ensures.counted

pub returns-clause-is : goal.returns-clause-is
returns-clause-is g c =
    let taken = c.take_failing-sent in
    failure_told (record { mic = g.M.Mechanism.mic_of; derived = g.M.Mechanism.derived }) g.D.Disk.size c.args.place c.in_ok-failing.failing c.args.host.now c.tick.new.self taken.new.copier taken.result _ _
    c.tick.ensures.is (cc) taken.ensures.after taken.ensures.sent c.in_ok-failing.ensures.told c.finish.ensures.is

pub returns-clause-landed : goal.returns-clause-landed
returns-clause-landed g c =
    c.finish.ensures.landed
    ∙ c.take_failing-sent.ensures.keeps.bytes
    ∙ ap (λ s. bytes_in s.state.machine.extra.copier.copies) c.tick.ensures.is
