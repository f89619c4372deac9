use Rattle.std.proofs.Common.{ap, ◌∙◌}
use Rattle.dest_core.proofs.Hosts.{counted_with}
use Rattle.dest_core.proofs.Turns.{answer_told}
use Rattle.dest_jobs.specs.Counting.{bytes_in}
use Rattle.dest_core.proofs.steps.take_answer.Goals as goal

pub finish-requires-clause-counted : goal.finish-requires-clause-counted
finish-requires-clause-counted g c =
    counted_with c.tick.new.self (record c.tick.new.self.server.files.extra { copier = c.take_hearing-accepted.new.copier }) c.take_hearing-accepted.ensures.given c.tick.ensures.counted

pub returns-clause-is : goal.returns-clause-is
returns-clause-is g c =
    let taken = c.take_hearing-accepted in
    answer_told g.M.Mechanism.mic_of g.D.Disk.size c.args.record_.now c.args.now c.boot-boot.result c.in_ok-hearing.hearing c.args.host.now c.tick.new.self taken.new.copier taken.result _ _ _
    c.boot-boot.ensures c.tick.ensures.is (c.from_vec.ensures ∙ (cc)) (cc) taken.ensures.after taken.ensures.accepted c.in_ok-hearing.ensures c.finish.ensures.is

pub returns-clause-landed : goal.returns-clause-landed
returns-clause-landed g c =
    c.finish.ensures.landed
    ∙ c.take_hearing-accepted.ensures.keeps.bytes
    ∙ ap (λ s. bytes_in s.state.machine.extra.copier.copies) c.tick.ensures.is
