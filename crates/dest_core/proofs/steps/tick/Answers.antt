use Rattle.std.proofs.Common.{ap, ◌∙◌}
use Rattle.dest_jobs.specs.declared.copies.Copies.{Copies}
use Rattle.dest_core.proofs.Hosts.{counted_with}
use Rattle.dest_core.proofs.Turns.{tick_told}
use Rattle.dest_jobs.specs.Counting.{bytes_in}
use Rattle.dest_core.proofs.steps.tick.Goals as goal

pub finish-requires-clause-counted : goal.finish-requires-clause-counted
finish-requires-clause-counted g c =
    let host = c.second_comes.new.host in
    counted_with host (record host.server.files.extra { copier = c.take_again-sent.new.copier }) (ap (λ (x : Copies). x.book.table.made) c.take_again-sent.ensures.copies) c.second_comes.ensures.counted

pub returns-clause-is : goal.returns-clause-is
returns-clause-is g c =
    let taken = c.take_again-sent in
    tick_told (record { mic = g.M.Mechanism.mic_of; derived = g.M.Mechanism.derived }) g.D.Disk.size c.args.now c.second_at-second.result c.in_ok-again.again c.args.host.now c.second_comes.new.host taken.new.copier taken.result _ _
    c.second_at-second.ensures c.second_comes.ensures.is (cc) taken.ensures.after taken.ensures.sent c.in_ok-again.ensures.told c.finish.ensures.is

pub returns-clause-landed : goal.returns-clause-landed
returns-clause-landed g c =
    c.finish.ensures.landed
    ∙ ap (λ (x : Copies). bytes_in x) c.take_again-sent.ensures.copies
    ∙ c.second_comes.ensures.keeps.bytes
