use Rattle.client_core.specs.declared.client.TheConstants.{MOST_STEPS}
use Rattle.std.proofs.Common.{Some}
use Rattle.wire_machine.specs.Ends as acts
use Rattle.run_ends.specs.Ends.{count_gives, words_of}
use Rattle.wire_run.proofs.Acts.{handled, same_result}
use Rattle.wire_run.proofs.Client.{taken_once}
use Rattle.wire_run.proofs.acting.client_takes.Goals as goal

pub returns-clause-acts : goal.returns-clause-acts
returns-clause-acts g c =
    same_result c.on_record.result c.of_bytes.result _ c.of_bytes.ensures.same
    (taken_once (words_of g.M.Mechanism.mic_of g.M.Mechanism.derived g.M.Mechanism.started g.M.Mechanism.accepted g.M.Mechanism.finished count_gives)
    (record { steps = c.each_step_counts_one.ensures.steps; setting = c.each_step_counts_one.ensures.setting; begun = c.copies_begin_by_command.ensures })
    (acts.ClientTakes c.args.from c.args.bytes.now) c.args.now c.args.client.now c.on_record.new.self c.args.draws.now c.on_record.new.draws c.on_record.result
    (handled c.on_record.result c.args.client.now.steps MOST_STEPS (Some c.args.bytes.now) c.requires.few c.are_bytes.ensures c.of_bytes.ensures.bytes) c.on_record.ensures.is)
