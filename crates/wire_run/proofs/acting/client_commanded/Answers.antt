use Rattle.client_core.specs.declared.client.TheConstants.{MOST_STEPS}
use Rattle.std.proofs.Common.{None}
use Rattle.wire_machine.specs.Steps.{command_of}
use Rattle.run_ends.specs.Ends.{count_gives, words_of}
use Rattle.wire_run.proofs.Acts.{handled, same_result}
use Rattle.wire_run.proofs.Client.{commanded_once, commands_take_none}
use Rattle.wire_run.proofs.acting.client_commanded.Goals as goal

pub returns-clause-acts : goal.returns-clause-acts
returns-clause-acts g c =
    same_result c.command.result c.of_bytes.result _ c.of_bytes.ensures.same
    (commanded_once (words_of g.M.Mechanism.mic_of g.M.Mechanism.derived g.M.Mechanism.started g.M.Mechanism.accepted g.M.Mechanism.finished count_gives)
    (record { steps = c.each_step_counts_one.ensures.steps; setting = c.each_step_counts_one.ensures.setting; begun = c.copies_begin_by_command.ensures })
    (command_of c.args.event.now) c.args.now c.args.client.now c.command.new.client c.args.draws.now c.command.new.draws c.command.result
    (commands_take_none c.args.event.now) (handled c.command.result c.args.client.now.steps MOST_STEPS None c.requires.few tt c.of_bytes.ensures.bytes) c.command.ensures.is)
