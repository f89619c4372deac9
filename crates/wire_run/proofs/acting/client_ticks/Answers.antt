use Rattle.client_core.specs.declared.client.TheConstants.{MOST_STEPS}
use Rattle.std.proofs.Common.{None}
use Rattle.wire_machine.specs.Ends as acts
use Rattle.run_ends.specs.Ends.{count_gives, words_of}
use Rattle.wire_run.proofs.Acts.{all_draws, and_same, handled, same_result}
use Rattle.wire_run.proofs.Client.{taken_once}
use Rattle.wire_run.proofs.acting.client_ticks.Goals as goal

pub returns-clause-acts : goal.returns-clause-acts
returns-clause-acts g c =
    same_result c.tick.result c.of_bytes.result _ c.of_bytes.ensures.same
    (all_draws c.tick.result _
    (λ d. taken_once (words_of g.M.Mechanism.mic_of g.M.Mechanism.derived g.M.Mechanism.started g.M.Mechanism.accepted g.M.Mechanism.finished count_gives)
    (record { steps = c.each_step_counts_one.ensures.steps; setting = c.each_step_counts_one.ensures.setting; begun = c.copies_begin_by_command.ensures })
    acts.ClientTicks c.args.now c.args.client.now c.tick.new.self d d c.tick.result
    (handled c.tick.result c.args.client.now.steps MOST_STEPS None c.requires.few tt c.of_bytes.ensures.bytes) (and_same c.tick.result _ d c.tick.ensures.is)))
