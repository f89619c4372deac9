use Rattle.std.proofs.Common.{Some, refl}
use Rattle.session_server.specs.declared.host.TheConstants.{MOST_STEPS}
use Rattle.wire_machine.specs.Ends as acts
use Rattle.run_ends.specs.Ends.{run_machines}
use Rattle.wire_run.proofs.Acts.{handled, same_result, served, source_acts, source_few}
use Rattle.wire_run.proofs.Calling.{source_called}
use Rattle.wire_run.proofs.ends.SourceEnd.take.Goals as goal

pub returns-clause-acts : goal.returns-clause-acts
returns-clause-acts g c =
    let few = source_few MOST_STEPS c.args.self.now c.in-Open.core c.in-Open.is c.requires.few in
    same_result c.on_record.result c.of_bytes.result _ c.of_bytes.ensures.same
    (source_acts g.D.Disk.Told (run_machines g.M.Mechanism.mic_of g.M.Mechanism.derived g.M.Mechanism.started g.M.Mechanism.accepted g.M.Mechanism.finished)
    g.D.Disk.faults g.D.Disk.size g.D.Disk.fuse g.D.Disk.timeline
    (record { keeps = c.steps_keep_the_files.ensures; some = c.counts_rise_where_calls_fail.ensures.some; later = c.counts_rise_where_calls_fail.ensures.later })
    (acts.SourceTakes c.args.conn c.args.bytes.now) c.args.now c.args.self.now _ c.in-Open.core c.on_record.new.self c.args.draws.now c.on_record.new.draws c.on_record.result c.in-Open.is refl
    (λ t. served c.on_record.result _ _ _ (handled c.on_record.result c.in-Open.core.steps MOST_STEPS (Some c.args.bytes.now) few c.are_bytes.ensures c.of_bytes.ensures.bytes) c.on_record.ensures.short (c.on_record.ensures.turn t))
    c.on_record.ensures.ran c.on_record.ensures.counted)

pub returns-clause-calls : goal.returns-clause-calls
returns-clause-calls g c =
    same_result c.on_record.result c.of_bytes.result _ c.of_bytes.ensures.same
    (source_called g.D.Disk.Told g.D.Disk.size g.D.Disk.fuse g.D.Disk.timeline g.D.Disk.faults c.args.self.now _ c.in-Open.core c.on_record.new.self c.on_record.result c.in-Open.is refl
    c.boot.ensures.stands c.boot.ensures.certain c.on_record.ensures.ran)
