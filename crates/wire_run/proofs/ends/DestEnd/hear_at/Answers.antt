use Rattle.std.proofs.Common.{Some, refl}
use Rattle.session_server.specs.declared.host.TheConstants.{MOST_STEPS}
use Rattle.wire_machine.specs.Ends as acts
use Rattle.run_ends.specs.Ends.{count_gives, is_worker, run_machines, words_of}
use Rattle.session_server.specs.Host.{host_of}
use Rattle.wire_run.proofs.Acts.{all_draws, dest_acts, dest_few, handled, heard_at, same_result, dest_served}
use Rattle.wire_run.proofs.Calling.{dest_called}
use Rattle.wire_run.proofs.ends.DestEnd.hear_at.Goals as goal

pub returns-clause-acts : goal.returns-clause-acts
returns-clause-acts g c =
    let few = dest_few MOST_STEPS c.args.self.now c.in-Open.core c.in-Open.is c.requires.few in
    same_result c.on_source_reply.result c.of_bytes-out.result _ c.of_bytes-out.ensures.same
    (all_draws c.on_source_reply.result _
    (λ d. dest_acts g.D.Disk.Told (run_machines g.M.Mechanism.mic_of g.M.Mechanism.derived g.M.Mechanism.started g.M.Mechanism.accepted g.M.Mechanism.finished)
    g.D.Disk.faults g.D.Disk.size g.D.Disk.fuse g.D.Disk.timeline
    (record { keeps = c.steps_keep_the_files.ensures; some = c.counts_rise_where_calls_fail.ensures.some; later = c.counts_rise_where_calls_fail.ensures.later })
    (acts.Hears c.args.worker c.args.bytes.now) c.args.now c.args.self.now _ c.in-Open.core c.on_source_reply.new.self d d c.on_source_reply.result c.in-Open.is refl
    (λ t. dest_served c.on_source_reply.result _ _ _ _
    (handled c.on_source_reply.result c.in-Open.core.steps MOST_STEPS (Some c.args.bytes.now) few c.are_bytes.ensures c.of_bytes-out.ensures.bytes) c.on_source_reply.ensures.short
    (heard_at (words_of g.M.Mechanism.mic_of g.M.Mechanism.derived g.M.Mechanism.started g.M.Mechanism.accepted g.M.Mechanism.finished count_gives)
    (is_worker c.args.worker) c.args.worker c.args.bytes.now c.args.now (host_of g.D.Disk.size c.in-Open.core) (host_of g.D.Disk.size c.on_source_reply.new.self) d c.on_source_reply.result c.requires.there (c.on_source_reply.ensures.is t)) c.landed.ensures.plans)
    c.on_source_reply.ensures.ran c.on_source_reply.ensures.counted))

pub returns-clause-calls : goal.returns-clause-calls
returns-clause-calls g c =
    same_result c.on_source_reply.result c.of_bytes-out.result _ c.of_bytes-out.ensures.same
    (dest_called g.D.Disk.Told g.D.Disk.size g.D.Disk.fuse g.D.Disk.timeline g.D.Disk.faults c.args.self.now _ c.in-Open.core c.on_source_reply.new.self c.on_source_reply.result c.in-Open.is refl
    c.boot.ensures.stands c.boot.ensures.certain c.on_source_reply.ensures.ran)
