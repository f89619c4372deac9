use Rattle.std.proofs.Common.{◌≡◌, true, None, refl}
use Rattle.session_server.specs.declared.host.TheConstants.{MOST_STEPS}
use Rattle.wire_machine.specs.Ends as acts
use Rattle.run_ends.specs.Ends.{is_worker, run_machines}
use Rattle.wire_run.proofs.Acts.{dest_acts, dest_few, handled, same_result, dest_served, with_that}
use Rattle.wire_run.proofs.Calling.{dest_called}
use Rattle.wire_run.proofs.ends.DestEnd.work.Goals as goal

pub returns-clause-acts : goal.returns-clause-acts
returns-clause-acts g c =
    let few = dest_few MOST_STEPS c.args.self.now c.in-Open.core c.in-Open.is c.requires.few in
    same_result c.work.result c.of_bytes-out.result _ c.of_bytes-out.ensures.same
    (dest_acts g.D.Disk.Told (run_machines g.M.Mechanism.mic_of g.M.Mechanism.derived g.M.Mechanism.started g.M.Mechanism.accepted g.M.Mechanism.finished)
    g.D.Disk.faults g.D.Disk.size g.D.Disk.fuse g.D.Disk.timeline
    (record { keeps = c.steps_keep_the_files.ensures; some = c.counts_rise_where_calls_fail.ensures.some; later = c.counts_rise_where_calls_fail.ensures.later })
    (acts.Works c.args.worker) c.args.now c.args.self.now _ c.in-Open.core c.work.new.self c.args.draws.now c.work.new.draws c.work.result c.in-Open.is refl
    (λ t. dest_served c.work.result _ _ _ _ (handled c.work.result c.in-Open.core.steps MOST_STEPS None few tt c.of_bytes-out.ensures.bytes) c.work.ensures.short
    (with_that c.work.result (is_worker c.args.worker ≡ true) _ c.requires.there (c.work.ensures.is t)) c.landed.ensures.plans)
    c.work.ensures.ran c.work.ensures.counted)

pub returns-clause-calls : goal.returns-clause-calls
returns-clause-calls g c =
    same_result c.work.result c.of_bytes-out.result _ c.of_bytes-out.ensures.same
    (dest_called g.D.Disk.Told g.D.Disk.size g.D.Disk.fuse g.D.Disk.timeline g.D.Disk.faults c.args.self.now _ c.in-Open.core c.work.new.self c.work.result c.in-Open.is refl
    c.boot.ensures.stands c.boot.ensures.certain c.work.ensures.ran)
