use Rattle.std.proofs.Common.{None, ap, refl}
use Rattle.block_file.specs.Opened.{Opened}
use Rattle.wire_machine.specs.Ends as acts
use Rattle.run_ends.specs.Ends.{run_machines}
use Rattle.dest_core.specs.Stepping.{tick_step}
use Rattle.session_server.specs.Host.{host_of}
use Rattle.session_server.specs.declared.host.TheConstants.{MOST_STEPS}
use Rattle.wire_run.proofs.Acts.{all_draws, and_same, dest_few, dest_rests, handled, same_result, dest_served, stepped_fails}
use Rattle.wire_run.proofs.Calling.{dest_fuse, dest_quiet, stepped_used}
use Rattle.wire_run.proofs.ends.DestEnd.tick.Goals as goal

pub returns-clause-acts : goal.returns-clause-acts
returns-clause-acts g c =
    let few = dest_few MOST_STEPS c.args.self.now c.in-Open.core c.in-Open.is c.requires.few in
    same_result c.tick.result c.of_bytes-out.result _ c.of_bytes-out.ensures.same
    (all_draws c.tick.result _
    (λ d. dest_rests g.D.Disk.Told (run_machines g.M.Mechanism.mic_of g.M.Mechanism.derived g.M.Mechanism.started g.M.Mechanism.accepted g.M.Mechanism.finished)
    g.D.Disk.faults g.D.Disk.size acts.DestTicks c.args.now c.args.self.now _ c.in-Open.core c.tick.new.self d d c.tick.result c.in-Open.is refl
    (λ t. dest_served c.tick.result _ _ _ _ (handled c.tick.result c.in-Open.core.steps MOST_STEPS None few tt c.of_bytes-out.ensures.bytes) c.tick.ensures.short (and_same c.tick.result _ d c.tick.ensures.is) c.landed.ensures.plans)
    c.tick.ensures.volume
    (stepped_fails c.tick.result (host_of g.D.Disk.size c.tick.new.self) (tick_step (record { mic = g.M.Mechanism.mic_of; derived = g.M.Mechanism.derived }) c.args.now (host_of g.D.Disk.size c.in-Open.core)) c.tick.ensures.is refl)
    c.tick.ensures.counted))

pub returns-clause-calls : goal.returns-clause-calls
returns-clause-calls g c =
    same_result c.tick.result c.of_bytes-out.result _ c.of_bytes-out.ensures.same
    (dest_quiet g.D.Disk.Told g.D.Disk.size g.D.Disk.fuse g.D.Disk.timeline g.D.Disk.faults c.args.self.now _ c.in-Open.core c.tick.new.self c.tick.result c.in-Open.is refl
    c.boot.ensures.stands c.boot.ensures.certain c.tick.ensures.volume
    (stepped_used c.tick.result (host_of g.D.Disk.size c.tick.new.self) (tick_step (record { mic = g.M.Mechanism.mic_of; derived = g.M.Mechanism.derived }) c.args.now (host_of g.D.Disk.size c.in-Open.core)) c.tick.ensures.is refl))

pub returns-clause-fuse : goal.returns-clause-fuse
returns-clause-fuse g c =
    dest_fuse g.D.Disk.fuse c.args.self.now c.in-Open.core c.tick.new.self c.in-Open.is (ap (λ (v : Opened _). g.D.Disk.fuse v.disk) c.tick.ensures.volume)
