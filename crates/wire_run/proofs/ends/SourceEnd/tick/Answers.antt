use Rattle.std.proofs.Common.{None, ap, refl}
use Rattle.block_file.specs.Opened.{Opened}
use Rattle.session_server.specs.declared.host.TheConstants.{MOST_STEPS}
use Rattle.wire_machine.specs.Ends as acts
use Rattle.run_ends.specs.Ends.{run_machines}
use Rattle.wire_run.proofs.Acts.{all_draws, handled, nothing_fails, quiet_bytes, quiet_short, served, source_few, source_rests, ticked_alone}
use Rattle.wire_run.proofs.Calling.{nothing_used, source_fuse, source_quiet}
use Rattle.wire_run.proofs.ends.SourceEnd.tick.Goals as goal

pub returns-clause-acts : goal.returns-clause-acts
returns-clause-acts g c =
    let few = source_few MOST_STEPS c.args.self.now c.in-Open.core c.in-Open.is c.requires.few in
    all_draws c.tick.result _
    (λ d. source_rests g.D.Disk.Told (run_machines g.M.Mechanism.mic_of g.M.Mechanism.derived g.M.Mechanism.started g.M.Mechanism.accepted g.M.Mechanism.finished)
    g.D.Disk.faults g.D.Disk.size acts.SourceTicks c.args.now c.args.self.now _ c.in-Open.core c.tick.new.self d d c.tick.result c.in-Open.is refl
    (λ t. served c.tick.result _ _ _ (handled c.tick.result c.in-Open.core.steps MOST_STEPS None few tt (quiet_bytes c.tick.result c.tick.ensures.out))
    (quiet_short c.tick.result c.tick.ensures.out) (ticked_alone c.tick.result d c.tick.ensures.out c.tick.ensures.is))
    c.tick.ensures.volume (nothing_fails c.tick.result c.tick.ensures.out) c.tick.ensures.counted)

pub returns-clause-calls : goal.returns-clause-calls
returns-clause-calls g c =
    source_quiet g.D.Disk.Told g.D.Disk.size g.D.Disk.fuse g.D.Disk.timeline g.D.Disk.faults c.args.self.now _ c.in-Open.core c.tick.new.self c.tick.result c.in-Open.is refl
    c.boot.ensures.stands c.boot.ensures.certain c.tick.ensures.volume (nothing_used c.tick.result c.tick.ensures.out)

pub returns-clause-fuse : goal.returns-clause-fuse
returns-clause-fuse g c =
    source_fuse g.D.Disk.fuse c.args.self.now c.in-Open.core c.tick.new.self c.in-Open.is (ap (λ (v : Opened _). g.D.Disk.fuse v.disk) c.tick.ensures.volume)
