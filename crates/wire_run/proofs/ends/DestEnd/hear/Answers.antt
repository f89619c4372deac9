use Rattle.session_server.specs.declared.host.TheConstants.{MOST_STEPS}
use Rattle.run_ends.specs.Ends.{count_gives, words_of}
use Rattle.wire_run.specs.Stage.{HasFitPlans}
use Rattle.wire_run.proofs.Acts.{dest_few, unheard}
use Rattle.wire_run.proofs.Cores.{dest_there}
use Rattle.std.proofs.Common.{sym, subst, ◌∙◌}
use Rattle.wire_run.proofs.Calling.{dest_rested}
use Rattle.wire_run.proofs.ends.DestEnd.hear.Goals as goal

pub returns-else-there-clause-acts : goal.returns-else-there-clause-acts
returns-else-there-clause-acts g c =
    let d = dest_there c.args.self.now c.requires.«open» in
    unheard g.D.Disk.Told (words_of g.M.Mechanism.mic_of g.M.Mechanism.derived g.M.Mechanism.started g.M.Mechanism.accepted g.M.Mechanism.finished count_gives)
    g.D.Disk.faults g.D.Disk.size c.args.worker c.args.bytes.now c.args.now c.args.self.now d.core c.new.result d.is
    (dest_few MOST_STEPS c.args.self.now d.core d.is c.requires.few) c.are_bytes.ensures (sym c.is_worker-there.ensures ∙ c.if-there.false)
    (subst HasFitPlans d.is c.has_fit_plans.ensures) c.new.ensures

pub returns-else-there-clause-calls : goal.returns-else-there-clause-calls
returns-else-there-clause-calls g c =
    dest_rested g.D.Disk.Told g.D.Disk.size g.D.Disk.fuse g.D.Disk.timeline g.D.Disk.faults c.args.self.now c.new.result c.rests.ensures c.new.ensures
