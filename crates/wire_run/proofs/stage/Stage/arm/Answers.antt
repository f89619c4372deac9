use Rattle.std.proofs.Common.{◌∙◌}
use Rattle.run_ends.specs.Ends.{count_gives, words_of}
use Rattle.wire_log.specs.Keeping.{reading}
use Rattle.wire_run.proofs.Arming.{arm_begins, arm_bytes, arm_clock, arm_done, arm_small, arm_stops}
use Rattle.wire_run.proofs.Crashing.{open_at}
use Rattle.wire_run.proofs.stage.Stage.arm.Goals as goal

pub arm_end-requires : goal.arm_end-requires
arm_end-requires g c =
    open_at c.args.side c.args.self.now c.requires.fair.ready

pub count-requires : goal.count-requires
count-requires g c =
    arm_bytes g.D.Disk.Told g.D.Disk.size g.D.Disk.fuse g.D.Disk.faults c.args.calls c.args.pick c.args.self.now c.arm_end.new.self c.args.self.now c.requires.fair c.args.side c.arm_end.ensures.rest

pub returns-in_err-count-clause-keeps : goal.returns-in_err-count-clause-keeps
returns-in_err-count-clause-keeps g c =
    arm_small g.D.Disk.Told g.D.Disk.size g.D.Disk.fuse g.D.Disk.faults c.args.calls c.args.pick c.args.self.now c.arm_end.new.self c.count.new.self c.requires.fair
    c.args.side c.at-pending.result c.put.new.self c.at-pending.ensures c.put.ensures c.count.ensures.keeps c.arm_end.ensures.armed c.arm_end.ensures.rest

pub returns-in_err-count-clause-stops : goal.returns-in_err-count-clause-stops
returns-in_err-count-clause-stops g c =
    arm_stops g.D.Disk.Told g.D.Disk.size g.D.Disk.fuse g.D.Disk.faults c.args.calls c.args.pick c.args.self.now c.arm_end.new.self c.count.new.self c.requires.fair
    c.args.side c.at-pending.result c.put.new.self c.at-pending.ensures c.put.ensures c.count.ensures.keeps c.arm_end.ensures.armed c.arm_end.ensures.rest

pub returns-in_err-count-clause-begun : goal.returns-in_err-count-clause-begun
returns-in_err-count-clause-begun g c =
    arm_begins g.D.Disk.Told g.D.Disk.size g.D.Disk.fuse g.D.Disk.faults c.args.calls c.args.pick c.args.self.now c.arm_end.new.self c.count.new.self c.requires.fair c.args.side c.count.new.self.client c.count.ensures.keeps.client c.arm_end.ensures.rest

pub returns-in_err-count-clause-clock : goal.returns-in_err-count-clause-clock
returns-in_err-count-clause-clock g c =
    c.count.ensures.keeps.clock ∙ arm_clock g.D.Disk.Told g.D.Disk.size g.D.Disk.fuse g.D.Disk.faults c.args.calls c.args.pick c.args.self.now c.arm_end.new.self c.count.new.self c.requires.fair c.args.side c.arm_end.ensures.rest

pub returns-clause-small : goal.returns-clause-small
returns-clause-small g c =
    λ text. arm_done g.D.Disk.Told g.D.Disk.size g.D.Disk.fuse g.D.Disk.faults c.args.calls c.args.pick c.args.self.now c.arm_end.new.self c.count.new.self c.requires.fair
    c.args.side c.at-pending.result c.put.new.self c.at-pending.ensures c.put.ensures c.count.ensures.keeps c.arm_end.ensures.armed c.arm_end.ensures.rest
    (words_of g.M.Mechanism.mic_of g.M.Mechanism.derived g.M.Mechanism.started g.M.Mechanism.accepted g.M.Mechanism.finished count_gives) reading text c.count.ensures.log c.in_ok-count.ensures.choices

pub returns-clause-keeps : goal.returns-clause-keeps
returns-clause-keeps g c =
    arm_small g.D.Disk.Told g.D.Disk.size g.D.Disk.fuse g.D.Disk.faults c.args.calls c.args.pick c.args.self.now c.arm_end.new.self c.count.new.self c.requires.fair
    c.args.side c.at-pending.result c.put.new.self c.at-pending.ensures c.put.ensures c.count.ensures.keeps c.arm_end.ensures.armed c.arm_end.ensures.rest

pub returns-clause-stops : goal.returns-clause-stops
returns-clause-stops g c =
    arm_stops g.D.Disk.Told g.D.Disk.size g.D.Disk.fuse g.D.Disk.faults c.args.calls c.args.pick c.args.self.now c.arm_end.new.self c.count.new.self c.requires.fair
    c.args.side c.at-pending.result c.put.new.self c.at-pending.ensures c.put.ensures c.count.ensures.keeps c.arm_end.ensures.armed c.arm_end.ensures.rest

pub returns-clause-begun : goal.returns-clause-begun
returns-clause-begun g c =
    arm_begins g.D.Disk.Told g.D.Disk.size g.D.Disk.fuse g.D.Disk.faults c.args.calls c.args.pick c.args.self.now c.arm_end.new.self c.count.new.self c.requires.fair c.args.side c.count.new.self.client c.count.ensures.keeps.client c.arm_end.ensures.rest

pub returns-clause-clock : goal.returns-clause-clock
returns-clause-clock g c =
    c.count.ensures.keeps.clock ∙ arm_clock g.D.Disk.Told g.D.Disk.size g.D.Disk.fuse g.D.Disk.faults c.args.calls c.args.pick c.args.self.now c.arm_end.new.self c.count.new.self c.requires.fair c.args.side c.arm_end.ensures.rest
