use Rattle.std.proofs.Common.{sym}
use Rattle.std.specs.String.{string_bytes}
use Rattle.run_ends.specs.Ends.{count_gives, words_of}
use Rattle.wire_log.specs.Keeping.{reading}
use Rattle.wire_machine.specs.Steps.{port_in, side_at}
use Rattle.wire_machine.specs.World.{posted_at}
use Rattle.wire_run.proofs.Comings.{to_nobody}
use Rattle.wire_run.proofs.Handed.{handed_nowhere, handed_over}
use Rattle.wire_run.proofs.Marking.{rest_small, rest_stops}
use Rattle.wire_run.proofs.stage.Stage.hand_over.Goals as goal

pub returns-in_err-count-in-None-clause-keeps : goal.returns-in_err-count-in-None-clause-keeps
returns-in_err-count-in-None-clause-keeps g c = rest_small g.D.Disk.Told c.args.self.now c.count.new.self c.requires.fair.ready c.count.ensures.keeps

pub returns-in_err-count-in-None-clause-stops : goal.returns-in_err-count-in-None-clause-stops
returns-in_err-count-in-None-clause-stops g c =
    rest_stops g.D.Disk.Told g.D.Disk.size g.D.Disk.fuse c.args.self.now c.count.new.self c.requires.fair.watched c.count.ensures.keeps

pub returns-in_ok-count-in-None-clause-comes : goal.returns-in_ok-count-in-None-clause-comes
returns-in_ok-count-in-None-clause-comes g c =
    handed_nowhere g.D.Disk.Told (words_of g.M.Mechanism.mic_of g.M.Mechanism.derived g.M.Mechanism.started g.M.Mechanism.accepted g.M.Mechanism.finished count_gives) reading g.D.Disk.faults g.D.Disk.size
    (side_at (port_in (posted_at c.args.number c.args.self.now.log))) c.args.number c.args.self.now c.count.new.self (string_bytes c.args.text.now) (string_bytes c.args.text.now)
    (to_nobody g.D.Disk.Told (words_of g.M.Mechanism.mic_of g.M.Mechanism.derived g.M.Mechanism.started g.M.Mechanism.accepted g.M.Mechanism.finished count_gives) reading g.D.Disk.faults g.D.Disk.size
    c.args.number c.args.self.now c.count.new.self (string_bytes c.args.text.now) c.requires.sent (sym c.in-None.ensures) c.requires.fair.ready c.count.ensures.keeps c.count.ensures.log c.in_ok-count-in-None.ensures.choices)

pub returns-in_ok-count-in-None-clause-keeps : goal.returns-in_ok-count-in-None-clause-keeps
returns-in_ok-count-in-None-clause-keeps g c = rest_small g.D.Disk.Told c.args.self.now c.count.new.self c.requires.fair.ready c.count.ensures.keeps

pub returns-in_ok-count-in-None-clause-stops : goal.returns-in_ok-count-in-None-clause-stops
returns-in_ok-count-in-None-clause-stops g c =
    rest_stops g.D.Disk.Told g.D.Disk.size g.D.Disk.fuse c.args.self.now c.count.new.self c.requires.fair.watched c.count.ensures.keeps

pub returns-in-Some-clause-comes : goal.returns-in-Some-clause-comes
returns-in-Some-clause-comes g c =
    handed_over g.D.Disk.Told (words_of g.M.Mechanism.mic_of g.M.Mechanism.derived g.M.Mechanism.started g.M.Mechanism.accepted g.M.Mechanism.finished count_gives) reading g.D.Disk.faults g.D.Disk.size
    c.args.number c.in-Some.port c.args.self.now c.arrive.new.self (string_bytes c.args.text.now) (string_bytes c.arrive.new.text) c.arrive.result c.requires.sent (sym c.in-Some.ensures) c.arrive.ensures.comes
