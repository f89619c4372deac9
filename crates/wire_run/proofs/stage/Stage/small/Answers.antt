use Rattle.std.specs.String.{string_bytes}
use Rattle.wire_log.specs.Keeping.{reading}
use Rattle.run_ends.specs.Ends.{count_gives, words_of}
use Rattle.wire_run.proofs.Works.{ends_as, work_ends}
use Rattle.wire_run.proofs.Watched.{sets_more}
use Rattle.wire_run.specs.Watching.{sets_in}
use Rattle.wire_schedule.specs.declared.event.Event.TheVariants as kinds
use Rattle.wire_run.proofs.stage.Stage.small.Goals as goal

pub returns-in-Deliver-clause-small : goal.returns-in-Deliver-clause-small
returns-in-Deliver-clause-small g c =
    ends_as g.D.Disk.Told (words_of g.M.Mechanism.mic_of g.M.Mechanism.derived g.M.Mechanism.started g.M.Mechanism.accepted g.M.Mechanism.finished count_gives) reading g.D.Disk.faults g.D.Disk.size
    c.args.event.now (kinds.Deliver c.in-Deliver.number) c.args.self.now c.deliver.new.self (string_bytes c.args.text.now) (string_bytes c.deliver.new.text) c.deliver.result c.in-Deliver.is c.deliver.ensures.small

pub returns-in-Deliver-clause-stops : goal.returns-in-Deliver-clause-stops
returns-in-Deliver-clause-stops g c = sets_more g.D.Disk.Told g.D.Disk.size g.D.Disk.fuse (sets_in c.args.event.now) c.args.self.now c.deliver.new.self c.deliver.ensures.stops

pub returns-in-Work-clause-small : goal.returns-in-Work-clause-small
returns-in-Work-clause-small g c =
    ends_as g.D.Disk.Told (words_of g.M.Mechanism.mic_of g.M.Mechanism.derived g.M.Mechanism.started g.M.Mechanism.accepted g.M.Mechanism.finished count_gives) reading g.D.Disk.faults g.D.Disk.size
    c.args.event.now (kinds.Work c.in-Work.worker) c.args.self.now c.work.new.self (string_bytes c.args.text.now) (string_bytes c.work.new.text) c.work.result c.in-Work.is
    (work_ends g.D.Disk.Told (words_of g.M.Mechanism.mic_of g.M.Mechanism.derived g.M.Mechanism.started g.M.Mechanism.accepted g.M.Mechanism.finished count_gives) reading g.D.Disk.faults g.D.Disk.size
    c.in-Work.worker c.args.self.now c.work.new.self (string_bytes c.args.text.now) (string_bytes c.work.new.text) c.work.result c.work.ensures.comes)

pub returns-in-Work-clause-stops : goal.returns-in-Work-clause-stops
returns-in-Work-clause-stops g c = sets_more g.D.Disk.Told g.D.Disk.size g.D.Disk.fuse (sets_in c.args.event.now) c.args.self.now c.work.new.self c.work.ensures.stops

pub returns-in-Crash-clause-small : goal.returns-in-Crash-clause-small
returns-in-Crash-clause-small g c =
    ends_as g.D.Disk.Told (words_of g.M.Mechanism.mic_of g.M.Mechanism.derived g.M.Mechanism.started g.M.Mechanism.accepted g.M.Mechanism.finished count_gives) reading g.D.Disk.faults g.D.Disk.size
    c.args.event.now (kinds.Crash c.in-Crash.side c.in-Crash.pick) c.args.self.now c.crash.new.self (string_bytes c.args.text.now) (string_bytes c.crash.new.text) c.crash.result c.in-Crash.is c.crash.ensures.small

pub returns-in-Crash-clause-stops : goal.returns-in-Crash-clause-stops
returns-in-Crash-clause-stops g c = sets_more g.D.Disk.Told g.D.Disk.size g.D.Disk.fuse (sets_in c.args.event.now) c.args.self.now c.crash.new.self c.crash.ensures.stops
