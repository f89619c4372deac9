use Rattle.std.specs.String.{string_bytes}
use Rattle.wire_log.specs.Keeping.{reading}
use Rattle.run_ends.specs.Ends.{count_gives, words_of}
use Rattle.wire_run.proofs.Arrivals.{tick_as, tick_comes}
use Rattle.wire_run.proofs.Keeping.{tick_kept}
use Rattle.wire_run.proofs.Watched.{clock_stops, clock_watched, stops_settled}
use Rattle.wire_run.specs.Watching.{no_side}
use Rattle.wire_run.proofs.stage.Stage.tick.Goals as goal

pub returns-clause-comes : goal.returns-clause-comes
returns-clause-comes g c =
    tick_as g.D.Disk.Told (words_of g.M.Mechanism.mic_of g.M.Mechanism.derived g.M.Mechanism.started g.M.Mechanism.accepted g.M.Mechanism.finished count_gives) reading g.D.Disk.faults g.D.Disk.size
    c.args.seconds c.from.result c.args.self.now c.settle_all.new.self (string_bytes c.args.text.now) (string_bytes c.settle_all.new.text) c.settle_all.result c.from.ensures
    (tick_comes g.D.Disk.Told (words_of g.M.Mechanism.mic_of g.M.Mechanism.derived g.M.Mechanism.started g.M.Mechanism.accepted g.M.Mechanism.finished count_gives) reading g.D.Disk.faults g.D.Disk.size
    c.from.result c.args.self.now c.all_tick.new.self c.settle_all.new.self c.in_ok-ticked.ticked (string_bytes c.args.text.now) (string_bytes c.settle_all.new.text) c.settle_all.result
    c.in_ok-ticked.ensures.ticks c.all_tick.ensures.same c.settle_all.ensures.keeps c.settle_all.ensures.settled)

pub returns-clause-keeps : goal.returns-clause-keeps
returns-clause-keeps g c =
    tick_kept g.D.Disk.Told c.from.result c.args.self.now c.all_tick.new.self c.settle_all.new.self c.all_tick.ensures.keeps c.all_tick.ensures.same c.settle_all.ensures.keeps

pub all_tick-requires-clause-watched : goal.all_tick-requires-clause-watched
all_tick-requires-clause-watched g c = clock_watched g.D.Disk.Told g.D.Disk.size g.D.Disk.fuse c.from.result c.args.self.now c.requires.fair.watched

pub returns-in_err-ticked-clause-stops : goal.returns-in_err-ticked-clause-stops
returns-in_err-ticked-clause-stops g c = clock_stops g.D.Disk.Told g.D.Disk.size g.D.Disk.fuse no_side c.from.result c.args.self.now c.all_tick.new.self c.all_tick.ensures.stops

pub returns-clause-stops : goal.returns-clause-stops
returns-clause-stops g c =
    stops_settled g.D.Disk.Told g.D.Disk.size g.D.Disk.fuse no_side c.args.self.now c.all_tick.new.self c.settle_all.new.self
    (clock_stops g.D.Disk.Told g.D.Disk.size g.D.Disk.fuse no_side c.from.result c.args.self.now c.all_tick.new.self c.all_tick.ensures.stops) c.settle_all.ensures.keeps
