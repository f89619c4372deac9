use Rattle.std.proofs.Common.{arith}
use Rattle.std.specs.String.{string_bytes}
use Rattle.wire_log.specs.Keeping.{reading}
use Rattle.run_ends.specs.Ends.{count_gives, words_of}
use Rattle.wire_run.proofs.Arrivals.{command_small, small_as, tick_small}
use Rattle.wire_run.proofs.Watched.{sets_more}
use Rattle.wire_run.specs.Watching.{sets_in}
use Rattle.wire_schedule.specs.declared.event.Event.TheVariants as kinds
use Rattle.wire_run.proofs.stage.Stage.lasting.Goals as goal

pub returns-in-Tick-clause-small : goal.returns-in-Tick-clause-small
returns-in-Tick-clause-small g c =
    tick_small g.D.Disk.Told (words_of g.M.Mechanism.mic_of g.M.Mechanism.derived g.M.Mechanism.started g.M.Mechanism.accepted g.M.Mechanism.finished count_gives) reading g.D.Disk.faults g.D.Disk.size
    c.args.event.now c.in-Tick.seconds c.args.self.now c.tick.new.self (string_bytes c.args.text.now) (string_bytes c.tick.new.text) c.tick.result c.in-Tick.is c.tick.ensures.comes

pub returns-in-Tick-clause-stops : goal.returns-in-Tick-clause-stops
returns-in-Tick-clause-stops g c = sets_more g.D.Disk.Told g.D.Disk.size g.D.Disk.fuse (sets_in c.args.event.now) c.args.self.now c.tick.new.self c.tick.ensures.stops

pub returns-in-Peek-clause-small : goal.returns-in-Peek-clause-small
returns-in-Peek-clause-small g c =
    small_as g.D.Disk.Told (words_of g.M.Mechanism.mic_of g.M.Mechanism.derived g.M.Mechanism.started g.M.Mechanism.accepted g.M.Mechanism.finished count_gives) reading g.D.Disk.faults g.D.Disk.size
    c.args.event.now (kinds.Peek c.in-Peek.side c.in-Peek.file c.in-Peek.off c.in-Peek.len) c.args.self.now c.show.new.self (string_bytes c.args.text.now) (string_bytes c.show.new.text) c.show.result c.in-Peek.is c.show.ensures.small

pub returns-in-Peek-clause-stops : goal.returns-in-Peek-clause-stops
returns-in-Peek-clause-stops g c = sets_more g.D.Disk.Told g.D.Disk.size g.D.Disk.fuse (sets_in c.args.event.now) c.args.self.now c.show.new.self c.show.ensures.stops

pub returns-in_default : goal.returns-in_default
returns-in_default g c = record {
  small = command_small g.D.Disk.Told (words_of g.M.Mechanism.mic_of g.M.Mechanism.derived g.M.Mechanism.started g.M.Mechanism.accepted g.M.Mechanism.finished count_gives) reading g.D.Disk.faults g.D.Disk.size
      c.args.event.now c.args.self.now c.command.new.self (string_bytes c.args.text.now) (string_bytes c.command.new.text) c.command.result c.command.ensures.there c.command.ensures.comes;
  keeps = c.command.ensures.keeps;
  stops = sets_more g.D.Disk.Told g.D.Disk.size g.D.Disk.fuse (sets_in c.args.event.now) c.args.self.now c.command.new.self c.command.ensures.stops;
  begun = c.command.ensures.begun;
  clock = omega (arith, c.command.ensures.clock);
}
