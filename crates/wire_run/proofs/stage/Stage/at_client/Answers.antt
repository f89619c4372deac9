use Rattle.std.proofs.Common.{refl}
use Rattle.std.specs.String.{string_bytes}
use Rattle.wire_log.specs.Keeping.{reading}
use Rattle.wire_machine.specs.Ends as acts
use Rattle.run_ends.specs.Ends.{count_gives, run_machines, words_of}
use Rattle.wire_run.proofs.Arrivals.{client_comes}
use Rattle.wire_run.proofs.Keeping.{client_kept, starved}
use Rattle.wire_run.proofs.Settled.{within_log}
use Rattle.wire_run.proofs.Watched.{stops_same}
use Rattle.wire_run.specs.Watching.{no_side}
use Rattle.wire_run.proofs.stage.Stage.at_client.Goals as goal

pub returns-in_err-out-clause-keeps : goal.returns-in_err-out-clause-keeps
returns-in_err-out-clause-keeps g c = starved g.D.Disk.Told c.args.self.now c.args.self.now.source c.args.self.now.dest c.client_takes.new.client c.client_takes.new.draws c.args.self.now.clock c.requires.fair.ready c.requires.fair.bytes refl refl c.in_err-out.ensures.err

pub settle-requires-clause-took : goal.settle-requires-clause-took
settle-requires-clause-took g c = within_log c.args.number c.args.self.now.log c.requires.sent

pub returns-clause-comes : goal.returns-clause-comes
returns-clause-comes g c =
    client_comes g.D.Disk.Told (words_of g.M.Mechanism.mic_of g.M.Mechanism.derived g.M.Mechanism.started g.M.Mechanism.accepted g.M.Mechanism.finished count_gives) reading g.D.Disk.faults g.D.Disk.size
    c.args.from c.args.number c.stored-bytes.result.now c.args.self.now c.settle.new.self c.client_takes.new.client c.client_takes.new.draws c.in_ok-out.out (string_bytes c.args.text.now) (string_bytes c.settle.new.text) c.settle.result
    c.requires.fair.ready c.stored-bytes.ensures c.in_ok-out.ensures.acts c.settle.ensures.keeps c.settle.ensures.settled

pub returns-clause-keeps : goal.returns-clause-keeps
returns-clause-keeps g c =
    client_kept g.D.Disk.Told (run_machines g.M.Mechanism.mic_of g.M.Mechanism.derived g.M.Mechanism.started g.M.Mechanism.accepted g.M.Mechanism.finished)
    (acts.ClientTakes c.args.from c.stored-bytes.result.now) c.args.self.now.clock c.args.self.now c.settle.new.self c.client_takes.new.client c.client_takes.new.draws c.in_ok-out.out c.requires.fair.ready c.in_ok-out.ensures.acts c.settle.ensures.keeps

pub returns-in_err-out-clause-stops : goal.returns-in_err-out-clause-stops
returns-in_err-out-clause-stops g c = stops_same g.D.Disk.Told g.D.Disk.size g.D.Disk.fuse no_side c.args.self.now _ c.requires.fair.watched refl refl refl

pub returns-clause-stops : goal.returns-clause-stops
returns-clause-stops g c =
    stops_same g.D.Disk.Told g.D.Disk.size g.D.Disk.fuse no_side c.args.self.now c.settle.new.self c.requires.fair.watched c.settle.ensures.keeps.source c.settle.ensures.keeps.dest c.settle.ensures.keeps.stops
