use Rattle.std.specs.String.{string_bytes}
use Rattle.wire_log.specs.Keeping.{reading}
use Rattle.wire_run.proofs.Cuts.{goes_on, keeps_going, noted_as, noted_bytes, noted_took}
use Rattle.wire_run.proofs.stage.Stage.end_server.Goals as goal

pub cut-requires-clause-due : goal.cut-requires-clause-due
cut-requires-clause-due g c = c.in-Some.ensures

pub returns-in-Some-clause-ends : goal.returns-in-Some-clause-ends
returns-in-Some-clause-ends g c = c.cut.ensures.ends

pub returns-in-Some-clause-keeps : goal.returns-in-Some-clause-keeps
returns-in-Some-clause-keeps g c = c.cut.ensures.keeps

pub settle-requires-clause-took : goal.settle-requires-clause-took
settle-requires-clause-took g c = noted_took c.args.side c.as_slice.result.now c.args.self.now c.note.new.self c.args.acted.took c.note.ensures c.requires.took

pub settle-requires-clause-bytes : goal.settle-requires-clause-bytes
settle-requires-clause-bytes g c = noted_bytes c.args.side c.as_slice.result.now c.args.self.now c.note.new.self c.note.ensures c.requires.bytes

pub returns-in_err-fault-in-None-clause-keeps : goal.returns-in_err-fault-in-None-clause-keeps
returns-in_err-fault-in-None-clause-keeps g c =
    keeps_going g.D.Disk.Told g.D.Disk.size g.D.Disk.fuse g.D.Disk.timeline g.D.Disk.faults c.args.side c.args.acted.out.used c.args.self.now c.note.new.self c.settle.new.self c.in-None.ensures
    (noted_as c.args.side c.args.acted.out.used c.as_slice.result.now c.args.self.now c.note.new.self c.as_slice.ensures c.note.ensures) c.settle.ensures.keeps

pub returns-in_ok-fault-in-None-clause-ends : goal.returns-in_ok-fault-in-None-clause-ends
returns-in_ok-fault-in-None-clause-ends g c =
    goes_on g.D.Disk.Told g.D.Disk.size g.D.Disk.fuse g.D.Disk.timeline g.D.Disk.faults reading c.args.side c.args.acted c.args.self.now c.note.new.self c.settle.new.self (string_bytes c.args.text.now) (string_bytes c.settle.new.text) c.in_ok-fault-in-None.fault
    c.in-None.ensures (noted_as c.args.side c.args.acted.out.used c.as_slice.result.now c.args.self.now c.note.new.self c.as_slice.ensures c.note.ensures)
    c.in_ok-fault-in-None.ensures.settled c.settle.ensures.keeps

pub returns-in_ok-fault-in-None-clause-keeps : goal.returns-in_ok-fault-in-None-clause-keeps
returns-in_ok-fault-in-None-clause-keeps g c =
    keeps_going g.D.Disk.Told g.D.Disk.size g.D.Disk.fuse g.D.Disk.timeline g.D.Disk.faults c.args.side c.args.acted.out.used c.args.self.now c.note.new.self c.settle.new.self c.in-None.ensures
    (noted_as c.args.side c.args.acted.out.used c.as_slice.result.now c.args.self.now c.note.new.self c.as_slice.ensures c.note.ensures) c.settle.ensures.keeps
