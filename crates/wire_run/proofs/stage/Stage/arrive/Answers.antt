use Rattle.std.specs.String.{string_bytes}
use Rattle.run_ends.specs.Ends.{count_gives, words_of}
use Rattle.wire_log.specs.Keeping.{reading}
use Rattle.wire_machine.specs.declared.port.Port.TheVariants as ports
use Rattle.wire_run.proofs.Handed.{arrived, client_arrives}
use Rattle.wire_run.proofs.stage.Stage.arrive.Goals as goal

pub returns-in-Source-clause-comes : goal.returns-in-Source-clause-comes
returns-in-Source-clause-comes g c =
    arrived g.D.Disk.Told (words_of g.M.Mechanism.mic_of g.M.Mechanism.derived g.M.Mechanism.started g.M.Mechanism.accepted g.M.Mechanism.finished count_gives) reading g.D.Disk.faults g.D.Disk.size
    c.args.port (ports.Source c.in-Source.conn) c.args.number c.args.self.now c.at_source.new.self (string_bytes c.args.text.now) (string_bytes c.at_source.new.text) c.at_source.result c.in-Source.is c.at_source.ensures.comes

pub returns-in-Dest-clause-comes : goal.returns-in-Dest-clause-comes
returns-in-Dest-clause-comes g c =
    arrived g.D.Disk.Told (words_of g.M.Mechanism.mic_of g.M.Mechanism.derived g.M.Mechanism.started g.M.Mechanism.accepted g.M.Mechanism.finished count_gives) reading g.D.Disk.faults g.D.Disk.size
    c.args.port ports.Dest c.args.number c.args.self.now c.at_dest.new.self (string_bytes c.args.text.now) (string_bytes c.at_dest.new.text) c.at_dest.result c.in-Dest.is c.at_dest.ensures.comes

pub returns-in-Worker-clause-comes : goal.returns-in-Worker-clause-comes
returns-in-Worker-clause-comes g c =
    arrived g.D.Disk.Told (words_of g.M.Mechanism.mic_of g.M.Mechanism.derived g.M.Mechanism.started g.M.Mechanism.accepted g.M.Mechanism.finished count_gives) reading g.D.Disk.faults g.D.Disk.size
    c.args.port (ports.Worker c.in-Worker.worker) c.args.number c.args.self.now c.at_worker.new.self (string_bytes c.args.text.now) (string_bytes c.at_worker.new.text) c.at_worker.result c.in-Worker.is c.at_worker.ensures.comes

pub returns-in_ok-fault-in-Client-clause-comes : goal.returns-in_ok-fault-in-Client-clause-comes
returns-in_ok-fault-in-Client-clause-comes g c =
    client_arrives g.D.Disk.Told (words_of g.M.Mechanism.mic_of g.M.Mechanism.derived g.M.Mechanism.started g.M.Mechanism.accepted g.M.Mechanism.finished count_gives) reading g.D.Disk.faults g.D.Disk.size
    c.args.port c.in-Client.from c.args.number c.args.self.now c.at_client.new.self (string_bytes c.args.text.now) (string_bytes c.at_client.new.text) c.in_ok-fault-in-Client.fault c.in-Client.is c.in_ok-fault-in-Client.ensures.comes
