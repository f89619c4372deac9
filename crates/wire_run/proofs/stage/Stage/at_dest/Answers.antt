use Rattle.std.proofs.Common.{refl}
use Rattle.std.specs.String.{string_bytes}
use Rattle.nfs_base.specs.declared.side.Side.TheVariants as sides
use Rattle.run_ends.specs.Ends.{count_gives, words_of}
use Rattle.wire_lines.specs.declared.letters.Speaker.TheVariants as speakers
use Rattle.wire_log.specs.Keeping.{reading}
use Rattle.wire_machine.specs.Ends as acts
use Rattle.wire_run.proofs.Cores.{dest_open}
use Rattle.wire_run.proofs.Ended.{dest_ends}
use Rattle.wire_run.proofs.Handed.{dest_arrives}
use Rattle.wire_run.proofs.Outcomes.{end_rest, rest_begins}
use Rattle.wire_run.proofs.Settled.{within_log}
use Rattle.wire_run.proofs.StopSteps.{dest_may_stop, dest_small, dest_stops, starved_small, starved_stops}
use Rattle.wire_run.proofs.stage.Stage.at_dest.Goals as goal

pub returns-in_err-out-clause-keeps : goal.returns-in_err-out-clause-keeps
returns-in_err-out-clause-keeps g c =
    starved_small g.D.Disk.Told c.args.self.now _ c.requires.fair.ready c.requires.fair.bytes refl c.in_err-out.ensures.err refl refl refl refl

pub returns-in_err-out-clause-stops : goal.returns-in_err-out-clause-stops
returns-in_err-out-clause-stops g c =
    starved_stops g.D.Disk.Told g.D.Disk.size g.D.Disk.fuse c.args.self.now _ c.requires.fair.watched refl c.in_err-out.ensures.err refl

pub end_server-requires-clause-open : goal.end_server-requires-clause-open
end_server-requires-clause-open g c =
    let a = c.in_ok-out.ensures.acts in dest_open c.take.new.self a.next a.next_is

pub end_server-requires-clause-may : goal.end_server-requires-clause-may
end_server-requires-clause-may g c =
    let a = c.in_ok-out.ensures.acts in
    dest_may_stop g.D.Disk.Told g.D.Disk.size g.D.Disk.fuse g.D.Disk.timeline g.D.Disk.faults c.servers_stop.ensures.stops c.args.self.now c.take.new.self c.take.new.draws c.in_ok-out.out.used
    c.requires.fair.watched a.was a.next a.was_is a.next_is a.stays a.counted c.in_ok-out.ensures.calls

pub end_server-requires-clause-took : goal.end_server-requires-clause-took
end_server-requires-clause-took g c =
    within_log c.args.number c.args.self.now.log c.requires.sent

pub returns-clause-comes : goal.returns-clause-comes
returns-clause-comes g c =
    dest_arrives g.D.Disk.Told (words_of g.M.Mechanism.mic_of g.M.Mechanism.derived g.M.Mechanism.started g.M.Mechanism.accepted g.M.Mechanism.finished count_gives) reading g.D.Disk.faults g.D.Disk.size
    c.args.number c.stored-bytes.result.now c.args.self.now c.end_server.new.self (string_bytes c.args.text.now) (string_bytes c.end_server.new.text) c.end_server.result c.stored-bytes.ensures
    (dest_ends g.D.Disk.Told (words_of g.M.Mechanism.mic_of g.M.Mechanism.derived g.M.Mechanism.started g.M.Mechanism.accepted g.M.Mechanism.finished count_gives) reading g.D.Disk.size g.D.Disk.fuse g.D.Disk.timeline g.D.Disk.faults
    c.servers_stop.ensures.stops c.servers_stop.ensures.mechanisms (acts.DestTakes 0 c.stored-bytes.result.now) speakers.Dest c.args.number c.opening.result c.args.self.now c.end_server.new.self c.take.new.self c.take.new.draws c.in_ok-out.out
    (string_bytes c.args.text.now) (string_bytes c.end_server.new.text) c.requires.fair c.in_ok-out.ensures.acts c.in_ok-out.ensures.calls c.opening.ensures c.end_server.result c.end_server.ensures.ends)

pub returns-clause-keeps : goal.returns-clause-keeps
returns-clause-keeps g c =
    let a = c.in_ok-out.ensures.acts in
    dest_small g.D.Disk.Told g.D.Disk.size g.D.Disk.fuse g.D.Disk.timeline g.D.Disk.faults c.servers_stop.ensures.stops c.args.self.now c.take.new.self c.take.new.draws c.in_ok-out.out.used
    c.requires.fair.watched a.was a.next a.was_is a.next_is a.stays a.counted c.in_ok-out.ensures.calls
    c.end_server.new.self c.requires.fair.ready c.requires.fair.bytes c.end_server.ensures.keeps

pub returns-clause-stops : goal.returns-clause-stops
returns-clause-stops g c =
    let a = c.in_ok-out.ensures.acts in
    dest_stops g.D.Disk.Told g.D.Disk.size g.D.Disk.fuse g.D.Disk.timeline g.D.Disk.faults c.servers_stop.ensures.stops c.args.self.now c.take.new.self c.take.new.draws c.in_ok-out.out.used
    c.requires.fair.watched a.was a.next a.was_is a.next_is a.stays a.counted c.in_ok-out.ensures.calls
    c.end_server.new.self c.requires.fair.ready c.requires.fair.bytes c.end_server.ensures.keeps

pub returns-clause-grows : goal.returns-clause-grows
returns-clause-grows g c =
    let r = end_rest g.D.Disk.Told g.D.Disk.size g.D.Disk.fuse g.D.Disk.timeline g.D.Disk.faults sides.Dest c.in_ok-out.out.used _ c.end_server.new.self c.requires.fair.bytes c.end_server.ensures.keeps in r.log

pub returns-clause-begun : goal.returns-clause-begun
returns-clause-begun g c =
    rest_begins _ c.end_server.new.self (end_rest g.D.Disk.Told g.D.Disk.size g.D.Disk.fuse g.D.Disk.timeline g.D.Disk.faults sides.Dest c.in_ok-out.out.used _ c.end_server.new.self c.requires.fair.bytes c.end_server.ensures.keeps)

pub returns-clause-clock : goal.returns-clause-clock
returns-clause-clock g c =
    let r = end_rest g.D.Disk.Told g.D.Disk.size g.D.Disk.fuse g.D.Disk.timeline g.D.Disk.faults sides.Dest c.in_ok-out.out.used _ c.end_server.new.self c.requires.fair.bytes c.end_server.ensures.keeps in r.clock
