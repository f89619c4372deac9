use Rattle.std.proofs.Common.{length, ap, ◌∙◌}
use Rattle.server_volume.specs.declared.used.CallAnswer.{CallAnswer}
use Rattle.server_volume.specs.declared.used.VolumeCall.TheVariants as calls
use Rattle.server_volume.specs.Calls.{read_answer, read_call, Reads}
use Rattle.server_volume.specs.Choices.{noted}
use Rattle.server_volume.specs.Store.{seat_of}
use Rattle.server_volume.proofs.CallLemmas.{counted_one, reads_make, reads_ran, reads_rise}
use Rattle.server_volume.proofs.Facts.{read_facts}
use Rattle.server_volume.proofs.asking.call_read.Goals as goal

pub returns-clause-makes : goal.returns-clause-makes
unfolding read_call
returns-clause-makes g c = λ told choice agrees.
    let D = g.D.Disk in
    let old = c.args.volume.now in
    let new = c.read-result.new.self in
    let e = c.read-result.ensures in
    let facts = read_facts D.size D.fuse D.timeline D.faults c.args.file c.args.off (length c.args.out.now) c.read-result.result old new c.requires.there e.broken
    (e.volume told) e.tag e.homes e.size e.fuse (e.timeline told) in
    reads_make c.read-result.result (Reads c.args.file c.args.off (length c.args.out.now)) (seat_of D.size D.fuse D.timeline D.faults old) (seat_of D.size D.fuse D.timeline D.faults new)
    c.args.used.now c.note.new.self facts
    (c.note.ensures ∙ ap (λ (a : CallAnswer). noted c.args.used.now (calls.Read c.args.file c.args.off (length c.args.out.now)) a) c.read_answer.ensures) choice agrees

pub returns-clause-ran : goal.returns-clause-ran
returns-clause-ran g c =
    let D = g.D.Disk in
    let old = c.args.volume.now in
    let new = c.read-result.new.self in
    let e = c.read-result.ensures in
    let is = c.note.ensures ∙ ap (λ (a : CallAnswer). noted c.args.used.now (calls.Read c.args.file c.args.off (length c.args.out.now)) a) c.read_answer.ensures in
    counted_one D.Told (calls.Read c.args.file c.args.off (length c.args.out.now)) (read_answer c.read-result.result) (seat_of D.size D.fuse D.timeline D.faults old) (seat_of D.size D.fuse D.timeline D.faults new) c.args.used.now c.note.new.self is e.size
    (reads_rise c.read-result.result (D.faults old.disk) (D.faults new.disk) e.faults e.cause)
    (λ told.
    let facts = read_facts D.size D.fuse D.timeline D.faults c.args.file c.args.off (length c.args.out.now) c.read-result.result old new c.requires.there e.broken
    (e.volume told) e.tag e.homes e.size e.fuse (e.timeline told) in
    reads_ran c.read-result.result (Reads c.args.file c.args.off (length c.args.out.now)) (seat_of D.size D.fuse D.timeline D.faults old) (seat_of D.size D.fuse D.timeline D.faults new)
    c.args.used.now c.note.new.self facts is)
