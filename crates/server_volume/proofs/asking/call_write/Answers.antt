use Rattle.std.proofs.Common.{length, ap, ◌∙◌}
use Rattle.server_volume.specs.declared.used.CallAnswer.{CallAnswer}
use Rattle.server_volume.specs.declared.used.VolumeCall.TheVariants as calls
use Rattle.server_volume.specs.Calls.{write_answer, write_call}
use Rattle.server_volume.specs.Choices.{noted}
use Rattle.server_volume.specs.Store.{seat_of}
use Rattle.server_volume.proofs.CallLemmas.{counted_one, writes_make, writes_ran, writes_rise}
use Rattle.server_volume.proofs.Facts.{write_facts}
use Rattle.server_volume.proofs.asking.call_write.Goals as goal

pub returns-clause-makes : goal.returns-clause-makes
unfolding write_call
returns-clause-makes g c = λ told choice agrees.
    let D = g.D.Disk in
    let old = c.args.volume.now in
    let new = c.write-result.new.self in
    let e = c.write-result.ensures in
    let facts = write_facts D.size D.fuse D.timeline D.faults c.args.file c.args.off c.args.bytes.now c.write-result.result old new c.requires.there e.tested e.passed
    e.refused (e.written told) (e.failed told) (e.any_moment told) e.tag e.homes e.size in
    writes_make c.write-result.result c.args.file c.args.off c.args.bytes.now (seat_of D.size D.fuse D.timeline D.faults old) (seat_of D.size D.fuse D.timeline D.faults new)
    c.args.used.now c.note.new.self facts
    (c.note.ensures ∙ ap (λ (a : CallAnswer). noted c.args.used.now (calls.Write c.args.file c.args.off (length c.args.bytes.now)) a) c.write_answer.ensures) choice agrees

pub returns-clause-ran : goal.returns-clause-ran
returns-clause-ran g c =
    let D = g.D.Disk in
    let old = c.args.volume.now in
    let new = c.write-result.new.self in
    let e = c.write-result.ensures in
    let is = c.note.ensures ∙ ap (λ (a : CallAnswer). noted c.args.used.now (calls.Write c.args.file c.args.off (length c.args.bytes.now)) a) c.write_answer.ensures in
    counted_one D.Told (calls.Write c.args.file c.args.off (length c.args.bytes.now)) (write_answer c.write-result.result) (seat_of D.size D.fuse D.timeline D.faults old) (seat_of D.size D.fuse D.timeline D.faults new) c.args.used.now c.note.new.self is e.size
    (writes_rise c.write-result.result (D.faults old.disk) (D.faults new.disk) e.faults e.cause)
    (λ told.
    let facts = write_facts D.size D.fuse D.timeline D.faults c.args.file c.args.off c.args.bytes.now c.write-result.result old new c.requires.there e.tested e.passed
    e.refused (e.written told) (e.failed told) (e.any_moment told) e.tag e.homes e.size in
    writes_ran c.write-result.result c.args.file c.args.off c.args.bytes.now (seat_of D.size D.fuse D.timeline D.faults old) (seat_of D.size D.fuse D.timeline D.faults new)
    c.args.used.now c.note.new.self facts is)
