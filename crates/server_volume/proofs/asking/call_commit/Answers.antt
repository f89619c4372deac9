use Rattle.std.proofs.Common.{ℕ, ◌-◌, ap, ◌∙◌}
use Rattle.block_file.specs.Opened.{homes_by}
use Rattle.server_volume.specs.declared.used.CallAnswer.{CallAnswer}
use Rattle.server_volume.specs.declared.used.VolumeCall.TheVariants as calls
use Rattle.server_volume.specs.Calls.{commit_call, Commits, read_answer}
use Rattle.server_volume.specs.Choices.{noted}
use Rattle.server_volume.specs.Store.{seat_of}
use Rattle.server_volume.proofs.CallLemmas.{counted_one, reads_make, reads_ran, reads_rise}
use Rattle.server_volume.proofs.Facts.{commit_facts}
use Rattle.server_volume.proofs.asking.call_commit.Goals as goal

pub returns-clause-makes : goal.returns-clause-makes
unfolding commit_call
returns-clause-makes g c = λ told choice agrees.
    let D = g.D.Disk in
    let old = c.args.volume.now in
    let new = c.commit-result.new.self in
    let e = c.commit-result.ensures in
    let facts = commit_facts D.size D.fuse D.timeline D.faults c.args.file c.commit-result.result old new c.requires.there e.broken e.refused
    (e.committed told) (e.failed told) e.homes e.homes_kept (e.any_moment told) e.tag e.size in
    reads_make c.commit-result.result (Commits c.args.file) (seat_of D.size D.fuse D.timeline D.faults old) (seat_of D.size D.fuse D.timeline D.faults new)
    c.args.used.now c.note.new.self facts
    (c.note.ensures ∙ ap (λ (n : ℕ). noted c.args.used.now (calls.Commit c.args.file (1 - n)) c.read_answer.result) c.home-home.ensures.home
    ∙ ap (λ (a : CallAnswer). noted c.args.used.now (calls.Commit c.args.file (1 - homes_by c.args.volume.now.homes c.args.file)) a) c.read_answer.ensures) choice agrees

pub returns-clause-ran : goal.returns-clause-ran
returns-clause-ran g c =
    let D = g.D.Disk in
    let old = c.args.volume.now in
    let new = c.commit-result.new.self in
    let e = c.commit-result.ensures in
    let is = c.note.ensures ∙ ap (λ (n : ℕ). noted c.args.used.now (calls.Commit c.args.file (1 - n)) c.read_answer.result) c.home-home.ensures.home
    ∙ ap (λ (a : CallAnswer). noted c.args.used.now (calls.Commit c.args.file (1 - homes_by c.args.volume.now.homes c.args.file)) a) c.read_answer.ensures in
    counted_one D.Told (calls.Commit c.args.file (1 - homes_by c.args.volume.now.homes c.args.file)) (read_answer c.commit-result.result) (seat_of D.size D.fuse D.timeline D.faults old) (seat_of D.size D.fuse D.timeline D.faults new) c.args.used.now c.note.new.self is e.size
    (reads_rise c.commit-result.result (D.faults old.disk) (D.faults new.disk) e.faults e.cause)
    (λ told.
    let facts = commit_facts D.size D.fuse D.timeline D.faults c.args.file c.commit-result.result old new c.requires.there e.broken e.refused
    (e.committed told) (e.failed told) e.homes e.homes_kept (e.any_moment told) e.tag e.size in
    reads_ran c.commit-result.result (Commits c.args.file) (seat_of D.size D.fuse D.timeline D.faults old) (seat_of D.size D.fuse D.timeline D.faults new)
    c.args.used.now c.note.new.self facts is)
