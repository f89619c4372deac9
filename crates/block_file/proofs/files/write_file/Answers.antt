use Rattle.std.proofs.Common.{◌≡◌, ℕ, ◌+◌, max, length, refl, ◌∙◌, ap}
use Rattle.disk_model.specs.Elapsed.{contents}
use Rattle.block_file.specs.Layout.{size_in}
use Rattle.block_file.specs.Lists.{put_in}
use Rattle.block_file.specs.Stored.{blocks_by}
use Rattle.block_file.proofs.Newest.{held_written, clean_written, homes_alike}
use Rattle.block_file.proofs.files.write_file.Goals as goal

pub returns-clause-written : goal.returns-clause-written
returns-clause-written g c = λ told done.
    let shape = c.args.shape in
    let old = contents (g.D.Disk.timeline c.args.disk.now) in
    let new = contents (g.D.Disk.timeline c.write_run.new.disk) in
    let written : blocks_by shape.files shape.blocks c.with_words.result new c.args.file
    ≡ put_in c.args.off c.args.bytes.now (blocks_by shape.files shape.blocks c.args.newest.now old c.args.file) =
    homes_alike shape c.with_words.result c.write_run.new.newest new c.args.file c.with_words.ensures.homes ∙ c.in-Done.ensures.written told refl in
    let size : size_in c.with_words.result ≡ max (size_in c.args.newest.now) (c.args.off + length c.args.bytes.now) =
    c.with_words.ensures.size ∙ c.max-size.ensures ∙ ap (λ (n : ℕ). max n (c.args.off + length c.args.bytes.now)) c.size_in.ensures in
    held_written shape c.args.newest.now c.with_words.result old new c.args.file c.args.off c.args.change c.args.bytes.now
    (c.blocks-count.ensures.whole told) (c.blocks-after.ensures.whole told) c.requires.sized c.requires.fits (c.requires.clean told) written size c.with_words.ensures.change

pub returns-clause-clean : goal.returns-clause-clean
returns-clause-clean g c = λ told done.
    let shape = c.args.shape in
    let old = contents (g.D.Disk.timeline c.args.disk.now) in
    let new = contents (g.D.Disk.timeline c.write_run.new.disk) in
    let written : blocks_by shape.files shape.blocks c.with_words.result new c.args.file
    ≡ put_in c.args.off c.args.bytes.now (blocks_by shape.files shape.blocks c.args.newest.now old c.args.file) =
    homes_alike shape c.with_words.result c.write_run.new.newest new c.args.file c.with_words.ensures.homes ∙ c.in-Done.ensures.written told refl in
    let size : size_in c.with_words.result ≡ max (size_in c.args.newest.now) (c.args.off + length c.args.bytes.now) =
    c.with_words.ensures.size ∙ c.max-size.ensures ∙ ap (λ (n : ℕ). max n (c.args.off + length c.args.bytes.now)) c.size_in.ensures in
    clean_written shape c.args.newest.now c.with_words.result old new c.args.file c.args.off c.args.change c.args.bytes.now
    (c.blocks-count.ensures.whole told) (c.blocks-after.ensures.whole told) c.requires.sized c.requires.fits (c.requires.clean told) written size c.with_words.ensures.change
