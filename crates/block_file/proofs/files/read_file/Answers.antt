use Rattle.std.proofs.Common.{◌≡◌, ℕ, ◌-◌, ◌≤◌, min, List, length, take, drop, refl, sym, ◌∙◌, ap, subst, arith}
use Rattle.std.proofs.lemmas.List.{length-take-le}
use Rattle.disk_model.specs.Elapsed.{contents}
use Rattle.block_file.specs.Layout.{size_in}
use Rattle.block_file.specs.Stored.{blocks_by}
use Rattle.block_file.specs.Held.{held_by}
use Rattle.block_file.proofs.Newest.{bytes_at-len, blocks_len, read_is}
use Rattle.block_file.proofs.Pieces.{bytes_at-written}
use Rattle.block_file.proofs.files.read_file.Goals as goal

pub returns-clause-bytes : goal.returns-clause-bytes
returns-clause-bytes g c = λ told done.
    let shape = c.args.shape in
    let newest = c.args.newest.now in
    let out = c.args.out.now in
    let image = contents (g.D.Disk.timeline c.args.disk.now) in
    let blocks : List ℕ = blocks_by shape.files shape.blocks newest image c.args.file in
    let bytes : List ℕ = (held_by shape newest image c.args.file).now in
    let from = c.min-from.result in
    let there = c.min-there.result in
    let size_is : c.size_in-size.result ≡ size_in newest = c.size_in-size.ensures in
    let size : c.size_in-size.result ≡ length bytes = size_is ∙ sym (bytes_at-len blocks (size_in newest)) in
    let first : from ≡ min (length bytes) c.args.off = c.min-from.ensures ∙ ap (λ (n : ℕ). min n c.args.off) size in
    let count : there ≡ min (length bytes - from) (length out) = c.min-there.ensures ∙ ap (λ (n : ℕ). min (n - from) (length out)) size in
    let long : size_in newest ≤ length blocks =
    subst (λ (n : ℕ). size_in newest ≤ n) (sym (blocks_len shape newest c.args.file image (c.blocks-count.ensures.whole told) c.requires.fits)) c.requires.fits in
    let few : length (take there out) ≡ there = length-take-le there out (omega (arith, count)) in
    let copied : c.read_run.new.out ≡ take there (drop from blocks) =
    c.in-Done.ensures.bytes told refl ∙ ap (λ (n : ℕ). take n (drop from blocks)) few in
    bytes_at-written bytes out c.read_run.new.out c.fill.new.self from c.args.off there there first count refl
    (read_is out c.read_run.new.out c.fill.new.self blocks (size_in newest) c.args.off long from there
    (c.min-from.ensures ∙ ap (λ (n : ℕ). min n c.args.off) size_is)
    (c.min-there.ensures ∙ ap (λ (n : ℕ). min (n - from) (length out)) size_is) copied)
    (c.fill.ensures.after (λ y e. e))
