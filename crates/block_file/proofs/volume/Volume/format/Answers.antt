use Rattle.std.proofs.Common.{◌≡◌, ℕ, ◌*◌, ◌≤◌, refl, sym, ◌∙◌, ap, subst, arith}
use Rattle.disk_model.specs.Elapsed.{present}
use Rattle.block_file.specs.Layout.{blocks_of}
use Rattle.block_file.specs.Stored.{IsFormatted}
use Rattle.block_file.proofs.Formats.{formatted_is}
use Rattle.block_file.proofs.volume.Volume.format.Goals as goal

pub returns-in-Done-clause-formatted : goal.returns-in-Done-clause-formatted
returns-in-Done-clause-formatted g c = λ told image left.
    let files : c.from.result ≡ c.args.files = c.from.ensures in
    let product : c.from-2.result * c.from-3.result ≡ c.args.files * c.args.blocks =
    ap (λ (n : ℕ). n * c.from-3.result) c.from-2.ensures ∙ ap (λ (n : ℕ). c.args.files * n) c.from-3.ensures in
    let room : blocks_of c.args.files c.args.blocks ≤ c.blocks-have.result = omega (arith, product, files, c.if-have-need.false) in
    let same : c.blocks-have.result ≡ g.D.Disk.size c.lay_out.new.disk = c.blocks-have.ensures.count ∙ sym c.lay_out.ensures.size in
    subst (λ (n : ℕ). IsFormatted n c.args.files c.args.blocks c.args.tag image) same
    (formatted_is c.blocks-have.result _ c.args.tag (present (g.D.Disk.timeline c.lay_out.new.disk)) image room
    (c.in-Done.ensures.head told refl) (c.in-Done.ensures.cleared told refl) (c.in-Done.ensures.settled told refl) left)
