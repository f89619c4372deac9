use Rattle.std.proofs.Common.{◌≡◌, ℕ, List, replicate, w32, refl, sym, ◌∙◌, ap, subst, arith}
use Rattle.std.specs.Int.{to_be_bytes}
use Rattle.block_file.specs.Layout.{letters}
use Rattle.block_file.specs.Opened.{HeadIs}
use Rattle.block_file.specs.Lists.{put_in}
use Rattle.block_file.proofs.Heads.{head_is, head_of}
use Rattle.block_file.proofs.head.head_block.Goals as goal

whole : (c : goal.After-put_part-4) → c.put_part-4.new.block ≡ head_of c.args.shape.files c.args.shape.blocks c.args.tag (replicate 4096 0)
whole c =
    let zeros : List ℕ = replicate 4096 0 in
    let f = to_be_bytes w32 c.args.shape.files in
    let b = to_be_bytes w32 c.args.shape.blocks in
    c.put_part-4.ensures
    ∙ ap (λ (l : List ℕ). put_in 16 c.to_be_bytes-3.result l) c.put_part-3.ensures
    ∙ ap (λ (l : List ℕ). put_in 16 c.to_be_bytes-3.result (put_in 12 c.to_be_bytes-2.result l)) c.put_part-2.ensures
    ∙ ap (λ (l : List ℕ). put_in 16 c.to_be_bytes-3.result (put_in 12 c.to_be_bytes-2.result (put_in 8 c.to_be_bytes.result l))) c.put_part.ensures
    ∙ ap (λ (w : List ℕ). put_in 16 c.to_be_bytes-3.result (put_in 12 c.to_be_bytes-2.result (put_in 8 w (put_in 0 letters zeros)))) c.to_be_bytes.ensures
    ∙ ap (λ (w : List ℕ). put_in 16 c.to_be_bytes-3.result (put_in 12 w (put_in 8 f (put_in 0 letters zeros)))) c.to_be_bytes-2.ensures
    ∙ ap (λ (w : List ℕ). put_in 16 w (put_in 12 b (put_in 8 f (put_in 0 letters zeros)))) c.to_be_bytes-3.ensures

pub returns : goal.returns
returns c =
    subst (λ (l : List ℕ). HeadIs c.args.size c.args.shape c.args.tag l) (sym (whole c))
    (head_is c.args.size c.args.shape c.args.tag (omega arith) c.requires (replicate 4096 0) refl)
