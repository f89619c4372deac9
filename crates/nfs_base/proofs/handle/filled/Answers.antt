use Rattle.std.proofs.Common.{length, ◌∙◌, ap, ◌++◌, drop, replicate}
use Rattle.std.proofs.lemmas.List.{drop-replicate}
use Rattle.nfs_base.proofs.handle.filled.Goals as goal

-- the zeros that aren't written over stay
pub returns : goal.returns
returns c = ap (λ front. front ++ drop (length c.args.bytes.now) (replicate 128 0)) c.copy_from_slice.ensures.after ∙ ap (λ zeros. c.args.bytes.now ++ zeros) (drop-replicate (length c.args.bytes.now) 128 0)
