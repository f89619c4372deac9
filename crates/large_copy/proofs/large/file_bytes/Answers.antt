use Rattle.std.proofs.Common.{ℕ, ◌+◌, ◌%◌, List, [], ◌∷◌, ◌++◌, sym, ap, ◌∙◌}
use Rattle.large_copy.proofs.Lines.{no_bytes, one_more_byte}
use Rattle.large_copy.proofs.large.file_bytes.Goals as goal

pub loop-k-init : goal.loop-k-init
loop-k-init c = c.in_ok-bytes.ensures.items ∙ sym (no_bytes c.args.off)

pub loop-k-preserved : goal.loop-k-preserved
loop-k-preserved c =
    c.in_ok-push.ensures.items
    ∙ (ap (λ (bytes : List ℕ). bytes ++ (c.args.off + c.loop-k.k) % 251 ∷ []) c.loop-k.invariant ∙ sym (one_more_byte c.args.off c.loop-k.k))
