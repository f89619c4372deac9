use Rattle.std.proofs.Common.{◌≡◌, ℕ, ◌+◌, ◌*◌, ◌<◌, ◌≤◌, List, [], slice_index_or, sym, ◌∙◌, ap, arith}
use Rattle.block_file.specs.Layout.{size_in}
use Rattle.block_file.proofs.Loads.{oversized_here, oversized_later}
use Rattle.block_file.proofs.flaws.first_oversized.Goals as goal

pub returns-then-size_in-capacity-clause-first : goal.returns-then-size_in-capacity-clause-first
returns-then-size_in-capacity-clause-first c =
    let tables : ℕ → List ℕ = λ j. slice_index_or c.args.tables.now.items j [] in
    let j = c.loop-file.file in
    let size : c.size_in.result ≡ size_in (tables j) = c.size_in.ensures ∙ ap size_in c.table_at.ensures in
    let large : c.args.shape.blocks * 4096 < size_in (tables j) = omega (arith, size, c.if-size_in-capacity.true, c.from-capacity.ensures) in
    sym (c.loop-file.invariant ∙ oversized_here (c.args.shape.blocks * 4096) tables j (c.args.shape.files + 1) c.loop-file-test.true large)

pub loop-file-preserved : goal.loop-file-preserved
loop-file-preserved c =
    let tables : ℕ → List ℕ = λ j. slice_index_or c.args.tables.now.items j [] in
    let j = c.loop-file.file in
    let size : c.size_in.result ≡ size_in (tables j) = c.size_in.ensures ∙ ap size_in c.table_at.ensures in
    let small : size_in (tables j) ≤ c.args.shape.blocks * 4096 = omega (arith, size, c.if-size_in-capacity.false, c.from-capacity.ensures) in
    c.loop-file.invariant ∙ oversized_later (c.args.shape.blocks * 4096) tables j (c.args.shape.files + 1) c.loop-file-test.true small
