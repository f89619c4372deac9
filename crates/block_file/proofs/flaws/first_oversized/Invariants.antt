use Rattle.std.proofs.Common.{◌≡◌, ◌+◌, ◌-◌, ◌*◌, [], slice_index_or}
use Rattle.block_file.specs.Stored.{first_oversized}
use Rattle.block_file.proofs.flaws.first_oversized.Given as goal

abbrev pub invariant-loop-file : goal.invariant-loop-file
invariant-loop-file l =
    first_oversized (l.fn.shape.blocks * 4096) (λ j. slice_index_or l.tables.items j []) 1 l.fn.shape.files
    ≡ first_oversized (l.fn.shape.blocks * 4096) (λ j. slice_index_or l.tables.items j []) l.file (l.fn.shape.files + 1 - l.file)
