use Rattle.std.proofs.Common.{◌≡◌, drop}
use Rattle.block_file.specs.Stored.{first_stain}
use Rattle.block_file.proofs.flaws.first_stain.Given as goal

abbrev pub invariant-loop-at : goal.invariant-loop-at
invariant-loop-at l = first_stain 24 (drop 24 l.head) ≡ first_stain l.at (drop l.at l.head)
