use Rattle.std.proofs.Common.{rules}
use Rattle.std.proofs.Output.{has_written_append, has_written_of_eq}
use Rattle.wire_lines.proofs.HexLemmas.{digits_more}
use Rattle.wire_lines.proofs.line.HexDisplay.fmt.Goals as goal

pub loop-byte-preserved : goal.loop-byte-preserved
loop-byte-preserved g c p =
    has_written_of_eq _ _ _ _ _
    (digits_more _ _ _ _ c.loop-byte-test.true c.hex_digit-high.ensures.ascii c.hex_digit-high.ensures.value
    c.hex_digit-low.ensures.ascii c.hex_digit-low.ensures.value)
    (has_written_append _ _ _ _ _ _ (c.loop-byte.invariant p) (search rules))
