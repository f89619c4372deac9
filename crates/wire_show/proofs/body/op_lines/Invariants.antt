use Rattle.std.proofs.Common.{◌≡◌, ◌++◌, drop}
use Rattle.wire_show.specs.Body.{numbered, op_line}
use Rattle.wire_show.proofs.body.op_lines.Given as goal

abbrev pub invariant-loop-place : goal.invariant-loop-place
invariant-loop-place l = l.lines.items ++ numbered op_line l.place (drop l.place l.ops) ≡ numbered op_line 0 l.ops
