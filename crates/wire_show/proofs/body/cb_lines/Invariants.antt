use Rattle.std.proofs.Common.{◌≡◌, ◌++◌, drop}
use Rattle.wire_show.specs.Body.{numbered, callback_line}
use Rattle.wire_show.proofs.body.cb_lines.Given as goal

abbrev pub invariant-loop-place : goal.invariant-loop-place
invariant-loop-place l = l.lines.items ++ numbered callback_line l.place (drop l.place l.ops) ≡ numbered callback_line 0 l.ops
