use Rattle.std.proofs.Common.{◌≡◌, ◌+◌, ◌++◌, take}
use Rattle.std.specs.String.{string_bytes}
use Rattle.wire_lines.specs.LineText.{lines_text}
use Rattle.wire_machine.specs.Lines.{sent_lines}
use Rattle.wire_run.proofs.lines.put_sent.Given as goal

abbrev pub invariant-loop-outgoing : goal.invariant-loop-outgoing
invariant-loop-outgoing l = record {
  number : l.number ≡ l.before + l.outgoing-index;
  text : string_bytes l.text ≡ string_bytes l.initial.text ++ lines_text (sent_lines l.from (l.before + 1) (take l.outgoing-index l.records));
}
