use Rattle.std.proofs.Common.{◌++◌, ap, ◌∙◌, arith}
use Rattle.std.specs.String.{string_bytes}
use Rattle.wire_lines.specs.LineText.{line_text}
use Rattle.wire_lines.specs.declared.line.Line.{Line}
use Rattle.wire_run.proofs.LinesPut.{sent_more}
use Rattle.wire_run.proofs.lines.put_sent.Goals as goal

pub loop-outgoing-preserved : goal.loop-outgoing-preserved
loop-outgoing-preserved c = record {
  number = omega (arith, c.loop-outgoing.invariant.number);
  text = sent_more c.args.from c.args.before c.loop-outgoing.number c.loop-outgoing.outgoing-index c.args.records.now c.outgoing-item.result
      (string_bytes c.loop-outgoing.text) (string_bytes c.args.text.now) (string_bytes c.push_to.new.text) c.loop-outgoing-test.true c.outgoing-item.is
      c.loop-outgoing.invariant.number c.loop-outgoing.invariant.text
      (c.in_ok-push_to.ensures ∙ ap (λ (l : Line). string_bytes c.loop-outgoing.text ++ line_text l) c.sent_line.ensures);
}
