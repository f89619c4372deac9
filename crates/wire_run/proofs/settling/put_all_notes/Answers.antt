use Rattle.std.proofs.Common.{map}
use Rattle.std.specs.String.{string_bytes}
use Rattle.wire_lines.specs.declared.letters.Speaker.TheVariants as speakers
use Rattle.wire_lines.specs.declared.line.Line.TheVariants as lines
use Rattle.wire_run.proofs.Settled.{line_as, line_on, three_lines}
use Rattle.wire_run.proofs.settling.put_all_notes.Goals as goal

pub returns : goal.returns
returns c =
    three_lines c.put_notes-3.result (string_bytes c.args.text.now) (string_bytes c.put_notes.new.text) (string_bytes c.put_notes-2.new.text) (string_bytes c.put_notes-3.new.text)
    (map (lines.Note speakers.Source) c.args.ticked.now.source.notes) (map (lines.Note speakers.Dest) c.args.ticked.now.dest.notes) (map (lines.Note speakers.Client) c.args.ticked.now.client.notes)
    (line_as (λ ns. map (lines.Note speakers.Source) ns) _ _ _ _ c.as_slice.ensures c.in_ok-put_notes.ensures)
    (line_as (λ ns. map (lines.Note speakers.Dest) ns) _ _ _ _ c.as_slice-2.ensures c.in_ok-put_notes-2.ensures)
    (line_on c.put_notes-3.result (λ ns. map (lines.Note speakers.Client) ns) _ _ _ _ c.as_slice-3.ensures c.put_notes-3.ensures)
