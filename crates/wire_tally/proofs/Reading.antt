-- The text of lines counts what the lines are.
use Rattle.std.proofs.Common.{◌≡◌, ℕ, ◌+◌, true, eqb, All, List, [], ◌∷◌, ◌++◌, codes, decimal, refl, sym, ap, ◌∙◌, append_assoc, append-nil}
use Rattle.nfs_base.specs.Text.{job_text}
use Rattle.outbox.specs.declared.note.Note.{Note}
use Rattle.outbox.specs.declared.note.Note.TheVariants as notes
use Rattle.std.proofs.lemmas.Bool.{and_parts, not-true}
use Rattle.std.proofs.lemmas.List.Elements.{All-head, All-tail}
use Rattle.wire_lines.specs.LineText.{lines_text, noted_text, shown_text}
use Rattle.wire_lines.specs.declared.letters.Speaker.{Speaker}
use Rattle.wire_lines.specs.declared.line.Line.{Line}
use Rattle.wire_lines.specs.declared.line.Line.TheVariants.{Note as Noted}
use Rattle.wire_tally.specs.Counted.{by_note, by_shown, counted, LandsShort}
use Rattle.wire_tally.specs.Tally.{by_line, tallied, tally_from, IsWholeText}
use Rattle.wire_tally.specs.declared.tally.Tally.{Tally}
use Rattle.wire_tally.proofs.Amounts.{amount-last}
use Rattle.wire_tally.proofs.OneLine.{is_one_line}
use Rattle.wire_tally.proofs.OneLineShown.{shown}
use Rattle.wire_tally.proofs.Pieces.{both_are_whole, line_is_whole}

pub lines_whole : (lines : List Line) → IsWholeText (lines_text lines)
lines_whole [] = tt
lines_whole (line ∷ lines) = both_are_whole (shown_text line ++ 10 ∷ []) (lines_text lines) (line_is_whole (shown_text line)) (lines_whole lines)

-- a line is counted at its newline
line_ends : (line bytes more : List ℕ) (t : Tally) → is_one_line bytes ≡ true
    → tally_from line (bytes ++ 10 ∷ more) t ≡ tally_from [] more (by_line (line ++ bytes) t)
line_ends line [] more t plain = ap (λ (whole : List ℕ). tally_from [] more (by_line whole t)) (sym (append-nil line))
line_ends line (byte ∷ bytes) more t plain =
    let tests = and_parts _ _ plain in
    rw (not-true (eqb byte 10) tests.0)
    (line_ends (line ++ byte ∷ []) bytes more t tests.1
    ∙ ap (λ (whole : List ℕ). tally_from [] more (by_line whole t)) (append_assoc line (byte ∷ []) bytes))

by_noted : (by : Speaker) (note : Note) (t : Tally) → LandsShort (Noted by note) → by_line (noted_text by note) t ≡ by_note note t
unfolding by_line
by_noted by (notes.Landed job off len) t short =
    ap (λ (n : ℕ). let new : Tally = record t { landed = t.landed + n } in new) (amount-last (codes "landed " ++ job_text job ++ codes " " ++ decimal off) len short)
by_noted by _ t short = refl

by_shown_line : (line : Line) (t : Tally) → LandsShort line → by_line (shown_text line) t ≡ by_shown line t
unfolding by_line
by_shown_line (Noted by note) t short = by_noted by note t short
by_shown_line _ t short = refl

pub lines_counted : (lines : List Line) (t : Tally) → All LandsShort lines → tallied (lines_text lines) t ≡ counted lines t
unfolding tallied
lines_counted [] t short = refl
lines_counted (line ∷ lines) t short =
    ap (λ (text : List ℕ). tally_from [] text t) (append_assoc (shown_text line) (10 ∷ []) (lines_text lines))
    ∙ line_ends [] (shown_text line) (lines_text lines) t (shown line).plain
    ∙ ap (λ (u : Tally). tally_from [] (lines_text lines) u) (by_shown_line line t (All-head LandsShort line lines short))
    ∙ lines_counted lines (by_shown line t) (All-tail LandsShort line lines short)
