-- Lines that are put one after the other.
use Rattle.std.proofs.Common.{◌≡◌, ℕ, ◌+◌, ◌<◌, List, [], ◌∷◌, ◌++◌, length, get_or, map, take, sym, ap, ◌∙◌, append-nil, append_assoc, arith, length-take}
use Rattle.std.proofs.lemmas.Grind.{flat_map-append}
use Rattle.std.proofs.lemmas.List.{map-append, take_more}
use Rattle.nfs_base.specs.declared.seal.End.{End}
use Rattle.outbox.specs.declared.note.Note.{Note}
use Rattle.outbox.specs.declared.outgoing.Outgoing.{Outgoing}
use Rattle.wire_lines.specs.LineText.{line_text, lines_text}
use Rattle.wire_lines.specs.declared.letters.Speaker.{Speaker}
use Rattle.wire_lines.specs.declared.line.Line.{Line}
use Rattle.wire_lines.specs.declared.line.Line.TheVariants as lines
use Rattle.wire_machine.specs.Ends.{port_of}
use Rattle.wire_machine.specs.Lines.{goes_to, sent_lines}

-- one line more
pub line_behind : (some : List Line) (line : Line) → lines_text (some ++ line ∷ []) ≡ lines_text some ++ line_text line
line_behind some line = flat_map-append line_text some (line ∷ []) ∙ ap (λ (t : List ℕ). lines_text some ++ t) (append-nil (line_text line))

-- others behind them
pub lines_behind : (some more : List Line) → lines_text (some ++ more) ≡ lines_text some ++ lines_text more
lines_behind some more = flat_map-append line_text some more

pub notes_more : (by : Speaker) (notes : List Note) (i : ℕ) (note : Note) (text old new : List ℕ) → i < length notes → note ≡ get_or notes i note
    → text ≡ old ++ lines_text (map (lines.Note by) (take i notes)) → new ≡ text ++ line_text (lines.Note by note)
    → new ≡ old ++ lines_text (map (lines.Note by) (take (i + 1) notes))
notes_more by notes i note text old new inside is was put =
    let front = map (lines.Note by) (take i notes) in
    let next : map (lines.Note by) (take (i + 1) notes) ≡ front ++ lines.Note by note ∷ [] =
    ap (map (lines.Note by)) (take_more notes i note inside)
    ∙ (map-append (lines.Note by) (take i notes) (get_or notes i note ∷ []) ∙ ap (λ (n : Note). front ++ lines.Note by n ∷ []) (sym is)) in
    put
    ∙ (ap (λ (t : List ℕ). t ++ line_text (lines.Note by note)) was
    ∙ (append_assoc old (lines_text front) (line_text (lines.Note by note))
    ∙ ap (λ (t : List ℕ). old ++ t) (sym (line_behind front (lines.Note by note)) ∙ ap lines_text (sym next))))

abbrev sent_line : End → ℕ → Outgoing → Line
sent_line from number out = lines.Sent number from (goes_to from (port_of from out.to)) out.label

sent_join : (from : End) (number : ℕ) (xs ys : List Outgoing) → sent_lines from number (xs ++ ys) ≡ sent_lines from number xs ++ sent_lines from (number + length xs) ys
sent_join from number [] ys = ap (λ (n : ℕ). sent_lines from n ys) (omega arith)
sent_join from number (x ∷ xs) ys =
    ap (λ (others : List Line). lines.Sent number from (goes_to from (port_of from x.to)) x.label ∷ others)
    (sent_join from (number + 1) xs ys ∙ ap (λ (n : ℕ). sent_lines from (number + 1) xs ++ sent_lines from n ys) (omega arith))

pub sent_more : (from : End) (before number i : ℕ) (records : List Outgoing) (out : Outgoing) (text old new : List ℕ) → i < length records → out ≡ get_or records i out
    → number ≡ before + i → text ≡ old ++ lines_text (sent_lines from (before + 1) (take i records))
    → new ≡ text ++ line_text (lines.Sent (number + 1) from (goes_to from (port_of from out.to)) out.label)
    → new ≡ old ++ lines_text (sent_lines from (before + 1) (take (i + 1) records))
sent_more from before number i records out text old new inside is number_is was put =
    let front = sent_lines from (before + 1) (take i records) in
    let line = sent_line from (number + 1) out in
    let at : (before + 1) + length (take i records) ≡ number + 1 = let long = length-take_le records i inside in omega (arith, long, number_is) in
    let next : sent_lines from (before + 1) (take (i + 1) records) ≡ front ++ line ∷ [] =
    ap (sent_lines from (before + 1)) (take_more records i out inside)
    ∙ (sent_join from (before + 1) (take i records) (get_or records i out ∷ [])
    ∙ (ap (λ (n : ℕ). front ++ sent_line from n (get_or records i out) ∷ []) at
    ∙ ap (λ (o : Outgoing). front ++ sent_line from (number + 1) o ∷ []) (sym is))) in
    put
    ∙ (ap (λ (t : List ℕ). t ++ line_text line) was
    ∙ (append_assoc old (lines_text front) (line_text line) ∙ ap (λ (t : List ℕ). old ++ t) (sym (line_behind front line) ∙ ap lines_text (sym next))))
  where
    length-take_le : (xs : List Outgoing) (n : ℕ) → n < length xs → length (take n xs) ≡ n
    length-take_le xs n lt = let long = length-take n xs in omega (arith, long)
