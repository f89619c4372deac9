-- The lines that the program puts in place of a transcript. Own format.
use Rattle.std.specs.Prelude.{ℕ, List, [], ◌∷◌, ◌++◌, codes, decimal}
use Rattle.wire_lines.specs.LineText.{line_text}
use Rattle.wire_lines.specs.declared.line.Line.TheVariants as lines
use Rattle.wire_machine.specs.declared.mistake.Mistake.{Mistake}

abbrev pub usage_text : List ℕ
usage_text = codes "usage" ++ 10 ∷ []

abbrev pub too_much_text : List ℕ
too_much_text = codes "too much" ++ 10 ∷ []

-- the first line that can't stand in a schedule
abbrev pub bad_line_text : ℕ → List ℕ
bad_line_text n = codes "bad line " ++ decimal n ++ 10 ∷ []

-- a record that was taken by mistake
abbrev pub mistaken_text : Mistake → List ℕ
mistaken_text mistake = line_text (lines.Mistaken mistake.accepted mistake.sealed)
