-- What a run's lines say that the client tells. Own definitions.
use Rattle.std.specs.Prelude.{List, [], ◌∷◌}
use Rattle.std.specs.List.{flat_map}
use Rattle.outbox.specs.declared.note.Note.{Note}
use Rattle.wire_lines.specs.declared.letters.Speaker.{Speaker}
use Rattle.wire_lines.specs.declared.letters.Speaker.TheVariants.{Client}
use Rattle.wire_lines.specs.declared.line.Line.{Line}
use Rattle.wire_lines.specs.declared.line.Line.TheVariants as lines

abbrev pub by_client : Speaker → Note → List Note
by_client Client note = note ∷ []
by_client _ note = []

-- a line
abbrev pub told_in : Line → List Note
told_in (lines.Note by note) = by_client by note
told_in _ = []

-- lines, in their order
abbrev pub told_in_lines : List Line → List Note
told_in_lines ls = flat_map told_in ls
