use Rattle.std.proofs.Common.{[], ◌∷◌}
use Rattle.std.proofs.lemmas.List.Elements.{All-cons, All-nil}
use Rattle.wire_lines.specs.declared.line.Line.TheVariants.{End as Ends}
use Rattle.wire_tally.specs.Counted.{LandsShort}
use Rattle.wire_tally.proofs.Reading.{lines_counted}
use Rattle.wire_tally.proofs.laws.end_lines_count_nothing.Goals as goal

pub returns : goal.returns
returns c = λ records t. lines_counted (Ends records ∷ []) t (All-cons LandsShort (Ends records) [] tt (All-nil LandsShort))
