-- The lines that are put of a copy, and the end that goes with them. Own format.
use Rattle.std.specs.Prelude.{ℕ, Bool, true, false, List, [], ◌∷◌, ◌++◌, codes, decimal}
use Rattle.single_copy.specs.declared.answers.Copied.{Copied}
use Rattle.single_copy.specs.declared.answers.Copied.TheVariants.{Stable, Failed, LinkFault, DrawFault}
use Rattle.linked_copy.specs.declared.ends.CopyEnd.{CopyEnd}
use Rattle.linked_copy.specs.declared.ends.CopyEnd.TheVariants as ends

abbrev pub stable_text : List ℕ
stable_text = codes "stable" ++ 10 ∷ []

-- whether the source's file is known to have stood still
abbrev pub exact_text : Bool → List ℕ
exact_text true = codes "exact" ++ 10 ∷ []
exact_text false = codes "unsure" ++ 10 ∷ []

-- a copy that failed, by its status's number
abbrev pub failed_text : ℕ → List ℕ
failed_text number = codes "failed " ++ decimal number ++ 10 ∷ []

-- a copy that had been reported stable when a link failed, or not
abbrev pub stable_if : Bool → List ℕ
stable_if true = stable_text
stable_if false = []

-- the lines of a copy that didn't fail with a status
abbrev pub plain_lines : Copied → List ℕ
plain_lines (Stable exact) = stable_text ++ exact_text exact
plain_lines (Failed status) = []
plain_lines (LinkFault stable) = stable_if stable
plain_lines DrawFault = []

-- all lines of a copy
abbrev pub lines_of : Copied → List ℕ
lines_of (Stable exact) = stable_text ++ exact_text exact
lines_of (Failed status) = failed_text status.number
lines_of (LinkFault stable) = stable_if stable
lines_of DrawFault = []

-- the end that goes with them, where all are put
abbrev pub end_of : Copied → CopyEnd
end_of (Stable exact) = ends.Stable
end_of (Failed status) = ends.Failed
end_of (LinkFault stable) = ends.LinkFault
end_of DrawFault = ends.DrawFault
