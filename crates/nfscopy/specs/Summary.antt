-- The summary of a large copy. Own format.
use Rattle.std.specs.Prelude.{ℕ, Bool, true, false, List, [], ◌∷◌, ◌++◌, codes, decimal}
use Rattle.nfscopy.specs.declared.summary.Summary.{Summary}

abbrev pub answer_text : Bool → List ℕ
answer_text true = codes "yes"
answer_text false = codes "no"

-- six lines: how many mebibytes, records, bytes that landed, and copies that are stable and exact; and whether the two files are equal
abbrev pub summary_text : Summary → List ℕ
summary_text s =
    codes "gen " ++ decimal s.plan
    ++ 10 ∷ codes "records " ++ decimal s.records
    ++ 10 ∷ codes "landed " ++ decimal s.tally.landed
    ++ 10 ∷ codes "stable " ++ decimal s.tally.stable
    ++ 10 ∷ codes "exact " ++ decimal s.tally.exact
    ++ 10 ∷ codes "equal " ++ answer_text s.alike
    ++ 10 ∷ []
