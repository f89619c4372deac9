use Rattle.std.proofs.Common.{◌≡◌, true}
use Rattle.realm_file.specs.RealmText.{names_differ}
use Rattle.realm_file.proofs.GatherLemmas.{Reads}
use Rattle.realm_file.proofs.principals.Given as goal

-- no name stood twice, and lines are left whose principals, behind those that were read, are those of the text
abbrev pub invariant-loop-line : goal.invariant-loop-line
invariant-loop-line l =
    (goal.iterator-loop-line).can_next l.line-iterator ×
    (goal.iterator-loop-line).is_finite l.line-iterator ×
    (names_differ l.keys.items ≡ true) ×
    Reads l.line-iterator l.keys.items l.text
