use Rattle.std.proofs.Common.{rules, sym, ◌∙◌, ◌≡◌, true, Some}
use Rattle.realm_file.specs.RealmText.{is_name, key_of_digits}
use Rattle.realm_file.proofs.PrincipalLemmas.{read_from_parts, none_without_blank, none_without_name, none_without_key}
use Rattle.realm_file.proofs.principal.Goals as goal

pub returns-in_default : goal.returns-in_default
returns-in_default c = sym (none_without_blank c.args.line.now (rw c.in_default.is at c.split_once.ensures.cases))

pub returns-then-not-is_name : goal.returns-then-not-is_name
returns-then-not-is_name c =
    let read = read_from_parts c.args.line.now c.in-Some.name c.in-Some.digits (rw c.in-Some.is at c.split_once.ensures.cases) in
    sym (read ∙ none_without_name c.in-Some.name.now _ (search rules))

pub returns-in_default-key_of_digits : goal.returns-in_default-key_of_digits
returns-in_default-key_of_digits c =
    let read = read_from_parts c.args.line.now c.in-Some.name c.in-Some.digits (rw c.in-Some.is at c.split_once.ensures.cases) in
    sym (read ∙ none_without_key c.in-Some.name.now _ (search rules))

pub returns : goal.returns
returns c =
    let read = read_from_parts c.args.line.now c.in-Some.name c.in-Some.digits (rw c.in-Some.is at c.split_once.ensures.cases) in
    let key : key_of_digits c.in-Some.digits.now ≡ Some c.in-Some-key_of_digits.key = search rules in
    let name : is_name c.in-Some.name.now ≡ true = search rules in
    rw (read, key, name) (search rules)
