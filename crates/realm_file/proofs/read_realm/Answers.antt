use Rattle.std.proofs.Common.{rules, sym}
use Rattle.realm_file.proofs.RealmLemmas.{realm_by_lines, none_unless_utf8}
use Rattle.realm_file.proofs.read_realm.Goals as goal

pub returns-in_default : goal.returns-in_default
returns-in_default c = sym (none_unless_utf8 c.args.text.now (rw c.in_default.is at c.from_utf8.ensures.cases).0)

pub returns-in_ok-new-in-Some : goal.returns-in_ok-new-in-Some
returns-in_ok-new-in-Some c =
    let cases = rw c.in-Ok.is at c.from_utf8.ensures.cases in
    let read = realm_by_lines c.args.text.now cases.1 in
    search (rules, read, cases)

pub returns-in-None : goal.returns-in-None
returns-in-None c =
    let cases = rw c.in-Ok.is at c.from_utf8.ensures.cases in
    let read = realm_by_lines c.args.text.now cases.1 in
    search (rules, read, cases)
