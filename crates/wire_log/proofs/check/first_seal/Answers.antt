use Rattle.std.proofs.Common.{Option, option_map, option_and_then, bytes_eq, ap, sym, ◌∙◌, rules, tests, Bor}
use Rattle.std.proofs.lemmas.Iterator.{YieldsList-from_slice}
use Rattle.std.proofs.lemmas.Iterator.Search.{find_from_yields_List}
use Rattle.wire_log.specs.declared.kept.Kept.{Kept}
use Rattle.wire_log.proofs.check.first_seal.Goals as goal

pub returns-in-None : goal.returns-in-None
returns-in-None c =
    let found = find_from_yields_List (λ (k : Kept). bytes_eq k.bytes c.args.bytes.now) _ _ c.find.result c.find.ensures.ran (YieldsList-from_slice c.args.records.now (cc)) (λ x b q k. search (rules, tests)) in
    ap (λ (o : Option Kept). option_and_then (λ (k : Kept). k.seal) o) (ap (λ (o : Option (Bor Kept)). option_map (λ (k : Bor Kept). k.now) o) (sym c.in-None.is) ∙ found)

pub returns-in-Some : goal.returns-in-Some
returns-in-Some c =
    let found = find_from_yields_List (λ (k : Kept). bytes_eq k.bytes c.args.bytes.now) _ _ c.find.result c.find.ensures.ran (YieldsList-from_slice c.args.records.now (cc)) (λ x b q k. search (rules, tests)) in
    ap (λ (o : Option Kept). option_and_then (λ (k : Kept). k.seal) o) (ap (λ (o : Option (Bor Kept)). option_map (λ (k : Bor Kept). k.now) o) (sym c.in-Some.is) ∙ found)
