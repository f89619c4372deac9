use Rattle.std.proofs.Common.{rules, sym, ◌∙◌, ◌≡◌, ◌++◌, ◌∷◌, [], true, false, refl}
use Rattle.std.specs.Str.Iter.{lines_rest}
use Rattle.realm_file.specs.RealmText.{has_name}
use Rattle.realm_file.proofs.GatherLemmas.{reads_first, reads_line, reads_none, reads_twice, reads_end, differ_still}
use Rattle.realm_file.proofs.principals.Goals as goal

pub loop-line-init : goal.loop-line-init
loop-line-init c =
    let rest : lines_rest c.into_iter-line-iterator.result ≡ c.args.text.now = search rules in
    let none : c.new-keys.result.items ≡ [] = search rules in
    (tt, tt, rw none refl, rw none (reads_first c.into_iter-line-iterator.result c.args.text.now rest))

pub returns-in_default : goal.returns-in_default
returns-in_default c =
    let step = rw c.in-Some.is at c.next.ensures.steps in
    sym (reads_none c.loop-line.line-iterator c.next.new.self c.loop-line.keys.items c.args.text.now c.in-Some.line c.loop-line.invariant.3 step (sym c.in_ok-principal.ensures ∙ c.in_default.is))

pub returns-then-is_listed : goal.returns-then-is_listed
returns-then-is_listed c =
    let step = rw c.in-Some.is at c.next.ensures.steps in
    let twice : has_name c.loop-line.keys.items c.in-Some-2.principal.0 ≡ true = search rules in
    sym (reads_twice c.loop-line.line-iterator c.next.new.self c.loop-line.keys.items c.args.text.now c.in-Some.line c.in-Some-2.principal c.loop-line.invariant.3 step (sym c.in_ok-principal.ensures ∙ c.in-Some-2.is) twice)

pub loop-line-preserved : goal.loop-line-preserved
loop-line-preserved c =
    let step = rw c.in-Some.is at c.next.ensures.steps in
    let new : has_name c.loop-line.keys.items c.in-Some-2.principal.0 ≡ false = search rules in
    let more : c.push.new.self.items ≡ c.loop-line.keys.items ++ (c.in-Some-2.principal ∷ []) = search rules in
    let differ = differ_still c.loop-line.keys.items c.in-Some-2.principal c.loop-line.invariant.2 new in
    let reads = reads_line c.loop-line.line-iterator c.next.new.self c.loop-line.keys.items c.args.text.now c.in-Some.line c.in-Some-2.principal c.loop-line.invariant.3 step (sym c.in_ok-principal.ensures ∙ c.in-Some-2.is) in
    (tt, tt, rw more differ, rw more reads)

pub returns-then-is_empty : goal.returns-then-is_empty
returns-then-is_empty c =
    let step = rw c.in-None.is at c.next.ensures.steps in
    let end = reads_end c.loop-line.line-iterator c.next.new.self c.loop-line.keys.items c.args.text.now c.loop-line.invariant.3 step in
    rw end (search rules)

pub returns : goal.returns
returns c =
    let step = rw c.in-None.is at c.next.ensures.steps in
    let end = reads_end c.loop-line.line-iterator c.next.new.self c.loop-line.keys.items c.args.text.now c.loop-line.invariant.3 step in
    let differ = c.loop-line.invariant.2 in
    rw end (search (rules, differ))
