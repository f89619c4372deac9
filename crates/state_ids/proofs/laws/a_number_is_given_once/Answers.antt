use Rattle.std.proofs.Common.{◌≡◌, ◌+◌, arith, sym, ◌∙◌}
use Rattle.state_ids.specs.Runs.{no_opens}
use Rattle.state_ids.proofs.Given.{counted}
use Rattle.state_ids.proofs.laws.a_number_is_given_once.Goals as goal

pub returns-clause-counted : goal.returns-clause-counted
returns-clause-counted c boot calls k h = let place = counted (no_opens boot) calls k h in place ∙ omega arith

pub returns-clause-once : goal.returns-clause-once
returns-clause-once c boot calls i j first second same =
    let places : 0 + 1 + i ≡ 0 + 1 + j = sym (counted (no_opens boot) calls i first) ∙ same ∙ counted (no_opens boot) calls j second in
    omega arith
