use Rattle.std.proofs.Common.{◌≤◌, length, is_some, ap, ◌∙◌, arith}
use Rattle.copy_workers.proofs.Rows.{shut_first, sum_behind, was_shut, workers_behind}
use Rattle.copy_workers.proofs.crew.+crew.Goals as goal

pub crew-returns-clause-workers : goal.crew-returns-clause-workers
crew-returns-clause-workers g t c =
    let few : length c.both-shut.new.rest ≤ 7 =
    omega (arith, c.both-shut.auto.rest, c.in-Some.ensures.cases.1, c.requires.first.0, c.requires.first.1) in
    workers_behind _ _ _ _ _ _ _ _ _ few c.both-shut.ensures.worker c.both-shut.ensures.workers c.behind.ensures.ended
    (ap is_some c.behind.ensures.shut ∙ shut_first _ _)

pub crew-returns-clause-shut : goal.crew-returns-clause-shut
crew-returns-clause-shut g t c = rw c.behind.ensures.shut (was_shut _ _ _ c.both-shut.ensures.my_shut c.both-shut.ensures.shut)

pub crew-returns-clause-all : goal.crew-returns-clause-all
crew-returns-clause-all g t c =
    let few : length c.both-shut.new.rest ≤ 7 =
    omega (arith, c.both-shut.auto.rest, c.in-Some.ensures.cases.1, c.requires.first.0, c.requires.first.1) in
    let sum = sum_behind (λ e. e.share) (λ e. λ nobody. nobody.share) _ _ _ _ _ _ few c.both-shut.ensures.workers c.behind.ensures.ended in
    let off = c.split_off-my_share.ensures in
    let both = c.both-shut.ensures in
    let merged = c.merge.ensures in
    (omega (arith, merged.parts, both.all.0, both.my_share.0, off.parts, off.parts_left), omega (arith, merged.amount, both.all.1, both.my_share.1, sum))

pub crew-returns-clause-turned : goal.crew-returns-clause-turned
crew-returns-clause-turned g t c =
    let few : length c.both-shut.new.rest ≤ 7 =
    omega (arith, c.both-shut.auto.rest, c.in-Some.ensures.cases.1, c.requires.first.0, c.requires.first.1) in
    let sum = sum_behind (λ e. e.turned) (λ e. λ nobody. nobody.turned) _ _ _ _ _ _ few c.both-shut.ensures.workers c.behind.ensures.ended in
    let off = c.split_off-my_turned.ensures in
    let both = c.both-shut.ensures in
    let merged = c.merge-2.ensures in
    (omega (arith, merged.parts, both.turned.0, both.my_turned.0, off.parts, off.parts_left), omega (arith, merged.amount, both.turned.1, both.my_turned.1, sum))

pub crew-returns-clause-given : goal.crew-returns-clause-given
crew-returns-clause-given g t c =
    let few : length c.both-shut.new.rest ≤ 7 =
    omega (arith, c.both-shut.auto.rest, c.in-Some.ensures.cases.1, c.requires.first.0, c.requires.first.1) in
    let sum = sum_behind (λ e. e.given) (λ e. λ nobody. nobody.given) _ _ _ _ _ _ few c.both-shut.ensures.workers c.behind.ensures.ended in
    let off = c.split_off-my_given.ensures in
    let both = c.both-shut.ensures in
    let merged = c.merge-3.ensures in
    (omega (arith, merged.parts, both.given.0, both.my_given.0, off.parts, off.parts_left), omega (arith, merged.amount, both.given.1, both.my_given.1, sum))
