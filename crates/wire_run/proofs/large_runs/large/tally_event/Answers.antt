use Rattle.std.proofs.Common.{List, ℕ, ◌∙◌, sym, ap}
use Rattle.wire_run.proofs.large_runs.Serving.{served_behind}
use Rattle.wire_run.proofs.large_runs.Tallying.{counts_one, tallied_none}
use Rattle.wire_run.proofs.large_runs.large.tally_event.Goals as goal
use Rattle.wire_run.specs.declared.system.Stepped.TheVariants as stepped
use Rattle.wire_tally.specs.Tally.{tallied}

pub returns-in-Went-clause-tallies : goal.returns-in-Went-clause-tallies
returns-in-Went-clause-tallies g c =
    counts_one _ _ _ _ _ (record { one = c.events_follow_events.ensures.one; lines = c.lines_are_whole.ensures.lines }) c.args.event.now c.args.system.now
    c.step.new.self (stepped.Went c.in-Went.text) c.args.tally.now c.count.new.tally c.requires.admitted c.requires.served
    (rw c.in-Went.is at c.in_ok-became.ensures.is) (rw c.in-Went.is at c.in_ok-became.ensures.context) c.in_ok-became.ensures.disks c.step.ensures.arms
    (c.count.ensures.tally ∙ ap (λ (bytes : List ℕ). tallied bytes c.args.tally.now) c.as_bytes.ensures.value)

pub returns-in-OverLimit-clause-tallies : goal.returns-in-OverLimit-clause-tallies
returns-in-OverLimit-clause-tallies g c =
    counts_one _ _ _ _ _ (record { one = c.events_follow_events.ensures.one; lines = c.lines_are_whole.ensures.lines }) c.args.event.now c.args.system.now
    c.step.new.self (stepped.OverLimit c.in-OverLimit.text) c.args.tally.now c.count-in-OverLimit.new.tally c.requires.admitted c.requires.served
    (rw c.in-OverLimit.is at c.in_ok-became.ensures.is) (rw c.in-OverLimit.is at c.in_ok-became.ensures.context) c.in_ok-became.ensures.disks c.step.ensures.arms
    (c.count-in-OverLimit.ensures.tally ∙ ap (λ (bytes : List ℕ). tallied bytes c.args.tally.now) c.as_bytes-in-OverLimit.ensures.value)

pub returns-in-Mistaken-clause-tallies : goal.returns-in-Mistaken-clause-tallies
returns-in-Mistaken-clause-tallies g c =
    counts_one _ _ _ _ _ (record { one = c.events_follow_events.ensures.one; lines = c.lines_are_whole.ensures.lines }) c.args.event.now c.args.system.now
    c.step.new.self (stepped.Mistaken c.in-Mistaken.text c.in-Mistaken.mistake) c.args.tally.now c.count-in-Mistaken.new.tally c.requires.admitted c.requires.served
    (rw c.in-Mistaken.is at c.in_ok-became.ensures.is) (rw c.in-Mistaken.is at c.in_ok-became.ensures.context) c.in_ok-became.ensures.disks c.step.ensures.arms
    (c.count-in-Mistaken.ensures.tally ∙ ap (λ (bytes : List ℕ). tallied bytes c.args.tally.now) c.as_bytes-in-Mistaken.ensures.value)

pub returns-in-Unmade-clause-tallies : goal.returns-in-Unmade-clause-tallies
returns-in-Unmade-clause-tallies g c =
    counts_one _ _ _ _ _ (record { one = c.events_follow_events.ensures.one; lines = c.lines_are_whole.ensures.lines }) c.args.event.now c.args.system.now
    c.step.new.self (stepped.Unmade c.in-Unmade.cause) c.args.tally.now c.args.tally.now c.requires.admitted c.requires.served
    (rw c.in-Unmade.is at c.in_ok-became.ensures.is) (rw c.in-Unmade.is at c.in_ok-became.ensures.context) c.in_ok-became.ensures.disks c.step.ensures.arms
    (sym (tallied_none c.args.tally.now))

pub returns-in-Lost-clause-tallies : goal.returns-in-Lost-clause-tallies
returns-in-Lost-clause-tallies g c =
    counts_one _ _ _ _ _ (record { one = c.events_follow_events.ensures.one; lines = c.lines_are_whole.ensures.lines }) c.args.event.now c.args.system.now
    c.step.new.self (stepped.Lost c.in-Lost.side c.in-Lost.cause) c.args.tally.now c.args.tally.now c.requires.admitted c.requires.served
    (rw c.in-Lost.is at c.in_ok-became.ensures.is) (rw c.in-Lost.is at c.in_ok-became.ensures.context) c.in_ok-became.ensures.disks c.step.ensures.arms
    (sym (tallied_none c.args.tally.now))

pub returns-in-Went-clause-served : goal.returns-in-Went-clause-served
returns-in-Went-clause-served g c =
    λ on.
    served_behind _ _ _ _ _ _ c.args.system.now c.step.new.self c.args.event.now (stepped.Went c.in-Went.text) tt c.requires.admitted c.requires.served
    (rw c.in-Went.is at c.in_ok-became.ensures.context) (rw c.in-Went.is at c.in_ok-became.ensures.is)
