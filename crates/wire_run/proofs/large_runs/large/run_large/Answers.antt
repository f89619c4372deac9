use Rattle.std.proofs.Common.{◌≡◌, ◌∷◌, [], ◌++◌, ◌∙◌, List, length, refl, sym, ap, subst, IsTrue}
use Rattle.large_copy.specs.Large.{large_events}
use Rattle.wire_machine.specs.Runs.{Whole, last_line, numbered}
use Rattle.wire_run.proofs.large_runs.Tallying.{admitted_there}
use Rattle.wire_run.proofs.large_runs.large.run_large.Goals as goal
use Rattle.wire_run.specs.LargeRuns.Large.{as_taken}
use Rattle.wire_run.specs.Running.{Running}
use Rattle.wire_run.specs.Trace.{events_at}
use Rattle.wire_schedule.specs.Expansion.{after_all, are_admitted}
use Rattle.wire_schedule.specs.declared.context.Context.{Context}
use Rattle.wire_schedule.specs.declared.event.Event.{Event}
use Rattle.wire_tally.specs.Tally.{tallied}
use Rattle.wire_tally.specs.declared.tally.Tally.{Tally}

pub returns-in-Some-clause-ran : goal.returns-in-Some-clause-ran
returns-in-Some-clause-ran g c =
    let events = large_events c.args.plan in
    let counts = rw c.in-Some.is at c.in_ok-ended.ensures.tallies in
    let admitted : IsTrue (are_admitted c.args.system.now.context (events_at (numbered 1 events))) =
    admitted_there _ events (ap (λ (r : Running g.row.D.Denot g.row.M.Denot). r.context) c.requires.rest) (c.events_make_runs.ensures.listed 1 events)
    c.tally_events.ensures.admitted in
    let over = c.events_make_runs.ensures.over (numbered 1 events) c.args.system.now c.tally_events.new.system (as_taken []) (as_taken counts.text) c.in-Some.ran
    c.requires.rest admitted (counts.happen []) in
    record {
      lines = counts.text;
      is = over.0;
      cause = over.1;
      tally = λ t. counts.tally t ∙ ap (λ (x : Tally). tallied counts.text x) c.new-tally.ensures;
    }

pub returns-in-Some-clause-there : goal.returns-in-Some-clause-there
returns-in-Some-clause-there g c =
    c.events_follow_events.ensures.disks (numbered 1 (large_events c.args.plan)) _ _ _ _ _ c.requires.disks (c.in_ok-ended.ensures.tallies.happen [])

pub returns-in-Some-clause-context : goal.returns-in-Some-clause-context
returns-in-Some-clause-context g c =
    λ whole.
    let counts = rw c.in-Some.is at c.in_ok-ended.ensures.tallies in
    absurd (counts.ends (cc))

pub returns-in-None-clause-ran : goal.returns-in-None-clause-ran
returns-in-None-clause-ran g c =
    let events = large_events c.args.plan in
    let counts = rw c.in-None.is at c.in_ok-ended.ensures.tallies in
    let new = c.tally_events.new.system in
    let last = last_line (length new.log) Whole in
    let admitted : IsTrue (are_admitted c.args.system.now.context (events_at (numbered 1 events))) =
    admitted_there _ events (ap (λ (r : Running g.row.D.Denot g.row.M.Denot). r.context) c.requires.rest) (c.events_make_runs.ensures.listed 1 events)
    c.tally_events.ensures.admitted in
    record {
      lines = counts.text ++ last;
      is = c.events_make_runs.ensures.whole (numbered 1 events) c.args.system.now new (as_taken []) (as_taken counts.text) (as_taken (counts.text ++ last))
          c.requires.rest admitted (counts.happen []) refl;
      cause = tt;
      tally = λ t.
          counts.tally t ∙ ap (λ (x : Tally). tallied counts.text x) c.new-tally.ensures
          ∙ sym (c.whole_texts_add_up.ensures counts.text last _ (counts.whole t) ∙ c.end_lines_count_nothing.ensures (length new.log) _);
    }

pub returns-in-None-clause-there : goal.returns-in-None-clause-there
returns-in-None-clause-there g c =
    c.events_follow_events.ensures.disks (numbered 1 (large_events c.args.plan)) _ _ _ _ _ c.requires.disks (c.in_ok-ended.ensures.tallies.happen [])

pub returns-in-None-clause-context : goal.returns-in-None-clause-context
returns-in-None-clause-context g c =
    λ whole.
    let counts = rw c.in-None.is at c.in_ok-ended.ensures.tallies in
    c.events_follow_events.ensures.context 1 (large_events c.args.plan) _ _ _ _ (counts.happen [])
    ∙ ap (λ (context : Context). after_all context (large_events c.args.plan)) (ap (λ (r : Running g.row.D.Denot g.row.M.Denot). r.context) c.requires.rest)
