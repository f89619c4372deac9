use Rattle.std.proofs.Common.{◌+◌, ◌<◌, ◌^◌, ◌∷◌, [], None, List, length, drop, sym, ap, subst, arith, IsTrue}
use Rattle.large_copy.specs.Large.{large_events}
use Rattle.run_ends.specs.Ends.{run_machines}
use Rattle.wire_log.specs.Keeping.{reading}
use Rattle.wire_machine.specs.Runs.{numbered}
use Rattle.wire_run.proofs.large_runs.Serving.{served_at_rest}
use Rattle.wire_run.proofs.large_runs.Tallying.{Laws, counts_end, counts_none, counts_on, event_admitted, of_more, of_none, room_for}
use Rattle.wire_run.proofs.large_runs.large.tally_events.Goals as goal
use Rattle.wire_run.specs.LargeRuns.Large.{as_taken}
use Rattle.wire_run.specs.Running.{Running}
use Rattle.wire_schedule.specs.Expansion.{are_admitted}
use Rattle.wire_schedule.specs.declared.context.Context.{Context}

pub tally_event-requires-clause-admitted : goal.tally_event-requires-clause-admitted
tally_event-requires-clause-admitted g c =
    let lt : c.loop-place.place < length (large_events c.args.plan) = omega arith in
    (event_admitted c.loop-place.system.context (large_events c.args.plan) c.loop-place.place c.in_ok-event.event lt c.in_ok-event.ensures c.loop-place.invariant.admitted).0

pub tally_event-requires-clause-room : goal.tally_event-requires-clause-room
tally_event-requires-clause-room g c = room_for c.loop-place.place c.loop-place.tally (omega arith) c.loop-place.invariant.few

pub returns-in-Some-clause-tallies : goal.returns-in-Some-clause-tallies
returns-in-Some-clause-tallies g c =
    let lt : c.loop-place.place < length (large_events c.args.plan) = omega arith in
    counts_end _ _ _ _ _
    (record {
      join = c.events_follow_events.ensures.others;
      last = c.events_follow_events.ensures.last;
      add = c.whole_texts_add_up.ensures;
      whole = c.lines_are_whole.ensures.both;
    })
    (large_events c.args.plan) c.loop-place.place c.in_ok-event.event lt c.in_ok-event.ensures _ _ _ _ _ _ c.in-Some.ran c.loop-place.invariant.counts
    (rw c.in-Some.is at c.in_ok-ran.ensures.tallies)

pub loop-place-init : goal.loop-place-init
loop-place-init g c = record {
  counts = counts_none _ _ _ _ _ c.args.system.now c.args.tally.now;
  admitted = subst (λ (context : Context). IsTrue (are_admitted context (large_events c.args.plan)))
      (sym (ap (λ (r : Running g.row.D.Denot g.row.M.Denot). r.context) c.requires.rest))
      (c.large_schedules_are_admitted.ensures c.args.plan c.mebibytes-mebibytes.ensures.some c.mebibytes-mebibytes.ensures.few);
  disks = c.requires.disks;
  served = served_at_rest _ _ c.requires.rest;
  few = of_none _ c.requires.empty;
}

pub loop-place-preserved : goal.loop-place-preserved
loop-place-preserved g c =
    let lt : c.loop-place.place < length (large_events c.args.plan) = omega arith in
    let on = rw c.in_default.is at c.in_ok-ran.ensures.tallies in
    let left = event_admitted c.loop-place.system.context (large_events c.args.plan) c.loop-place.place c.in_ok-event.event lt c.in_ok-event.ensures
    c.loop-place.invariant.admitted in
    record {
      counts = counts_on _ _ _ _ _
          (record {
            join = c.events_follow_events.ensures.others;
            last = c.events_follow_events.ensures.last;
            add = c.whole_texts_add_up.ensures;
            whole = c.lines_are_whole.ensures.both;
          })
          (large_events c.args.plan) c.loop-place.place c.in_ok-event.event lt c.in_ok-event.ensures _ _ _ _ _ _ c.loop-place.invariant.counts on;
      admitted = subst (λ (context : Context). IsTrue (are_admitted context (drop (c.loop-place.place + 1) (large_events c.args.plan))))
          (sym (c.events_follow_events.ensures.context 1 (c.in_ok-event.event ∷ []) _ _ _ _ (on.happen []))) left.1;
      disks = c.events_follow_events.ensures.disks (numbered 1 (c.in_ok-event.event ∷ [])) _ _ _ _ _ c.loop-place.invariant.disks (on.happen []);
      served = c.in_ok-ran.ensures.served c.in_default.is;
      few = of_more _ _ _ c.loop-place.invariant.few c.tally_event.ensures.grown;
    }
