use Rattle.std.proofs.Common.{List, sym, subst, drop, IsTrue, ◌+◌}
use Rattle.wire_log.specs.Keeping.{reading}
use Rattle.wire_machine.specs.Runs.{events_in}
use Rattle.run_ends.specs.Ends.{run_machines}
use Rattle.wire_run.specs.Trace.{IsCut}
use Rattle.wire_run.proofs.Tracing.{disks_along}
use Rattle.wire_run.proofs.Turns.{context_on, entries_cut, entries_end, entries_go, entry_admitted, on_err}
use Rattle.wire_run.proofs.system.System.run_all.Goals as goal
use Rattle.wire_schedule.specs.Expansion.{are_admitted, events_of, events_of_all}
use Rattle.wire_schedule.specs.declared.context.Context.{Context}
use Rattle.wire_schedule.specs.declared.directive.Entry.{Entry}

pub run_entry-requires-clause-admitted : goal.run_entry-requires-clause-admitted
run_entry-requires-clause-admitted g c =
    (entry_admitted c.loop-entry.self.context c.entries-entry-items.result.now c.loop-entry.entry-index c.entry-item.result c.loop-entry-test.true c.entry-item.is
    c.loop-entry.invariant.admitted).0

pub returns-in_err-ran-clause-err : goal.returns-in_err-ran-clause-err
returns-in_err-ran-clause-err g c =
    on_err _ _
    (subst
    (λ (entries : List Entry). IsCut g.D.Disk.Told
    (run_machines g.M.Mechanism.mic_of g.M.Mechanism.derived g.M.Mechanism.started g.M.Mechanism.accepted g.M.Mechanism.finished)
    reading g.D.Disk.faults g.D.Disk.size (events_in entries) c.args.self.now (g.K.Stream.takes c.args.out.now) (g.K.Stream.takes c.run_entry.new.out))
    c.entries-entry-items.ensures.same
    (entries_cut _ _ _ _ _ c.entries-entry-items.result.now c.loop-entry.entry-index c.entry-item.result c.loop-entry-test.true c.entry-item.is _ _ _ _ _
    c.loop-entry.invariant.happened c.in_err-ran.ensures.err))

pub returns-in-Some-clause-ran : goal.returns-in-Some-clause-ran
returns-in-Some-clause-ran g c =
    rw (sym c.entries-entry-items.ensures.same)
    (entries_end _ _ _ _ _ c.entries-entry-items.result.now c.loop-entry.entry-index c.entry-item.result c.loop-entry-test.true c.entry-item.is _ _ _ _ _ _
    c.in-Some.ran c.loop-entry.invariant.happened (rw c.in-Some.is at c.in_ok-ran.ensures.ran))

pub loop-entry-preserved : goal.loop-entry-preserved
loop-entry-preserved g c =
    let on = rw c.in_default.is at c.in_ok-ran.ensures.ran in
    let left = entry_admitted c.loop-entry.self.context c.entries-entry-items.result.now c.loop-entry.entry-index c.entry-item.result c.loop-entry-test.true c.entry-item.is
    c.loop-entry.invariant.admitted in
    record {
      happened = entries_go _ _ _ _ _ c.entries-entry-items.result.now c.loop-entry.entry-index c.entry-item.result c.loop-entry-test.true c.entry-item.is _ _ _ _ _ _
          c.loop-entry.invariant.happened on;
      admitted = subst (λ (context : Context). IsTrue (are_admitted context (events_of_all (drop (c.loop-entry.entry-index + 1) c.entries-entry-items.result.now))))
          (sym (context_on _ _ _ _ _ c.entry-item.result.line (events_of c.entry-item.result.directive) _ _ _ _ on)) left.1;
      disks = disks_along _ _ _ _ _ _ c.loop-entry.self _ _ _ _ c.loop-entry.invariant.disks on;
    }
