use Rattle.std.proofs.Common.{Some, refl, ap}
use Rattle.copy_model.specs.Job.{Stopped}
use Rattle.job_log.specs.Log.{JobView, with_entry}
use Rattle.job_table.proofs.Tables.{follows_entry}
use Rattle.job_table.proofs.Writes.{met, searched, has_key, it_runs, stored_write, seen_write, seen_left}
use Rattle.job_table.proofs.jobs.Jobs.stop.Goals as goal

pub index_mut-requires : goal.index_mut-requires
index_mut-requires c = has_key (searched c.self.inside.boot c.self.inside.slots c.args.job c.key_of.ensures c.as_slice.ensures.value) c.in-Some.is

pub stop-requires : goal.stop-requires
stop-requires c =
    let f = met c.self.invariant c.self.view_is (searched c.self.inside.boot c.self.inside.slots c.args.job c.key_of.ensures c.as_slice.ensures.value) c.in-Some.is c.index_mut.ensures.value in
    it_runs f c.requires

pub invariant_of-self : goal.invariant_of-self
invariant_of-self c =
    let f = met c.self.invariant c.self.view_is (searched c.self.inside.boot c.self.inside.slots c.args.job c.key_of.ensures c.as_slice.ensures.value) c.in-Some.is c.index_mut.ensures.value in
    stored_write c.stop.new.self f (follows_entry (record { sized = c.logs_grow.ensures.sized; size = c.logs_grow.ensures.size }) c.self.inside.capacity c.index_mut.result.now c.stop.new.self Stopped (ap (λ (v : JobView). v.consecutive) c.stop.ensures) (ap (λ (v : JobView). v.entries) c.stop.ensures) refl)

pub returns-in-Some : goal.returns-in-Some
returns-in-Some c =
    let f = met c.self.invariant c.self.view_is (searched c.self.inside.boot c.self.inside.slots c.args.job c.key_of.ensures c.as_slice.ensures.value) c.in-Some.is c.index_mut.ensures.value in
    seen_write c.stop.new.self (λ log. record (with_entry log Stopped) { cause = Some c.args.cause }) f c.stop.ensures

pub returns-in_default : goal.returns-in_default
returns-in_default c = seen_left (λ log. record (with_entry log Stopped) { cause = Some c.args.cause }) c.self.view_is (searched c.self.inside.boot c.self.inside.slots c.args.job c.key_of.ensures c.as_slice.ensures.value) c.in_default.is
