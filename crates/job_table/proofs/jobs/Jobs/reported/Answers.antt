use Rattle.std.proofs.Common.{refl, ap}
use Rattle.copy_model.specs.Job.{Reported, has_ended, is_reported}
use Rattle.job_log.specs.Log.{JobView, with_entry}
use Rattle.job_table.proofs.Tables.{follows_entry}
use Rattle.job_table.proofs.Writes.{met, searched, has_key, it_passes, it_fails, stored_write, seen_write, seen_left}
use Rattle.job_table.proofs.jobs.Jobs.reported.Goals as goal

pub index_mut-requires : goal.index_mut-requires
index_mut-requires c = has_key (searched c.self.inside.boot c.self.inside.slots c.args.job c.key_of.ensures c.as_slice.ensures.value) c.in-Some.is

pub report-requires-clause-ended : goal.report-requires-clause-ended
report-requires-clause-ended c =
    let f = met c.self.invariant c.self.view_is (searched c.self.inside.boot c.self.inside.slots c.args.job c.key_of.ensures c.as_slice.ensures.value) c.in-Some.is c.index_mut.ensures.value in
    it_passes (λ job. has_ended job.log.entries) f c.requires.ended

pub report-requires-clause-not_reported : goal.report-requires-clause-not_reported
report-requires-clause-not_reported c =
    let f = met c.self.invariant c.self.view_is (searched c.self.inside.boot c.self.inside.slots c.args.job c.key_of.ensures c.as_slice.ensures.value) c.in-Some.is c.index_mut.ensures.value in
    it_fails (λ job. is_reported job.log.entries) f c.requires.not_reported

pub invariant_of-self : goal.invariant_of-self
invariant_of-self c =
    let f = met c.self.invariant c.self.view_is (searched c.self.inside.boot c.self.inside.slots c.args.job c.key_of.ensures c.as_slice.ensures.value) c.in-Some.is c.index_mut.ensures.value in
    stored_write c.report.new.self f (follows_entry (record { sized = c.logs_grow.ensures.sized; size = c.logs_grow.ensures.size }) c.self.inside.capacity c.index_mut.result.now c.report.new.self Reported (ap (λ (v : JobView). v.consecutive) c.report.ensures) (ap (λ (v : JobView). v.entries) c.report.ensures) refl)

pub returns-in-Some : goal.returns-in-Some
returns-in-Some c =
    let f = met c.self.invariant c.self.view_is (searched c.self.inside.boot c.self.inside.slots c.args.job c.key_of.ensures c.as_slice.ensures.value) c.in-Some.is c.index_mut.ensures.value in
    seen_write c.report.new.self (λ log. with_entry log Reported) f c.report.ensures

pub returns-in_default : goal.returns-in_default
returns-in_default c = seen_left (λ log. with_entry log Reported) c.self.view_is (searched c.self.inside.boot c.self.inside.slots c.args.job c.key_of.ensures c.as_slice.ensures.value) c.in_default.is
